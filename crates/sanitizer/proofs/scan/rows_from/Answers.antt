-- `sanitizer::scan::rows_from` meets its contract. The invariants: the scan from here on, inside or outside brackets and with the end so far,
-- finds what the whole scan finds. Assumes nothing.
use mathlib.Core.Path.{◌≡◌, refl, sym, ◌∙◌}
use mathlib.Core.Logic.{inl, inr}
use mathlib.Core.Bool.{true, false}
use native.Mathlib.Omega.{arith}
use Rattle.tokens.specs.Slots.{tokens_in}
use Rattle.tokens.proofs.Storing.{length-tokens}
use Rattle.sanitizer.proofs.Scanning.{kind_tokens, rows_end, rows_close, rows_open, rows_inside, rows_comma, rows_space, rows_stop}
use Rattle.sanitizer.proofs.scan.rows_from.Goals as goal

pub inside-preserved : goal.inside-preserved
inside-preserved c =
    let a = c.args in
    let ws = a.slots.now in
    let t = tokens_in ws a.count in
    let l = length-tokens ws 0 a.count in
    let k = kind_tokens ws a.count c.inside.at (omega arith) in
    (omega arith, omega arith, omega arith, refl, sym (rows_inside t c.inside.at c.inside.at (omega arith) (omega arith)) ∙ c.inside.invariant.4)

pub outside-init : goal.outside-init
outside-init c =
    let a = c.args in
    let ws = a.slots.now in
    let t = tokens_in ws a.count in
    let l = length-tokens ws 0 a.count in
    let k = kind_tokens ws a.count c.inside.at (omega arith) in
    (omega arith, omega arith, omega arith, omega arith, sym (rows_close t c.inside.at true c.inside.at (omega arith) (omega arith)) ∙ c.inside.invariant.4)

pub rows-preserved : goal.rows-preserved
rows-preserved c =
    let a = c.args in
    let ws = a.slots.now in
    let t = tokens_in ws a.count in
    let l = length-tokens ws 0 a.count in
    let k = kind_tokens ws a.count c.outside.at (omega arith) in
    (omega arith, omega arith, refl, sym (rows_open t c.outside.at false c.outside.end (omega arith) (omega arith)) ∙ c.outside.invariant.4)

pub outside-preserved-in-7 : goal.outside-preserved-in-7
outside-preserved-in-7 c =
    let a = c.args in
    let ws = a.slots.now in
    let t = tokens_in ws a.count in
    let l = length-tokens ws 0 a.count in
    let k = kind_tokens ws a.count c.outside.at (omega arith) in
    (omega arith, omega arith, omega arith, omega arith, sym (rows_close t c.outside.at false c.outside.end (omega arith) (omega arith)) ∙ c.outside.invariant.4)

pub outside-preserved : goal.outside-preserved
outside-preserved c =
    let a = c.args in
    let ws = a.slots.now in
    let t = tokens_in ws a.count in
    let l = length-tokens ws 0 a.count in
    let k = kind_tokens ws a.count c.outside.at (omega arith) in (
      omega arith,
      omega arith,
      omega arith,
      omega arith,
      elim c.in-1.is [
        | inl e ↦ sym (rows_space t c.outside.at c.outside.end (omega arith) (omega arith))
        | inr e ↦ sym (rows_comma t c.outside.at c.outside.end (omega arith) (omega arith))
      ] ∙ c.outside.invariant.4,
    )

pub returns-then-at-count : goal.returns-then-at-count
returns-then-at-count c =
    let a = c.args in
    let t = tokens_in a.slots.now a.count in
    let l = length-tokens a.slots.now 0 a.count in
    let e : c.inside.end ≡ c.inside.at = omega arith in
    (e ∙ sym (rows_end t c.inside.at true c.inside.at (omega arith)) ∙ c.inside.invariant.4, omega arith, omega arith)

pub returns-then-at-count-2 : goal.returns-then-at-count-2
returns-then-at-count-2 c =
    let a = c.args in
    let t = tokens_in a.slots.now a.count in
    let l = length-tokens a.slots.now 0 a.count in
    (sym (rows_end t c.outside.at false c.outside.end (omega arith)) ∙ c.outside.invariant.4, omega arith, omega arith)

pub returns-in_default : goal.returns-in_default
returns-in_default c =
    let a = c.args in
    let ws = a.slots.now in
    let t = tokens_in ws a.count in
    let l = length-tokens ws 0 a.count in
    let k = kind_tokens ws a.count c.outside.at (omega arith) in
    let r = c.kind_at-kind-in-outside.ensures ∙ sym k in
    (sym (rows_stop t c.outside.at c.outside.end (omega arith) (omega arith) (omega arith) (λ e. c.in_default.in_default-own.rest.1 (inr (r ∙ e))) (λ e. c.in_default.in_default-own.rest.1 (inl (r ∙ e)))) ∙ c.outside.invariant.4, omega arith, omega arith)
