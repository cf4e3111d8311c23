-- `sanitizer::scan::is_dotted` meets its contract: the kinds beside the place, where there are any. Assumes nothing.
use mathlib.Core.Path.{◌≡◌, sym, ap, ◌∙◌}
use Prim.Native.Nat.{ℕ, ◌+◌, ◌-◌}
use native.Mathlib.Omega.{arith}
use lib.Dec.{eqb}
use mathlib.Core.Bool.{not}
use borrow.Author.Tests.{le-ltb, eq-eqb}
use Rattle.tokens.specs.Kinds as kind
use Rattle.tokens.specs.Slots.{tokens_in}
use Rattle.tokens.proofs.Storing.{length-tokens}
use Rattle.sanitizer.specs.Scans.{kind_before}
use Rattle.sanitizer.proofs.Scanning.{kind_tokens, before_is, before_first, kind_past, dotted_before, dotted_after}
use Rattle.sanitizer.proofs.scan.is_dotted.Goals as goal
use Rattle.sanitizer.proofs.scan.is_dotted.Goals.{then-at-ne0, else-at-ne0}

-- a kind is a Dot's as another is
dot : {j k : ℕ} → j ≡ k → eqb j kind.Dot ≡ eqb k kind.Dot
dot e = ap (λ k. eqb k kind.Dot) e

pub returns-then-kind_at-eq-DOT : goal.returns-then-kind_at-eq-DOT
returns-then-kind_at-eq-DOT c =
    let a = c.args in
    let t = tokens_in a.slots.now a.count in
    let b : c.if-at-ne0.value ≡ eqb (kind_before t a.place.0) kind.Dot =
    elim c.if-at-ne0.branch [
      | then-at-ne0 w ↦ w.value-is ∙ dot (w.kind_at.ensures ∙ sym (kind_tokens a.slots.now a.count (a.place.0 - 1) (omega arith)) ∙ sym (before_is t a.place.0 (omega arith)))
      | else-at-ne0 w ↦ w.value-is ∙ ap not (eq-eqb a.place.0 0 (omega arith)) ∙ sym (dot (before_first t a.place.0 (omega arith)))
    ] in
    dotted_before t a.place.0 b c.if-kind_at-eq-DOT.true

pub returns-then-at-count : goal.returns-then-at-count
returns-then-at-count c =
    let a = c.args in
    let t = tokens_in a.slots.now a.count in
    let b : c.if-at-ne0.value ≡ eqb (kind_before t a.place.0) kind.Dot =
    elim c.if-at-ne0.branch [
      | then-at-ne0 w ↦ w.value-is ∙ dot (w.kind_at.ensures ∙ sym (kind_tokens a.slots.now a.count (a.place.0 - 1) (omega arith)) ∙ sym (before_is t a.place.0 (omega arith)))
      | else-at-ne0 w ↦ w.value-is ∙ ap not (eq-eqb a.place.0 0 (omega arith)) ∙ sym (dot (before_first t a.place.0 (omega arith)))
    ] in
    sym (dotted_after t a.place.0 b c.if-kind_at-eq-DOT.false
    ∙ dot (kind_tokens a.slots.now a.count (a.place.0 + 1) (omega arith) ∙ sym c.kind_at-then-at-count.ensures))

pub returns-else-at-count : goal.returns-else-at-count
returns-else-at-count c =
    let a = c.args in
    let t = tokens_in a.slots.now a.count in
    let b : c.if-at-ne0.value ≡ eqb (kind_before t a.place.0) kind.Dot =
    elim c.if-at-ne0.branch [
      | then-at-ne0 w ↦ w.value-is ∙ dot (w.kind_at.ensures ∙ sym (kind_tokens a.slots.now a.count (a.place.0 - 1) (omega arith)) ∙ sym (before_is t a.place.0 (omega arith)))
      | else-at-ne0 w ↦ w.value-is ∙ ap not (eq-eqb a.place.0 0 (omega arith)) ∙ sym (dot (before_first t a.place.0 (omega arith)))
    ] in
    le-ltb (a.place.0 + 1) a.count c.if-at-count.false
    ∙ sym (dotted_after t a.place.0 b c.if-kind_at-eq-DOT.false
    ∙ dot (kind_past t (a.place.0 + 1) (omega (arith, length-tokens a.slots.now 0 a.count))))
