-- `sanitizer::exposed::exposed` meets its contract. The invariant: found so far and those still to come are all. Assumes nothing.
use mathlib.Core.Path.{◌≡◌, sym, ap, ◌∙◌}
use mathlib.Core.Bool.{Bool, cond}
use Prim.Native.Nat.{ℕ}
use native.Mathlib.Omega.{arith}
use Rattle.tokens.specs.Slots.{tokens_in}
use Rattle.tokens.proofs.Storing.{length-tokens}
use Rattle.sanitizer.specs.Exposed.{is_exposed}
use Rattle.sanitizer.proofs.Scanning.{kind_tokens}
use Rattle.sanitizer.proofs.Counting.{exposed_end, exposed_on}
use Rattle.sanitizer.proofs.exposed.exposed.Goals as goal
use Rattle.sanitizer.proofs.exposed.exposed.Goals.{then-is_exposed, else-is_exposed}

-- what a token counts for
counts : {a b : Bool} → a ≡ b → ◌≡◌ {A = ℕ} (cond a 1 0) (cond b 1 0)
counts e = ap (λ b. cond b 1 0) e

pub loop-at-preserved : goal.loop-at-preserved
loop-at-preserved c =
    let a = c.args in
    let ws = a.slots.now in
    let t = tokens_in ws a.count in
    let e = exposed_on t c.loop-at.at (omega (arith, length-tokens ws 0 a.count)) in
    let v = counts (c.is_exposed.ensures ∙ ap is_exposed (c.kind_at.ensures ∙ sym (kind_tokens ws a.count c.loop-at.at (omega arith)))) in
    elim c.if-is_exposed.branch [
      | then-is_exposed w ↦ let n = counts w.if-is_exposed.true in (omega arith, omega arith)
      | else-is_exposed w ↦ let n = counts w.if-is_exposed.false in (omega arith, omega arith)
    ]

pub returns : goal.returns
returns c =
    let a = c.args in
    let t = tokens_in a.slots.now a.count in
    let l = length-tokens a.slots.now 0 a.count in
    let e = exposed_end t c.loop-at.at (omega arith) in omega arith
