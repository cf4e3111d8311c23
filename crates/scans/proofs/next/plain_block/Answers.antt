-- `scans::next::plain_block` meets its contract: where all bytes so far were counted, none of them is one of the two. Assumes nothing.
use mathlib.Core.Path.{◌≡◌, sym, subst, ◌∙◌}
use Prim.Native.Nat.{ℕ, ◌+◌}
use native.Mathlib.Omega.{arith}
use borrow.Author.Tests.{eqb-true}
use Rattle.scans.specs.Next.{NoneOf}
use Rattle.scans.proofs.Nones.{none_here, none_more}
use Rattle.scans.proofs.next.plain_block.Goals.{then-not-is_of, else-not-is_of}
use Rattle.scans.proofs.next.plain_block.Goals as goal

pub loop-i-init : goal.loop-i-init
loop-i-init c = (omega arith, λ e. let a = c.args in none_here a.a a.b a.text.now a.at (a.at + 0) (omega arith))

pub loop-i-preserved : goal.loop-i-preserved
loop-i-preserved c =
    let a = c.args in
    let n = c.loop-i.invariant in
    let to = a.at + c.loop-i.i in
    elim c.if-not-is_of.branch [
      | then-not-is_of w ↦ (
        omega (arith, w.others-is),
        λ e. none_more a.a a.b a.text.now a.at to (a.at + (c.loop-i.i + 1)) (omega arith) (n.1 (omega (arith, w.others-is, e))) (sym c.is_of.ensures ∙ w.if-not-is_of.true),
      )
      | else-not-is_of w ↦ (omega (arith, w.others-is), λ e. absurd (omega (arith, w.others-is, e)))
    ]

pub returns : goal.returns
returns c e =
    let a = c.args in
    let all : c.loop-i.i ≡ 16 = omega arith in
    subst (λ (i : ℕ). NoneOf a.a a.b a.text.now a.at (a.at + i)) all (c.loop-i.invariant.1 (eqb-true c.loop-i.others 16 e ∙ sym all))
