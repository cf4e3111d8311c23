-- `chars::utf8::validate` meets its contract: bits below 0x80 leave ASCII alone, which is valid. The invariant of the loop: all is valid
-- before `at`, which is where the blocks end or where a character of the width found ends. Assumes nothing.
use mathlib.Core.Path.{sym, ap, ◌∙◌}
use native.Mathlib.Omega.{arith}
use Rattle.chars.specs.Steps.{verdict_of}
use Rattle.chars.proofs.Stepping.{sized_on, sized_bad, checked_all, ascii_valid}
use Rattle.chars.proofs.Blocks.{settled_on}
use Rattle.chars.proofs.Gathered.{gathered}
use Rattle.chars.proofs.utf8.validate.Goals as goal

pub returns-then-any_bits-lt128 : goal.returns-then-any_bits-lt128
returns-then-any_bits-lt128 c =
    let text = c.args.text.now in
    ap verdict_of (sym (ascii_valid text (λ k. omega (arith, gathered 0 text k))))

pub returns-in_default : goal.returns-in_default
returns-in_default c =
    ap verdict_of (sym (sized_bad _ _ c.loop-at-test.true (sym c.in_default.is ∙ c.width_at.ensures)) ∙ c.loop-at.invariant.first)

pub overflow_add-at : goal.overflow_add-at
overflow_add-at c = omega (arith, (sized_on c.args.text.now c.loop-at.at c.in-Some.width (sym c.in-Some.is ∙ c.width_at.ensures)).1)

pub loop-at-smaller : goal.loop-at-smaller
loop-at-smaller c = let step = sized_on c.args.text.now c.loop-at.at c.in-Some.width (sym c.in-Some.is ∙ c.width_at.ensures) in omega (arith, step.0, step.1)

pub loop-at-preserved : goal.loop-at-preserved
loop-at-preserved c = settled_on _ _ _ c.loop-at.invariant (sym c.in-Some.is ∙ c.width_at.ensures)

pub returns : goal.returns
returns c = ap verdict_of (sym (checked_all _ _ c.loop-at-test.false) ∙ c.loop-at.invariant.first)
