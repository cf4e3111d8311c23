-- `chars_b::hay_count` meets its contract. The invariant, `Counting`: the characters passed and those to come are all of them.
-- Assumes nothing.
use mathlib.Core.Path.{sym, ◌∙◌}
use native.Mathlib.Omega.{arith}
use Rattle.chars.proofs.Stepping.{stepped}
use Rattle.chars_b.proofs.Counting.{counting_on, counting_done, no_more}
use Rattle.chars_b.proofs.hay_count.Goals as goal

pub loop-next-smaller : goal.loop-next-smaller
loop-next-smaller c =
    let step = stepped _ _ _ _ (sym c.step_at.ensures ∙ c.in-Char.is) in
    omega (arith, step.on, step.inside)

pub loop-next-preserved : goal.loop-next-preserved
loop-next-preserved c = counting_on c.loop-next.invariant (stepped _ _ _ _ (sym c.step_at.ensures ∙ c.in-Char.is))

pub returns : goal.returns
returns c = counting_done c.loop-next.invariant (no_more _ _ _ c.step_at.ensures c.in_default.not-Char)
