-- `tokens::slot::put` meets its contract: three stores, one after the other. Assumes nothing.
use mathlib.Core.Path.{refl}
use native.Mathlib.Omega.{arith}
use lib.ListN.{length-set}
use Rattle.tokens.specs.Slots.{stored}
use Rattle.tokens.proofs.slot.put.Goals as goal

pub bounds-slots-at-2 : goal.bounds-slots-at-2
bounds-slots-at-2 c = simp length-set (omega arith)

pub bounds-slots-at-3 : goal.bounds-slots-at-3
bounds-slots-at-3 c = simp length-set (omega arith)

pub returns : goal.returns
unfolding stored
returns c = refl
