-- `chars_b::hay_count` meets its contract. The invariant, `Counting`: the characters passed and those to come are all of them.
-- Assumes nothing.
use Prim.Native.Nat.{◌-◌}
use lib.ListN.{length}
use Rattle.chars_b.proofs.Counting.{Counting}
use Rattle.chars_b.proofs.hay_count.Given as goal

abbrev pub invariant-loop-next : goal.invariant-loop-next
invariant-loop-next l = Counting l.text l.count l.at.0

abbrev pub decreases-loop-next : goal.decreases-loop-next
decreases-loop-next l = length l.text - l.at.0
