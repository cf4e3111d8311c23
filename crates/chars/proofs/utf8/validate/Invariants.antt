-- `chars::utf8::validate` meets its contract: bits below 0x80 leave ASCII alone, which is valid. The invariant of the loop: all is valid
-- before `at`, which is where the blocks end or where a character of the width found ends. Assumes nothing.
use Prim.Native.Nat.{◌-◌}
use lib.ListN.{length}
use Rattle.chars.specs.Steps.{Settled}
use Rattle.chars.proofs.utf8.validate.Given as goal

abbrev pub invariant-loop-at : goal.invariant-loop-at
invariant-loop-at l = Settled l.text l.at

abbrev pub decreases-loop-at : goal.decreases-loop-at
decreases-loop-at l = length l.text - l.at
