-- `replay::print::put_numbers` meets its contract. The invariant: eight bytes a number so far. Assumes nothing.
use Rattle.std.proofs.Common.{◌≡◌, ◌*◌}
use Rattle.replay.proofs.print.put_numbers.Given as goal

abbrev pub invariant-loop-number : goal.invariant-loop-number
invariant-loop-number l = l.end ≡ l.number-index * 8
