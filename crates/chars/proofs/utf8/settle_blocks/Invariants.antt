-- `chars::utf8::settle_blocks` meets its contract. The invariant of the loop: while every byte was in place, what Blocks.antt says of the bytes
-- passed holds, with the last three of them. Assumes nothing.
use mathlib.Core.Path.{◌≡◌}
use mathlib.Core.Bool.{true}
use Rattle.chars.proofs.Blocks.{Passed}
use Rattle.chars.proofs.utf8.settle_blocks.Given as goal

abbrev pub invariant-loop-b : goal.invariant-loop-b
invariant-loop-b l = l.good ≡ true → Passed l.text l.b-index l.p3 l.p2 l.p1
