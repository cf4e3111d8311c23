-- `writer::copy::lay` meets its contract. The invariant: after i turns the output is what it was with i bytes pasted in. Assumes nothing.
use Rattle.std.proofs.Common.{◌≡◌, length}
use lib.Seq.{paste}
use Rattle.writer.proofs.copy.lay.Given as goal

abbrev pub invariant-loop-i : goal.invariant-loop-i
invariant-loop-i l = (length l.out ≡ length l.initial.out) × (l.out ≡ paste l.initial.out l.at l.bytes l.i)
