-- `shape::page::write_out` meets its contract. The invariant: no more is left than there was. Assumes nothing.
use Rattle.std.proofs.Common.{◌≡◌, ◌≤◌, false, length}
use Rattle.shape.proofs.page.write_out.Given as goal

abbrev pub invariant-loop-stdout : goal.invariant-loop-stdout
invariant-loop-stdout l = (length l.left ≤ length l.bytes) × (l.lost ≡ false)

abbrev pub decreases-loop-stdout : goal.decreases-loop-stdout
decreases-loop-stdout l = length l.left
