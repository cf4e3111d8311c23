-- `scans::ends::block_end` meets its contract. The invariant: the scan over bytes from here on, with no `*` before, ends at the same offset.
-- Assumes nothing.
use Rattle.std.proofs.Common.{◌≡◌, ◌≤◌, ◌-◌, length, false}
use Rattle.scans.proofs.Comments.{end}
use Rattle.scans.proofs.ends.block_end.Given as goal

abbrev pub invariant-loop-star : goal.invariant-loop-star
invariant-loop-star l = record {
  inside : l.at.0 ≤ length l.text;
  same : end l.text false l.initial.at.0 ≡ end l.text false l.at.0;
}

abbrev pub decreases-loop-star : goal.decreases-loop-star
decreases-loop-star l = length l.text - l.at.0
