-- `scans::ends::wide_end` meets its contract. The invariant: the scan from here on reaches the same offset. Assumes nothing.
use Rattle.std.proofs.Common.{◌≡◌, ◌-◌, length}
use Rattle.scans.specs.Ways.{pinned}
use Rattle.scans.specs.Scans.{span, reach, goes_on}
use Rattle.scans.proofs.ends.wide_end.Given as goal

abbrev pub invariant-loop-c : goal.invariant-loop-c
invariant-loop-c g l = reach (span (goes_on pinned g.R.StopRule.stop)) l.text l.initial.at.0 ≡ reach (span (goes_on pinned g.R.StopRule.stop)) l.text l.at.0

abbrev pub decreases-loop-c : goal.decreases-loop-c
decreases-loop-c g l = length l.text - l.at.0
