-- `scans::ends::class_end` meets its contract. The invariant: the scan from here on reaches the same offset. Assumes nothing.
use Rattle.std.proofs.Common.{◌≡◌}
use Rattle.scans.specs.Ways.{pinned}
use Rattle.scans.specs.Scans.{span, reach, goes_on}
use Rattle.scans.proofs.ends.class_end.Given as goal

abbrev pub invariant-loop-at : goal.invariant-loop-at
invariant-loop-at g l = reach (span (goes_on pinned g.R.StopRule.stop)) l.text l.fn.from.0 ≡ reach (span (goes_on pinned g.R.StopRule.stop)) l.text l.at
