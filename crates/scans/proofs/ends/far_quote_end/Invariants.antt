-- `scans::ends::far_quote_end` meets its contract. The invariant: the scan over bytes from here on ends at the same offset. Assumes nothing.
use Rattle.std.proofs.Common.{◌≡◌, ◌≤◌, ◌-◌, length}
use Rattle.scans.proofs.Quotes.{end}
use Rattle.scans.proofs.ends.far_quote_end.Given as goal

abbrev pub invariant-loop-next : goal.invariant-loop-next
invariant-loop-next l = record {
  inside : l.at.0 ≤ length l.text;
  same : end l.text l.quote l.initial.at.0 ≡ end l.text l.quote l.at.0;
}

abbrev pub decreases-loop-next : goal.decreases-loop-next
decreases-loop-next l = length l.text - l.at.0
