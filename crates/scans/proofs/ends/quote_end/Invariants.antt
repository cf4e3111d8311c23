-- `scans::ends::quote_end` meets its contract. The invariant: the scan over bytes from here on ends at the same offset. Assumes nothing.
use Rattle.std.proofs.Common.{◌≡◌}
use Rattle.scans.proofs.Quotes.{end}
use Rattle.scans.proofs.ends.quote_end.Given as goal

abbrev pub invariant-loop-at : goal.invariant-loop-at
invariant-loop-at l = end l.text l.quote l.fn.from.0 ≡ end l.text l.quote l.at
