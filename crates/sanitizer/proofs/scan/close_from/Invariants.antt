-- `sanitizer::scan::close_from` meets its contract. The invariant: the scan from here on finds what the whole scan finds. Assumes nothing.
use mathlib.Core.Path.{◌≡◌}
use Rattle.tokens.specs.Slots.{tokens_in}
use Rattle.sanitizer.specs.Scans.{close_at}
use Rattle.sanitizer.proofs.scan.close_from.Given as goal

abbrev pub invariant-loop-at : goal.invariant-loop-at
invariant-loop-at l = close_at (tokens_in l.slots l.count) l.at ≡ close_at (tokens_in l.slots l.count) l.fn.from.0
