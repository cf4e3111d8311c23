-- `sanitizer::turn::blank` meets its contract. The invariant: blanking what is left gives what blanking all gives, whatever the count.
-- Assumes nothing.
use mathlib.Core.Path.{◌≡◌}
use lib.ListN.{length}
use Rattle.sanitizer.proofs.Turning.{Leads}
use Rattle.sanitizer.proofs.turn.blank.Given as goal

abbrev pub invariant-loop-at : goal.invariant-loop-at
invariant-loop-at l = (length l.slots ≡ length l.initial.slots) × Leads l.initial.slots l.slots l.fn.from.0 l.at l.at-end
