-- `sanitizer::pass` meets its contract. The invariant: the turns still to take end in the sanitised list, and past the count nothing is changed.
-- Assumes nothing.
use Prim.Native.Nat.{◌≤◌, ◌+◌, ◌-◌}
use Rattle.tokens.specs.Slots.{tokens_in, Left}
use Rattle.sanitizer.specs.Run.{sanitized, Known}
use Rattle.sanitizer.proofs.Turning.{Runs}
use Rattle.sanitizer.proofs.pass.Given as goal

abbrev pub invariant-loop-turn : goal.invariant-loop-turn
invariant-loop-turn l =
    (l.turn.next.0 ≤ l.count + 1) × Left l.count l.initial.slots l.slots (tokens_in l.slots l.count) × Known (tokens_in l.slots l.count) × Runs l.count l.slots l.turn.next.0 l.turn.state (sanitized (tokens_in l.initial.slots l.count))

abbrev pub decreases-loop-turn : goal.decreases-loop-turn
decreases-loop-turn l = l.count - l.turn.next.0
