-- `sanitizer::exposed::exposed` meets its contract. The invariant: found so far and those still to come are all. Assumes nothing.
use mathlib.Core.Path.{◌≡◌}
use Prim.Native.Nat.{◌≤◌, ◌+◌}
use lib.ListN.{drop}
use Rattle.tokens.specs.Slots.{tokens_in}
use Rattle.sanitizer.specs.Exposed.{exposed}
use Rattle.sanitizer.proofs.exposed.exposed.Given as goal

abbrev pub invariant-loop-at : goal.invariant-loop-at
invariant-loop-at l =
    (l.found ≤ l.at) × (l.found + exposed (drop l.at (tokens_in l.slots l.count)) ≡ exposed (tokens_in l.slots l.count))
