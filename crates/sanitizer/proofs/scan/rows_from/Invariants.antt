-- `sanitizer::scan::rows_from` meets its contract. The invariants: the scan from here on, inside or outside brackets and with the end so far,
-- finds what the whole scan finds. Assumes nothing.
use mathlib.Core.Path.{◌≡◌}
use mathlib.Core.Bool.{true, false}
use Prim.Native.Nat.{◌≤◌, ◌-◌}
use Rattle.tokens.specs.Slots.{tokens_in}
use Rattle.sanitizer.specs.Scans.{rows_at}
use Rattle.sanitizer.proofs.scan.rows_from.Given as goal

abbrev pub invariant-inside : goal.invariant-inside
invariant-inside l =
    (l.start ≤ l.at) × (l.initial.at ≤ l.at) × (l.at ≤ l.count) × (l.end ≡ l.at) × (rows_at true l.at (tokens_in l.slots l.count) l.at ≡ rows_at true l.start (tokens_in l.slots l.count) l.start)

abbrev pub decreases-inside : goal.decreases-inside
decreases-inside l = l.count - l.at

abbrev pub invariant-outside : goal.invariant-outside
invariant-outside l =
    (l.start ≤ l.end) × (l.initial.at ≤ l.at) × (l.at ≤ l.count) × (l.end ≤ l.at) × (rows_at false l.end (tokens_in l.slots l.count) l.at ≡ rows_at true l.start (tokens_in l.slots l.count) l.start)

abbrev pub decreases-outside : goal.decreases-outside
decreases-outside l = l.count - l.at

abbrev pub invariant-rows : goal.invariant-rows
invariant-rows l =
    (l.start ≤ l.at) × (l.at ≤ l.count) × (l.end ≡ l.at) × (rows_at true l.at (tokens_in l.slots l.count) l.at ≡ rows_at true l.start (tokens_in l.slots l.count) l.start)

abbrev pub decreases-rows : goal.decreases-rows
decreases-rows l = l.count - l.at
