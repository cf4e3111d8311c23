-- `tokens::formed::first_malformed` meets its contract. The invariant: the slots passed are all well formed. Assumes nothing.
use mathlib.Core.Path.{◌≡◌}
use Rattle.tokens.specs.Slots.{tokens_in}
use Rattle.tokens.specs.Formed.{malformed, first_place}
use Rattle.tokens.proofs.formed.first_malformed.Given as goal

abbrev pub invariant-loop-i : goal.invariant-loop-i
invariant-loop-i l = first_place malformed (tokens_in l.slots l.i) ≡ l.i
