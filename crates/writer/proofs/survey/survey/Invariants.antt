-- `writer::survey::survey` meets its contract. The invariant: the tokens passed may all be written, and the total is the length of their text.
-- Assumes nothing.
use mathlib.Core.Path.{◌≡◌}
use Prim.Native.Nat.{◌*◌, ◌≤◌}
use lib.ListN.{length}
use Rattle.tokens.specs.Slots.{tokens_in}
use Rattle.tokens.specs.Formed.{first_place}
use Rattle.writer.specs.Written.{written}
use Rattle.writer.specs.Survey.{faulty}
use Rattle.writer.proofs.Lists.{token_limit}
use Rattle.writer.proofs.survey.survey.Given as goal

abbrev pub invariant-loop-i : goal.invariant-loop-i
invariant-loop-i l =
    (l.total ≡ length (written l.text (tokens_in l.slots l.i))) × (l.total ≤ l.i * token_limit) × (first_place (faulty l.text) (tokens_in l.slots l.i) ≡ l.i)
