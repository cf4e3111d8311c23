-- `writer::measure` meets its contract. The invariant: the total so far is the length of the text so far. It cannot overflow: 2^20 tokens
-- of little more than 2^20 bytes. Assumes nothing.
use mathlib.Core.Path.{◌≡◌}
use Prim.Native.Nat.{◌*◌, ◌≤◌}
use lib.ListN.{length}
use Rattle.tokens.specs.Slots.{tokens_in}
use Rattle.writer.specs.Written.{written}
use Rattle.writer.proofs.Lists.{token_limit}
use Rattle.writer.proofs.measure.Given as goal

abbrev pub invariant-loop-i : goal.invariant-loop-i
invariant-loop-i l = (l.total ≡ length (written l.text (tokens_in l.slots l.i))) × (l.total ≤ l.i * token_limit)
