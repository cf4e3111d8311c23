-- `writer::fill` meets its contract. The invariant: the text so far lies over the front. Assumes nothing.
use mathlib.Core.Path.{◌≡◌}
use lib.ListN.{length}
use Rattle.tokens.specs.Slots.{tokens_in}
use Rattle.writer.specs.Written.{written, onto}
use Rattle.writer.proofs.fill.Given as goal

abbrev pub invariant-loop-i : goal.invariant-loop-i
invariant-loop-i l =
    (l.page.at ≡ length (written l.text (tokens_in l.slots l.i))) × (length l.page.out.now ≡ length l.initial.page.out.now)
    × (l.page.out.now ≡ onto (written l.text (tokens_in l.slots l.i)) l.initial.page.out.now) × (l.page.out.ghost_name ≡ l.initial.page.out.ghost_name)
