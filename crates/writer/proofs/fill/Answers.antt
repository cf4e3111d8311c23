-- `writer::fill` meets its contract. The invariant: the text so far lies over the front. Assumes nothing.
use mathlib.Core.Path.{refl, sym, ap, ◌∙◌}
use native.Mathlib.Omega.{arith}
use borrow.Author.Tests.{not-false}
use lib.ListN.{length}
use Rattle.tokens.specs.declared.slot.Slot.{Slot}
use Rattle.tokens.specs.Kinds as kind
use Rattle.tokens.specs.Slots.{bare, tokens_from, tokens_in}
use Rattle.tokens.specs.Formed.{malformed, well_formed}
use Rattle.tokens.proofs.Places.{place_le, place_none}
use Rattle.tokens.proofs.Storing.{length-tokens, get_or-tokens}
use Rattle.writer.specs.Written.{token_text, written}
use Rattle.writer.proofs.Lists.{written_room, fill_more}
use Rattle.writer.proofs.fill.Goals as goal

pub loop-i-init : goal.loop-i-init
unfolding written tokens_from
loop-i-init c = (refl, refl, refl, refl)

pub put_token-requires : goal.put_token-requires
put_token-requires c =
    let x = c.args in
    let i = c.loop-i.i in
    let ts = tokens_in x.slots.now x.count in
    let here = c.slot_at.ensures in
    let all = place_none malformed ts (bare kind.None) (omega (arith, place_le malformed ts, length-tokens x.slots.now 0 x.count)) i (omega (arith, length-tokens x.slots.now 0 x.count)) in (
      ap well_formed (here ∙ sym (get_or-tokens x.slots.now x.count i (bare kind.None) (omega arith))) ∙ not-false _ all,
      omega (arith, ap (λ (t : Slot). length (token_text x.text.now t)) here, written_room x.text.now x.slots.now i x.count (omega arith)),
    )

pub loop-i-preserved : goal.loop-i-preserved
loop-i-preserved c =
    let x = c.args in
    let m = fill_more x.text.now x.slots.now x.out.now c.loop-i.i c.slot_at.ensures c.loop-i.invariant.0 c.loop-i.invariant.2 c.put_token.ensures.put in
    (m.0, omega arith, m.1, c.put_token.ensures.same ∙ c.loop-i.invariant.3)
