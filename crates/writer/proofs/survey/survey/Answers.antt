-- `writer::survey::survey` meets its contract. The invariant: the tokens passed may all be written, and the total is the length of their text.
-- Assumes nothing.
use mathlib.Core.Path.{◌≡◌, refl, sym, ap, ◌∙◌}
use Prim.Native.Nat.{ℕ, ◌+◌, ◌*◌, ◌≤◌}
use mathlib.Core.List.{List}
use mathlib.Core.Bool.{Bool}
use Rattle.tokens.specs.declared.slot.Slot.{Slot}
use native.Mathlib.Omega.{arith}
use lib.ListN.{length}
use Rattle.tokens.specs.Slots.{slot_at, tokens_from, tokens_in}
use Rattle.tokens.specs.Formed.{first_place}
use Rattle.tokens.proofs.Places.{place_found, place_more}
use Rattle.writer.specs.Written.{written}
use Rattle.writer.specs.Survey.{faulty}
use Rattle.writer.proofs.Lists.{token_limit, total_more}
use Rattle.writer.proofs.survey.survey.Goals as goal

-- the test is of the token in the slot
here : (text ws : List ℕ) (i : ℕ) {slot : Slot} {r : Bool} → r ≡ faulty text slot → slot ≡ slot_at ws i → faulty text (slot_at ws i) ≡ r
here text ws i p q = sym (p ∙ ap (faulty text) q)

more : (c : goal.After-token_len-total)
    → let x = c.args in
    (c.loop-i.total + c.token_len-total.result ≡ length (written x.text.now (tokens_in x.slots.now (c.loop-i.i + 1))))
    × (c.loop-i.total + c.token_len-total.result ≤ (c.loop-i.i + 1) * token_limit)
more c =
    total_more c.args.text.now c.args.slots.now c.loop-i.i c.requires.0 c.slot_at-slot.ensures c.token_len-total.ensures c.loop-i.invariant.0 c.loop-i.invariant.1

pub loop-i-init : goal.loop-i-init
unfolding written first_place tokens_from
loop-i-init c = (refl, omega arith, refl)

pub returns-then-is_faulty : goal.returns-then-is_faulty
returns-then-is_faulty c =
    let x = c.args in
    (omega arith, sym (place_found (faulty x.text.now) x.slots.now c.loop-i.i x.count (omega arith) c.loop-i.invariant.2 (here x.text.now x.slots.now c.loop-i.i c.is_faulty.ensures c.slot_at-slot.ensures ∙ c.if-is_faulty.true)), c.loop-i.invariant.0)

pub overflow_add-total : goal.overflow_add-total
overflow_add-total c = omega (arith, (more c).1)

pub loop-i-preserved : goal.loop-i-preserved
loop-i-preserved c =
    let x = c.args in
    ((more c).0, (more c).1, place_more (faulty x.text.now) x.slots.now c.loop-i.i c.loop-i.invariant.2 (here x.text.now x.slots.now c.loop-i.i c.is_faulty.ensures c.slot_at-slot.ensures ∙ c.if-is_faulty.false))
