-- `lexer::lex::lex_valid` meets its contract: the tokens fit because they were counted, or because there are as many slots as bytes. Assumes nothing.
use mathlib.Core.Path.{◌≡◌, ap, ◌∙◌}
use Prim.Native.Nat.{ℕ, ◌≤◌}
use native.Mathlib.Omega.{arith}
use lib.ListN.{length, take}
use lib.Seq.{take_all}
use Rattle.tokens.specs.Slots.{laid}
use Rattle.tokens.proofs.Storing.{laid_none}
use Rattle.tokens.specs.declared.slot.Slot.{Slot}
use mathlib.Core.List.{List}
use Rattle.lexer.specs.declared.lex.Lexed.{Lexed}
use Rattle.scans.specs.Ways.{pinned}
use Rattle.lexer.specs.Read.{reading, tokens}
use Rattle.lexer.proofs.Turns.{tokens_few}
use Rattle.lexer.proofs.Answering.{valid_refused, valid_done}
use Rattle.lexer.proofs.lex.lex_valid.Goals as goal
use Rattle.lexer.proofs.lex.lex_valid.Goals.{then-places-text+else-places-needed, else-places-text}

-- the second walk stores all
laid_all : (text slots before : List ℕ) (places : ℕ) → before ≡ slots → length (tokens (reading pinned text)) ≤ places
    → (after : List ℕ) → after ≡ laid (take places (tokens (reading pinned text))) before → after ≡ laid (tokens (reading pinned text)) slots
laid_all text slots before places u e after h =
    h ∙ rw u (ap (λ (ts : List Slot). laid ts slots) (take_all places (tokens (reading pinned text)) e))

pub walk-counted-requires : goal.walk-counted-requires
walk-counted-requires c =
    record { whole = c.requires; upto_bound = omega arith }

pub returns-then-places-needed : goal.returns-then-places-needed
returns-then-places-needed c =
    rw (ap (λ (x : Lexed). x.tokens) c.walk-counted.ensures.value)
    (valid_refused c.args.text.now c.args.slots.now _ (omega (arith, c.whole_slots-places.ensures, ap (λ (x : Lexed). x.tokens) c.walk-counted.ensures.value))
    (c.walk-counted.ensures.slots_after ∙ laid_none c.args.slots.now))

pub walk-requires : goal.walk-requires
walk-requires c =
    let unchanged : c.if-places-text.slots ≡ c.args.slots.now =
    elim c.if-places-text.branch [
      | then-places-text+else-places-needed w ↦ w.slots-is ∙ w.walk-counted.ensures.slots_after ∙ laid_none c.args.slots.now
      | else-places-text w ↦ w.slots-is
    ] in
    record { whole = c.requires; upto_bound = rw unchanged (omega (arith, c.whole_slots-places.ensures)) }

pub returns : goal.returns
returns c =
    let t = c.args.text.now in
    -- the first walk stores nothing, and where it is left out the slots are as they were
    let unchanged : c.if-places-text.slots ≡ c.args.slots.now =
    elim c.if-places-text.branch [
      | then-places-text+else-places-needed w ↦ w.slots-is ∙ w.walk-counted.ensures.slots_after ∙ laid_none c.args.slots.now
      | else-places-text w ↦ w.slots-is
    ] in
    let enough : length (tokens (reading pinned t)) ≤ c.whole_slots-places.result =
    elim c.if-places-text.branch [
      | then-places-text+else-places-needed w ↦ omega (arith, w.if-places-needed.false, ap (λ (x : Lexed). x.tokens) w.walk-counted.ensures.value)
      | else-places-text w ↦ omega (arith, w.if-places-text.false, tokens_few pinned t)
    ] in
    rw c.walk.ensures.value
    (valid_done t c.args.slots.now _ (rw c.whole_slots-places.ensures at enough)
    (laid_all t c.args.slots.now c.if-places-text.slots c.whole_slots-places.result unchanged enough c.walk.new.slots c.walk.ensures.slots_after))
