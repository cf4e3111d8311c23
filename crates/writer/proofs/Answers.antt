-- The cases of the writer's answer.
-- cuts_found, cuts_none   check_cuts
-- out_short, out_fits     check_out
-- refused_text, refused_count, refused_list, after_list   the checks of the text, of the count and of the list, in their order
-- refuses                 a refusal leaves the buffer
-- writes                  done: the text lies over the front
-- Assumes nothing.
use mathlib.Core.Path.{◌≡◌, ap, sym, ◌∙◌}
use mathlib.Core.List.{List, [], ◌∷◌}
use Prim.Native.Nat.{ℕ, ◌≤◌, ◌<◌}
use lib.ListN.{length}
use borrow.Author.Tests.{lt-ltb, le-ltb}
use Rattle.tokens.specs.declared.slot.Slot.{Slot}
use Rattle.tokens.specs.declared.refusal.Refusal.{Refusal}
use Rattle.tokens.specs.Answers.{Answer, done, refusal, cut_char, no_room_out}
use Rattle.tokens.specs.Checks.{◌then◌, fine, check_text, check_count, check_form, afterwards}
use Rattle.tokens.proofs.Checking.{form_fine, then_assoc, refusal-then, refusal_after}
use Rattle.tokens.specs.Slots.{tokens_in}
use Rattle.tokens.specs.Formed.{malformed, first_place}
use Rattle.writer.specs.Written.{written, cuts, onto}
use Rattle.writer.specs.Promise.{check_cuts, check_out, list_answer, write_answer, Writes}
use Rattle.std.specs.Prelude.{Ok, Err}

module _ (text : List ℕ) (ts : List Slot) where
  pub cuts_found : first_place (cuts text) ts < length ts → check_cuts text ts ≡ cut_char (first_place (cuts text) ts)
  unfolding check_cuts
  cuts_found h = simp (lt-ltb (first_place (cuts text) ts) (length ts) h)

  pub cuts_none : length ts ≤ first_place (cuts text) ts → check_cuts text ts ≡ fine
  unfolding check_cuts
  cuts_none h = simp (le-ltb (first_place (cuts text) ts) (length ts) h)

module _ (need room : ℕ) where
  pub out_short : room < need → check_out need room ≡ no_room_out need
  unfolding check_out
  out_short h = simp (lt-ltb room need h)

  pub out_fits : need ≤ room → check_out need room ≡ done (need ∷ [])
  unfolding check_out
  out_fits h = simp (le-ltb room need h)

module _ (text ws : List ℕ) (n room : ℕ) where
  abbrev tokens : List Slot
  tokens = tokens_in ws n

  abbrev out : Answer
  out = check_out (length (written text tokens)) room

  pub refused_text : (r : Refusal) → refusal r ≡ check_text text → refusal r ≡ write_answer text ws n room
  refused_text r e = sym (refusal-then r _) ∙ ap (λ (a : Answer). a then check_count ws n then list_answer text tokens room) e

  module _ (valid : fine ≡ check_text text) where
    -- the text passed: the count is checked
    after_text : (check_count ws n then list_answer text tokens room) ≡ write_answer text ws n room
    after_text = ap (λ (a : Answer). a then check_count ws n then list_answer text tokens room) valid

    pub refused_count : (r : Refusal) → refusal r ≡ check_count ws n → refusal r ≡ write_answer text ws n room
    refused_count r e = sym (refusal-then r (list_answer text tokens room)) ∙ ap (λ (a : Answer). a then list_answer text tokens room) e ∙ after_text

    module _ (counted : fine ≡ check_count ws n) where
      -- the count passed: the list is checked
      after_count : list_answer text tokens room ≡ write_answer text ws n room
      after_count = ap (λ (a : Answer). a then list_answer text tokens room) counted ∙ after_text

      pub refused_list : (r : Refusal) → refusal r ≡ (check_form tokens then check_cuts text tokens) → refusal r ≡ write_answer text ws n room
      refused_list r e =
          sym (refusal-then r out) ∙ ap (λ (a : Answer). a then out) e ∙ then_assoc (check_form tokens) (check_cuts text tokens) out ∙ after_count

      pub after_list : length tokens ≤ first_place malformed tokens → length tokens ≤ first_place (cuts text) tokens → out ≡ write_answer text ws n room
      after_list h g =
          sym (ap (λ (a : Answer). a then check_cuts text tokens then out) (form_fine tokens h) ∙ ap (λ (a : Answer). a then out) (cuts_none text tokens g))
          ∙ after_count

module _ {text ws : List ℕ} {n : ℕ} {out : List ℕ} where
  pub refuses : (r : Refusal) → refusal r ≡ write_answer text ws n (length out) → Writes text ws n out (Err r) out
  refuses r g = record {
    answer = g;
    buffer = sym (refusal_after r (onto (written text (tokens_in ws n)) out) out) ∙ ap (λ (a : Answer). afterwards a (onto (written text (tokens_in ws n)) out) out) g;
  }

  pub writes : {m : ℕ} {out' : List ℕ} → done (m ∷ []) ≡ write_answer text ws n (length out) → out' ≡ onto (written text (tokens_in ws n)) out → Writes text ws n out (Ok m) out'
  writes g h = record { answer = g; buffer = h ∙ ap (λ (a : Answer). afterwards a (onto (written text (tokens_in ws n)) out) out) g }
