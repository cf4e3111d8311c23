-- The cases of the one call's answer.
-- not_read    reading refuses: both buffers are as they were
-- no_room     the shape does not fit: the tokens are sanitised, the output is as it was
-- shaped      done: the shape lies over the front of the output
-- Assumes nothing.
use mathlib.Core.Path.{◌≡◌, sym, ap, ◌∙◌}
use mathlib.Core.List.{List, [], ◌∷◌}
use Prim.Native.Nat.{ℕ, ◌≤◌, ◌<◌}
use lib.ListN.{length}
use Rattle.tokens.specs.declared.refusal.Refusal.{Refusal}
use Rattle.tokens.specs.declared.refusal.Refusal.TheVariants.{NoRoomOut}
use Rattle.tokens.specs.Answers.{Answer, done, refusal, no_room_out}
use Rattle.tokens.specs.Checks.{◌then◌, afterwards}
use Rattle.tokens.specs.Slots.{room, laid}
use Rattle.tokens.proofs.Checking.{refusal-then, refusal_after}
use Rattle.scans.specs.Ways.{pinned}
use Rattle.lexer.specs.Read.{tokens, reading}
use Rattle.lexer.specs.Lexes.{lex_answer, lex_buffer, Lexes}
use Rattle.std.specs.Prelude.{Ok, Err}
use Rattle.writer.specs.Written.{onto}
use Rattle.writer.specs.Promise.{check_out}
use Rattle.writer.proofs.Answers.{out_short, out_fits}
use Rattle.sql_lexer.specs.Promise.{sanitized_tokens, shape, figures, string_answer, string_slots, string_out, SanitizesString}
use Rattle.sql_lexer.specs.declared.Figures.{Figures}
use Rattle.sql_lexer.proofs.Stages.{Readied, Cleaned}

module _ (text ws out : List ℕ) where
  -- what comes after reading
  abbrev rest : Answer
  rest = check_out (length (shape pinned text)) (length out) then done (figures pinned text)

  pub not_read : {r : Refusal} {left : List ℕ} → Lexes text ws (Err r) left → SanitizesString text ws out (Err r) left out
  unfolding string_answer string_slots string_out lex_buffer
  not_read {r} {left} l =
      let answer : refusal r ≡ (lex_answer pinned text (room ws) then rest) = sym (refusal-then r rest) ∙ ap (λ (a : Answer). a then rest) l.answer in
      let kept : (new old : List ℕ) → afterwards (lex_answer pinned text (room ws)) new old ≡ old =
      λ new old. sym (ap (λ (a : Answer). afterwards a new old) l.answer) ∙ refusal_after r new old in
      record {
        answer = answer;
        buffers = (
          l.buffer ∙ kept (laid (tokens (reading pinned text)) ws) ws ∙ sym (kept (laid (sanitized_tokens pinned text) ws) ws),
          sym (refusal_after r (onto (shape pinned text) out) out) ∙ ap (λ (a : Answer). afterwards a (onto (shape pinned text) out) out) answer,
        );
      }

  module _ {n stop shown : ℕ} {first left : List ℕ} (r : Readied text ws n stop first) (c : Cleaned text ws n shown left) where
    after_reading : rest ≡ string_answer pinned text (room ws) (length out)
    unfolding string_answer
    after_reading = ap (λ (a : Answer). a then rest) r.answer

    slots_cleaned : left ≡ string_slots pinned text ws
    unfolding string_slots
    slots_cleaned = c.slots ∙ ap (λ (a : Answer). afterwards a (laid (sanitized_tokens pinned text) ws) ws) r.answer

    pub no_room : (need : ℕ) → need ≡ length (shape pinned text) → length out < need → SanitizesString text ws out (Err (NoRoomOut need)) left out
    unfolding string_out
    no_room need e h =
        let answer : no_room_out need ≡ string_answer pinned text (room ws) (length out) =
        ap no_room_out e ∙ ap (λ (a : Answer). a then done (figures pinned text)) (sym (out_short (length (shape pinned text)) (length out) (rw e at h))) ∙ after_reading in
        record {
          answer = answer;
          buffers = (slots_cleaned, ap (λ (a : Answer). afterwards a (onto (shape pinned text) out) out) answer);
        }

    pub shaped : (f : Figures) → f.tokens ≡ n → f.stop.0 ≡ stop → f.exposed ≡ shown → f.length ≡ length (shape pinned text) → f.length ≤ length out
        → {out' : List ℕ} → out' ≡ onto (shape pinned text) out → SanitizesString text ws out (Ok f) left out'
    unfolding string_out figures
    shaped f e₁ e₂ e₃ e₄ h w =
        let numbers : done (f.tokens ∷ f.stop.0 ∷ f.exposed ∷ f.length ∷ []) ≡ done (figures pinned text) =
        rw (e₁ ∙ r.count, e₂ ∙ r.stopped, e₃ ∙ c.count, e₄) in
        let answer : done (f.tokens ∷ f.stop.0 ∷ f.exposed ∷ f.length ∷ []) ≡ string_answer pinned text (room ws) (length out) =
        numbers ∙ ap (λ (a : Answer). a then done (figures pinned text)) (sym (out_fits (length (shape pinned text)) (length out) (rw e₄ at h))) ∙ after_reading in
        record {
          answer = answer;
          buffers = (slots_cleaned, w ∙ ap (λ (a : Answer). afterwards a (onto (shape pinned text) out) out) answer);
        }
