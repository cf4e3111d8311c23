-- The answer of `lex` and what it leaves in the words, case by case.
-- valid_refused, valid_done   of a valid text: too few slots; all tokens laid
-- lex_refused, lex_read       the text is refused; it is read
-- whole_text                  a text that passes is whole from its start on
-- Assumes nothing.
use mathlib.Core.Path.{◌≡◌, sym, ap, ◌∙◌}
use mathlib.Core.List.{List}
use Prim.Native.Nat.{ℕ, ◌≤◌, ◌<◌}
use native.Mathlib.Omega.{arith}
use lib.ListN.{length}
use borrow.Author.Tests.{lt-ltb, le-ltb}
use Rattle.std.specs.Prelude.{Result, Ok, Err}
use Rattle.chars.proofs.Whole.{whole}
use Rattle.tokens.specs.Slots.{room, laid}
use Rattle.tokens.specs.Answers.{Answer, refusal}
use Rattle.tokens.specs.Checks.{◌then◌, fine, check_text, afterwards}
use Rattle.tokens.proofs.Checking.{text_passes, refusal-then, refusal_after}
use Rattle.tokens.specs.declared.refusal.Refusal.{Refusal}
use Rattle.tokens.specs.declared.refusal.Refusal.TheVariants.{NoRoomTokens}
use Rattle.lexer.specs.declared.lex.Lexed.{Lexed}
use Rattle.scans.specs.Ways.{pinned}
use Rattle.scans.specs.Whole.{Whole}
use Rattle.lexer.specs.Read.{reading, tokens, lexed_of}
use Rattle.lexer.specs.Lexes.{valid_answer, valid_buffer, lex_answer, lex_buffer, Lexes, Valid}

module _ (t ws left : List ℕ) where
  abbrev needed : ℕ
  needed = length (tokens (reading pinned t))

  pub valid_refused : room ws < needed → left ≡ ws → Valid t ws (Err (NoRoomTokens needed)) left
  unfolding valid_answer valid_buffer
  valid_refused h l = record { answer = rw (lt-ltb (room ws) needed h); buffer = rw (lt-ltb (room ws) needed h) l }

  pub valid_done : needed ≤ room ws → left ≡ laid (tokens (reading pinned t)) ws → Valid t ws (Ok (lexed_of (reading pinned t))) left
  unfolding valid_answer valid_buffer
  valid_done h l = record { answer = rw (le-ltb (room ws) needed h); buffer = rw (le-ltb (room ws) needed h) l }

  pub lex_refused : (why : Refusal) → refusal why ≡ check_text t → left ≡ ws → Lexes t ws (Err why) left
  unfolding lex_answer lex_buffer
  lex_refused why e l =
      let next = valid_answer pinned t (room ws) in
      let all : refusal why ≡ (check_text t then next) = sym (refusal-then why next) ∙ ap (λ (a : Answer). a then next) e in
      record { answer = all; buffer = l ∙ sym (refusal_after why (laid (tokens (reading pinned t)) ws) ws) ∙ ap (λ (a : Answer). afterwards a (laid (tokens (reading pinned t)) ws) ws) all }

  pub lex_read : fine ≡ check_text t → (r : Result Lexed Refusal) → Valid t ws r left → Lexes t ws r left
  unfolding lex_answer lex_buffer valid_buffer
  lex_read e r v = record { answer = rw (← e) v.answer; buffer = rw (← e) v.buffer }

pub whole_text : (t : List ℕ) → fine ≡ check_text t → Whole t 0
whole_text t e = let p = text_passes t (sym e) in record { inside = omega arith; small = p.0; whole = whole t p.1 }
