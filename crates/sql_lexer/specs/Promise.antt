-- What the one call promises: reading, sanitising and writing in one, with the refusals of document 01. Assumes nothing.
use Rattle.std.specs.Prelude.{◌≡◌, List, [], ◌∷◌, ℕ, length, Result, Ok, Err}
use Rattle.tokens.specs.declared.refusal.Refusal.{Refusal}
use Rattle.tokens.specs.declared.slot.Slot.{Slot}
use Rattle.tokens.specs.Slots.{room, laid}
use Rattle.tokens.specs.Answers.{Answer, done, refusal}
use Rattle.tokens.specs.Checks.{◌then◌, afterwards}
use Rattle.scans.specs.Ways.{Ways, pinned}
use Rattle.lexer.specs.Read.{tokens, stop_at, reading}
use Rattle.lexer.specs.Lexes.{lex_answer}
use Rattle.sanitizer.specs.Run.{sanitized}
use Rattle.sanitizer.specs.Exposed.{exposed}
use Rattle.writer.specs.Written.{written, onto}
use Rattle.writer.specs.Promise.{check_out}
use Rattle.sql_lexer.specs.declared.Figures.{Figures}

-- the code's answer in the paper's numbers
abbrev pub paper : Result Figures Refusal → Answer
paper (Ok f) = done (f.tokens ∷ f.stop.0 ∷ f.exposed ∷ f.length ∷ [])
paper (Err why) = refusal why

-- the tokens of a text, sanitised
unfoldable pub sanitized_tokens : Ways → List ℕ → List Slot
sanitized_tokens w text = sanitized (tokens (reading w text))

-- the shape of a text: its sanitised tokens, written
unfoldable pub shape : Ways → List ℕ → List ℕ
shape w text = written text (sanitized_tokens w text)

-- the token count, the stop offset, the exposed count and the shape's length
unfoldable pub figures : Ways → List ℕ → List ℕ
figures w text =
    length (tokens (reading w text)) ∷ stop_at (reading w text) ∷ exposed (sanitized_tokens w text) ∷ length (shape w text) ∷ []

-- refusals 1, 2, 3 are those of reading; then 7; else the figures
unfoldable pub string_answer : Ways → List ℕ → ℕ → ℕ → Answer
string_answer w text slots out = lex_answer w text slots then check_out (length (shape w text)) out then done (figures w text)

-- the slots afterwards: where the text was read, its tokens sanitised over the front, whether the shape fits or not
unfoldable pub string_slots : Ways → List ℕ → List ℕ → List ℕ
string_slots w text ws = afterwards (lex_answer w text (room ws)) (laid (sanitized_tokens w text) ws) ws

-- the output afterwards: the shape over the front, or as it was
unfoldable pub string_out : Ways → List ℕ → ℕ → List ℕ → List ℕ
string_out w text slots out = afterwards (string_answer w text slots (length out)) (onto (shape w text) out) out

-- the answer, and what is left in the slots and in the output
pub record SanitizesString (text ws out : List ℕ) (r : Result Figures Refusal) (ws' out' : List ℕ) : Type 0 where
  pub answer : paper r ≡ string_answer pinned text (room ws) (length out)
  pub buffers : (ws' ≡ string_slots pinned text ws) × (out' ≡ string_out pinned text (room ws) out)
