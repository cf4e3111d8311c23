-- What `lex` promises. Assumes nothing.
use Rattle.std.specs.Prelude.{ℕ, ◌≡◌, cond, List, [], ◌∷◌, ltb, length, Result, Ok, Err}
use Rattle.tokens.specs.declared.refusal.Refusal.{Refusal}
use Rattle.tokens.specs.Slots.{room, laid}
use Rattle.tokens.specs.Answers.{Answer, done, no_room_tokens, refusal}
use Rattle.tokens.specs.Checks.{◌then◌, check_text, afterwards}
use Rattle.lexer.specs.declared.lex.Lexed.{Lexed}
use Rattle.scans.specs.Ways.{Ways, pinned}
use Rattle.lexer.specs.Read.{tokens, stop_at, reading}

-- the code's answer in the paper's numbers
abbrev pub paper : Result Lexed Refusal → Answer
paper (Ok l) = done (l.tokens ∷ (l.stop.0 ∷ []))
paper (Err why) = refusal why

-- of a valid text: refusal 3; else the number of tokens and the stop offset
unfoldable pub valid_answer : Ways → List ℕ → ℕ → Answer
valid_answer w text slots =
    let r = reading w text in
    let n = length (tokens r) in
    cond (ltb slots n) (no_room_tokens n) (done (n ∷ (stop_at r ∷ [])))

-- refusals 1 and 2 come before
unfoldable pub lex_answer : Ways → List ℕ → ℕ → Answer
lex_answer w text slots = check_text text then valid_answer w text slots

-- a refusal leaves the words as they were; else the tokens lie over the front
unfoldable pub valid_buffer : Ways → List ℕ → List ℕ → List ℕ
valid_buffer w text ws = afterwards (valid_answer w text (room ws)) (laid (tokens (reading w text)) ws) ws

-- the same of any text
unfoldable pub lex_buffer : Ways → List ℕ → List ℕ → List ℕ
lex_buffer w text ws = afterwards (lex_answer w text (room ws)) (laid (tokens (reading w text)) ws) ws

-- the answer, and what is left in the words
pub record Lexes (text ws : List ℕ) (r : Result Lexed Refusal) (left : List ℕ) : Type 0 where
  pub answer : paper r ≡ lex_answer pinned text (room ws)
  pub buffer : left ≡ lex_buffer pinned text ws

-- the same of a valid text
pub record Valid (text ws : List ℕ) (r : Result Lexed Refusal) (left : List ℕ) : Type 0 where
  pub answer : paper r ≡ valid_answer pinned text (room ws)
  pub buffer : left ≡ valid_buffer pinned text ws
