-- What writing promises: the answer in the paper's numbers, and the buffer. Assumes nothing.
use Rattle.std.specs.Prelude.{◌≡◌, Result, Ok, Err, cond, List, [], ◌∷◌, ◌++◌, ℕ, ◌+◌, ltb, length, take, drop}
use Rattle.tokens.specs.declared.refusal.Refusal.{Refusal}
use Rattle.tokens.specs.declared.slot.Slot.{Slot}
use Rattle.tokens.specs.Answers.{Answer, done, refusal, cut_char, no_room_out}
use Rattle.tokens.specs.Checks.{◌then◌, fine, check_text, check_count, check_form, afterwards}
use Rattle.tokens.specs.Slots.{tokens_in}
use Rattle.tokens.specs.Formed.{first_place}
use Rattle.writer.specs.Written.{written, cuts, onto}

-- the code's answer in the paper's numbers
abbrev pub paper : Result ℕ Refusal → Answer
paper (Ok n) = done (n ∷ [])
paper (Err r) = refusal r

-- 6, of a token list over its text
unfoldable pub check_cuts : List ℕ → List Slot → Answer
check_cuts text ts = cond (ltb (first_place (cuts text) ts) (length ts)) (cut_char (first_place (cuts text) ts)) fine

-- 7, or the text's length
unfoldable pub check_out : ℕ → ℕ → Answer
check_out need room = cond (ltb room need) (no_room_out need) (done (need ∷ []))

-- a token list over its text, and the room for what is written
abbrev pub list_answer : List ℕ → List Slot → ℕ → Answer
list_answer text ts room = check_form ts then check_cuts text ts then check_out (length (written text ts)) room

-- text, slots, count, the output's length
abbrev pub write_answer : List ℕ → List ℕ → ℕ → ℕ → Answer
write_answer text ws n room = check_text text then check_count ws n then list_answer text (tokens_in ws n) room

-- the answer, and the output afterwards: the text over its front, or as it was
pub record Writes (text ws : List ℕ) (n : ℕ) (out : List ℕ) (r : Result ℕ Refusal) (out' : List ℕ) : Type 0 where
  pub answer : paper r ≡ write_answer text ws n (length out)
  pub buffer : out' ≡ afterwards (write_answer text ws n (length out)) (onto (written text (tokens_in ws n)) out) out

-- s stands behind the first `at` bytes, the rest is as it was, and r is how many bytes there are up to its end
pub record Put (out : List ℕ) (at : ℕ) (s : List ℕ) (r : ℕ) (out' : List ℕ) : Type 0 where
  pub next : r ≡ at + length s
  pub left : out' ≡ take at out ++ s ++ drop (at + length s) out
