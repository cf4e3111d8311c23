-- The checks of document 01, "Refusal numbers", each over the whole input before the next; the first that applies is the answer.
-- Assumes nothing.
use Rattle.std.specs.Prelude.{cond, ◌||◌, List, [], ℕ, ltb, length, Result, Ok, Err}
use Rattle.std.proofs.Math.Option.{Option, none, some}
use Rattle.chars.specs.Utf8.{first_bad}
use Rattle.tokens.specs.declared.slot.Slot.{Slot}
use Rattle.tokens.specs.declared.refusal.Refusal.{Refusal}
use Rattle.tokens.specs.Answers.{Answer, done, refused, limit, refusal, text_too_long, not_utf8, bad_count, bad_token}
use Rattle.tokens.specs.Slots.{room}
use Rattle.tokens.specs.Formed.{first_place, malformed}

infixr 20 ◌then◌
-- a check's refusal, or where it finds nothing what comes next
abbrev pub ◌then◌ : Answer → Answer → Answer
done ns then next = next
refused k d then next = refused k d

-- what a check answers that finds nothing
abbrev pub fine : Answer
fine = done []

-- 2: no bad byte, or the offset of the first
abbrev pub validity : Option ℕ → Answer
validity none = fine
validity (some at) = not_utf8 at

-- 1 and 2, of a text
unfoldable pub check_text : List ℕ → Answer
check_text text = cond (ltb limit (length text)) (text_too_long (length text)) (validity (first_bad text))

-- 4, of a buffer and a stated count
unfoldable pub check_count : List ℕ → ℕ → Answer
check_count ws n = cond (ltb limit n || ltb (room ws) n) (bad_count (room ws)) fine

-- 5, of a list of tokens
unfoldable pub check_form : List Slot → Answer
check_form ts = cond (ltb (first_place malformed ts) (length ts)) (bad_token (first_place malformed ts)) fine

-- a buffer after an answer: written where the call is done, as it was where it is refused
abbrev pub afterwards : Answer → List ℕ → List ℕ → List ℕ
afterwards (done ns) written before = written
afterwards (refused k d) written before = before

-- the code's answer to a check
abbrev pub checked : Result (Unit {0}) Refusal → Answer
checked (Ok _) = fine
checked (Err why) = refusal why
