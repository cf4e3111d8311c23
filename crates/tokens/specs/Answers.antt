-- Every answer in the paper's numbers (document 01, "Refusal numbers"). Assumes nothing.
use Rattle.std.specs.Prelude.{List, ℕ}
use Rattle.tokens.specs.declared.refusal.Refusal.{Refusal}
use Rattle.tokens.specs.declared.refusal.Refusal.TheVariants.{TextTooLong, NotUtf8, NoRoomTokens, BadCount, BadToken, CutChar, NoRoomOut}

-- the most bytes a text may have, and the most tokens a count may state
abbrev pub limit : ℕ
limit = 1048576

-- an answer: done, with its numbers in the paper's order; or refused, with the refusal's number and its detail
pub data Answer : Type 0 where
  done : List ℕ → Answer
  refused : ℕ → ℕ → Answer

-- 1: the text is over the limit; its length
abbrev pub text_too_long : ℕ → Answer
text_too_long n = refused 1 n

-- 2: the text is not valid by RFC 3629; the offset of the first byte of the first bad sequence
abbrev pub not_utf8 : ℕ → Answer
not_utf8 at = refused 2 at

-- 3: fewer whole slots than tokens read; the tokens needed
abbrev pub no_room_tokens : ℕ → Answer
no_room_tokens n = refused 3 n

-- 4: the stated count is over the limit or over the whole slots; the whole slots
abbrev pub bad_count : ℕ → Answer
bad_count n = refused 4 n

-- 5: a slot is not well formed; its place
abbrev pub bad_token : ℕ → Answer
bad_token p = refused 5 p

-- 6: a slice within the text starts or ends inside a character; the first such place
abbrev pub cut_char : ℕ → Answer
cut_char p = refused 6 p

-- 7: the text is longer than the output; the bytes needed
abbrev pub no_room_out : ℕ → Answer
no_room_out n = refused 7 n

-- the code's refusals
abbrev pub refusal : Refusal → Answer
refusal (TextTooLong n) = text_too_long n
refusal (NotUtf8 at) = not_utf8 at.0
refusal (NoRoomTokens n) = no_room_tokens n
refusal (BadCount n) = bad_count n
refusal (BadToken p) = bad_token p.0
refusal (CutChar p) = cut_char p.0
refusal (NoRoomOut n) = no_room_out n
