-- The table of refusals for each call (document 01, "Refusal numbers"), and what it is for an answer to follow a table. Assumes nothing.
use Rattle.std.specs.Prelude.{◌≡◌, Bool, true, false, List, ◌⊎◌, ℕ, ◌<◌, length}
use Rattle.std.proofs.Math.Option.{some}
use Rattle.chars.specs.Utf8.{first_bad}
use Rattle.tokens.specs.declared.slot.Slot.{Slot}
use Rattle.tokens.specs.Slots.{room, tokens_in}
use Rattle.tokens.specs.Formed.{malformed}
use Rattle.tokens.specs.Answers.{Answer, done, refused, limit}
use Rattle.scans.specs.Ways.{pinned}
use Rattle.writer.specs.Written.{written, cuts}
use Rattle.sql_lexer.specs.Promise.{shape}
use Rattle.demands.specs.Terms.{tokens_of, at}

-- a table of refusals in their order: each has its number, and says when it applies with a detail
pub data Table : Type 1 where
  end : Table
  row : ℕ → (ℕ → Type 0) → Table → Table

-- refusal k with detail d: its condition holds, and none earlier does
abbrev pub Refuses : Table → ℕ → ℕ → Type 0
Refuses end k d = ⊥
Refuses (row n applies rest) k d = ((k ≡ n) × applies d) ⊎ (((e : ℕ) → applies e → ⊥) × Refuses rest k d)

-- no condition holds
abbrev pub Clear : Table → Type 0
Clear end = Unit {0}
Clear (row n applies rest) = ((e : ℕ) → applies e → ⊥) × Clear rest

-- an answer is a refusal exactly when the table refuses with its number and detail, and done, with these numbers, exactly when the table is clear
pub record Follows (answer : Answer) (table : Table) (numbers : List ℕ) : Type 0 where
  pub refused_when : (k d : ℕ) → Refuses table k d → answer ≡ refused k d
  pub refused_only : (k d : ℕ) → answer ≡ refused k d → Refuses table k d
  pub done_when : Clear table → answer ≡ done numbers
  pub done_only : (ns : List ℕ) → answer ≡ done ns → Clear table × (ns ≡ numbers)

-- what an answer leaves in a buffer: a refusal leaves it as it was
pub record Leaves (answer : Answer) (before written after : List ℕ) : Type 0 where
  pub on_refusal : (k d : ℕ) → answer ≡ refused k d → after ≡ before
  pub on_done : (ns : List ℕ) → answer ≡ done ns → after ≡ written

-- the same of the one call's slots: refusal 7 leaves the tokens sanitised
pub record LeavesSlots (answer : Answer) (before written after : List ℕ) : Type 0 where
  pub on_refusal : (k d : ℕ) → answer ≡ refused k d → (k ≡ 7 → ⊥) → after ≡ before
  pub on_no_room : (d : ℕ) → answer ≡ refused 7 d → after ≡ written
  pub on_done : (ns : List ℕ) → answer ≡ done ns → after ≡ written

-- ---- the conditions
-- 1: the text is over the limit; its length
abbrev pub TextTooLong : List ℕ → ℕ → Type 0
TextTooLong text d = (limit < length text) × (d ≡ length text)

-- 2: the text is not valid by RFC 3629; the offset of the first byte of the first bad sequence
abbrev pub NotUtf8 : List ℕ → ℕ → Type 0
NotUtf8 text d = first_bad text ≡ some d

-- 3: fewer whole slots than tokens read; the tokens needed
abbrev pub NoRoomTokens : List ℕ → List ℕ → ℕ → Type 0
NoRoomTokens text ws d = (room ws < length (tokens_of text)) × (d ≡ length (tokens_of text))

-- 4: the stated count is over the limit or over the whole slots; the whole slots
abbrev pub BadCount : List ℕ → ℕ → ℕ → Type 0
BadCount ws n d = ((limit < n) ⊎ (room ws < n)) × (d ≡ room ws)

-- place d is the first of a list of tokens that passes a test
pub record First (passes : Slot → Bool) (ts : List Slot) (d : ℕ) : Type 0 where
  pub inside : d < length ts
  pub here : passes (at ts d) ≡ true
  pub before : (i : ℕ) → i < d → passes (at ts i) ≡ false

-- 5: a slot is not well formed; its place
abbrev pub BadToken : List ℕ → ℕ → ℕ → Type 0
BadToken ws n d = First malformed (tokens_in ws n) d

-- 6: a slice within the text starts or ends inside a character; the first such place
abbrev pub CutChar : List ℕ → List ℕ → ℕ → ℕ → Type 0
CutChar text ws n d = First (cuts text) (tokens_in ws n) d

-- 7: a text is longer than the output; the bytes needed
abbrev pub NoRoomOut : List ℕ → List ℕ → ℕ → Type 0
NoRoomOut text out d = (length out < length text) × (d ≡ length text)

-- ---- the tables
-- reading checks 1, 2, 3
abbrev pub lex_table : List ℕ → List ℕ → Table
lex_table text ws = row 1 (TextTooLong text) (row 2 (NotUtf8 text) (row 3 (NoRoomTokens text ws) end))

-- sanitising 4, 5
abbrev pub sanitize_table : List ℕ → ℕ → Table
sanitize_table ws n = row 4 (BadCount ws n) (row 5 (BadToken ws n) end)

-- writing 1, 2, 4, 5, 6, 7
abbrev pub write_table : List ℕ → List ℕ → ℕ → List ℕ → Table
write_table text ws n out =
    row 1 (TextTooLong text)
    (row 2 (NotUtf8 text)
    (row 4 (BadCount ws n)
    (row 5 (BadToken ws n) (row 6 (CutChar text ws n) (row 7 (NoRoomOut (written text (tokens_in ws n)) out) end)))))

-- the one call 1, 2, 3, 7
abbrev pub string_table : List ℕ → List ℕ → List ℕ → Table
string_table text ws out =
    row 1 (TextTooLong text) (row 2 (NotUtf8 text) (row 3 (NoRoomTokens text ws) (row 7 (NoRoomOut (shape pinned text) out) end)))
