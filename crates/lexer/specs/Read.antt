-- The reading of a text: its tokens, and the offset where it stops. Assumes nothing.
use Rattle.std.specs.Prelude.{ℕ, zero, suc, ◌+◌, ◌<◌, ◌≡◌, Bool, true, false, cond, List, [], ◌∷◌, eqb, ltb, length, drop, get_or, Option, Some, None}
use Prim.Native.Char.{code}
use Rattle.chars.specs.Utf8.{chars, width}
use Rattle.chars.specs.Steps.{offset}
use Rattle.chars.specs.declared.offset.Offset.{Offset}
use Rattle.tokens.specs.Slots.{bare, stored}
use Rattle.tokens.specs.declared.slot.Slot.{Slot}
use Rattle.lexer.specs.declared.rule.State.{State}
use Rattle.lexer.specs.declared.rule.State.TheVariants.{Default}
use Rattle.lexer.specs.declared.read.Taken.{Taken}
use Rattle.lexer.specs.declared.lex.Lexed.{Lexed}
use Rattle.scans.specs.declared.goes.Stop.TheVariants.{Number}
use Rattle.scans.specs.Whole.{Readable}
use Rattle.scans.specs.Ways.{Ways, pinned}
use Rattle.scans.specs.Scans.{bytes, span, reach, goes_on}
use Rattle.lexer.specs.Rules.{Carried, nothing, slice, scalar, Out, halt, took, read_one, state_after}

-- a token that carries a start and an end offset
abbrev pub part_of : ℕ → ℕ → ℕ → Slot
part_of k start end = record { kind = k; first = start; second = end }

-- the token that is read at the offset at, where the characters cs stand
abbrev pub slot_of : ℕ → List ℕ → ℕ → Carried → Slot
slot_of at cs k nothing = bare k
slot_of at cs k (slice from to) = part_of k (at + bytes from cs) (at + bytes to cs)
slot_of at cs k (scalar c) = part_of k c 0

-- tokens, and the offset where the reading stopped
pub data Reading : Type 0 where
  stopped : ℕ → Reading
  next : Slot → Reading → Reading

-- its tokens
abbrev pub tokens : Reading → List Slot
tokens (stopped at) = []
tokens (next t r) = t ∷ tokens r

-- its stop
abbrev pub stop_at : Reading → ℕ
stop_at (stopped at) = at
stop_at (next t r) = stop_at r

-- a token, and on with its kind and the number of its characters to pass over
abbrev pub onward : Out → ℕ → List ℕ → (ℕ → ℕ → Reading) → Reading
onward halt at cs f = stopped at
onward (took k x n) at cs f = next (slot_of at cs k x) (f k n)

-- the reading of the characters from the offset at on: `skip` of them are passed over, and then a token is read; star says that the
-- character before is `*`
unfoldable pub go : Ways → ℕ → ℕ → Bool → State → List ℕ → Reading
go w skip at star state [] = stopped at
go w zero at star state (c ∷ cs) =
    onward (read_one w star state c cs) at (c ∷ cs) (λ k n. go w n (at + width c) (eqb c (code "*")) (state_after k state) cs)
go w (suc skip) at star state (c ∷ cs) = go w skip (at + width c) (eqb c (code "*")) state cs

-- the reading of a text
unfoldable pub reading : Ways → List ℕ → Reading
reading w text = go w 0 0 false Default (chars text)

-- ---- how the code says it
-- what a rule reads of the characters cs
abbrev pub on_chars : {A : Type 0} → A → (ℕ → List ℕ → A) → List ℕ → A
on_chars none f [] = none
on_chars none f (c ∷ cs) = f c cs

-- a token that was read, and the offset after it
abbrev pub taken : Slot → Offset → Option Taken
taken t end = Some (record { slot = t; next = end })

-- what the code answers of it
abbrev pub step_of : ℕ → List ℕ → Out → Option Taken
step_of at cs halt = None
step_of at cs (took k x n) = taken (slot_of at cs k x) (offset (at + bytes (suc n) cs))

-- what the rule f reads at an offset
unfoldable pub read_by : (ℕ → List ℕ → Out) → List ℕ → ℕ → Option Taken
read_by f text at = let cs = chars (drop at text) in step_of at cs (on_chars halt f cs)

-- an ASCII character stands at the offset
pub record Ascii (text : List ℕ) (at : ℕ) : Type 0 where
  pub readable : Readable text at
  pub low : get_or text at 0 < 0x80

-- a character that passes the test stands at the offset
pub record Leads (passes : ℕ → Bool) (text : List ℕ) (at : ℕ) : Type 0 where
  pub readable : Readable text at
  pub leads : on_chars false (λ c cs. passes c) (chars (drop at text)) ≡ true

-- where the scan of a number starts: past a `-`, or at its first character
pub record NumberFrom (text : List ℕ) (at from : ℕ) : Type 0 where
  pub same : reach (span (goes_on pinned Number)) text from ≡ at + bytes (suc (span (goes_on pinned Number) (drop 1 (chars (drop at text))))) (chars (drop at text))

-- the number of tokens and the stop
abbrev pub lexed_of : Reading → Lexed
lexed_of r = record { tokens = length (tokens r); stop = offset (stop_at r) }

-- the words with a token stored, where its place is below upto
abbrev pub kept : List ℕ → ℕ → ℕ → Slot → List ℕ
kept ws upto n t = cond (ltb n upto) (stored ws n t) ws
