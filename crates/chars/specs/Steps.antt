-- How the code answers: a step at an offset, and the verdict on a text, by the definitions of Utf8.antt.
-- Assumes nothing.
use Rattle.std.specs.Prelude.{◌≡◌, ℕ, suc, ◌+◌, ◌≤◌, Bool, true, cond, ◌&&◌, ◌||◌, List, [], ◌∷◌, eqb, leb, ltb, length, drop, Result, Ok, Err, Option as Maybe, Some, None}
use Rattle.std.specs.Bool.{beq}
use Rattle.std.proofs.Math.Option.{Option, none, some}
use Rattle.chars.specs.declared.offset.Offset.{Offset}
use Rattle.chars.specs.declared.utf8.Step.{Step}
use Rattle.chars.specs.declared.utf8.Step.TheVariants.{Char, Bad, End}
use Rattle.chars.specs.declared.utf8.BadAt.{BadAt}
use Rattle.chars.specs.Utf8.{Front, char, bad, end, front, follows, bad_from, first_bad}

-- a number of bytes, as an offset
abbrev pub offset : ℕ → Offset
offset n = record { 0 = n }

-- what stands at the front, where the byte after its first is at `next`
abbrev pub placed : ℕ → Front → Step
placed next (char s n) = Char s (offset (next + n))
placed next bad = Bad
placed next end = End

-- the step at an offset: the character there and the offset after it
unfoldable pub step_at : List ℕ → Offset → Step
step_at text at = placed (at.0 + 1) (front (drop at.0 text))

-- no bad byte, or the offset of the first
abbrev pub verdict_of : Option ℕ → Result (Unit {0}) BadAt
verdict_of none = Ok tt
verdict_of (some at) = Err (record { 0 = offset at })

-- ---- what the private functions answer, on the way there
-- the scalar value at the front, where a character starts
unfoldable pub scalar_of : Front → Maybe ℕ
scalar_of (char s n) = Some s
scalar_of bad = None
scalar_of end = None

-- how many bytes the character at the front takes, where one starts
unfoldable pub size_of : Front → Maybe ℕ
size_of (char s n) = Some (suc n)
size_of bad = None
size_of end = None

-- the byte at the front, where it follows
unfoldable pub following : List ℕ → Maybe ℕ
following [] = None
following (b ∷ rest) = cond (follows b) (Some b) None

-- three bytes that start with a and b are neither overlong nor a surrogate
unfoldable pub fits_three : ℕ → ℕ → Bool
fits_three a b = cond (eqb a 0xE0) (leb 0xA0 b) (cond (eqb a 0xED) (ltb b 0xA0) true)

-- four bytes that start with a and b are neither overlong nor above U+10FFFF
unfoldable pub fits_four : ℕ → ℕ → Bool
fits_four a b = cond (eqb a 0xF0) (leb 0x90 b) (cond (eqb a 0xF4) (ltb b 0x90) (ltb a 0xF4))

-- the lead byte that does not fit before b: `low` before one below `split`, `high` before another
abbrev pub barred : ℕ → ℕ → ℕ → ℕ → ℕ
barred split low high b = cond (ltb b split) low high

-- the lead bytes of three and of four bytes that do not fit before b
abbrev pub barred_three : ℕ → ℕ
barred_three b = barred 0xA0 0xE0 0xED b

abbrev pub barred_four : ℕ → ℕ
barred_four b = barred 0x90 0xF0 0xF4 b

-- b is in place after p3, p2 and p1: it follows where a byte is due, and nowhere else; and p1, where it leads, fits before b
unfoldable pub in_place : ℕ → ℕ → ℕ → ℕ → Bool
in_place p3 p2 p1 b =
    beq (leb 0xC0 p1 || leb 0xE0 p2 || leb 0xF0 p3) (follows b)
    && beq (leb 0xC0 p1) (leb 0xC2 p1)
    && fits_three p1 b
    && fits_four p1 b

-- all is valid before `at`, a character's first byte or the end: the first bad byte from there on is the text's
pub record Settled (text : List ℕ) (at : ℕ) : Type 0 where
  pub inside : at ≤ length text
  pub first : bad_from 0 at (drop at text) ≡ first_bad text
