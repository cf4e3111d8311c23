-- The stop rules' tests by facts of numbers: a premise for each range, which `omega arith` finds at a need.
-- numeric_in, _out, capital_in, small_in, alphabetic_out   the two classes below 0x80; together: classes
-- charset_letter, word_alnum, number-numeric               what goes on in a charset, a word, a number by its class
-- Assumes nothing.
use mathlib.Core.Path.{◌≡◌, sym}
use mathlib.Core.Bool.{true, false, or-true}
use Prim.Native.Nat.{ℕ, ◌≤◌, ◌<◌}
use native.Mathlib.Omega.{arith}
use Rattle.chars.specs.Class.{alphabetic, numeric}
use Rattle.chars.proofs.Spelled.{upper, lower, no_letter, digit, no_digit}
use Rattle.scans.specs.declared.goes.Stop.TheVariants.{Charset, Word, Number}
use Rattle.scans.specs.Ways.{pinned}
use Rattle.scans.specs.Scans.{in_charset, in_word, in_number, goes_on}

module _ (c : ℕ) where
  pub numeric_in : 0x30 ≤ c → c ≤ 0x39 → numeric c ≡ true
  numeric_in l h = sym (digit c (omega arith) l h)

  pub numeric_out : c < 0x80 → (0x30 ≤ c → c ≤ 0x39 → ⊥) → numeric c ≡ false
  numeric_out k n = sym (no_digit c k n)

  pub capital_in : 0x41 ≤ c → c ≤ 0x5A → alphabetic c ≡ true
  capital_in l h = sym (upper c (omega arith) l h)

  pub small_in : 0x61 ≤ c → c ≤ 0x7A → alphabetic c ≡ true
  small_in l h = sym (lower c (omega arith) l h (λ p q. omega arith))

  pub alphabetic_out : c < 0x80 → (0x41 ≤ c → c ≤ 0x5A → ⊥) → (0x61 ≤ c → c ≤ 0x7A → ⊥) → alphabetic c ≡ false
  alphabetic_out k n m = sym (no_letter c k n m)

  -- ---- what goes on
  pub charset_letter : alphabetic c ≡ true → goes_on pinned Charset c ≡ true
  unfolding goes_on in_charset
  charset_letter e = simp e

  pub word_alnum : goes_on pinned Charset c ≡ true → goes_on pinned Word c ≡ true
  unfolding goes_on in_charset in_word
  word_alnum e = simp (e, or-true)

  pub number-numeric : numeric c ≡ true → goes_on pinned Number c ≡ true
  unfolding goes_on in_number
  number-numeric e = simp (e, or-true)

-- below 0x80 the two classes are the digits and the letters
pub ruleset classes = (numeric_in, numeric_out, capital_in, small_in, alphabetic_out)
