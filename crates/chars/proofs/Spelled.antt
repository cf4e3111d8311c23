-- Parts of the classes that the code spells out, each computed from the table once: below U+0080, A to Z and a to z, and 0 to 9;
-- and the long ranges of common scripts.
-- upper, lower     a letter is alphabetic
-- no_letter        no other character below U+0080 is
-- digit, no_digit  the same of 0 to 9 and numeric
-- common           a range that one pair of the alphabetic table covers, by a computed test, is alphabetic
-- latin .. hangul  the ranges that the code spells out
-- ascii, scripts   these laws, as the functions name them
-- Assumes nothing.
use mathlib.Core.Path.{◌≡◌, refl}
use mathlib.Core.Bool.{true, false, ◌&&◌, ◌||◌}
use Prim.Native.Nat.{ℕ, ◌≤◌, ◌<◌}
use lib.Dec.{leb}
use Rattle.chars.specs.Table.{meets_from}
use Rattle.chars.specs.Pairs.{alphabetic_pairs, numeric_pairs}
use Rattle.chars.specs.Class.{alphabetic, numeric}
use Rattle.chars.proofs.Halving.{ascii_one, ascii_two, inside, out, covers, within_covered}

module _ (c : ℕ) (h : c < 0x80) where
  letters : ((leb 0x41 c && leb c 0x5A) || (leb 0x61 c && leb c 0x7A)) ≡ alphabetic c
  unfolding alphabetic alphabetic_pairs meets_from
  letters = ascii_two 0x41 0x5A 0x61 0x7A _ c refl h

  digits : (leb 0x30 c && leb c 0x39) ≡ numeric c
  unfolding numeric numeric_pairs meets_from
  digits = ascii_one 0x30 0x39 _ c refl h

  pub upper : 0x41 ≤ c → c ≤ 0x5A → true ≡ alphabetic c
  upper l m = rw (← letters) (simp (inside 0x41 0x5A c l m))

  pub lower : 0x61 ≤ c → c ≤ 0x7A → (0x41 ≤ c → c ≤ 0x5A → ⊥) → true ≡ alphabetic c
  lower l m f = rw (← letters) (simp (out 0x41 0x5A c f, inside 0x61 0x7A c l m))

  pub no_letter : (0x41 ≤ c → c ≤ 0x5A → ⊥) → (0x61 ≤ c → c ≤ 0x7A → ⊥) → false ≡ alphabetic c
  no_letter f g = rw (← letters) (simp (out 0x41 0x5A c f, out 0x61 0x7A c g))

  pub digit : 0x30 ≤ c → c ≤ 0x39 → true ≡ numeric c
  digit l m = rw (← digits) (simp (inside 0x30 0x39 c l m))

  pub no_digit : (0x30 ≤ c → c ≤ 0x39 → ⊥) → false ≡ numeric c
  no_digit f = rw (← digits) (simp (out 0x30 0x39 c f))

pub common : (f l c : ℕ) → covers alphabetic_pairs f l ≡ true → f ≤ c → c ≤ l → alphabetic c ≡ true
unfolding alphabetic
common f l c e p q = within_covered alphabetic_pairs f l c e p q

module _ (c : ℕ) where
  pub latin : 0xC0 ≤ c → c ≤ 0xD6 → alphabetic c ≡ true
  unfolding alphabetic_pairs
  latin p q = common 0xC0 0xD6 c refl p q

  pub latin_on : 0xD8 ≤ c → c ≤ 0xF6 → alphabetic c ≡ true
  unfolding alphabetic_pairs
  latin_on p q = common 0xD8 0xF6 c refl p q

  pub latin_extended : 0xF8 ≤ c → c ≤ 0x2C1 → alphabetic c ≡ true
  unfolding alphabetic_pairs
  latin_extended p q = common 0xF8 0x2C1 c refl p q

  pub greek : 0x3A3 ≤ c → c ≤ 0x3F5 → alphabetic c ≡ true
  unfolding alphabetic_pairs
  greek p q = common 0x3A3 0x3F5 c refl p q

  pub cyrillic : 0x3F7 ≤ c → c ≤ 0x481 → alphabetic c ≡ true
  unfolding alphabetic_pairs
  cyrillic p q = common 0x3F7 0x481 c refl p q

  pub hiragana : 0x3041 ≤ c → c ≤ 0x3096 → alphabetic c ≡ true
  unfolding alphabetic_pairs
  hiragana p q = common 0x3041 0x3096 c refl p q

  pub han : 0x4E00 ≤ c → c ≤ 0xA48C → alphabetic c ≡ true
  unfolding alphabetic_pairs
  han p q = common 0x4E00 0xA48C c refl p q

  pub hangul : 0xAC00 ≤ c → c ≤ 0xD7A3 → alphabetic c ≡ true
  unfolding alphabetic_pairs
  hangul p q = common 0xAC00 0xD7A3 c refl p q

pub ruleset ascii = (upper, lower, no_letter, digit, no_digit)

pub ruleset scripts = (latin, latin_on, latin_extended, greek, cyrillic, hiragana, han, hangul)
