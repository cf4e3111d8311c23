-- The bits that the bytes of a text have between them: each byte is at most what `|` gathers.
-- gathered  each byte is, and beyond the end 0
-- Assumes nothing.
use mathlib.Core.List.{List, [], ◌∷◌}
use Prim.Native.Nat.{ℕ, zero, suc, ◌≤◌, zero-le}
use native.Mathlib.Nat.{le_trans}
use native.Mathlib.Omega.{arith}
use lib.Bits.{bit_or, or_add_and, and_le_l, and_le_r}
use lib.ListN.{get_or}
use Rattle.std.specs.Prelude.{fold}

or_left : (a b : ℕ) → a ≤ bit_or a b
or_left a b = omega (arith, or_add_and a b, and_le_r a b)

or_right : (a b : ℕ) → b ≤ bit_or a b
or_right a b = omega (arith, or_add_and a b, and_le_l a b)

-- what was gathered stays
kept : (bits : ℕ) (t : List ℕ) → bits ≤ fold bit_or bits t
kept bits [] = omega arith
kept bits (b ∷ t) = le_trans (or_left bits b) (kept (bit_or bits b) t)

pub gathered : (bits : ℕ) (t : List ℕ) (k : ℕ) → get_or t k 0 ≤ fold bit_or bits t
gathered bits [] k = zero-le
gathered bits (b ∷ t) zero = le_trans (or_right bits b) (kept (bit_or bits b) t)
gathered bits (b ∷ t) (suc k) = gathered (bit_or bits b) t k
