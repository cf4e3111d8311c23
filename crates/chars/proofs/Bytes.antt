-- One byte or one number at a time: the tests of Utf8.antt as facts, and the code's masks as tests.
-- and_l, and_r            the two halves of a test that passed
-- follows_range           a following byte is 0x80 to 0xBF
-- mask_follows            the code's mask tests just that
-- scalar_low, .. _beyond  is_scalar by the four ranges
-- width_1 .. width_4      width by its four ranges
-- scalars, widths         these laws, as the functions name them
-- Assumes nothing.
use mathlib.Core.Path.{◌≡◌, refl, ap, ◌∙◌}
use mathlib.Core.Bool.{Bool, true, false, ◌&&◌, false≢true}
use Prim.Native.Nat.{ℕ, ◌*◌, ◌/◌, ◌≤◌, ◌<◌}
use native.Mathlib.Nat.{mod-eq_of_lt}
use native.Mathlib.Omega.{arith}
use lib.Bits.{bit_and, and_high}
use lib.Dec.{leb, ltb, eqb}
use borrow.Author.Tests.{le-leb, lt-leb, lt-ltb, le-ltb, leb-true, leb-false, ltb-true, ltb-false, eq-eqb, ne_eqb}
use Rattle.chars.specs.Utf8.{follows, is_scalar, width}

pub and_l : (a b : Bool) → (a && b) ≡ true → a ≡ true
and_l true b e = refl
and_l false b e = e

pub and_r : (a b : Bool) → (a && b) ≡ true → b ≡ true
and_r true b e = e
and_r false b e = absurd (false≢true e)

pub follows_range : (b : ℕ) → follows b ≡ true → (0x80 ≤ b) × (b < 0xC0)
unfolding follows
follows_range b e = (leb-true 0x80 b (and_l _ (ltb b 0xC0) e), ltb-true b 0xC0 (and_r (leb 0x80 b) _ e))

-- `b & 0xC0` keeps the two high bits
mask_top : (b : ℕ) → b < 256 → bit_and b 0xC0 ≡ b / 64 * 64
mask_top b h = and_high b 2 6 ∙ ap (λ (n : ℕ). n * 64) (mod-eq_of_lt {m = 4} (omega arith))

pub mask_follows : (b : ℕ) → b < 256 → eqb (bit_and b 0xC0) 0x80 ≡ follows b
unfolding follows
mask_follows b h = go (leb 0x80 b) (ltb b 0xC0) refl refl
  where
    top : bit_and b 0xC0 ≡ b / 64 * 64
    top = mask_top b h

    go : (x y : Bool) → leb 0x80 b ≡ x → ltb b 0xC0 ≡ y → eqb (bit_and b 0xC0) 0x80 ≡ (x && y)
    go true true p q =
        let l : 0x80 ≤ b = leb-true 0x80 b p in
        let m : b < 0xC0 = ltb-true b 0xC0 q in
        eq-eqb (bit_and b 0xC0) 0x80 (omega (arith, top))
    go true false p q = let m : 0xC0 ≤ b = ltb-false b 0xC0 q in ne_eqb (bit_and b 0xC0) 0x80 (λ e. omega (arith, top))
    go false y p q = let m : b < 0x80 = leb-false 0x80 b p in ne_eqb (bit_and b 0xC0) 0x80 (λ e. omega (arith, top))

pub scalar_low : (s : ℕ) → s < 0xD800 → is_scalar s ≡ true
unfolding is_scalar
scalar_low s h = simp (lt-ltb s 0xD800 h)

pub scalar_between : (s : ℕ) → 0xD800 ≤ s → s < 0xE000 → is_scalar s ≡ false
unfolding is_scalar
scalar_between s l h = simp (le-ltb s 0xD800 l, lt-leb 0xE000 s h)

pub scalar_high : (s : ℕ) → 0xE000 ≤ s → s ≤ 0x10FFFF → is_scalar s ≡ true
unfolding is_scalar
scalar_high s l h = let k : 0xD800 ≤ s = omega arith in simp (le-ltb s 0xD800 k, le-leb 0xE000 s l, le-leb s 0x10FFFF h)

pub scalar_beyond : (s : ℕ) → 0x10FFFF < s → is_scalar s ≡ false
unfolding is_scalar
scalar_beyond s h =
    let k : 0xD800 ≤ s = omega arith in
    let l : 0xE000 ≤ s = omega arith in
    simp (le-ltb s 0xD800 k, le-leb 0xE000 s l, lt-leb s 0x10FFFF h)

pub width_1 : (s : ℕ) → s < 0x80 → 1 ≡ width s
unfolding width
width_1 s h = simp (lt-ltb s 0x80 h)

pub width_2 : (s : ℕ) → 0x80 ≤ s → s < 0x800 → 2 ≡ width s
unfolding width
width_2 s l h = simp (le-ltb s 0x80 l, lt-ltb s 0x800 h)

pub width_3 : (s : ℕ) → 0x800 ≤ s → s < 0x10000 → 3 ≡ width s
unfolding width
width_3 s l h = let k : 0x80 ≤ s = omega arith in simp (le-ltb s 0x80 k, le-ltb s 0x800 l, lt-ltb s 0x10000 h)

pub width_4 : (s : ℕ) → 0x10000 ≤ s → 4 ≡ width s
unfolding width
width_4 s l =
    let k : 0x80 ≤ s = omega arith in
    let j : 0x800 ≤ s = omega arith in
    simp (le-ltb s 0x80 k, le-ltb s 0x800 j, le-ltb s 0x10000 l)

pub ruleset scalars = (scalar_low, scalar_between, scalar_high, scalar_beyond)

pub ruleset widths = (width_1, width_2, width_3, width_4)
