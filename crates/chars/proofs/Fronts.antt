-- What stands at an offset, by its lead byte, and what the code's masks make of that byte.
-- front_one .. front_none      the definition's cases, for the byte at an offset
-- scalar_none                  a byte at which no character starts gives none
-- scalar_two .. scalar_four    the masked lead byte gives the same value
-- Assumes nothing.
use mathlib.Core.Path.{◌≡◌}
use mathlib.Core.List.{List}
use Prim.Native.Nat.{ℕ, ◌+◌, ◌-◌, ◌%◌, ◌≤◌, ◌<◌}
use native.Mathlib.Omega.{arith}
use lib.Bits.{bit_and, and_mask}
use lib.ListN.{length, get_or, drop}
use borrow.Author.Tests.{lt-ltb, le-ltb}
use Rattle.std.specs.Prelude.{None}
use Rattle.chars.specs.Utf8.{char, bad, joined, ranged, front}
use Rattle.chars.specs.Steps.{scalar_of}
use Rattle.chars.proofs.Joining.{drop_at}

module _ (t : List ℕ) (at : ℕ) (h : at < length t) where
  pub front_one : get_or t at 0 < 0x80 → front (drop at t) ≡ char (get_or t at 0) 0
  unfolding front
  front_one l = rw (drop_at t at h) (simp (lt-ltb _ _ l))

  pub front_stray : 0x80 ≤ get_or t at 0 → get_or t at 0 < 0xC0 → front (drop at t) ≡ bad
  unfolding front
  front_stray l m = rw (drop_at t at h) (simp (le-ltb _ _ l, lt-ltb _ _ m))

  pub front_two : 0xC0 ≤ get_or t at 0 → get_or t at 0 < 0xE0 → front (drop at t) ≡ ranged 1 0x80 (joined 1 (get_or t at 0 - 0xC0) (drop (at + 1) t))
  unfolding front
  front_two l m = let k : 0x80 ≤ get_or t at 0 = omega arith in rw (drop_at t at h) (simp (le-ltb _ _ k, le-ltb _ _ l, lt-ltb _ _ m))

  pub front_three : 0xE0 ≤ get_or t at 0 → get_or t at 0 < 0xF0 → front (drop at t) ≡ ranged 2 0x800 (joined 2 (get_or t at 0 - 0xE0) (drop (at + 1) t))
  unfolding front
  front_three l m =
      let k : 0x80 ≤ get_or t at 0 = omega arith in
      let j : 0xC0 ≤ get_or t at 0 = omega arith in
      rw (drop_at t at h) (simp (le-ltb _ _ k, le-ltb _ _ j, le-ltb _ _ l, lt-ltb _ _ m))

  pub front_four : 0xF0 ≤ get_or t at 0 → get_or t at 0 < 0xF8 → front (drop at t) ≡ ranged 3 0x10000 (joined 3 (get_or t at 0 - 0xF0) (drop (at + 1) t))
  unfolding front
  front_four l m =
      let k : 0x80 ≤ get_or t at 0 = omega arith in
      let j : 0xC0 ≤ get_or t at 0 = omega arith in
      let i : 0xE0 ≤ get_or t at 0 = omega arith in
      rw (drop_at t at h) (simp (le-ltb _ _ k, le-ltb _ _ j, le-ltb _ _ i, le-ltb _ _ l, lt-ltb _ _ m))

  pub front_none : 0xF8 ≤ get_or t at 0 → front (drop at t) ≡ bad
  unfolding front
  front_none l =
      let k : 0x80 ≤ get_or t at 0 = omega arith in
      let j : 0xC0 ≤ get_or t at 0 = omega arith in
      let i : 0xE0 ≤ get_or t at 0 = omega arith in
      let g : 0xF0 ≤ get_or t at 0 = omega arith in
      rw (drop_at t at h) (simp (le-ltb _ _ k, le-ltb _ _ j, le-ltb _ _ i, le-ltb _ _ g, le-ltb _ _ l))

  pub scalar_none : front (drop at t) ≡ bad → None ≡ scalar_of (front (drop at t))
  unfolding scalar_of
  scalar_none e = rw e

  pub scalar_two : 0xC0 ≤ get_or t at 0 → get_or t at 0 < 0xE0
      → scalar_of (ranged 1 0x80 (joined 1 (bit_and (get_or t at 0) 0x1F) (drop (at + 1) t))) ≡ scalar_of (front (drop at t))
  scalar_two l m =
      let e : get_or t at 0 % 32 ≡ get_or t at 0 - 0xC0 = omega arith in
      rw (front_two l m, and_mask (get_or t at 0) 5, e)

  pub scalar_three : 0xE0 ≤ get_or t at 0 → get_or t at 0 < 0xF0
      → scalar_of (ranged 2 0x800 (joined 2 (bit_and (get_or t at 0) 0x0F) (drop (at + 1) t))) ≡ scalar_of (front (drop at t))
  scalar_three l m =
      let e : get_or t at 0 % 16 ≡ get_or t at 0 - 0xE0 = omega arith in
      rw (front_three l m, and_mask (get_or t at 0) 4, e)

  pub scalar_four : 0xF0 ≤ get_or t at 0 → get_or t at 0 < 0xF8
      → scalar_of (ranged 3 0x10000 (joined 3 (bit_and (get_or t at 0) 0x07) (drop (at + 1) t))) ≡ scalar_of (front (drop at t))
  scalar_four l m =
      let e : get_or t at 0 % 8 ≡ get_or t at 0 - 0xF0 = omega arith in
      rw (front_four l m, and_mask (get_or t at 0) 3, e)
