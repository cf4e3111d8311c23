-- The definitions of Formed.antt by facts of numbers: a premise for each test, which `omega arith` finds at a need.
-- carries_other, _in, _low, _high   carries_offsets by the ranges of the kinds
-- formed_carries, _unknown, _plain, _none   well_formed by the ranges of the kinds
-- formed_kind                       a well-formed slot has one of the 84 kinds
-- Assumes nothing.
use mathlib.Core.Path.{◌≡◌, sym, ◌∙◌}
use mathlib.Core.Bool.{true, false, ◌&&◌, or-true, and-false, false≢true}
use Prim.Native.Nat.{ℕ, ◌≤◌, ◌<◌}
use native.Mathlib.Decide.{dec_lt}
use native.Mathlib.Omega.{arith}
use lib.Dec.{eqb}
use borrow.Author.Tests.{lt-ltb, le-ltb, le-leb, lt-leb, eq-eqb, ne_eqb}
use Rattle.chars.specs.Utf8.{is_scalar}
use Rattle.tokens.specs.declared.slot.Slot.{Slot}
use Rattle.tokens.specs.Kinds as kind
use Rattle.tokens.specs.Formed.{carries_offsets, well_formed}

module _ (k : ℕ) where
  pub carries_other : k ≡ kind.Other → carries_offsets k ≡ true
  unfolding carries_offsets
  carries_other e = simp (eq-eqb k kind.Other e)

  pub carries_in : kind.Charset ≤ k → k ≤ kind.NumberedPlaceholder → carries_offsets k ≡ true
  unfolding carries_offsets
  carries_in l h = simp (le-leb kind.Charset k l, le-leb k kind.NumberedPlaceholder h, or-true)

  pub carries_low : (k ≡ kind.Other → ⊥) → k < kind.Charset → carries_offsets k ≡ false
  unfolding carries_offsets
  carries_low n h = simp (ne_eqb k kind.Other n, lt-leb kind.Charset k h)

  pub carries_high : kind.NumberedPlaceholder < k → carries_offsets k ≡ false
  unfolding carries_offsets
  carries_high h = simp (ne_eqb k kind.Other (omega arith), lt-leb k kind.NumberedPlaceholder h, and-false)

module _ (t : Slot) where
  pub formed_carries : carries_offsets t.kind ≡ true → well_formed t ≡ true
  unfolding well_formed
  formed_carries e = simp e

  pub formed_unknown : t.kind ≡ kind.Unknown → well_formed t ≡ (is_scalar t.first && eqb t.second 0)
  unfolding well_formed
  formed_unknown e = simp (carries_high t.kind (omega arith), eq-eqb t.kind kind.Unknown e)

  pub formed_plain : (t.kind ≡ kind.Other → ⊥) → t.kind < kind.Charset → well_formed t ≡ (eqb t.first 0 && eqb t.second 0)
  unfolding well_formed
  formed_plain n h =
      simp (carries_low t.kind n h, ne_eqb t.kind kind.Unknown (omega arith), lt-ltb t.kind kind.Unknown (omega arith))

  pub formed_none : kind.Unknown < t.kind → well_formed t ≡ false
  unfolding well_formed
  formed_none h =
      simp (carries_high t.kind (omega arith), ne_eqb t.kind kind.Unknown (omega arith), le-ltb t.kind kind.Unknown (omega arith))

  pub formed_kind : well_formed t ≡ true → t.kind ≤ kind.Unknown
  formed_kind e = go (dec_lt kind.Unknown t.kind)
    where
      go : Dec (kind.Unknown < t.kind) → t.kind ≤ kind.Unknown
      go (yes h) = absurd (false≢true (sym (formed_none h) ∙ e))
      go (no h) = omega arith
