-- The rule of document 01, "Characters", of the two tables by name: computed once over each whole table, and carried to each entry by the
-- law for any table (Halving.antt, `carried`).
-- alphabetic-meets, numeric-meets  the computed test
-- alphabetic_ruled, numeric_ruled  the rule, entry by entry
-- ruled_scalar                     so whatever is in a table is a scalar value, for any table
-- Assumes nothing.
use mathlib.Core.Path.{◌≡◌, refl, sym, ◌∙◌}
use mathlib.Core.Bool.{Bool, true, false, false≢true}
use mathlib.Core.Logic.{◌⊎◌, inl, inr}
use mathlib.Core.List.{List}
use Prim.Native.Nat.{ℕ, ◌≤◌, ◌<◌}
use native.Mathlib.Omega.{arith}
use Rattle.chars.specs.Utf8.{is_scalar}
use Rattle.chars.specs.Table.{meets, meets_from, within, Pair, Ruled}
use Rattle.chars.specs.Pairs.{alphabetic_pairs, numeric_pairs}
use Rattle.chars.proofs.Halving.{carried, within_no}
use Rattle.chars.proofs.Bytes.{scalar_low, scalar_high}

pub alphabetic-meets : meets alphabetic_pairs ≡ true
unfolding meets meets_from alphabetic_pairs
alphabetic-meets = refl

pub numeric-meets : meets numeric_pairs ≡ true
unfolding meets meets_from numeric_pairs
numeric-meets = refl

pub alphabetic_ruled : Ruled alphabetic_pairs
alphabetic_ruled = carried alphabetic_pairs alphabetic-meets

pub numeric_ruled : Ruled numeric_pairs
numeric_ruled = carried numeric_pairs numeric-meets

pair_scalar : (first last c : ℕ) → Pair first last → first ≤ c → c ≤ last → is_scalar c ≡ true
pair_scalar first last c p l h = go p.scalar
  where
    go : (last < 0xD800) ⊎ (0xDFFF < first) → is_scalar c ≡ true
    go (inl b) = scalar_low c (omega arith)
    go (inr b) = scalar_high c (omega arith) (omega (arith, p.top))

pub ruled_scalar : (t : List ℕ) → Ruled t → (c : ℕ) → within t c ≡ true → is_scalar c ≡ true
ruled_scalar t r c e = go (is_scalar c) refl
  where
    go : (b : Bool) → is_scalar c ≡ b → is_scalar c ≡ true
    go true p = p
    go false p = absurd (false≢true (sym (within_no t c (λ k h l m. false≢true (sym p ∙ pair_scalar _ _ c (r.pair k h) l m))) ∙ e))
