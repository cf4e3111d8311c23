-- The first place in a list that passes a test.
-- place_le        it is at most the list's length
-- place_append    where none of a first part passes, it is found in the second part
-- place_first     found in the first part: the second does not matter
-- place_second    found past the first part: counted on from its length
-- place_more      one more token that fails
-- place_found     the token after those that fail passes
-- place_none      it is the length: each token fails
-- below_there, below_past   place_below by the order of its numbers
-- below_some, below_none    and what its answer says of them
-- Assumes nothing.
use mathlib.Core.Path.{◌≡◌, refl, sym, ap, ◌∙◌}
use mathlib.Core.Bool.{Bool, true, false, cond}
use mathlib.Core.List.{List, [], ◌∷◌, ◌++◌}
use Prim.Native.Nat.{ℕ, zero, suc, ◌+◌, ◌-◌, ◌≤◌, ◌<◌}
use native.Mathlib.Nat.{zero-add, add-zero, suc-add}
use native.Mathlib.Omega.{arith}
use lib.Dec.{ltb}
use lib.ListN.{length, get_or}
use borrow.Author.Tests.{lt-ltb, le-ltb, ltb-true, ltb-false}
use Rattle.std.specs.Prelude.{Option, Some, None}
use Rattle.tokens.specs.declared.slot.Slot.{Slot}
use Rattle.tokens.specs.Slots.{slot_at, tokens_from, tokens_in}
use Rattle.chars.proofs.Scalars.{clash}
use Rattle.tokens.specs.declared.place.Place.{Place}
use Rattle.tokens.specs.Formed.{first_place, place_below}
use Rattle.tokens.proofs.Storing.{length-tokens, tokens_more, tokens-at}

module _ (p : Slot → Bool) where
  pub place_le : (ts : List Slot) → first_place p ts ≤ length ts
  unfolding first_place
  place_le [] = omega arith
  place_le (t ∷ ts) = go (p t) (place_le ts)
    where
      go : (b : Bool) → first_place p ts ≤ length ts → cond b 0 (suc (first_place p ts)) ≤ suc (length ts)
      go true h = omega arith
      go false h = omega arith

  pub place_append : (xs ys : List Slot) → first_place p xs ≡ length xs → first_place p (xs ++ ys) ≡ length xs + first_place p ys
  unfolding first_place
  place_append [] ys h = sym (zero-add (first_place p ys))
  place_append (x ∷ xs) ys h = go (p x) h (place_append xs ys)
    where
      go : (b : Bool) → cond b 0 (suc (first_place p xs)) ≡ suc (length xs)
          → (first_place p xs ≡ length xs → first_place p (xs ++ ys) ≡ length xs + first_place p ys)
          → cond b 0 (suc (first_place p (xs ++ ys))) ≡ suc (length xs) + first_place p ys
      go true e ih = absurd (omega arith)
      go false e ih = ap suc (ih (omega arith)) ∙ sym (suc-add (length xs) (first_place p ys))

  pub place_first : (xs ys : List Slot) → first_place p (xs ++ ys) < length xs → first_place p xs ≡ first_place p (xs ++ ys)
  unfolding first_place
  place_first [] ys h = absurd (omega arith)
  place_first (x ∷ xs) ys h = go (p x) h (place_first xs ys)
    where
      go : (b : Bool) → cond b 0 (suc (first_place p (xs ++ ys))) < suc (length xs)
          → (first_place p (xs ++ ys) < length xs → first_place p xs ≡ first_place p (xs ++ ys))
          → cond b 0 (suc (first_place p xs)) ≡ cond b 0 (suc (first_place p (xs ++ ys)))
      go true l ih = refl
      go false l ih = ap suc (ih (omega arith))

  pub place_second : (xs ys : List Slot) → length xs ≤ first_place p (xs ++ ys)
      → (first_place p xs ≡ length xs) × (first_place p ys ≡ first_place p (xs ++ ys) - length xs)
  unfolding first_place
  place_second [] ys h = (refl, omega arith)
  place_second (x ∷ xs) ys h = go (p x) h (place_second xs ys)
    where
      go : (b : Bool) → suc (length xs) ≤ cond b 0 (suc (first_place p (xs ++ ys)))
          → (length xs ≤ first_place p (xs ++ ys) → (first_place p xs ≡ length xs) × (first_place p ys ≡ first_place p (xs ++ ys) - length xs))
          → (cond b 0 (suc (first_place p xs)) ≡ suc (length xs)) × (first_place p ys ≡ cond b 0 (suc (first_place p (xs ++ ys))) - suc (length xs))
      go true l ih = absurd (omega arith)
      go false l ih = let q = ih (omega arith) in (ap suc q.0, omega arith)

  module _ (ws : List ℕ) where
    pub place_more : (i : ℕ) → first_place p (tokens_in ws i) ≡ i → p (slot_at ws i) ≡ false → first_place p (tokens_in ws (i + 1)) ≡ i + 1
    unfolding first_place
    place_more i h e =
        ap (first_place p) (tokens_more ws i)
        ∙ place_append (tokens_in ws i) (slot_at ws i ∷ []) (h ∙ sym (length-tokens ws 0 i)) ∙ rw (e, length-tokens)

    pub place_found : (i n : ℕ) → i < n → first_place p (tokens_in ws i) ≡ i → p (slot_at ws i) ≡ true → first_place p (tokens_in ws n) ≡ i
    unfolding first_place
    place_found i n l h e =
        ap (first_place p) (tokens-at ws i n l)
        ∙ place_append (tokens_in ws i) (slot_at ws i ∷ tokens_from ws (suc i) (n - suc i)) (h ∙ sym (length-tokens ws 0 i))
        ∙ rw (e, length-tokens, add-zero)

  pub place_none : (ts : List Slot) (d : Slot) → first_place p ts ≡ length ts → (i : ℕ) → i < length ts → p (get_or ts i d) ≡ false
  unfolding first_place
  place_none [] d h i l = absurd (omega arith)
  place_none (t ∷ ts) d h i l = go (p t) refl h i l (place_none ts d)
    where
      go : (b : Bool) → p t ≡ b → cond b 0 (suc (first_place p ts)) ≡ suc (length ts) → (i : ℕ) → i < suc (length ts)
          → (first_place p ts ≡ length ts → (i : ℕ) → i < length ts → p (get_or ts i d) ≡ false) → p (get_or (t ∷ ts) i d) ≡ false
      go true q e i l ih = absurd (omega arith)
      go false q e zero l ih = q
      go false q e (suc i) l ih = ih (omega arith) i (omega arith)

module _ (n p : ℕ) where
  pub below_there : p < n → place_below n p ≡ Some (record { 0 = p })
  below_there h = rw (lt-ltb p n h)

  pub below_past : n ≤ p → place_below n p ≡ None
  below_past h = rw (le-ltb p n h)

  pub below_some : (q : Place) → place_below n p ≡ Some q → (p < n) × (q.0 ≡ p)
  below_some q e = go (ltb p n) refl e
    where
      go : (b : Bool) → ltb p n ≡ b → cond {A = Option Place} b (Some (record { 0 = p })) None ≡ Some q → (p < n) × (q.0 ≡ p)
      go true t f = (ltb-true p n t, cc)
      go false t f = clash (cc)

  pub below_none : place_below n p ≡ None → n ≤ p
  below_none e = go (ltb p n) refl e
    where
      go : (b : Bool) → ltb p n ≡ b → cond {A = Option Place} b (Some (record { 0 = p })) None ≡ None → n ≤ p
      go true t f = clash (cc)
      go false t f = ltb-false p n t
