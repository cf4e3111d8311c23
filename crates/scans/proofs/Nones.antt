-- Stretches of a text where neither of two bytes stands.
-- from_on                         the text from an offset on
-- none_here, none_more, none_join   nothing yet, one byte more, two stretches
-- none_before, found_at           before the first of the two, and where it stands
-- found-none, found-some           what a look over blocks and then over bytes has found
-- neither, second                   a byte that is not one of the two; one that is, and not the first
-- Assumes nothing.
use mathlib.Core.Path.{◌≡◌, refl, sym, ap, ◌∙◌}
use mathlib.Core.Bool.{Bool, true, false, cond, not, ◌||◌, false≢true}
use mathlib.Core.Logic.{◌⊎◌, inl, inr}
use mathlib.Core.List.{List}
use Prim.Native.Nat.{ℕ, ◌+◌, ◌-◌, ◌≤◌, ◌<◌}
use native.Mathlib.Nat.{eq-or-lt_of_le}
use native.Mathlib.Decide.{dec_lt}
use native.Mathlib.Omega.{arith}
use lib.Dec.{eqb}
use borrow.Author.Tests.{eqb-true, ne_eqb, ltb-true, ltb-false}
use lib.ListN.{length, get_or, take, drop, length-drop}
use lib.Seq.{get_or-drop}
use Rattle.std.specs.Prelude.{None, Some}
use Rattle.std.specs.Bool.{nat_lt}
use Rattle.std.specs.List.{position, position_or_len}
use Rattle.std.proofs.lemmas.List.Sums.{prefix_len_passes, prefix_len_stops}
use Rattle.std.proofs.lemmas.List.{take_all}
use Rattle.chars.specs.Steps.{offset}
use Rattle.chars.proofs.Scalars.{clash}
use Rattle.scans.specs.Next.{is_of, NoneOf, FoundOf}

-- as the code takes the text from an offset on
pub from_on : (t : List ℕ) (from : ℕ) → take (length t - from) (drop from t) ≡ drop from t
from_on t from = take_all (length t - from) (drop from t) (omega (arith, length-drop from t))

module _ (a b : ℕ) (t : List ℕ) (from : ℕ) where
  pub none_here : (to : ℕ) → to ≤ from → NoneOf a b t from to
  none_here to h i l m = absurd (omega arith)

  pub none_more : (to next : ℕ) → next ≤ to + 1 → NoneOf a b t from to → is_of a b (get_or t to 0) ≡ false → NoneOf a b t from next
  none_more to next h f e i l m = go (eq-or-lt_of_le (omega arith))
    where
      go : (i ≡ to) ⊎ (i < to) → is_of a b (get_or t i 0) ≡ false
      go (inl q) = rw q e
      go (inr k) = f i l k

  pub none_join : (mid to : ℕ) → NoneOf a b t from mid → NoneOf a b t mid to → NoneOf a b t from to
  none_join mid to f g i l m = go (dec_lt i mid)
    where
      go : Dec (i < mid) → is_of a b (get_or t i 0) ≡ false
      go (yes k) = f i l k
      go (no k) = g i (omega arith) m

  -- from the offset from on neither of the two stands among the first bytes of the rest
  pub none_after : (n : ℕ) → NoneOf a b (drop from t) 0 n → NoneOf a b t from (from + n)
  none_after n f i l m =
      let e : get_or (drop from t) (i - from) 0 ≡ get_or t i 0 = get_or-drop from t (i - from) 0 ∙ ap (λ (k : ℕ). get_or t k 0) (omega arith) in
      rw e at (f (i - from) (omega arith) (omega arith))

-- the first of the two by the library's words
module _ (a b : ℕ) where
  pub none_before : (l : List ℕ) (n : ℕ) → n ≤ position_or_len (is_of a b) l → NoneOf a b l 0 n
  none_before l n h i _ m = not_true (is_of a b (get_or l i 0)) (prefix_len_passes (λ (c : ℕ). not (is_of a b c)) l i 0 (omega arith))
    where
      not_true : (x : Bool) → not x ≡ true → x ≡ false
      not_true false e = refl
      not_true true e = sym e

  pub found_at : (l : List ℕ) → position_or_len (is_of a b) l < length l → is_of a b (get_or l (position_or_len (is_of a b) l) 0) ≡ true
  found_at l h = not_false (is_of a b (get_or l (position_or_len (is_of a b) l) 0)) (prefix_len_stops (λ (c : ℕ). not (is_of a b c)) l 0 h)
    where
      not_false : (x : Bool) → not x ≡ false → x ≡ true
      not_false true e = refl
      not_false false e = sym e

-- a look from the offset from on, over blocks up to the offset at, and then over bytes
module _ (a b : ℕ) (t : List ℕ) (from at : ℕ) (after : from ≤ at) (within : at ≤ length t) (none : NoneOf a b t from at) where
  abbrev pub rest : List ℕ
  rest = drop at t

  rest-length : length rest ≡ length t - at
  rest-length = length-drop at t

  pub found-none : position (is_of a b) rest ≡ None → FoundOf a b t from None
  found-none e = go (nat_lt (position_or_len (is_of a b) rest) (length rest)) refl e
    where
      go : (x : Bool) → nat_lt (position_or_len (is_of a b) rest) (length rest) ≡ x → cond x (Some (position_or_len (is_of a b) rest)) None ≡ None → FoundOf a b t from None
      go true q d = clash (cc)
      go false q d = record {
        after = omega arith;
        within = omega arith;
        none = none_join a b t from at (length t) none (λ i l m. none_after a b t at (length t - at) (none_before a b rest (length t - at) (omega (arith, ltb-false (position_or_len (is_of a b) rest) (length rest) q, rest-length))) i l (omega arith));
        found = λ h. absurd (omega arith);
      }

  pub found-some : (n : ℕ) → position (is_of a b) rest ≡ Some n → FoundOf a b t from (Some (offset (at + n)))
  found-some n e = go (nat_lt (position_or_len (is_of a b) rest) (length rest)) refl e
    where
      go : (x : Bool) → nat_lt (position_or_len (is_of a b) rest) (length rest) ≡ x → cond x (Some (position_or_len (is_of a b) rest)) None ≡ Some n → FoundOf a b t from (Some (offset (at + n)))
      go true q d =
          let p : position_or_len (is_of a b) rest ≡ n = cc in
          let h : position_or_len (is_of a b) rest < length rest = ltb-true (position_or_len (is_of a b) rest) (length rest) q in (
            record {
              after = omega arith;
              within = omega (arith, rest-length, h, p);
              none = none_join a b t from at (at + n) none (none_after a b t at n (none_before a b rest n (omega (arith, p))));
              found = λ k. rw (p, get_or-drop at t n 0) at (found_at a b rest h);
            },
            omega (arith, rest-length, h, p),
          )
      go false q d = clash (cc)

module _ (a b c : ℕ) where
  pub neither : is_of a b c ≡ false → (eqb c a ≡ false) × (eqb c b ≡ false)
  unfolding is_of
  neither e = go (eqb c a) e
    where
      go : (x : Bool) → (x || eqb c b) ≡ false → (x ≡ false) × (eqb c b ≡ false)
      go false q = (refl, q)
      go true q = absurd (false≢true (sym q))

  pub second : is_of a b c ≡ true → (c ≡ a → ⊥) → c ≡ b
  unfolding is_of
  second e n = eqb-true c b (rw (ne_eqb c a n) at e)
