-- One pass over a token list: which tokens may not be written.
-- faulty_first, _second   a token of a kind before Other, by its two numbers
-- faulty_carries, -bare   a token that carries offsets, and one that carries none
-- or-le, or_same    the first place that passes one of two tests
-- faulty_none, faulty-cuts   no token is faulty; none is malformed
-- Assumes nothing.
use mathlib.Core.Path.{◌≡◌, refl, ap, ◌∙◌}
use mathlib.Core.Bool.{Bool, true, false, cond, not, ◌||◌, ◌&&◌, or-false}
use mathlib.Core.List.{List, [], ◌∷◌}
use Prim.Native.Nat.{ℕ, suc, ◌≤◌, ◌<◌}
use native.Mathlib.Omega.{arith}
use lib.Dec.{eqb}
use lib.ListN.{length}
use borrow.Author.Tests.{eq-eqb, ne_eqb}
use Rattle.tokens.specs.declared.slot.Slot.{Slot}
use Rattle.tokens.specs.Kinds as kind
use Rattle.tokens.specs.Formed.{carries_offsets, well_formed, malformed, first_place}
use Rattle.tokens.proofs.Forms.{carries_low, formed_carries, formed_plain}
use Rattle.tokens.proofs.Places.{place_le}
use Rattle.writer.specs.Written.{cuts}
use Rattle.writer.specs.Survey.{faulty}

module _ (text : List ℕ) (t : Slot) (h : t.kind < kind.Other) where
  plain : faulty text t ≡ not (eqb t.first 0 && eqb t.second 0)
  unfolding faulty cuts
  plain = simp (formed_plain t (omega arith) (omega arith), carries_low t.kind (omega arith) (omega arith), or-false)

  pub faulty_first : (t.first ≡ 0 → ⊥) → faulty text t ≡ true
  faulty_first n = plain ∙ simp (ne_eqb t.first 0 n)

  pub faulty_second : t.first ≡ 0 → faulty text t ≡ not (eqb t.second 0)
  faulty_second z = plain ∙ simp (eq-eqb t.first 0 z)

module _ (text : List ℕ) (t : Slot) where
  pub faulty_carries : carries_offsets t.kind ≡ true → faulty text t ≡ cuts text t
  unfolding faulty
  faulty_carries e = simp (formed_carries t e)

  pub faulty-bare : carries_offsets t.kind ≡ false → faulty text t ≡ not (well_formed t)
  unfolding faulty cuts
  faulty-bare e = simp (e, or-false)

-- ---- the list
module _ (p q : Slot → Bool) where
  abbrev either : Slot → Bool
  either t = p t || q t

  or-le : (ts : List Slot) → first_place either ts ≤ first_place p ts
  unfolding first_place
  or-le [] = omega arith
  or-le (t ∷ ts) = go (p t) (q t) (or-le ts)
    where
      go : (a b : Bool) → first_place either ts ≤ first_place p ts → cond (a || b) 0 (suc (first_place either ts)) ≤ cond a 0 (suc (first_place p ts))
      go true b h = omega arith
      go false true h = omega arith
      go false false h = omega arith

  or_same : (ts : List Slot) → first_place p ts ≡ length ts → first_place either ts ≡ first_place q ts
  unfolding first_place
  or_same [] e = refl
  or_same (t ∷ ts) e = go (p t) (q t) e (or_same ts)
    where
      go : (a b : Bool) → cond a 0 (suc (first_place p ts)) ≡ suc (length ts) → (first_place p ts ≡ length ts → first_place either ts ≡ first_place q ts)
          → cond (a || b) 0 (suc (first_place either ts)) ≡ cond b 0 (suc (first_place q ts))
      go true b e ih = absurd (omega arith)
      go false true e ih = refl
      go false false e ih = ap suc (ih (omega arith))

module _ (text : List ℕ) (ts : List Slot) where
  pub faulty-cuts : length ts ≤ first_place malformed ts → first_place (faulty text) ts ≡ first_place (cuts text) ts
  unfolding faulty
  faulty-cuts h = or_same malformed (cuts text) ts (omega (arith, place_le malformed ts))

  pub faulty_none : length ts ≤ first_place (faulty text) ts → length ts ≤ first_place malformed ts
  unfolding faulty
  faulty_none h = omega (arith, or-le malformed (cuts text) ts)
