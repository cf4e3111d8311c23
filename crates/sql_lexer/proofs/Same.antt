-- Two token lists with the same kinds: the same places are changed, to the same tokens; and where what is left has the same text, the same
-- text is written.
-- put_or_kept      a place of a sanitised list is as it was, or it is a kind that the sanitiser puts
-- kept_same        a place kept in one list is kept in the other
-- put_same         a place changed in one list holds the same token in the other
-- written_same     lists whose tokens have the same texts, each over its own statement, are written the same
-- sanitised_same   hence two sanitised lists, where each place that is kept has the same text
-- Assumes nothing.
use mathlib.Core.Path.{◌≡◌, refl, sym, ap, ◌∙◌}
use mathlib.Core.Bool.{Bool, true, false, cond, ◌&&◌}
use mathlib.Core.List.{List, [], ◌∷◌}
use Prim.Native.Nat.{ℕ, suc, ◌-◌}
use native.Mathlib.Omega.{arith}
use lib.Dec.{eqb}
use lib.ListN.{length, get_or, take, drop, get_or-map}
use mathlib.Core.Logic.{◌⊎◌, inl, inr, ⊎_elim}
use Rattle.chars.proofs.Bytes.{and_l, and_r}
use borrow.Author.Tests.{eqb-true}
use Rattle.tokens.specs.Kinds as kind
use Rattle.tokens.specs.declared.slot.Slot.{Slot}
use Rattle.tokens.specs.Slots.{bare, kinds}
use Rattle.tokens.specs.Content.{within, content}
use Rattle.tokens.specs.Formed.{carries_offsets, well_formed}
use Rattle.tokens.proofs.Storing.{slot_ext}
use Rattle.sanitizer.specs.Run.{sanitized}
use Rattle.sanitizer.proofs.Alike.{SameAt, length_same, same_kinds_same_changes}
use Rattle.sanitizer.proofs.Keeping.{Put, get_or-set_either, keep_sanitized, length-sanitized, AllFormed}
use Rattle.writer.specs.Written.{token_text, written}

-- slot i of a list
abbrev pub at : List Slot → ℕ → Slot
at ts i = get_or ts i (bare kind.None)

-- ---- places
pub put_or_kept : (ts : List Slot) (i : ℕ) → (at (sanitized ts) i ≡ at ts i) ⊎ ((k : ℕ) × Put k × (at (sanitized ts) i ≡ bare k))
put_or_kept ts i =
    keep_sanitized (λ (us : List Slot). (at us i ≡ at ts i) ⊎ ((k : ℕ) × Put k × (at us i ≡ bare k)))
    (λ us j k z h. ⊎_elim (λ e. inr (k, z, e)) (λ e. ⊎_elim (λ f. inl (e ∙ f)) (λ f. inr (f.0, f.1, e ∙ f.2)) h) (get_or-set_either us j (bare k) i (bare kind.None)))
    ts (inl refl)

-- a well-formed token of a kind that the sanitiser puts carries nothing
put_nothing : (t : Slot) (k : ℕ) → Put k → t.kind ≡ k → well_formed t ≡ true → (eqb t.first 0 && eqb t.second 0) ≡ true
unfolding well_formed carries_offsets
put_nothing t k (inl z) e f = rw (e, z) at f
put_nothing t k (inr (inl z)) e f = rw (e, z) at f
put_nothing t k (inr (inr z)) e f = rw (e, z) at f

put_bare : (t : Slot) (k : ℕ) → Put k → t.kind ≡ k → well_formed t ≡ true → t ≡ bare k
put_bare t k z e f =
    let g : (eqb t.first 0 && eqb t.second 0) ≡ true = put_nothing t k z e f in
    slot_ext t (bare k) e (eqb-true t.first 0 (and_l (eqb t.first 0) (eqb t.second 0) g)) (eqb-true t.second 0 (and_r (eqb t.first 0) (eqb t.second 0) g))

module _ (ts us : List Slot) (e : kinds ts ≡ kinds us) where
  kind_same : (i : ℕ) → (at ts i).kind ≡ (at us i).kind
  kind_same i =
      sym (get_or-map (λ (t : Slot). t.kind) ts i (bare kind.None))
      ∙ ap (λ (ks : List ℕ). get_or ks i kind.None) e
      ∙ get_or-map (λ (t : Slot). t.kind) us i (bare kind.None)

  pub kept_same : AllFormed us → (i : ℕ) → at (sanitized ts) i ≡ at ts i → at (sanitized us) i ≡ at us i
  kept_same f i h = from ((same_kinds_same_changes ts us e).same_at i) (put_or_kept us i)
    where
      from : SameAt ts us (sanitized ts) (sanitized us) i → (at (sanitized us) i ≡ at us i) ⊎ ((k : ℕ) × Put k × (at (sanitized us) i ≡ bare k))
          → at (sanitized us) i ≡ at us i
      from (inl p) q = p.1
      from (inr p) (inl q) = q
      from (inr p) (inr q) =
          let k : (at us i).kind ≡ q.0 =
          sym (kind_same i) ∙ sym (ap (λ (t : Slot). t.kind) h) ∙ ap (λ (t : Slot). t.kind) (p.1 ∙ sym p.2 ∙ q.2) in
          q.2 ∙ sym (put_bare (at us i) q.0 q.1 k (f i))

  pub put_same : (i : ℕ) → (at (sanitized ts) i ≡ at ts i → ⊥) → at (sanitized ts) i ≡ at (sanitized us) i
  put_same i h = from ((same_kinds_same_changes ts us e).same_at i)
    where
      from : SameAt ts us (sanitized ts) (sanitized us) i → at (sanitized ts) i ≡ at (sanitized us) i
      from (inl p) = absurd (h p.0)
      from (inr p) = p.1 ∙ sym p.2

-- ---- texts
content_none : (x : List ℕ) → content x 0 0 ≡ []
unfolding content
content_none x = go (within x 0 0)
  where
    go : (b : Bool) → cond b (take (0 - 0) (drop 0 x)) [] ≡ []
    go true = refl
    go false = refl

module _ (x y : List ℕ) where
  pub written_same : (ts us : List Slot) → length ts ≡ length us → ((i : ℕ) → token_text x (at ts i) ≡ token_text y (at us i)) → written x ts ≡ written y us
  unfolding written
  written_same [] [] e h = refl
  written_same [] (u ∷ us) e h = absurd (omega arith)
  written_same (t ∷ ts) [] e h = absurd (omega arith)
  written_same (t ∷ ts) (u ∷ us) e h = rw (h 0, written_same ts us (omega arith) (λ i. h (suc i)))

  -- a token that carries nothing has one text over any statement
  pub bare_text : (k : ℕ) → token_text x (bare k) ≡ token_text y (bare k)
  unfolding token_text
  bare_text k = rw (content_none x, content_none y)

  pub sanitised_same : (ts us : List Slot) → kinds ts ≡ kinds us → ((i : ℕ) → at (sanitized ts) i ≡ at ts i → token_text x (at ts i) ≡ token_text y (at us i))
      → written x (sanitized ts) ≡ written y (sanitized us)
  sanitised_same ts us e h = written_same (sanitized ts) (sanitized us) (long) (λ i. from i ((same_kinds_same_changes ts us e).same_at i))
    where
      long : length (sanitized ts) ≡ length (sanitized us)
      long = length-sanitized ts ∙ length_same ts us e ∙ sym (length-sanitized us)

      from : (i : ℕ) → SameAt ts us (sanitized ts) (sanitized us) i → token_text x (at (sanitized ts) i) ≡ token_text y (at (sanitized us) i)
      from i (inl p) = ap (token_text x) p.0 ∙ h i p.0 ∙ ap (token_text y) (sym p.1)
      from i (inr p) = ap (token_text x) p.1 ∙ bare_text p.0 ∙ ap (token_text y) (sym p.2)
