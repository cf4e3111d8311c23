-- What stands at an offset, by its bytes alone: how many it takes, without a value joined.
-- fits_three_lem, fits_four_lem  the second byte tells whether the joined value is in range
-- size_one .. size_four  the size, by the lead byte, where the bytes after it follow and the value is in range
-- second_none .. fourth_none  none where a byte is missing or does not follow; size_low where the lead byte is below 0xC2
-- Assumes nothing.
use mathlib.Core.Path.{◌≡◌, refl, ap, ◌∙◌}
use mathlib.Core.Bool.{Bool, true, false, cond, ◌&&◌}
use mathlib.Core.Option.{Option, none, some}
use mathlib.Core.List.{List}
use Prim.Native.Nat.{ℕ, suc, ◌+◌, ◌-◌, ◌*◌, ◌≤◌, ◌<◌}
use native.Mathlib.Omega.{arith}
use lib.Dec.{leb, ltb, eqb}
use lib.ListN.{length, get_or, drop}
use borrow.Author.Tests.{le-leb, lt-leb, le-ltb, leb-true, leb-false, ltb-true, ltb-false, eqb-true, eqb-false, ne_eqb}
use Rattle.std.specs.Prelude.{Option as Maybe, Some, None}
use Rattle.chars.specs.Utf8.{Front, bad, follows, is_scalar, joined, ranged, front}
use Rattle.chars.specs.Steps.{size_of, following, fits_three, fits_four}
use Rattle.chars.proofs.Bytes.{follows_range, scalar_low, scalar_between, scalar_high, scalar_beyond}
use Rattle.chars.proofs.Scalars.{joined_below}
use Rattle.chars.proofs.Joining.{joined_stop, joined_next}
use Rattle.chars.proofs.Fronts.{front_one, front_stray, front_two, front_three, front_four, front_none}

-- ---- whether the joined value is in range
in_range : (least s : ℕ) → least ≤ s → is_scalar s ≡ true → (leb least s && is_scalar s) ≡ true
in_range least s h e = simp (le-leb least s h, e)

too_low : (least s : ℕ) → s < least → (leb least s && is_scalar s) ≡ false
too_low least s h = simp (lt-leb least s h)

no_scalar : (least s : ℕ) → least ≤ s → is_scalar s ≡ false → (leb least s && is_scalar s) ≡ false
no_scalar least s h e = simp (le-leb least s h, e)

-- c is what the bytes after the second add
fits_three_lem : (a b c : ℕ) → 0xE0 ≤ a → a < 0xF0 → 0x80 ≤ b → b < 0xC0 → c < 64
    → (leb 0x800 (((a - 0xE0) * 64 + (b - 0x80)) * 64 + c) && is_scalar (((a - 0xE0) * 64 + (b - 0x80)) * 64 + c)) ≡ fits_three a b
unfolding fits_three
fits_three_lem a b c la ha lb hb hc = go (eqb a 0xE0) (eqb a 0xED) refl refl
  where
    s : ℕ
    s = ((a - 0xE0) * 64 + (b - 0x80)) * 64 + c

    first : (p : Bool) → a ≡ 0xE0 → leb 0xA0 b ≡ p → (leb 0x800 s && is_scalar s) ≡ p
    first true e q = let h = leb-true 0xA0 b q in in_range 0x800 s (omega arith) (scalar_low s (omega arith))
    first false e q = let h = leb-false 0xA0 b q in too_low 0x800 s (omega arith)

    middle : (p : Bool) → a ≡ 0xED → ltb b 0xA0 ≡ p → (leb 0x800 s && is_scalar s) ≡ p
    middle true e q = let h = ltb-true b 0xA0 q in in_range 0x800 s (omega arith) (scalar_low s (omega arith))
    middle false e q = let h = ltb-false b 0xA0 q in no_scalar 0x800 s (omega arith) (scalar_between s (omega arith) (omega arith))

    other : (p : Bool) → ltb a 0xED ≡ p → (a ≡ 0xE0 → ⊥) → (a ≡ 0xED → ⊥) → (leb 0x800 s && is_scalar s) ≡ true
    other true q n m = let h = ltb-true a 0xED q in in_range 0x800 s (omega arith) (scalar_low s (omega arith))
    other false q n m = let h = ltb-false a 0xED q in in_range 0x800 s (omega arith) (scalar_high s (omega arith) (omega arith))

    go : (p q : Bool) → eqb a 0xE0 ≡ p → eqb a 0xED ≡ q → (leb 0x800 s && is_scalar s) ≡ cond p (leb 0xA0 b) (cond q (ltb b 0xA0) true)
    go true q e f = first (leb 0xA0 b) (eqb-true a 0xE0 e) refl
    go false true e f = middle (ltb b 0xA0) (eqb-true a 0xED f) refl
    go false false e f = other (ltb a 0xED) refl (eqb-false a 0xE0 e) (eqb-false a 0xED f)

fits_four_lem : (a b c : ℕ) → 0xF0 ≤ a → a < 0xF8 → 0x80 ≤ b → b < 0xC0 → c < 4096
    → (leb 0x10000 (((a - 0xF0) * 64 + (b - 0x80)) * 4096 + c) && is_scalar (((a - 0xF0) * 64 + (b - 0x80)) * 4096 + c)) ≡ fits_four a b
unfolding fits_four
fits_four_lem a b c la ha lb hb hc = go (eqb a 0xF0) (eqb a 0xF4) refl refl
  where
    s : ℕ
    s = ((a - 0xF0) * 64 + (b - 0x80)) * 4096 + c

    first : (p : Bool) → a ≡ 0xF0 → leb 0x90 b ≡ p → (leb 0x10000 s && is_scalar s) ≡ p
    first true e q = let h = leb-true 0x90 b q in in_range 0x10000 s (omega arith) (scalar_high s (omega arith) (omega arith))
    first false e q = let h = leb-false 0x90 b q in too_low 0x10000 s (omega arith)

    last : (p : Bool) → a ≡ 0xF4 → ltb b 0x90 ≡ p → (leb 0x10000 s && is_scalar s) ≡ p
    last true e q = let h = ltb-true b 0x90 q in in_range 0x10000 s (omega arith) (scalar_high s (omega arith) (omega arith))
    last false e q = let h = ltb-false b 0x90 q in no_scalar 0x10000 s (omega arith) (scalar_beyond s (omega arith))

    other : (p : Bool) → ltb a 0xF4 ≡ p → (a ≡ 0xF0 → ⊥) → (a ≡ 0xF4 → ⊥) → (leb 0x10000 s && is_scalar s) ≡ p
    other true q n m = let h = ltb-true a 0xF4 q in in_range 0x10000 s (omega arith) (scalar_high s (omega arith) (omega arith))
    other false q n m = let h = ltb-false a 0xF4 q in no_scalar 0x10000 s (omega arith) (scalar_beyond s (omega arith))

    go : (p q : Bool) → eqb a 0xF0 ≡ p → eqb a 0xF4 ≡ q → (leb 0x10000 s && is_scalar s) ≡ cond p (leb 0x90 b) (cond q (ltb b 0x90) (ltb a 0xF4))
    go true q e f = first (leb 0x90 b) (eqb-true a 0xF0 e) refl
    go false true e f = last (ltb b 0x90) (eqb-true a 0xF4 f) refl
    go false false e f = other (ltb a 0xF4) refl (eqb-false a 0xF0 e) (eqb-false a 0xF4 f)

-- ---- the size, from the joined bits
size_of_none : (n least : ℕ) (o : Option ℕ) → o ≡ none → None ≡ size_of (ranged n least o)
unfolding size_of ranged
size_of_none n least o e = rw e

size_of_bad : (f : Front) → f ≡ bad → None ≡ size_of f
unfolding size_of
size_of_bad f e = rw e

over_four : (a b : ℕ) → 0xF8 ≤ a → ◌≡◌ {A = Maybe ℕ} (cond {A = Maybe ℕ} (fits_four a b) (Some 4) None) None
unfolding fits_four
over_four a b h =
    let k : 0xF4 ≤ a = omega arith in
    simp (ne_eqb a 0xF0 (λ q. omega arith), ne_eqb a 0xF4 (λ q. omega arith), le-ltb a 0xF4 k)

size_of_some : (n least s : ℕ) (o : Option ℕ) (p : Bool) → o ≡ some s → (leb least s && is_scalar s) ≡ p → cond {A = Maybe ℕ} p (Some (suc n)) None ≡ size_of (ranged n least o)
unfolding size_of ranged
size_of_some n least s o true e q = rw (e, q)
size_of_some n least s o false e q = rw (e, q)

joined-zero : (x : ℕ) (l : List ℕ) → joined 0 x l ≡ some x
unfolding joined
joined-zero x l = refl

-- ---- the size, by the bytes at an offset
module _ (t : List ℕ) (at : ℕ) (h : at < length t) where
  pub size_one : get_or t at 0 < 0x80 → Some 1 ≡ size_of (front (drop at t))
  unfolding size_of
  size_one l = rw (front_one t at h l)

  -- no character starts where none of two, three or four bytes, as the lead byte has it, are there
  none_joined : 0xC0 ≤ get_or t at 0 → (get_or t at 0 < 0xE0 → (x : ℕ) → joined 1 x (drop (at + 1) t) ≡ none)
      → (get_or t at 0 < 0xF0 → (x : ℕ) → joined 2 x (drop (at + 1) t) ≡ none) → ((x : ℕ) → joined 3 x (drop (at + 1) t) ≡ none)
      → None ≡ size_of (front (drop at t))
  none_joined l two three four = go (ltb (get_or t at 0) 0xE0) (ltb (get_or t at 0) 0xF0) (ltb (get_or t at 0) 0xF8) refl refl refl
    where
      go : (p q r : Bool) → ltb (get_or t at 0) 0xE0 ≡ p → ltb (get_or t at 0) 0xF0 ≡ q → ltb (get_or t at 0) 0xF8 ≡ r → None ≡ size_of (front (drop at t))
      go true q r e f g = let m = ltb-true _ _ e in rw (front_two t at h l m) (size_of_none 1 0x80 _ (two m _))
      go false true r e f g =
          let k = ltb-false _ _ e in
          let m = ltb-true _ _ f in
          rw (front_three t at h k m) (size_of_none 2 0x800 _ (three m _))
      go false false true e f g =
          let k = ltb-false _ _ f in
          let m = ltb-true _ _ g in
          rw (front_four t at h k m) (size_of_none 3 0x10000 _ (four _))
      go false false false e f g = let k = ltb-false _ _ g in size_of_bad (front (drop at t)) (front_none t at h k)

  pub size_low : 0x80 ≤ get_or t at 0 → get_or t at 0 < 0xC2 → None ≡ size_of (front (drop at t))
  size_low l m = go (ltb (get_or t at 0) 0xC0) refl
    where
      few : (o : Option ℕ) (x : ℕ) → x < 2 → joined 1 x (drop (at + 1) t) ≡ o → None ≡ size_of (ranged 1 0x80 o)
      few none x k e = size_of_none 1 0x80 none refl
      few (some s) x k e =
          let j : s < 0x80 = omega (arith, joined_below 1 x s (drop (at + 1) t) e) in
          size_of_some 1 0x80 s (some s) false refl (too_low 0x80 s j)

      go : (p : Bool) → ltb (get_or t at 0) 0xC0 ≡ p → None ≡ size_of (front (drop at t))
      go true e = size_of_bad (front (drop at t)) (front_stray t at h l (ltb-true _ _ e))
      go false e =
          let k = ltb-false _ _ e in
          rw (front_two t at h k (omega arith)) (few (joined 1 (get_or t at 0 - 0xC0) (drop (at + 1) t)) (get_or t at 0 - 0xC0) (omega arith) refl)

  module _ (l : 0xC2 ≤ get_or t at 0) where
    lead : 0xC0 ≤ get_or t at 0
    lead = omega arith

    pub second_none : following (drop (at + 1) t) ≡ None → None ≡ size_of (front (drop at t))
    second_none e = none_joined lead (λ _ x. joined_stop 0 x _ e) (λ _ x. joined_stop 1 x _ e) (λ x. joined_stop 2 x _ e)

    module _ (m : at + 1 < length t) where
      module _ (fb : follows (get_or t (at + 1) 0) ≡ true) where
        -- one byte joined
        joined_one : (n x : ℕ) → joined (suc n) x (drop (at + 1) t) ≡ joined n (x * 64 + (get_or t (at + 1) 0 - 0x80)) (drop (at + 2) t)
        joined_one n x =
            let e : at + 1 + 1 ≡ at + 2 = omega arith in
            joined_next t (at + 1) n x m fb ∙ ap (λ (k : ℕ). joined n (x * 64 + (get_or t (at + 1) 0 - 0x80)) (drop k t)) e

        pub size_two : get_or t at 0 < 0xE0 → Some 2 ≡ size_of (front (drop at t))
        size_two k =
            let b = follows_range _ fb in
            let s : ℕ = (get_or t at 0 - 0xC0) * 64 + (get_or t (at + 1) 0 - 0x80) in
            rw (front_two t at h lead k)
            (size_of_some 1 0x80 s _ true (joined_one 0 (get_or t at 0 - 0xC0) ∙ joined-zero _ _) (in_range 0x80 s (omega arith) (scalar_low s (omega arith))))

        module _ (l2 : 0xE0 ≤ get_or t at 0) where
          pub third_none : following (drop (at + 2) t) ≡ None → None ≡ size_of (front (drop at t))
          third_none e = none_joined lead (λ j x. absurd (omega arith)) (λ _ x. joined_one 1 x ∙ joined_stop 0 _ _ e) (λ x. joined_one 2 x ∙ joined_stop 1 _ _ e)

          module _ (m2 : at + 2 < length t) where
            module _ (fc : follows (get_or t (at + 2) 0) ≡ true) where
              joined_two : (n x : ℕ) → joined (suc (suc n)) x (drop (at + 1) t)
                  ≡ joined n ((x * 64 + (get_or t (at + 1) 0 - 0x80)) * 64 + (get_or t (at + 2) 0 - 0x80)) (drop (at + 3) t)
              joined_two n x =
                  let e : at + 2 + 1 ≡ at + 3 = omega arith in
                  joined_one (suc n) x ∙ joined_next t (at + 2) n _ m2 fc
                  ∙ ap (λ (k : ℕ). joined n ((x * 64 + (get_or t (at + 1) 0 - 0x80)) * 64 + (get_or t (at + 2) 0 - 0x80)) (drop k t)) e

              pub size_three : get_or t at 0 < 0xF0 → cond {A = Maybe ℕ} (fits_three (get_or t at 0) (get_or t (at + 1) 0)) (Some 3) None ≡ size_of (front (drop at t))
              size_three k =
                  let b = follows_range _ fb in
                  let c = follows_range _ fc in
                  rw (front_three t at h l2 k)
                  (size_of_some 2 0x800 _ _ _ (joined_two 0 (get_or t at 0 - 0xE0) ∙ joined-zero _ _)
                  (fits_three_lem (get_or t at 0) (get_or t (at + 1) 0) (get_or t (at + 2) 0 - 0x80) l2 k b.0 b.1 (omega arith)))

              module _ (l3 : 0xF0 ≤ get_or t at 0) where
                pub fourth_none : following (drop (at + 3) t) ≡ None → None ≡ size_of (front (drop at t))
                fourth_none e = none_joined lead (λ j x. absurd (omega arith)) (λ j x. absurd (omega arith)) (λ x. joined_two 1 x ∙ joined_stop 0 _ _ e)

                module _ (m3 : at + 3 < length t) where
                  -- all four bytes; above 0xF7 the lead byte fits nothing
                  pub size_four : follows (get_or t (at + 3) 0) ≡ true → cond {A = Maybe ℕ} (fits_four (get_or t at 0) (get_or t (at + 1) 0)) (Some 4) None ≡ size_of (front (drop at t))
                  size_four fd = go (ltb (get_or t at 0) 0xF8) refl
                    where
                      go : (p : Bool) → ltb (get_or t at 0) 0xF8 ≡ p → cond {A = Maybe ℕ} (fits_four (get_or t at 0) (get_or t (at + 1) 0)) (Some 4) None ≡ size_of (front (drop at t))
                      go true e =
                          let k = ltb-true _ _ e in
                          let b = follows_range _ fb in
                          let c = follows_range _ fc in
                          let d = follows_range _ fd in
                          let v : ((((get_or t at 0 - 0xF0) * 64 + (get_or t (at + 1) 0 - 0x80)) * 64 + (get_or t (at + 2) 0 - 0x80)) * 64 + (get_or t (at + 3) 0 - 0x80))
                          ≡ ((get_or t at 0 - 0xF0) * 64 + (get_or t (at + 1) 0 - 0x80)) * 4096 + ((get_or t (at + 2) 0 - 0x80) * 64 + (get_or t (at + 3) 0 - 0x80)) = omega arith in
                          rw (front_four t at h l3 k)
                          (size_of_some 3 0x10000 _ _ _ (joined_two 1 (get_or t at 0 - 0xF0) ∙ joined_next t (at + 3) 0 _ m3 fd ∙ joined-zero _ _ ∙ ap some v)
                          (fits_four_lem (get_or t at 0) (get_or t (at + 1) 0) ((get_or t (at + 2) 0 - 0x80) * 64 + (get_or t (at + 3) 0 - 0x80)) l3 k b.0 b.1 (omega arith)))
                      go false e =
                          let k = ltb-false _ _ e in
                          over_four (get_or t at 0) (get_or t (at + 1) 0) k ∙ size_of_bad (front (drop at t)) (front_none t at h k)
