-- What a character that was read is, and that each scalar value's encoding is read back.
-- clash              0 is not 1: a case that cannot be
-- joined_below       n following bytes add 6 n bits
-- Ranged, ranged_is  what is known where the joined bits were taken
-- Read, front_read   a character is a scalar value, in as many bytes as it takes
-- read_back          each scalar value's encoding, with anything after it, is read back
-- Assumes nothing.
use mathlib.Core.Path.{◌≡◌, refl, sym, ap, ◌∙◌, subst}
use mathlib.Core.Bool.{Bool, true, false, cond, ◌&&◌, ◌||◌}
use mathlib.Core.Option.{Option, none, some}
use mathlib.Core.List.{List, [], ◌∷◌, ◌++◌}
use Prim.Native.Nat.{ℕ, zero, suc, ◌+◌, ◌-◌, ◌*◌, ◌/◌, ◌%◌, ◌^◌, ◌≤◌, ◌<◌}
use native.Mathlib.Nat.{le_trans, le_of_eq, lt_of_lt_of_le, mul-le-mul_right, mul_assoc, mul_comm, pow-suc, div-div-eq-div-mul}
use native.Mathlib.Omega.{arith}
use lib.Dec.{leb, ltb}
use lib.ListN.{length}
use borrow.Author.Tests.{le-leb, lt-ltb, le-ltb, leb-true, ltb-true, ltb-false}
use Rattle.chars.proofs.Bytes.{and_l, and_r, follows_range, scalar_low, width_1, width_2, width_3, width_4}
use Rattle.chars.specs.Utf8.{char, bad, follows, is_scalar, joined, ranged, front, encode, width}

pub clash : {A : Type 0} → ◌≡◌ {A = ℕ} 0 1 → A
clash e = absurd (omega arith)

-- n following bytes add 6 n bits
pub joined_below : (n x s : ℕ) (l : List ℕ) → joined n x l ≡ some s → s < suc x * 64 ^ n
unfolding joined
joined_below zero x s l e = let z : x ≡ s = cc in omega arith
joined_below (suc n) x s [] e = clash (cc)
joined_below (suc n) x s (b ∷ l) e = go (follows b) refl (λ q. joined_below n (x * 64 + (b - 0x80)) s l q) e
  where
    go : (p : Bool) → follows b ≡ p → (joined n (x * 64 + (b - 0x80)) l ≡ some s → s < suc (x * 64 + (b - 0x80)) * 64 ^ n)
        → cond p (joined n (x * 64 + (b - 0x80)) l) none ≡ some s → s < suc x * 64 ^ suc n
    go true p f q =
        let k : suc (x * 64 + (b - 0x80)) ≤ suc x * 64 = omega (arith, follows_range b p) in
        let m : suc x * 64 * 64 ^ n ≡ suc x * 64 ^ suc n = mul_assoc (suc x) 64 (64 ^ n) ∙ ap (λ (y : ℕ). suc x * y) (mul_comm 64 (64 ^ n) ∙ sym (pow-suc 64 n)) in
        lt_of_lt_of_le (f q) (le_trans (mul-le-mul_right (64 ^ n) k) (le_of_eq m))
    go false p f q = clash (cc)

pub record Ranged (n least x s m : ℕ) (l : List ℕ) : Type 0 where
  pub count : m ≡ n
  pub value : joined n x l ≡ some s
  pub least_le : least ≤ s
  pub scalar : is_scalar s ≡ true

pub ranged_is : (n least x s m : ℕ) (l : List ℕ) → ranged n least (joined n x l) ≡ char s m → Ranged n least x s m l
unfolding ranged
ranged_is n least x s m l e = go (joined n x l) refl e
  where
    go : (o : Option ℕ) → joined n x l ≡ o → ranged n least o ≡ char s m → Ranged n least x s m l
    go none p q = clash (cc)
    go (some v) p q = go' (leb least v && is_scalar v) refl q
      where
        go' : (b : Bool) → (leb least v && is_scalar v) ≡ b → cond b (char v n) bad ≡ char s m → Ranged n least x s m l
        go' true t r =
            let z : v ≡ s = cc in
            record {
              count = cc;
              value = cc;
              least_le = subst (λ (y : ℕ). least ≤ y) z (leb-true least v (and_l _ (is_scalar v) t));
              scalar = subst (λ (y : ℕ). is_scalar y ≡ true) z (and_r (leb least v) _ t);
            }
        go' false t r = clash (cc)

-- what is known of a character that was read
pub record Read (s n : ℕ) : Type 0 where
  pub scalar : is_scalar s ≡ true
  pub wide : suc n ≡ width s

pub front_read : (l : List ℕ) (s n : ℕ) → front l ≡ char s n → Read s n
unfolding front
front_read [] s n e = clash (cc)
front_read (a ∷ l) s n e = go (ltb a 0x80) (ltb a 0xC0) (ltb a 0xE0) (ltb a 0xF0) (ltb a 0xF8) refl refl refl refl e
  where
    go : (p q r u v : Bool) → ltb a 0x80 ≡ p → ltb a 0xE0 ≡ r → ltb a 0xF0 ≡ u → ltb a 0xF8 ≡ v
        → cond p (char a 0) (cond q bad (cond r (ranged 1 0x80 (joined 1 (a - 0xC0) l)) (cond u (ranged 2 0x800 (joined 2 (a - 0xE0) l))
        (cond v (ranged 3 0x10000 (joined 3 (a - 0xF0) l)) bad)))) ≡ char s n → Read s n
    go true q r u v p1 p3 p4 p5 e' =
        let z : a ≡ s = cc in
        let y : 0 ≡ n = cc in
        let h : s < 0x80 = omega (arith, ltb-true a 0x80 p1) in
        record { scalar = scalar_low s (omega arith); wide = ap suc (sym y) ∙ width_1 s h }
    go false true r u v p1 p3 p4 p5 e' = clash (cc)
    go false false true u v p1 p3 p4 p5 e' =
        let i = ranged_is 1 0x80 (a - 0xC0) s n l e' in
        let h : s < 0x800 = omega (arith, joined_below 1 (a - 0xC0) s l i.value, ltb-true a 0xE0 p3) in
        record { scalar = i.scalar; wide = ap suc i.count ∙ width_2 s i.least_le h }
    go false false false true v p1 p3 p4 p5 e' =
        let i = ranged_is 2 0x800 (a - 0xE0) s n l e' in
        let h : s < 0x10000 = omega (arith, joined_below 2 (a - 0xE0) s l i.value, ltb-true a 0xF0 p4) in
        record { scalar = i.scalar; wide = ap suc i.count ∙ width_3 s i.least_le h }
    go false false false false true p1 p3 p4 p5 e' =
        let i = ranged_is 3 0x10000 (a - 0xF0) s n l e' in
        record { scalar = i.scalar; wide = ap suc i.count ∙ width_4 s i.least_le }
    go false false false false false p1 p3 p4 p5 e' = clash (cc)

-- ---- each scalar value's encoding, with anything after it, is read back
follows_yes : (v : ℕ) → v < 64 → follows (0x80 + v) ≡ true
unfolding follows
follows_yes v h =
    let p : 0x80 ≤ 0x80 + v = omega arith in
    let q : 0x80 + v < 0xC0 = omega arith in
    simp (le-leb 0x80 (0x80 + v) p, lt-ltb (0x80 + v) 0xC0 q)

-- one following byte with the payload v
joined_one : (n x v : ℕ) (l : List ℕ) → v < 64 → joined (suc n) x ((0x80 + v) ∷ l) ≡ joined n (x * 64 + v) l
unfolding joined
joined_one n x v l h = let e : 0x80 + v - 0x80 ≡ v = omega arith in rw (follows_yes v h, e)

joined_none : (x : ℕ) (l : List ℕ) → joined 0 x l ≡ some x
unfolding joined
joined_none x l = refl

ranged_yes : (n least s : ℕ) → least ≤ s → is_scalar s ≡ true → ranged n least (some s) ≡ char s n
unfolding ranged
ranged_yes n least s h e = simp (le-leb least s h, e)

scalar_top : (s : ℕ) → is_scalar s ≡ true → s ≤ 0x10FFFF
unfolding is_scalar
scalar_top s e = go (ltb s 0xD800) refl e
  where
    go : (p : Bool) → ltb s 0xD800 ≡ p → (p || (leb 0xE000 s && leb s 0x10FFFF)) ≡ true → s ≤ 0x10FFFF
    go true p q = omega (arith, ltb-true s 0xD800 p)
    go false p q = leb-true s 0x10FFFF (and_r (leb 0xE000 s) _ q)

module _ (x : ℕ) (l : List ℕ) where
  lead_two : x < 32 → front ((0xC0 + x) ∷ l) ≡ ranged 1 0x80 (joined 1 x l)
  unfolding front
  lead_two h =
      let a : 0x80 ≤ 0xC0 + x = omega arith in
      let b : 0xC0 ≤ 0xC0 + x = omega arith in
      let c : 0xC0 + x < 0xE0 = omega arith in
      let d : 0xC0 + x - 0xC0 ≡ x = omega arith in
      simp (le-ltb _ _ a, le-ltb _ _ b, lt-ltb _ _ c, d)

  lead_three : x < 16 → front ((0xE0 + x) ∷ l) ≡ ranged 2 0x800 (joined 2 x l)
  unfolding front
  lead_three h =
      let a : 0x80 ≤ 0xE0 + x = omega arith in
      let b : 0xC0 ≤ 0xE0 + x = omega arith in
      let c : 0xE0 ≤ 0xE0 + x = omega arith in
      let f : 0xE0 + x < 0xF0 = omega arith in
      let d : 0xE0 + x - 0xE0 ≡ x = omega arith in
      simp (le-ltb _ _ a, le-ltb _ _ b, le-ltb _ _ c, lt-ltb _ _ f, d)

  lead_four : x < 8 → front ((0xF0 + x) ∷ l) ≡ ranged 3 0x10000 (joined 3 x l)
  unfolding front
  lead_four h =
      let a : 0x80 ≤ 0xF0 + x = omega arith in
      let b : 0xC0 ≤ 0xF0 + x = omega arith in
      let c : 0xE0 ≤ 0xF0 + x = omega arith in
      let f : 0xF0 ≤ 0xF0 + x = omega arith in
      let g : 0xF0 + x < 0xF8 = omega arith in
      let d : 0xF0 + x - 0xF0 ≡ x = omega arith in
      simp (le-ltb _ _ a, le-ltb _ _ b, le-ltb _ _ c, le-ltb _ _ f, lt-ltb _ _ g, d)

pub read_back : (s : ℕ) (rest : List ℕ) → is_scalar s ≡ true → front (encode s ++ rest) ≡ char s (length (encode s) - 1)
unfolding encode front
read_back s rest e = go (ltb s 0x80) (ltb s 0x800) (ltb s 0x10000) refl refl refl
  where
    go : (p q r : Bool) → ltb s 0x80 ≡ p → ltb s 0x800 ≡ q → ltb s 0x10000 ≡ r → front (encode s ++ rest) ≡ char s (length (encode s) - 1)
    go true q r p1 p2 p3 = simp p1
    go false true r p1 p2 p3 =
        let h = ltb-true s 0x800 p2 in
        let v : s / 64 * 64 + s % 64 ≡ s = omega arith in
        simp (p1, p2)
        (lead_two (s / 64) _ (omega arith)
        ∙ ap (ranged 1 0x80) (joined_one 0 (s / 64) (s % 64) rest (omega arith) ∙ joined_none _ rest ∙ ap some v)
        ∙ ranged_yes 1 0x80 s (ltb-false s 0x80 p1) e)
    go false false true p1 p2 p3 =
        let h = ltb-true s 0x10000 p3 in
        let v : (s / 4096 * 64 + s / 64 % 64) * 64 + s % 64 ≡ s = omega (arith, div-div-eq-div-mul s 64 64) in
        simp (p1, p2, p3)
        (lead_three (s / 4096) _ (omega arith)
        ∙ ap (ranged 2 0x800)
        (joined_one 1 (s / 4096) (s / 64 % 64) _ (omega arith)
        ∙ joined_one 0 (s / 4096 * 64 + s / 64 % 64) (s % 64) rest (omega arith) ∙ joined_none _ rest ∙ ap some v)
        ∙ ranged_yes 2 0x800 s (ltb-false s 0x800 p2) e)
    go false false false p1 p2 p3 =
        let h = scalar_top s e in
        let v : ((s / 262144 * 64 + s / 4096 % 64) * 64 + s / 64 % 64) * 64 + s % 64 ≡ s = omega (arith, div-div-eq-div-mul s 64 64, div-div-eq-div-mul s 4096 64) in
        simp (p1, p2, p3)
        (lead_four (s / 262144) _ (omega arith)
        ∙ ap (ranged 3 0x10000)
        (joined_one 2 (s / 262144) (s / 4096 % 64) _ (omega arith)
        ∙ joined_one 1 (s / 262144 * 64 + s / 4096 % 64) (s / 64 % 64) _ (omega arith)
        ∙ joined_one 0 ((s / 262144 * 64 + s / 4096 % 64) * 64 + s / 64 % 64) (s % 64) rest (omega arith) ∙ joined_none _ rest ∙ ap some v)
        ∙ ranged_yes 3 0x10000 s (ltb-false s 0x10000 p3) e)
