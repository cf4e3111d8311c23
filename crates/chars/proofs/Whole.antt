-- A valid text is the encoding of its characters.
-- written     a character that was read stands there as RFC 3629 writes it
-- front_some  a text that has a byte has a front
-- whole       a text with no bad byte is the encoding of its characters
-- Assumes nothing.
use mathlib.Core.Path.{◌≡◌, refl, sym, ap, ◌∙◌}
use mathlib.Core.Bool.{Bool, true, false, cond, ◌&&◌}
use mathlib.Core.Option.{Option, none, some}
use mathlib.Core.List.{List, [], ◌∷◌, ◌++◌}
use Prim.Native.Nat.{ℕ, zero, suc, ◌+◌, ◌-◌, ◌*◌, ◌/◌, ◌%◌, ◌≤◌, ◌<◌}
use native.Mathlib.Omega.{arith}
use lib.Dec.{leb, ltb}
use lib.ListN.{drop}
use borrow.Author.Tests.{le-ltb, lt-ltb, ltb-true, ltb-false}
use Rattle.chars.specs.Utf8.{Front, front, char, bad, end, on_front, follows, is_scalar, joined, ranged, encode, encode_all, chars, chars_from, bad_from, first_bad}
use Rattle.chars.proofs.Bytes.{follows_range}
use Rattle.chars.proofs.Scalars.{clash, joined_below, ranged_is}

pub encode_1 : (s : ℕ) → s < 0x80 → encode s ≡ s ∷ []
unfolding encode
encode_1 s h = simp (lt-ltb s 0x80 h)

pub encode_2 : (s : ℕ) → 0x80 ≤ s → s < 0x800 → encode s ≡ (0xC0 + s / 64) ∷ ((0x80 + s % 64) ∷ [])
unfolding encode
encode_2 s l h = simp (le-ltb s 0x80 l, lt-ltb s 0x800 h)

pub encode_3 : (s : ℕ) → 0x800 ≤ s → s < 0x10000 → encode s ≡ (0xE0 + s / 4096) ∷ ((0x80 + s / 64 % 64) ∷ ((0x80 + s % 64) ∷ []))
unfolding encode
encode_3 s l h = let k : 0x80 ≤ s = omega arith in simp (le-ltb s 0x80 k, le-ltb s 0x800 l, lt-ltb s 0x10000 h)

pub encode_4 : (s : ℕ) → 0x10000 ≤ s → encode s ≡ (0xF0 + s / 262144) ∷ ((0x80 + s / 4096 % 64) ∷ ((0x80 + s / 64 % 64) ∷ ((0x80 + s % 64) ∷ [])))
unfolding encode
encode_4 s l =
    let k : 0x80 ≤ s = omega arith in
    let j : 0x800 ≤ s = omega arith in
    simp (le-ltb s 0x80 k, le-ltb s 0x800 j, le-ltb s 0x10000 l)

-- the first of the following bytes, as its payload
record Split (n x s : ℕ) (l : List ℕ) : Type 0 where
  v : ℕ
  rest : List ℕ
  small : v < 64
  is : l ≡ (0x80 + v) ∷ rest
  more : joined n (x * 64 + v) rest ≡ some s

split : (n x s : ℕ) (l : List ℕ) → joined (suc n) x l ≡ some s → Split n x s l
unfolding joined
split n x s [] e = clash (cc)
split n x s (b ∷ l) e = go (follows b) refl e
  where
    go : (p : Bool) → follows b ≡ p → cond p (joined n (x * 64 + (b - 0x80)) l) none ≡ some s → Split n x s (b ∷ l)
    go true p q = record {
      v = b - 0x80;
      rest = l;
      small = omega (arith, follows_range b p);
      is = ap (λ (y : ℕ). y ∷ l) (omega (arith, follows_range b p));
      more = q;
    }
    go false p q = clash (cc)

done : (x s : ℕ) (l : List ℕ) → joined 0 x l ≡ some s → x ≡ s
unfolding joined
done x s l e = cc

two : (a s : ℕ) (l : List ℕ) → 0xC0 ≤ a → 0x80 ≤ s → s < 0x800 → joined 1 (a - 0xC0) l ≡ some s → a ∷ l ≡ encode s ++ drop 1 l
two a s l h k m e =
    let i = split 0 (a - 0xC0) s l e in
    let z : (a - 0xC0) * 64 + i.v ≡ s = done _ s i.rest i.more in
    let p : 0xC0 + s / 64 ≡ a = omega (arith, i.small) in
    let q : s % 64 ≡ i.v = omega (arith, i.small) in
    rw (i.is, encode_2 s k m, p, q)

three : (a s : ℕ) (l : List ℕ) → 0xE0 ≤ a → 0x800 ≤ s → s < 0x10000 → joined 2 (a - 0xE0) l ≡ some s → a ∷ l ≡ encode s ++ drop 2 l
three a s l h k m e =
    let i = split 1 (a - 0xE0) s l e in
    let j = split 0 ((a - 0xE0) * 64 + i.v) s i.rest i.more in
    let z : ((a - 0xE0) * 64 + i.v) * 64 + j.v ≡ s = done _ s j.rest j.more in
    let p : 0xE0 + s / 4096 ≡ a = omega (arith, i.small, j.small) in
    let d : s / 64 ≡ (a - 0xE0) * 64 + i.v = omega (arith, i.small, j.small) in
    let q : s / 64 % 64 ≡ i.v = rw d (omega (arith, i.small)) in
    let r : s % 64 ≡ j.v = omega (arith, j.small) in
    rw (i.is, j.is, encode_3 s k m, p, q, r)

four : (a s : ℕ) (l : List ℕ) → 0xF0 ≤ a → 0x10000 ≤ s → joined 3 (a - 0xF0) l ≡ some s → a ∷ l ≡ encode s ++ drop 3 l
four a s l h k e =
    let i = split 2 (a - 0xF0) s l e in
    let j = split 1 ((a - 0xF0) * 64 + i.v) s i.rest i.more in
    let t = split 0 (((a - 0xF0) * 64 + i.v) * 64 + j.v) s j.rest j.more in
    let z : (((a - 0xF0) * 64 + i.v) * 64 + j.v) * 64 + t.v ≡ s = done _ s t.rest t.more in
    let p : 0xF0 + s / 262144 ≡ a = omega (arith, i.small, j.small, t.small) in
    let d : s / 4096 ≡ (a - 0xF0) * 64 + i.v = omega (arith, i.small, j.small, t.small) in
    let q : s / 4096 % 64 ≡ i.v = rw d (omega (arith, i.small)) in
    let f : s / 64 ≡ ((a - 0xF0) * 64 + i.v) * 64 + j.v = omega (arith, j.small, t.small) in
    let r : s / 64 % 64 ≡ j.v = rw f (omega (arith, j.small)) in
    let g : s % 64 ≡ t.v = omega (arith, t.small) in
    rw (i.is, j.is, t.is, encode_4 s k, p, q, r, g)

-- a character that was read stands there as RFC 3629 writes it
pub written : (l : List ℕ) (s n : ℕ) → front l ≡ char s n → l ≡ encode s ++ drop (suc n) l
unfolding front
written [] s n e = clash (cc)
written (a ∷ l) s n e = go (ltb a 0x80) (ltb a 0xC0) (ltb a 0xE0) (ltb a 0xF0) (ltb a 0xF8) refl refl refl refl e
  where
    go : (p q r u v : Bool) → ltb a 0x80 ≡ p → ltb a 0xC0 ≡ q → ltb a 0xE0 ≡ r → ltb a 0xF0 ≡ u
        → cond p (char a 0) (cond q bad (cond r (ranged 1 0x80 (joined 1 (a - 0xC0) l)) (cond u (ranged 2 0x800 (joined 2 (a - 0xE0) l))
        (cond v (ranged 3 0x10000 (joined 3 (a - 0xF0) l)) bad)))) ≡ char s n → a ∷ l ≡ encode s ++ drop n l
    go true q r u v p1 p2 p3 p4 e' =
        let z : s ≡ a = cc in
        let y : n ≡ 0 = cc in
        rw (z, y, encode_1 a (ltb-true a 0x80 p1))
    go false true r u v p1 p2 p3 p4 e' = clash (cc)
    go false false true u v p1 p2 p3 p4 e' =
        let i = ranged_is 1 0x80 (a - 0xC0) s n l e' in
        let h : s < 0x800 = omega (arith, joined_below 1 (a - 0xC0) s l i.value, ltb-true a 0xE0 p3) in
        rw i.count (two a s l (ltb-false a 0xC0 p2) i.least_le h i.value)
    go false false false true v p1 p2 p3 p4 e' =
        let i = ranged_is 2 0x800 (a - 0xE0) s n l e' in
        let h : s < 0x10000 = omega (arith, joined_below 2 (a - 0xE0) s l i.value, ltb-true a 0xF0 p4) in
        rw i.count (three a s l (ltb-false a 0xE0 p3) i.least_le h i.value)
    go false false false false true p1 p2 p3 p4 e' =
        let i = ranged_is 3 0x10000 (a - 0xF0) s n l e' in
        rw i.count (four a s l (ltb-false a 0xF0 p4) i.least_le i.value)
    go false false false false false p1 p2 p3 p4 e' = clash (cc)

-- a text that has a byte has a front
ranged_some : (n least : ℕ) (o : Option ℕ) → ranged n least o ≡ end → ⊥
unfolding ranged
ranged_some n least none e = clash (cc)
ranged_some n least (some s) e = go (leb least s && is_scalar s) e
  where
    go : (b : Bool) → cond b (char s n) bad ≡ end → ⊥
    go true q = clash (cc)
    go false q = clash (cc)

pub front_some : (a : ℕ) (l : List ℕ) → front (a ∷ l) ≡ end → ⊥
unfolding front
front_some a l e = go (ltb a 0x80) (ltb a 0xC0) (ltb a 0xE0) (ltb a 0xF0) (ltb a 0xF8) e
  where
    go : (p q r u v : Bool)
        → cond p (char a 0) (cond q bad (cond r (ranged 1 0x80 (joined 1 (a - 0xC0) l)) (cond u (ranged 2 0x800 (joined 2 (a - 0xE0) l))
        (cond v (ranged 3 0x10000 (joined 3 (a - 0xF0) l)) bad)))) ≡ end → ⊥
    go true q r u v e' = clash (cc)
    go false true r u v e' = clash (cc)
    go false false true u v e' = ranged_some _ _ _ e'
    go false false false true v e' = ranged_some _ _ _ e'
    go false false false false true e' = ranged_some _ _ _ e'
    go false false false false false e' = clash (cc)

whole_from : (k at : ℕ) (l : List ℕ) → bad_from k at l ≡ none → encode_all (chars_from k l) ≡ drop k l
unfolding bad_from chars_from encode_all
whole_from zero at [] e = refl
whole_from (suc k) at [] e = refl
whole_from (suc k) at (b ∷ l) e = whole_from k (at + 1) l e
whole_from zero at (b ∷ l) e = go (front (b ∷ l)) _ refl (λ n q. whole_from n (at + 1) l q) e
  where
    go : (f : Front) (x : ℕ) → front (b ∷ l) ≡ f → ((n : ℕ) → bad_from n (at + 1) l ≡ none → encode_all (chars_from n l) ≡ drop n l)
        → on_front f (λ s n. bad_from n (at + 1) l) (some x) none ≡ none
        → encode_all (on_front f (λ s n. s ∷ chars_from n l) [] []) ≡ b ∷ l
    go (char s n) x p ih q = ap (λ (y : List ℕ). encode s ++ y) (ih n q) ∙ sym (written (b ∷ l) s n p)
    go bad x p ih q = clash (cc)
    go end x p ih q = absurd (front_some b l p)

-- a text with no bad byte is the encoding of its characters
pub whole : (text : List ℕ) → first_bad text ≡ none → encode_all (chars text) ≡ text
unfolding first_bad chars
whole text e = whole_from 0 0 text e
