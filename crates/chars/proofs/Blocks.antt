-- Bytes in place: what it tells of the first bad byte that each byte so far stood in place.
-- three_fits, four_fits      the lead bytes that the code bars are those that do not fit
-- settled_start, settled_on  an offset before which all is valid: the start, and past a character
-- Passed                     what is known after bytes in place: a character ended, or 1, 2 or 3 bytes of one were passed
-- passed_none, passed_on     how that starts, and goes on by one byte
-- cut_one .. cut_none        the offset of the character that is cut, by the last three bytes
-- Assumes nothing.
use mathlib.Core.Path.{◌≡◌, refl, sym, ap, ◌∙◌}
use mathlib.Core.Bool.{Bool, true, false, not, cond, ◌&&◌, ◌||◌, beq, false≢true}
use mathlib.Core.List.{List}
use Prim.Native.Nat.{ℕ, ◌+◌, ◌-◌, ◌≤◌, ◌<◌, zero-le}
use native.Mathlib.Omega.{arith}
use lib.Dec.{eqb, leb, ltb}
use lib.ListN.{length, get_or, drop}
use borrow.Author.Tests.{le-leb, lt-leb, lt-ltb, le-ltb, leb-true, ltb-true, ltb-false, eqb-true, eqb-false, ne_eqb}
use Rattle.std.specs.Prelude.{Option as Maybe, Some, None}
use Rattle.chars.specs.Utf8.{front, follows, first_bad}
use Rattle.chars.specs.Steps.{size_of, fits_three, fits_four, barred_three, barred_four, in_place, Settled}
use Rattle.chars.proofs.Bytes.{and_l, and_r, follows_range}
use Rattle.chars.proofs.Sizes.{size_one, size_two, size_three, size_four}
use Rattle.chars.proofs.Stepping.{sized_on}

-- ---- the barred lead bytes
pub three_fits : (a b : ℕ) → not (eqb a (barred_three b)) ≡ fits_three a b
unfolding fits_three
three_fits a b = go (eqb a 0xE0) (eqb a 0xED) (ltb b 0xA0) refl refl refl
  where
    go : (p q x : Bool) → eqb a 0xE0 ≡ p → eqb a 0xED ≡ q → ltb b 0xA0 ≡ x → not (eqb a (cond x 0xE0 0xED)) ≡ cond p (leb 0xA0 b) (cond q x true)
    go true q true e f g = simp (e, lt-leb 0xA0 b (ltb-true b 0xA0 g))
    go true q false e f g = simp (ne_eqb a 0xED (λ z. omega (arith, eqb-true a 0xE0 e)), le-leb 0xA0 b (ltb-false b 0xA0 g))
    go false true true e f g = simp e
    go false true false e f g = simp f
    go false false true e f g = simp e
    go false false false e f g = simp f

pub four_fits : (a b : ℕ) → (not (eqb a (barred_four b)) && ltb a 0xF5) ≡ fits_four a b
unfolding fits_four
four_fits a b = go (eqb a 0xF0) (eqb a 0xF4) (ltb b 0x90) (ltb a 0xF4) refl refl refl refl
  where
    other : (x y : Bool) → eqb a 0xF0 ≡ false → eqb a 0xF4 ≡ false → ltb a 0xF5 ≡ y → (not (eqb a (cond x 0xF0 0xF4)) && ltb a 0xF5) ≡ y
    other true y e f g = simp (e, g)
    other false y e f g = simp (f, g)

    go : (p q x y : Bool) → eqb a 0xF0 ≡ p → eqb a 0xF4 ≡ q → ltb b 0x90 ≡ x → ltb a 0xF4 ≡ y
        → (not (eqb a (cond x 0xF0 0xF4)) && ltb a 0xF5) ≡ cond p (leb 0x90 b) (cond q x y)
    go true q true y e f g h = simp (e, lt-leb 0x90 b (ltb-true b 0x90 g))
    go true q false y e f g h =
        let z : a ≡ 0xF0 = eqb-true a 0xF0 e in
        simp (ne_eqb a 0xF4 (λ w. omega arith), lt-ltb a 0xF5 (omega arith), le-leb 0x90 b (ltb-false b 0x90 g))
    go false true true y e f g h = let z : a ≡ 0xF4 = eqb-true a 0xF4 f in simp (e, lt-ltb a 0xF5 (omega arith))
    go false true false y e f g h = simp f
    go false false x true e f g h = let z : a < 0xF4 = ltb-true a 0xF4 h in other x true e f (lt-ltb a 0xF5 (omega arith))
    go false false x false e f g h =
        let z : 0xF4 ≤ a = ltb-false a 0xF4 h in
        other x false e f (le-ltb a 0xF5 (omega (arith, eqb-false a 0xF4 f)))

-- ---- a byte in place
beq_true : (p q : Bool) → beq p q ≡ true → p ≡ q
beq_true true true e = refl
beq_true true false e = sym e
beq_true false true e = e
beq_true false false e = refl

record Placed (p3 p2 p1 b : ℕ) : Type 0 where
  due : (leb 0xC0 p1 || leb 0xE0 p2 || leb 0xF0 p3) ≡ follows b
  lead : leb 0xC0 p1 ≡ leb 0xC2 p1
  three : fits_three p1 b ≡ true
  four : fits_four p1 b ≡ true

placed : (p3 p2 p1 b : ℕ) → in_place p3 p2 p1 b ≡ true → Placed p3 p2 p1 b
unfolding in_place
placed p3 p2 p1 b e =
    let x = beq (leb 0xC0 p1 || leb 0xE0 p2 || leb 0xF0 p3) (follows b) in
    let y = beq (leb 0xC0 p1) (leb 0xC2 p1) in
    let xyz = and_l (x && y && fits_three p1 b) (fits_four p1 b) e in
    let xy = and_l (x && y) (fits_three p1 b) xyz in
    record {
      due = beq_true _ _ (and_l x y xy);
      lead = beq_true _ _ (and_r x y xy);
      three = and_r (x && y) (fits_three p1 b) xyz;
      four = and_r (x && y && fits_three p1 b) (fits_four p1 b) e;
    }

-- a byte that is due follows
due_one : {p3 p2 p1 b : ℕ} → Placed p3 p2 p1 b → 0xC0 ≤ p1 → follows b ≡ true
due_one {p3} {p2} {p1} {b} q l = sym q.due ∙ simp (le-leb 0xC0 p1 l)

due_two : {p3 p2 p1 b : ℕ} → Placed p3 p2 p1 b → p1 < 0xC0 → 0xE0 ≤ p2 → follows b ≡ true
due_two {p3} {p2} {p1} {b} q l m = sym q.due ∙ simp (lt-leb 0xC0 p1 l, le-leb 0xE0 p2 m)

due_three : {p3 p2 p1 b : ℕ} → Placed p3 p2 p1 b → p1 < 0xC0 → p2 < 0xE0 → 0xF0 ≤ p3 → follows b ≡ true
due_three {p3} {p2} {p1} {b} q l m n = sym q.due ∙ simp (lt-leb 0xC0 p1 l, lt-leb 0xE0 p2 m, le-leb 0xF0 p3 n)

due_none : {p3 p2 p1 b : ℕ} → Placed p3 p2 p1 b → p1 < 0xC0 → p2 < 0xE0 → p3 < 0xF0 → follows b ≡ false
due_none {p3} {p2} {p1} {b} q l m n = sym q.due ∙ simp (lt-leb 0xC0 p1 l, lt-leb 0xE0 p2 m, lt-leb 0xF0 p3 n)

-- a byte from 0x80 on that does not follow leads
leads : (b : ℕ) → 0x80 ≤ b → follows b ≡ false → 0xC0 ≤ b
unfolding follows
leads b l e = go (ltb b 0xC0) refl
  where
    go : (p : Bool) → ltb b 0xC0 ≡ p → 0xC0 ≤ b
    go true f = let z : ◌≡◌ {A = Bool} true false = sym (simp (le-leb 0x80 b l, f)) ∙ e in absurd (false≢true (sym z))
    go false f = ltb-false b 0xC0 f

-- ---- valid so far
pub settled_start : (t : List ℕ) → Settled t 0
unfolding first_bad
settled_start t = record { inside = zero-le; first = refl }

pub settled_on : (t : List ℕ) (s w : ℕ) → Settled t s → Some w ≡ size_of (front (drop s t)) → Settled t (s + w)
settled_on t s w d e = let on = sized_on t s w e in record { inside = on.1; first = sym on.2 ∙ d.first }

-- ---- the bytes passed
-- i bytes were passed, p3, p2 and p1 the last; all is valid before s, where a character starts of which 1, 2 or 3 bytes were passed
pub data Passed (t : List ℕ) (i p3 p2 p1 : ℕ) : Type 0 where
  whole : Settled t i → p1 < 0xC0 → p2 < 0xE0 → p3 < 0xF0 → Passed t i p3 p2 p1
  one : (s : ℕ) → Settled t s → i ≡ s + 1 → p1 ≡ get_or t s 0 → 0xC0 ≤ p1 → p2 < 0xF0 → Passed t i p3 p2 p1
  two : (s : ℕ) → Settled t s → i ≡ s + 2 → p2 ≡ get_or t s 0 → p1 ≡ get_or t (s + 1) 0 → 0xE0 ≤ p2 → follows p1 ≡ true
      → fits_three p2 p1 ≡ true → fits_four p2 p1 ≡ true → Passed t i p3 p2 p1
  three : (s : ℕ) → Settled t s → i ≡ s + 3 → p3 ≡ get_or t s 0 → p2 ≡ get_or t (s + 1) 0 → p1 ≡ get_or t (s + 2) 0 → 0xF0 ≤ p3 → follows p2 ≡ true
      → follows p1 ≡ true → fits_four p3 p2 ≡ true → Passed t i p3 p2 p1

pub passed_none : (t : List ℕ) → Passed t 0 0 0 0
passed_none t = whole (settled_start t) (omega arith) (omega arith) (omega arith)

module _ (t : List ℕ) (i p3 p2 p1 : ℕ) (h : i < length t) (e : in_place p3 p2 p1 (get_or t i 0) ≡ true) where
  q : Placed p3 p2 p1 (get_or t i 0)
  q = placed p3 p2 p1 (get_or t i 0) e

  -- a character of w bytes ends with this byte
  ended : (s w : ℕ) → Settled t s → Some w ≡ size_of (front (drop s t)) → i + 1 ≡ s + w → get_or t i 0 < 0xC0 → p1 < 0xE0 → p2 < 0xF0
      → Passed t (i + 1) p2 p1 (get_or t i 0)
  ended s w d f place l m k = whole (rw place (settled_on t s w d f)) l m k

  pub passed_on : Passed t i p3 p2 p1 → Passed t (i + 1) p2 p1 (get_or t i 0)
  passed_on (whole d l m n) = go (ltb (get_or t i 0) 0x80) refl
    where
      go : (p : Bool) → ltb (get_or t i 0) 0x80 ≡ p → Passed t (i + 1) p2 p1 (get_or t i 0)
      go true f = let k = ltb-true _ _ f in ended i 1 d (size_one t i h k) refl (omega arith) (omega arith) (omega arith)
      go false f = one i d refl refl (leads _ (ltb-false _ _ f) (due_none q l m n)) (omega arith)
  passed_on (one s d place b1 l m) = go (ltb p1 0xE0) refl
    where
      fb : follows (get_or t i 0) ≡ true
      fb = due_one q l

      go : (p : Bool) → ltb p1 0xE0 ≡ p → Passed t (i + 1) p2 p1 (get_or t i 0)
      go true f =
          let k = ltb-true _ _ f in
          let c2 : 0xC2 ≤ p1 = leb-true 0xC2 p1 (sym q.lead ∙ le-leb 0xC0 p1 l) in
          ended s 2 d (size_two t s (omega arith) (omega arith) (omega arith) (rw (← place) fb) (omega arith)) (omega arith)
          (omega (arith, follows_range _ fb)) k m
      go false f = two s d (omega arith) b1 (rw place) (ltb-false _ _ f) fb q.three q.four
  passed_on (two s d place b2 b1 l f1 f3 f4) = go (ltb p2 0xF0) refl
    where
      low : p1 < 0xC0
      low = (follows_range _ f1).1

      fb : follows (get_or t i 0) ≡ true
      fb = due_two q low l

      go : (p : Bool) → ltb p2 0xF0 ≡ p → Passed t (i + 1) p2 p1 (get_or t i 0)
      go true f =
          let k = ltb-true _ _ f in
          let fits : fits_three (get_or t s 0) (get_or t (s + 1) 0) ≡ true = cc in
          ended s 3 d
          (ap (λ (p : Bool). cond {A = Maybe ℕ} p (Some 3) None) (sym fits)
          ∙ size_three t s (omega arith) (omega arith) (omega arith) (cc) (omega arith) (omega arith) (rw (← place) fb) (omega arith))
          (omega arith) (omega (arith, follows_range _ fb)) (omega (arith, low)) k
      go false f = three s d (omega arith) b2 b1 (rw place) (ltb-false _ _ f) f1 fb f4
  passed_on (three s d place b3 b2 b1 l f2 f1 f4) =
      let low1 = follows_range _ f1 in
      let low2 = follows_range _ f2 in
      let fb : follows (get_or t i 0) ≡ true = due_three q (omega arith) (omega arith) l in
      let fits : fits_four (get_or t s 0) (get_or t (s + 1) 0) ≡ true = cc in
      ended s 4 d
      (ap (λ (p : Bool). cond {A = Maybe ℕ} p (Some 4) None) (sym fits)
      ∙ size_four t s (omega arith) (omega arith) (omega arith) (cc) (omega arith) (omega arith) (cc) (omega arith) (omega arith) (rw (← place) fb))
      (omega arith) (omega (arith, follows_range _ fb)) (omega arith) (omega arith)

-- ---- the character that is cut
module _ {t : List ℕ} {i p3 p2 p1 : ℕ} (r : Passed t i p3 p2 p1) where
  pub cut_one : 0xC0 ≤ p1 → (1 ≤ i) × Settled t (i - 1)
  cut_one l = go r
    where
      go : Passed t i p3 p2 p1 → (1 ≤ i) × Settled t (i - 1)
      go (whole d k m n) = absurd (omega arith)
      go (one s d place b1 k m) = let e : i - 1 ≡ s = omega arith in (omega arith, rw e d)
      go (two s d place b2 b1 k f1 f3 f4) = absurd (omega (arith, follows_range _ f1))
      go (three s d place b3 b2 b1 k f2 f1 f4) = absurd (omega (arith, follows_range _ f1))

  module _ (l1 : p1 < 0xC0) where
    pub cut_two : 0xE0 ≤ p2 → (2 ≤ i) × Settled t (i - 2)
    cut_two l = go r
      where
        go : Passed t i p3 p2 p1 → (2 ≤ i) × Settled t (i - 2)
        go (whole d k m n) = absurd (omega arith)
        go (one s d place b1 k m) = absurd (omega arith)
        go (two s d place b2 b1 k f1 f3 f4) = let e : i - 2 ≡ s = omega arith in (omega arith, rw e d)
        go (three s d place b3 b2 b1 k f2 f1 f4) = absurd (omega (arith, follows_range _ f2))

    module _ (l2 : p2 < 0xE0) where
      pub cut_three : 0xF0 ≤ p3 → (3 ≤ i) × Settled t (i - 3)
      cut_three l = go r
        where
          go : Passed t i p3 p2 p1 → (3 ≤ i) × Settled t (i - 3)
          go (whole d k m n) = absurd (omega arith)
          go (one s d place b1 k m) = absurd (omega arith)
          go (two s d place b2 b1 k f1 f3 f4) = absurd (omega arith)
          go (three s d place b3 b2 b1 k f2 f1 f4) = let e : i - 3 ≡ s = omega arith in (omega arith, rw e d)

      pub cut_none : p3 < 0xF0 → Settled t i
      cut_none l = go r
        where
          go : Passed t i p3 p2 p1 → Settled t i
          go (whole d k m n) = d
          go (one s d place b1 k m) = absurd (omega arith)
          go (two s d place b2 b1 k f1 f3 f4) = absurd (omega arith)
          go (three s d place b3 b2 b1 k f2 f1 f4) = absurd (omega arith)
