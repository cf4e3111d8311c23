-- One step at an offset, and what it tells of the text's characters and of its first bad byte.
-- step_end, step-ascii, step_bad, step_char   the step, from what the code finds at the offset
-- front_fits                                  a character lies within the text
-- front-chars, front_bad                      reading goes on after it
-- bad_here, end_here                          where no character starts, or nothing is left
-- Stepped, stepped                            all that a step to a character tells
-- stepped_bad, stepped_end, stepped_none      what a step to none tells; checked_all the same past the end
-- sized_on, sized_bad                         what a size tells of the first bad byte
-- ascii_valid                                 a text of ASCII alone is valid
-- Assumes nothing.
use mathlib.Core.Path.{◌≡◌, refl, sym, ap, ◌∙◌, subst}
use mathlib.Core.Bool.{Bool, true, false, cond, ◌&&◌}
use mathlib.Core.Logic.{◌⊎◌, inl, inr}
use mathlib.Core.Option.{Option, none, some}
use mathlib.Core.List.{List, [], ◌∷◌}
use Prim.Native.Nat.{ℕ, zero, suc, ◌+◌, ◌-◌, ◌*◌, ◌≤◌, ◌<◌, zero-le, suc-le-suc}
use native.Mathlib.Nat.{add-zero}
use native.Mathlib.Omega.{arith}
use lib.Dec.{leb, ltb}
use lib.ListN.{length, get_or, drop, drop_of_length-le, length-drop}
use lib.Seq.{drop-drop}
use borrow.Author.Tests.{lt-ltb}
use Rattle.std.specs.Prelude.{Some, None}
use Rattle.chars.specs.declared.offset.Offset.{Offset}
use Rattle.chars.specs.declared.utf8.Step.TheVariants.{Char, Bad, End}
use Rattle.chars.specs.Utf8.{Front, char, bad, end, follows, is_scalar, joined, ranged, front, on_front, chars, chars_from, bad_from, first_bad, width}
use Rattle.chars.specs.Steps.{offset, placed, scalar_of, size_of, step_at}
use Rattle.chars.proofs.Joining.{drop_at}
use Rattle.chars.proofs.Scalars.{front_read}
use Rattle.chars.proofs.Fronts.{front_one}
use Rattle.chars.proofs.Whole.{front_some}

module _ (t : List ℕ) (at : ℕ) where
  pub step_end : length t ≤ at → End ≡ step_at t (offset at)
  unfolding step_at front
  step_end h = rw (drop_of_length-le t h)

  module _ (h : at < length t) where
    pub step-ascii : get_or t at 0 < 0x80 → Char (get_or t at 0) (offset (at + 1)) ≡ step_at t (offset at)
    unfolding step_at
    step-ascii l = rw (front_one t at h l) (simp add-zero)

    pub step_bad : None ≡ scalar_of (front (drop at t)) → Bad ≡ step_at t (offset at)
    unfolding step_at scalar_of
    step_bad = go (front (drop at t)) refl
      where
        go : (f : Front) → front (drop at t) ≡ f → None ≡ scalar_of f → Bad ≡ placed (at + 1) f
        go (char s n) p q = absurd (cc)
        go bad p q = refl
        go end p q = absurd (front_some _ _ (ap front (sym (drop_at t at h)) ∙ p))

    pub step_char : (x : ℕ) → Some x ≡ scalar_of (front (drop at t)) → Char x (offset (at + width x)) ≡ step_at t (offset at)
    unfolding step_at scalar_of
    step_char x = go (front (drop at t)) refl
      where
        go : (f : Front) → front (drop at t) ≡ f → Some x ≡ scalar_of f → Char x (offset (at + width x)) ≡ placed (at + 1) f
        go (char s n) p q = let z : x ≡ s = cc in let e : at + width s ≡ at + 1 + n = omega (arith, (front_read (drop at t) s n p).wide) in rw (z, e)
        go bad p q = absurd (cc)
        go end p q = absurd (cc)

-- ---- a character lies within the text
joined_fits : (n x s : ℕ) (l : List ℕ) → joined n x l ≡ some s → n ≤ length l
unfolding joined
joined_fits zero x s l e = zero-le
joined_fits (suc n) x s [] e = let z : ◌≡◌ {A = ℕ} 0 1 = cc in absurd (omega arith)
joined_fits (suc n) x s (b ∷ l) e = go (follows b) (λ q. joined_fits n (x * 64 + (b - 0x80)) s l q) e
  where
    go : (p : Bool) → (joined n (x * 64 + (b - 0x80)) l ≡ some s → n ≤ length l) → cond p (joined n (x * 64 + (b - 0x80)) l) none ≡ some s → suc n ≤ suc (length l)
    go true f q = suc-le-suc (f q)
    go false f q = let z : ◌≡◌ {A = ℕ} 0 1 = cc in absurd (omega arith)

ranged_fits : (n least x s m : ℕ) (l : List ℕ) → ranged n least (joined n x l) ≡ char s m → m ≤ length l
unfolding ranged
ranged_fits n least x s m l e = go (joined n x l) refl e
  where
    go : (o : Option ℕ) → joined n x l ≡ o → ranged n least o ≡ char s m → m ≤ length l
    go none p q = let z : ◌≡◌ {A = ℕ} 0 1 = cc in absurd (omega arith)
    go (some v) p q = go' (leb least v && is_scalar v) q
      where
        go' : (b : Bool) → cond b (char v n) bad ≡ char s m → m ≤ length l
        go' true r = let z : n ≡ m = cc in subst (λ (k : ℕ). k ≤ length l) z (joined_fits n x v l p)
        go' false r = let z : ◌≡◌ {A = ℕ} 0 1 = cc in absurd (omega arith)

pub front_fits : (l : List ℕ) (s n : ℕ) → front l ≡ char s n → n < length l
unfolding front
front_fits [] s n e = let z : ◌≡◌ {A = ℕ} 0 1 = cc in absurd (omega arith)
front_fits (a ∷ l) s n e = suc-le-suc (go (ltb a 0x80) (ltb a 0xC0) (ltb a 0xE0) (ltb a 0xF0) (ltb a 0xF8) e)
  where
    go : (p q r u v : Bool)
        → cond p (char a 0) (cond q bad (cond r (ranged 1 0x80 (joined 1 (a - 0xC0) l)) (cond u (ranged 2 0x800 (joined 2 (a - 0xE0) l))
        (cond v (ranged 3 0x10000 (joined 3 (a - 0xF0) l)) bad)))) ≡ char s n → n ≤ length l
    go true q r u v e' = let z : 0 ≡ n = cc in subst (λ (k : ℕ). k ≤ length l) z zero-le
    go false true r u v e' = let z : ◌≡◌ {A = ℕ} 0 1 = cc in absurd (omega arith)
    go false false true u v e' = ranged_fits 1 _ _ s n l e'
    go false false false true v e' = ranged_fits 2 _ _ s n l e'
    go false false false false true e' = ranged_fits 3 _ _ s n l e'
    go false false false false false e' = let z : ◌≡◌ {A = ℕ} 0 1 = cc in absurd (omega arith)

-- ---- bytes that were read already are dropped
chars_skip : (k : ℕ) (l : List ℕ) → chars_from k l ≡ chars_from 0 (drop k l)
unfolding chars_from
chars_skip zero l = refl
chars_skip (suc k) [] = refl
chars_skip (suc k) (b ∷ l) = chars_skip k l

bad_skip : (k at : ℕ) (l : List ℕ) → bad_from k at l ≡ bad_from 0 (at + k) (drop k l)
unfolding bad_from
bad_skip zero at l = rw add-zero
bad_skip (suc k) at [] = refl
bad_skip (suc k) at (b ∷ l) = let e : at + 1 + k ≡ at + suc k = omega arith in bad_skip k (at + 1) l ∙ ap (λ (n : ℕ). bad_from 0 n (drop k l)) e

pub front-chars : (l : List ℕ) (s n : ℕ) → front l ≡ char s n → chars l ≡ s ∷ chars (drop (suc n) l)
unfolding chars chars_from
front-chars [] s n e = unfold front in let z : ◌≡◌ {A = ℕ} 0 1 = cc in absurd (omega arith)
front-chars (b ∷ l) s n e = rw (e, chars_skip n l)

pub front_bad : (at : ℕ) (l : List ℕ) (s n : ℕ) → front l ≡ char s n → bad_from 0 at l ≡ bad_from 0 (at + suc n) (drop (suc n) l)
unfolding bad_from
front_bad at [] s n e = refl
front_bad at (b ∷ l) s n e = let p : at + 1 + n ≡ at + suc n = omega arith in rw (e, bad_skip n (at + 1) l, p)

pub bad_here : (at : ℕ) (l : List ℕ) → front l ≡ bad → bad_from 0 at l ≡ some at
unfolding bad_from
bad_here at [] e = unfold front in let z : ◌≡◌ {A = ℕ} 0 1 = cc in absurd (omega arith)
bad_here at (b ∷ l) e = rw e

-- ---- what a step tells
pub record Stepped (t : List ℕ) (at s next : ℕ) : Type 0 where
  pub on : at < next
  pub inside : next ≤ length t
  pub reads : chars (drop at t) ≡ s ∷ chars (drop next t)
  pub checks : bad_from 0 at (drop at t) ≡ bad_from 0 next (drop next t)
  pub scalar : is_scalar s ≡ true
  pub wide : next ≡ at + width s

pub stepped : (t : List ℕ) (at s next : ℕ) → step_at t (offset at) ≡ Char s (offset next) → Stepped t at s next
stepped t at s next = unfold step_at in go (front (drop at t)) refl
  where
    go : (f : Front) → front (drop at t) ≡ f → placed (at + 1) f ≡ Char s (offset next) → Stepped t at s next
    go (char v n) p q =
        let a : v ≡ s = cc in
        let b : at + 1 + n ≡ next = ap (λ (o : Offset). o.0) (cc) in
        let d : next ≡ at + suc n = omega arith in
        let f : drop (suc n) (drop at t) ≡ drop next t = rw (drop-drop, d) in
        let i : n < length t - at = rw length-drop at (front_fits (drop at t) v n p) in
        record {
          on = omega arith;
          inside = omega arith;
          reads = rw (← a, ← f) (front-chars (drop at t) v n p);
          checks = rw (← f, d) (front_bad at (drop at t) v n p);
          scalar = rw (← a) (front_read (drop at t) v n p).scalar;
          wide = rw (← a) (omega (arith, (front_read (drop at t) v n p).wide));
        }
    go bad p q = let z : ◌≡◌ {A = ℕ} 0 1 = cc in absurd (omega arith)
    go end p q = let z : ◌≡◌ {A = ℕ} 0 1 = cc in absurd (omega arith)

pub stepped_bad : (t : List ℕ) (at : ℕ) → step_at t (offset at) ≡ Bad → bad_from 0 at (drop at t) ≡ some at
stepped_bad t at = unfold step_at in go (front (drop at t)) refl
  where
    go : (f : Front) → front (drop at t) ≡ f → placed (at + 1) f ≡ Bad → bad_from 0 at (drop at t) ≡ some at
    go (char v n) p q = let z : ◌≡◌ {A = ℕ} 0 1 = cc in absurd (omega arith)
    go bad p q = bad_here at (drop at t) p
    go end p q = let z : ◌≡◌ {A = ℕ} 0 1 = cc in absurd (omega arith)

pub end_here : (at : ℕ) (l : List ℕ) → front l ≡ end → bad_from 0 at l ≡ none
unfolding bad_from
end_here at [] e = refl
end_here at (b ∷ l) e = rw e

pub stepped_end : (t : List ℕ) (at : ℕ) → step_at t (offset at) ≡ End → bad_from 0 at (drop at t) ≡ none
stepped_end t at = unfold step_at in go (front (drop at t)) refl
  where
    go : (f : Front) → front (drop at t) ≡ f → placed (at + 1) f ≡ End → bad_from 0 at (drop at t) ≡ none
    go (char v n) p q = let z : ◌≡◌ {A = ℕ} 0 1 = cc in absurd (omega arith)
    go bad p q = let z : ◌≡◌ {A = ℕ} 0 1 = cc in absurd (omega arith)
    go end p q = end_here at (drop at t) p

pub checked_all : (t : List ℕ) (at : ℕ) → length t ≤ at → bad_from 0 at (drop at t) ≡ none
unfolding bad_from
checked_all t at h = rw (drop_of_length-le t h)

-- where no character starts, none is left
no_chars : (l : List ℕ) (f : Front) → front l ≡ f → on_front {A = List ℕ} f (λ s n. s ∷ []) [] [] ≡ [] → chars l ≡ []
unfolding chars chars_from
no_chars [] f e z = refl
no_chars (b ∷ l) (char s n) e z = let k : ◌≡◌ {A = ℕ} 0 1 = cc in absurd (omega arith)
no_chars (b ∷ l) bad e z = rw e
no_chars (b ∷ l) end e z = rw e

pub stepped_none : (t : List ℕ) (at : ℕ) → (step_at t (offset at) ≡ Bad) ⊎ (step_at t (offset at) ≡ End) → chars (drop at t) ≡ []
stepped_none t at = unfold step_at in go (front (drop at t)) refl
  where
    go : (f : Front) → front (drop at t) ≡ f → (placed (at + 1) f ≡ Bad) ⊎ (placed (at + 1) f ≡ End) → chars (drop at t) ≡ []
    go (char v n) p (inl q) = let z : ◌≡◌ {A = ℕ} 0 1 = cc in absurd (omega arith)
    go (char v n) p (inr q) = let z : ◌≡◌ {A = ℕ} 0 1 = cc in absurd (omega arith)
    go bad p q = no_chars (drop at t) bad p refl
    go end p q = no_chars (drop at t) end p refl

-- ---- what a size tells
pub sized_on : (t : List ℕ) (at w : ℕ) → Some w ≡ size_of (front (drop at t))
    → (0 < w) × (at + w ≤ length t) × (bad_from 0 at (drop at t) ≡ bad_from 0 (at + w) (drop (at + w) t))
unfolding size_of
sized_on t at w = go (front (drop at t)) refl
  where
    go : (f : Front) → front (drop at t) ≡ f → Some w ≡ size_of f
        → (0 < w) × (at + w ≤ length t) × (bad_from 0 at (drop at t) ≡ bad_from 0 (at + w) (drop (at + w) t))
    go (char s n) p q =
        let z : w ≡ suc n = cc in
        let e : at + 1 + n ≡ at + w = omega arith in
        let step = stepped t at s (at + 1 + n) (unfold step_at in ap (placed (at + 1)) p) in
        rw (← e) (omega arith, step.inside, step.checks)
    go bad p q = absurd (cc)
    go end p q = absurd (cc)

pub sized_bad : (t : List ℕ) (at : ℕ) → at < length t → None ≡ size_of (front (drop at t)) → bad_from 0 at (drop at t) ≡ some at
unfolding size_of
sized_bad t at h = go (front (drop at t)) refl
  where
    go : (f : Front) → front (drop at t) ≡ f → None ≡ size_of f → bad_from 0 at (drop at t) ≡ some at
    go (char s n) p q = absurd (cc)
    go bad p q = bad_here at (drop at t) p
    go end p q = absurd (front_some _ _ (ap front (sym (drop_at t at h)) ∙ p))

-- ---- a text of ASCII alone
ascii_from : (at : ℕ) (l : List ℕ) → ((k : ℕ) → get_or l k 0 < 0x80) → bad_from 0 at l ≡ none
unfolding bad_from front
ascii_from at [] f = refl
ascii_from at (b ∷ l) f = simp (lt-ltb b 0x80 (f 0)) (ascii_from (at + 1) l (λ k. f (suc k)))

pub ascii_valid : (t : List ℕ) → ((k : ℕ) → get_or t k 0 < 0x80) → first_bad t ≡ none
unfolding first_bad
ascii_valid t f = ascii_from 0 t f
