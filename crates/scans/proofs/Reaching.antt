-- The offset that a count of characters reaches.
-- reach_none, _end     no character is left
-- reach_stop, _step    one character: the count ends before it, or goes on after it
-- reach-le, reach_in   it is not before the start, and within the text
-- reach_rest           the characters from there on
-- whole-reach          where the rest was whole it is whole again
-- span_on, span_off    one turn of a scan by a test
-- Assumes nothing.
use mathlib.Core.Path.{◌≡◌, refl}
use mathlib.Core.Bool.{Bool, true, false}
use mathlib.Core.List.{List, [], ◌∷◌}
use Prim.Native.Nat.{ℕ, zero, suc, ◌+◌, ◌≤◌}
use native.Mathlib.Nat.{add-zero, add_assoc}
use native.Mathlib.Omega.{arith}
use lib.ListN.{length, drop, drop_of_length-le}
use Rattle.chars.specs.Utf8.{chars, chars_from}
use Rattle.chars.proofs.Stepping.{Stepped}
use Rattle.scans.specs.Scans.{scan, span, bytes, reach}
use Rattle.scans.specs.Whole.{Whole}
use Rattle.scans.proofs.Characters.{View, here, past, view, whole-step}

pub chars_end : (t : List ℕ) (at : ℕ) → length t ≤ at → chars (drop at t) ≡ []
unfolding chars chars_from
chars_end t at h = rw (drop_of_length-le t h)

pub bytes_nil : (n : ℕ) → bytes n [] ≡ 0
bytes_nil zero = refl
bytes_nil (suc n) = refl

module _ (f : List ℕ → ℕ) (t : List ℕ) (at : ℕ) where
  pub reach_none : chars (drop at t) ≡ [] → reach f t at ≡ at
  unfolding reach
  reach_none e = rw (e, bytes_nil, add-zero)

  pub reach_end : length t ≤ at → reach f t at ≡ at
  reach_end h = reach_none (chars_end t at h)

  pub reach-le : at ≤ reach f t at
  unfolding reach
  reach-le = omega arith

  module _ (s next : ℕ) (p : Stepped t at s next) where
    pub reach_stop : f (s ∷ chars (drop next t)) ≡ 0 → reach f t at ≡ at
    unfolding reach
    reach_stop e = rw (p.reads, e, add-zero)

    pub reach_step : (g : List ℕ → ℕ) → f (s ∷ chars (drop next t)) ≡ suc (g (chars (drop next t))) → reach f t at ≡ reach g t next
    unfolding reach
    reach_step g e = rw (p.reads, e) (omega (arith, p.wide))

-- past n characters stand the characters from there on, within the text
bytes_rest : (n : ℕ) (t : List ℕ) (at : ℕ) → chars (drop (at + bytes n (chars (drop at t))) t) ≡ drop n (chars (drop at t))
bytes_rest zero t at = rw add-zero
bytes_rest (suc n) t at = go (view t at) (bytes_rest n t)
  where
    go : View t at → ((b : ℕ) → chars (drop (b + bytes n (chars (drop b t))) t) ≡ drop n (chars (drop b t)))
        → chars (drop (at + bytes (suc n) (chars (drop at t))) t) ≡ drop (suc n) (chars (drop at t))
    go (here s next p e) ih = rw (p.reads, ← add_assoc, ← p.wide) (ih next)
    go (past e) ih = rw (e, add-zero) e

bytes_in : (n : ℕ) (t : List ℕ) (at : ℕ) → at ≤ length t → at + bytes n (chars (drop at t)) ≤ length t
bytes_in zero t at h = omega arith
bytes_in (suc n) t at h = go (view t at) (bytes_in n t)
  where
    go : View t at → ((b : ℕ) → b ≤ length t → b + bytes n (chars (drop b t)) ≤ length t) → at + bytes (suc n) (chars (drop at t)) ≤ length t
    go (here s next p e) ih = rw (p.reads, ← add_assoc, ← p.wide) (ih next p.inside)
    go (past e) ih = rw (e, add-zero) h

module _ (f : List ℕ → ℕ) (t : List ℕ) (at : ℕ) where
  pub reach_in : at ≤ length t → reach f t at ≤ length t
  unfolding reach
  reach_in h = bytes_in (f (chars (drop at t))) t at h

  pub reach_rest : chars (drop (reach f t at) t) ≡ drop (f (chars (drop at t))) (chars (drop at t))
  unfolding reach
  reach_rest = bytes_rest (f (chars (drop at t))) t at

module _ (p : ℕ → Bool) (t : List ℕ) (at s next : ℕ) (q : Stepped t at s next) where
  pub span_on : p s ≡ true → reach (span p) t at ≡ reach (span p) t next
  unfolding span scan
  span_on e = reach_step (span p) t at s next q (span p) (rw e)

  pub span_off : p s ≡ false → reach (span p) t at ≡ at
  unfolding span scan
  span_off e = reach_stop (span p) t at s next q (rw e)

-- where the rest of the text was whole it is whole again
whole-bytes : (n : ℕ) (t : List ℕ) (at : ℕ) → Whole t at → Whole t (at + bytes n (chars (drop at t)))
whole-bytes zero t at w = rw add-zero w
whole-bytes (suc n) t at w = go (view t at) (whole-bytes n t)
  where
    go : View t at → ((b : ℕ) → Whole t b → Whole t (b + bytes n (chars (drop b t)))) → Whole t (at + bytes (suc n) (chars (drop at t)))
    go (here s next p e) ih = rw (p.reads, ← add_assoc, ← p.wide) (ih next (whole-step t at s next w p e))
    go (past e) ih = rw (e, add-zero) w

pub whole-reach : (f : List ℕ → ℕ) (t : List ℕ) (at : ℕ) → Whole t at → Whole t (reach f t at)
unfolding reach
whole-reach f t at w = whole-bytes (f (chars (drop at t))) t at w
