-- Following bytes, joined one by one: what the loop of `sequence` keeps, and the shifts and masks that join.
-- join_bits                                  the shift, the mask and the or of one turn
-- drop_at                                    a text from an offset on is its byte there and the rest
-- joined_next, _stop, _few                   one following byte more, or none
-- small_start, Joining, joining_more .. _done  the invariant: how it starts, goes on and ends
-- answer_none .. answer_no_scalar            the answer from the joined bits
-- Assumes nothing.
use mathlib.Core.Path.{◌≡◌, refl, sym, ap, ◌∙◌}
use mathlib.Core.Bool.{Bool, true, false, cond}
use mathlib.Core.Option.{Option, none, some}
use mathlib.Core.List.{List, [], ◌∷◌}
use Prim.Native.Nat.{ℕ, zero, suc, ◌+◌, ◌-◌, ◌*◌, ◌%◌, ◌^◌, ◌≤◌, ◌<◌}
use native.Mathlib.Numerals.{add-one}
use native.Mathlib.Decide.{dec_lt}
use native.Mathlib.Omega.{arith}
use lib.Bits.{bit_and, bit_or, and_mask, or_shifted}
use lib.ListN.{length, get_or, drop, drop_of_length-le}
use lib.Seq.{drop-cons}
use borrow.Author.Tests.{le-leb, lt-leb}
use Rattle.std.specs.Prelude.{Option as Maybe, Some, None}
use Rattle.chars.specs.Utf8.{follows, is_scalar, joined, ranged}
use Rattle.chars.specs.Steps.{scalar_of, following}
use Rattle.chars.proofs.Bytes.{follows_range}

-- ---- the bits
-- the shift, the mask and the or of one turn
pub join_bits : (x b : ℕ) → x < 2 ^ 26 → follows b ≡ true → bit_or (x * 64 % 2 ^ 32) (bit_and b 0x3F) ≡ x * 64 + (b - 0x80)
join_bits x b hx e =
    let m : x * 64 % 2 ^ 32 ≡ x * 64 = omega arith in
    rw (m, and_mask b 6, or_shifted x 6 (b % 64) (omega arith)) (omega (arith, follows_range b e))

-- ---- the list
pub drop_at : (t : List ℕ) (at : ℕ) → at < length t → drop at t ≡ get_or t at 0 ∷ drop (at + 1) t
drop_at t at h = rw (add-one, drop-cons t at 0 h)

pub joined_next : (t : List ℕ) (at n x : ℕ) → at < length t → follows (get_or t at 0) ≡ true
    → joined (suc n) x (drop at t) ≡ joined n (x * 64 + (get_or t at 0 - 0x80)) (drop (at + 1) t)
unfolding joined
joined_next t at n x h e = rw (drop_at t at h, e)

-- ---- the byte at an offset, where it follows
pub following_end : (t : List ℕ) (at : ℕ) → length t ≤ at → following (drop at t) ≡ None
unfolding following
following_end t at h = rw (drop_of_length-le t h)

pub following_at : (t : List ℕ) (at : ℕ) → at < length t → following (drop at t) ≡ cond (follows (get_or t at 0)) (Some (get_or t at 0)) None
unfolding following
following_at t at h = rw (drop_at t at h)

-- what it tells that one follows
pub record Followed (t : List ℕ) (at b : ℕ) : Type 0 where
  pub inside : at < length t
  pub is : b ≡ get_or t at 0
  pub follows_it : follows (get_or t at 0) ≡ true

pub followed : (t : List ℕ) (at b : ℕ) → Some b ≡ following (drop at t) → Followed t at b
followed t at b e = go (dec_lt at (length t))
  where
    is_there : (p : Bool) → at < length t → follows (get_or t at 0) ≡ p → Some b ≡ cond p (Some (get_or t at 0)) None → Followed t at b
    is_there true h f q = record { inside = h; is = cc; follows_it = f }
    is_there false h f q = absurd (cc)

    go : Dec (at < length t) → Followed t at b
    go (yes h) = is_there (follows (get_or t at 0)) h refl (e ∙ following_at t at h)
    go (no h) = let z : ◌≡◌ {A = Maybe ℕ} (Some b) None = e ∙ following_end t at (omega arith) in absurd (cc)

-- where no byte follows, none is joined
pub joined_stop : (n x : ℕ) (l : List ℕ) → following l ≡ None → joined (suc n) x l ≡ none
unfolding joined following
joined_stop n x [] e = refl
joined_stop n x (b ∷ l) e = go (follows b) e
  where
    go : (p : Bool) → cond {A = Maybe ℕ} p (Some b) None ≡ None → cond p (joined n (x * 64 + (b - 0x80)) l) none ≡ none
    go true q = absurd (cc)
    go false q = refl

-- nor where there are too few
pub joined_few : (n x : ℕ) (l : List ℕ) → length l < n → joined n x l ≡ none
unfolding joined
joined_few zero x l h = absurd (omega arith)
joined_few (suc n) x [] h = refl
joined_few (suc n) x (b ∷ l) h = go (follows b) (joined_few n (x * 64 + (b - 0x80)) l (omega arith))
  where
    go : (p : Bool) → joined n (x * 64 + (b - 0x80)) l ≡ none → cond p (joined n (x * 64 + (b - 0x80)) l) none ≡ none
    go true q = q
    go false q = refl

module _ (t : List ℕ) (at n x : ℕ) (some_left : 0 < n) where
  is_suc : n ≡ suc (n - 1)
  is_suc = omega arith

  joined_stray : at < length t → follows (get_or t at 0) ≡ false → joined n x (drop at t) ≡ none
  unfolding joined
  joined_stray h e = rw (is_suc, drop_at t at h, e)

  joined_more : at < length t → follows (get_or t at 0) ≡ true
      → joined n x (drop at t) ≡ joined (n - 1) (x * 64 + (get_or t at 0 - 0x80)) (drop (at + 1) t)
  joined_more h e = ap (λ (m : ℕ). joined m x (drop at t)) is_suc ∙ joined_next t at (n - 1) x h e

-- ---- the loop
-- with n bytes to come, x has at most 23 - 6 n bits
pub small_start : (n x : ℕ) → n ≤ 3 → x < 32 → x < 2 ^ (23 - 6 * n)
small_start zero x h l = omega arith
small_start (suc zero) x h l = omega arith
small_start (suc (suc zero)) x h l = omega arith
small_start (suc (suc (suc zero))) x h l = omega arith
small_start (suc (suc (suc (suc n)))) x h l = absurd (omega arith)

small_less : (n x : ℕ) → n ≤ 3 → x < 2 ^ (23 - 6 * n) → x < 2 ^ 23
small_less zero x h l = omega arith
small_less (suc zero) x h l = omega arith
small_less (suc (suc zero)) x h l = omega arith
small_less (suc (suc (suc zero))) x h l = omega arith
small_less (suc (suc (suc (suc n)))) x h l = absurd (omega arith)

small_more : (n x b : ℕ) → 0 < n → n ≤ 3 → x < 2 ^ (23 - 6 * n) → b < 64 → x * 64 + b < 2 ^ (23 - 6 * (n - 1))
small_more zero x b p h l k = absurd (omega arith)
small_more (suc zero) x b p h l k = omega arith
small_more (suc (suc zero)) x b p h l k = omega arith
small_more (suc (suc (suc zero))) x b p h l k = omega arith
small_more (suc (suc (suc (suc n)))) x b p h l k = absurd (omega arith)

-- i bytes are joined
pub record Joining (t : List ℕ) (count lead x i : ℕ) : Type 0 where
  pub few : count ≤ 3
  pub small : x < 2 ^ (23 - 6 * (count - i))
  pub same : joined (count - i) x (drop i t) ≡ joined count lead t

module _ {t : List ℕ} {count lead x i : ℕ} (j : Joining t count lead x i) where
  module _ (some_left : i < count) (inside : i < length t) where
    left : 0 < count - i
    left = omega arith

    -- one turn: the bits that the code makes keep the invariant
    pub joining_more : follows (get_or t i 0) ≡ true → Joining t count lead (bit_or (x * 64 % 2 ^ 32) (bit_and (get_or t i 0) 0x3F)) (i + 1)
    joining_more e =
        let less : count - (i + 1) ≡ count - i - 1 = omega arith in
        rw (join_bits x (get_or t i 0) (omega (arith, small_less (count - i) x (omega (arith, j.few)) j.small)) e)
        (record {
          few = j.few;
          small = rw less (small_more (count - i) x (get_or t i 0 - 0x80) left (omega (arith, j.few)) j.small (omega (arith, follows_range (get_or t i 0) e)));
          same = rw less (sym (joined_more t i (count - i) x left inside e) ∙ j.same);
        })

    pub joining_stray : follows (get_or t i 0) ≡ false → joined count lead t ≡ none
    joining_stray e = sym j.same ∙ joined_stray t i (count - i) x left inside e

  pub joining_done : count ≤ i → joined count lead t ≡ some x
  unfolding joined
  joining_done h = let z : count - i ≡ 0 = omega arith in sym j.same ∙ ap (λ (m : ℕ). joined m x (drop i t)) z

-- ---- the answer from the joined bits
module _ (count least : ℕ) (o : Option ℕ) where
  pub answer_none : o ≡ none → None ≡ scalar_of (ranged count least o)
  unfolding scalar_of ranged
  answer_none e = rw e

  module _ (x : ℕ) (e : o ≡ some x) where
    pub answer_overlong : x < least → None ≡ scalar_of (ranged count least o)
    unfolding scalar_of ranged
    answer_overlong h = rw e (simp (lt-leb least x h))

    module _ (h : least ≤ x) where
      pub answer_char : is_scalar x ≡ true → Some x ≡ scalar_of (ranged count least o)
      unfolding scalar_of ranged
      answer_char s = rw e (simp (le-leb least x h, s))

      pub answer_no_scalar : is_scalar x ≡ false → None ≡ scalar_of (ranged count least o)
      unfolding scalar_of ranged
      answer_no_scalar s = rw e (simp (le-leb least x h, s))
