-- A scan that treats all characters from 0x80 on alike may be made over bytes: no byte of a longer character is below 0x80.
-- Passes               what such a scan is
-- scan-bytes           the scan of the bytes is the scan of the characters, counted in bytes
-- byte_reach           the same, as the offset that is reached
-- byte_on, _off, _end  one turn of a loop over bytes
-- byte_first           up to the first of two bytes, where all others pass and change nothing
-- quote_passes, block_passes   the scans of rules 1 and 3
-- over_bytes, span-taken, span_byte_off, _end, _first   the same for a scan by a test
-- line_alike, run_alike   rules 2 and 7
-- Assumes nothing.
use mathlib.Core.Path.{◌≡◌, refl, sym, ap, ◌∙◌}
use mathlib.Core.Bool.{Bool, true, false, cond, not, ◌&&◌, and-false}
use mathlib.Core.List.{List, [], ◌∷◌, ◌++◌}
use Prim.Native.Nat.{ℕ, zero, suc, ◌+◌, ◌-◌, ◌≤◌, ◌<◌}
use native.Mathlib.Nat.{add-zero, zero-add, suc-add}
use native.Mathlib.Numerals.{add-one}
use native.Mathlib.Omega.{arith}
use lib.Dec.{eqb}
use lib.ListN.{length, get_or, drop, drop_of_length-le}
use lib.Seq.{drop-cons}
use borrow.Author.Tests.{ne_eqb}
use Rattle.std.specs.List.{prefix_len, take_while}
use Rattle.std.proofs.lemmas.List.Folds.{length-prefix_len}
use Rattle.chars.specs.Utf8.{chars, encode, encode_all}
use Rattle.scans.specs.Scans.{scan, span, bytes, reach, closes, escapes, ended, then, in_line, in_run}
use Rattle.scans.specs.Next.{is_of, NoneOf, FirstOf}
use Rattle.scans.specs.Whole.{Whole}
use Rattle.scans.proofs.Characters.{High, Encoded, one, many, encoded}

module _ {S : Type 0} (stops : S → ℕ → Bool) (after : S → ℕ → S) where
  pub record Passes : Type 0 where
    pub same_stop : (s : S) (c h : ℕ) → 0x80 ≤ c → 0x80 ≤ h → stops s h ≡ stops s c
    pub same_after : (s : S) (c h : ℕ) → 0x80 ≤ c → 0x80 ≤ h → after s h ≡ after s c
    pub calm : (s : S) (c h : ℕ) → 0x80 ≤ c → 0x80 ≤ h → stops s c ≡ false → stops (after s c) h ≡ false
    pub still : (s : S) (c h : ℕ) → 0x80 ≤ c → 0x80 ≤ h → after (after s c) h ≡ after s c

  -- bytes that do not stop it and leave it as it is
  scan_over : (s : S) (hs l : List ℕ) → High hs → ((h : ℕ) → 0x80 ≤ h → stops s h ≡ false) → ((h : ℕ) → 0x80 ≤ h → after s h ≡ s)
      → scan stops after s (hs ++ l) ≡ length hs + scan stops after s l
  unfolding scan
  scan_over s [] l k p q = sym (zero-add (scan stops after s l))
  scan_over s (h ∷ hs) l k p q = rw (p h k.0, q h k.0, suc-add) (ap suc (scan_over s hs l k.1 p q))

  module _ (passes : Passes) where
    scan_char : (c : ℕ) (cs : List ℕ) (s : S) → Encoded c → ((s' : S) → scan stops after s' (encode_all cs) ≡ bytes (scan stops after s' cs) cs)
        → scan stops after s (encode c ++ encode_all cs) ≡ bytes (scan stops after s (c ∷ cs)) (c ∷ cs)
    unfolding scan
    scan_char c cs s (one h e w) ih = rw e (go (stops s c))
      where
        go : (b : Bool) → cond b 0 (suc (scan stops after (after s c) (encode_all cs))) ≡ bytes (cond b 0 (suc (scan stops after (after s c) cs))) (c ∷ cs)
        go true = refl
        go false = rw (w, ih (after s c)) (omega arith)
    scan_char c cs s (many h b bs e k w) ih = rw (e, passes.same_stop s c b h k.0, passes.same_after s c b h k.0) (go (stops s c) refl)
      where
        go : (x : Bool) → stops s c ≡ x
            → cond x 0 (suc (scan stops after (after s c) (bs ++ encode_all cs))) ≡ bytes (cond x 0 (suc (scan stops after (after s c) cs))) (c ∷ cs)
        go true p = refl
        go false p =
            rw (w, scan_over (after s c) bs (encode_all cs) k.1 (λ y l. passes.calm s c y h l p) (λ y l. passes.still s c y h l), ih (after s c))
            (omega arith)

    pub scan-bytes : (cs : List ℕ) (s : S) → scan stops after s (encode_all cs) ≡ bytes (scan stops after s cs) cs
    unfolding encode_all
    scan-bytes [] s = unfold scan in refl
    scan-bytes (c ∷ cs) s = scan_char c cs s (encoded c) (scan-bytes cs)

    pub byte_reach : (t : List ℕ) (from : ℕ) (s : S) → Whole t from → from + scan stops after s (drop from t) ≡ reach (scan stops after s) t from
    unfolding reach
    byte_reach t from s w = ap (λ (n : ℕ). from + n) (ap (scan stops after s) (sym w.whole) ∙ scan-bytes (chars (drop from t)) s)

  -- ---- one turn
  module _ (t : List ℕ) (at : ℕ) (s : S) where
    pub byte_on : at < length t → stops s (get_or t at 0) ≡ false
        → at + scan stops after s (drop at t) ≡ at + 1 + scan stops after (after s (get_or t at 0)) (drop (at + 1) t)
    unfolding scan
    byte_on h e = rw (add-one at, drop-cons t at 0 h, e) (omega arith)

    pub byte_off : at < length t → stops s (get_or t at 0) ≡ true → at + scan stops after s (drop at t) ≡ at
    unfolding scan
    byte_off h e = rw (drop-cons t at 0 h, e, add-zero)

    pub byte_end : length t ≤ at → at + scan stops after s (drop at t) ≡ at
    unfolding scan
    byte_end h = rw (drop_of_length-le t h, add-zero)

  -- ---- many turns
  module _ (t : List ℕ) (s : S) (a b : ℕ) (calm : (c : ℕ) → is_of a b c ≡ false → (stops s c ≡ false) × (after s c ≡ s)) where
    over : (n at to : ℕ) → at + n ≡ to → to ≤ length t → NoneOf a b t at to → at + scan stops after s (drop at t) ≡ to + scan stops after s (drop to t)
    over zero at to e h f = ap (λ (i : ℕ). i + scan stops after s (drop i t)) (sym (add-zero at) ∙ e)
    over (suc n) at to e h f =
        let k = calm (get_or t at 0) (f at (omega arith) (omega arith)) in
        byte_on t at s (omega arith) k.0
        ∙ ap (λ (z : S). at + 1 + scan stops after z (drop (at + 1) t)) k.1
        ∙ over n (at + 1) to (omega arith) h (λ i l m. f i (omega arith) m)

    pub byte_first : (at to : ℕ) → FirstOf a b t at to → at + scan stops after s (drop at t) ≡ to + scan stops after s (drop to t)
    byte_first at to f = over (to - at) at to (omega (arith, f.after)) f.within f.none

-- ---- the scans
high_not : (c k : ℕ) → 0x80 ≤ c → k < 0x80 → eqb c k ≡ false
high_not c k h l = ne_eqb c k (λ e. omega arith)

pub quote_passes : (q : ℕ) → q < 0x80 → Passes (closes q) escapes
quote_passes q l = record {
  same_stop = λ s c h i j. rw (high_not c q i l, high_not h q j l);
  same_after = λ s c h i j. rw (high_not c 92 i (omega arith), high_not h 92 j (omega arith));
  calm = λ s c h i j e. rw (high_not h q j l) (and-false (not (not s && eqb c 92)));
  still = λ s c h i j. rw (high_not c 92 i (omega arith), high_not h 92 j (omega arith)) (and-false (not (not s && false)) ∙ sym (and-false (not s)));
}

pub block_passes : Passes ended then
block_passes = record {
  same_stop = λ s c h i j. refl;
  same_after = λ s c h i j. rw (high_not c 42 i (omega arith), high_not h 42 j (omega arith), high_not c 47 i (omega arith), high_not h 47 j (omega arith));
  calm = λ s c h i j e. rw (high_not c 47 i (omega arith)) (and-false s.star);
  still = λ s c h i j. rw (high_not c 42 i (omega arith), high_not h 42 j (omega arith), high_not c 47 i (omega arith), and-false s.star);
}

-- ---- the scans by a test that all characters from 0x80 on pass, or all fail
module _ (p : ℕ → Bool) (alike : (c h : ℕ) → 0x80 ≤ c → 0x80 ≤ h → p h ≡ p c) where
  span_passes : Passes {S = Unit {0}} (λ _ c. not (p c)) (λ seen _. seen)
  span_passes = record {
    same_stop = λ s c h i j. ap not (alike c h i j);
    same_after = λ s c h i j. refl;
    calm = λ s c h i j e. ap not (alike c h i j) ∙ e;
    still = λ s c h i j. refl;
  }

  pub over_bytes : (t : List ℕ) (from : ℕ) → Whole t from → from + span p (drop from t) ≡ reach (span p) t from
  unfolding span
  over_bytes t from w = byte_reach (λ _ c. not (p c)) (λ seen _. seen) span_passes t from tt w

-- the same by the library's words
span-prefix : (p : ℕ → Bool) (l : List ℕ) → prefix_len p l ≡ span p l
unfolding span scan
span-prefix p [] = refl
span-prefix p (c ∷ l) = go (p c) (span-prefix p l)
  where
    go : (x : Bool) → prefix_len p l ≡ span p l → cond x (1 + prefix_len p l) 0 ≡ cond (not x) 0 (suc (span p l))
    go true ih = omega (arith, ih)
    go false ih = refl

pub span-taken : (p : ℕ → Bool) (l : List ℕ) → length (take_while p l) ≡ span p l
span-taken p l = length-prefix_len p l ∙ span-prefix p l

module _ (p : ℕ → Bool) (t : List ℕ) (at : ℕ) where
  pub span_byte_off : at < length t → not (p (get_or t at 0)) ≡ true → at + span p (drop at t) ≡ at
  unfolding span
  span_byte_off h e = byte_off {S = Unit {0}} (λ _ c. not (p c)) (λ seen _. seen) t at tt h e

  pub span_byte_end : length t ≤ at → at + span p (drop at t) ≡ at
  unfolding span
  span_byte_end h = byte_end {S = Unit {0}} (λ _ c. not (p c)) (λ seen _. seen) t at tt h

module _ (p : ℕ → Bool) (t : List ℕ) (a b : ℕ) (calm : (c : ℕ) → is_of a b c ≡ false → not (p c) ≡ false) where
  pub span_byte_first : (at to : ℕ) → FirstOf a b t at to → at + span p (drop at t) ≡ to + span p (drop to t)
  unfolding span
  span_byte_first = byte_first {S = Unit {0}} (λ _ c. not (p c)) (λ seen _. seen) t tt a b (λ c e. (calm c e, refl))

pub line_alike : (c h : ℕ) → 0x80 ≤ c → 0x80 ≤ h → in_line h ≡ in_line c
unfolding in_line
line_alike c h i j = rw (high_not c 10 i (omega arith), high_not h 10 j (omega arith), high_not c 13 i (omega arith), high_not h 13 j (omega arith))

pub run_alike : (c h : ℕ) → 0x80 ≤ c → 0x80 ≤ h → in_run h ≡ in_run c
unfolding in_run
run_alike c h i j =
    rw (
      high_not c 61 i (omega arith),
      high_not h 61 j (omega arith),
      high_not c 33 i (omega arith),
      high_not h 33 j (omega arith),
      high_not c 62 i (omega arith),
      high_not h 62 j (omega arith),
      high_not c 60 i (omega arith),
      high_not h 60 j (omega arith),
    )
