-- The characters of a text from an offset on: what stands there, and the bytes that it takes.
-- encoded          how a character is written: one byte below 0x80, or some bytes of which each is at least 0x80
-- View, view       at an offset a character stands, or none is left
-- ascii_here       a byte below 0x80 is a character
-- lead_low, _high  the first byte of a character is below 0x80 where the character is
-- star_step        the byte before is `*` where the character before is
-- whole-step       past a character the rest of the text is whole again
-- readable-view    where the rest is whole and not empty a character stands
-- Assumes nothing.
use mathlib.Core.Path.{◌≡◌, refl, sym, ap, ◌∙◌}
use mathlib.Core.Logic.{inl, inr}
use mathlib.Core.List.{List, [], ◌∷◌, ◌++◌}
use Prim.Native.Nat.{ℕ, zero, suc, ◌+◌, ◌/◌, ◌%◌, ◌≤◌, ◌<◌}
use native.Mathlib.Decide.{dec_lt}
use native.Mathlib.Omega.{arith}
use lib.Dec.{eqb}
use lib.ListN.{length, get_or, drop, length-drop}
use lib.Seq.{drop-drop, get_or-drop, drop-append_seam}
use borrow.Author.Tests.{le-ltb, lt-ltb, ne_eqb}
use Rattle.chars.specs.Utf8.{Front, char, bad, end, front, chars, width, encode, encode_all}
use Rattle.chars.specs.Steps.{offset, placed, step_at}
use Rattle.chars.specs.declared.offset.Offset.{Offset}
use Rattle.chars.specs.declared.utf8.Step.{Step}
use Rattle.chars.specs.declared.utf8.Step.TheVariants.{Char, Bad, End}
use Rattle.chars.proofs.Scalars.{clash}
use Rattle.chars.proofs.Stepping.{Stepped, stepped, stepped_none, step-ascii}
use Rattle.chars.proofs.Whole.{written}
use Rattle.scans.specs.Whole.{star_before, Whole, Readable}

-- ---- how a character is written
abbrev pub High : List ℕ → Type 0
High [] = Unit {0}
High (b ∷ bs) = (0x80 ≤ b) × High bs

pub data Encoded (s : ℕ) : Type 0 where
  one : s < 0x80 → encode s ≡ s ∷ [] → width s ≡ 1 → Encoded s
  many : 0x80 ≤ s → (b : ℕ) (bs : List ℕ) → encode s ≡ b ∷ bs → High (b ∷ bs) → width s ≡ length (b ∷ bs) → Encoded s

pub encoded : (s : ℕ) → Encoded s
unfolding encode width
encoded s = from (dec_lt s 0x80) (dec_lt s 0x800) (dec_lt s 0x10000)
  where
    from : Dec (s < 0x80) → Dec (s < 0x800) → Dec (s < 0x10000) → Encoded s
    from (yes h) q r = one h (simp (lt-ltb s 0x80 h)) (simp (lt-ltb s 0x80 h))
    from (no n) (yes h) r =
        let l : 0x80 ≤ s = omega arith in
        many l (0xC0 + s / 64) ((0x80 + s % 64) ∷ []) (simp (le-ltb s 0x80 l, lt-ltb s 0x800 h)) (omega arith, (omega arith, tt)) (simp (le-ltb s 0x80 l, lt-ltb s 0x800 h))
    from (no n) (no m) (yes h) =
        let l : 0x80 ≤ s = omega arith in
        let k : 0x800 ≤ s = omega arith in
        many l (0xE0 + s / 4096) ((0x80 + s / 64 % 64) ∷ ((0x80 + s % 64) ∷ [])) (simp (le-ltb s 0x80 l, le-ltb s 0x800 k, lt-ltb s 0x10000 h)) (omega arith, (omega arith, (omega arith, tt)))
        (simp (le-ltb s 0x80 l, le-ltb s 0x800 k, lt-ltb s 0x10000 h))
    from (no n) (no m) (no o) =
        let l : 0x80 ≤ s = omega arith in
        let k : 0x800 ≤ s = omega arith in
        let j : 0x10000 ≤ s = omega arith in
        many l (0xF0 + s / 262144) ((0x80 + s / 4096 % 64) ∷ ((0x80 + s / 64 % 64) ∷ ((0x80 + s % 64) ∷ [])))
        (simp (le-ltb s 0x80 l, le-ltb s 0x800 k, le-ltb s 0x10000 j)) (omega arith, (omega arith, (omega arith, (omega arith, tt))))
        (simp (le-ltb s 0x80 l, le-ltb s 0x800 k, le-ltb s 0x10000 j))

high_at : (l m : List ℕ) (i : ℕ) → High l → i < length l → 0x80 ≤ get_or (l ++ m) i 0
high_at [] m i h k = absurd (omega arith)
high_at (b ∷ l) m zero h k = h.0
high_at (b ∷ l) m (suc i) h k = high_at l m i h.1 (omega arith)

pub encode-length : (s : ℕ) → length (encode s) ≡ width s
encode-length s = go (encoded s)
  where
    go : Encoded s → length (encode s) ≡ width s
    go (one h e w) = rw (e, w)
    go (many h b bs e k w) = rw e (sym w)

-- ---- what stands at an offset
pub data View (t : List ℕ) (at : ℕ) : Type 0 where
  here : (s next : ℕ) → Stepped t at s next → drop at t ≡ encode s ++ drop next t → View t at
  past : chars (drop at t) ≡ [] → View t at

step-bytes : (t : List ℕ) (at s next : ℕ) → step_at t (offset at) ≡ Char s (offset next) → drop at t ≡ encode s ++ drop next t
step-bytes t at s next = unfold step_at in go (front (drop at t)) refl
  where
    go : (f : Front) → front (drop at t) ≡ f → placed (at + 1) f ≡ Char s (offset next) → drop at t ≡ encode s ++ drop next t
    go (char v n) p q =
        let a : v ≡ s = cc in
        let b : at + 1 + n ≡ next = ap (λ (o : Offset). o.0) (cc) in
        let d : at + suc n ≡ next = omega arith in
        written (drop at t) v n p ∙ rw (a, drop-drop, d)
    go bad p q = clash (cc)
    go end p q = clash (cc)

pub view : (t : List ℕ) (at : ℕ) → View t at
view t at = from (step_at t (offset at)) refl
  where
    from : (s : Step) → step_at t (offset at) ≡ s → View t at
    from (Char s next) e = here s next.0 (stepped t at s next.0 e) (step-bytes t at s next.0 e)
    from Bad e = past (stepped_none t at (inl e))
    from End e = past (stepped_none t at (inr e))

pub stepped_ascii : (t : List ℕ) (at : ℕ) → at < length t → get_or t at 0 < 0x80 → Stepped t at (get_or t at 0) (at + 1)
stepped_ascii t at h l = stepped t at (get_or t at 0) (at + 1) (sym (step-ascii t at h l))

pub ascii_here : (t : List ℕ) (at : ℕ) → at < length t → get_or t at 0 < 0x80 → chars (drop at t) ≡ get_or t at 0 ∷ chars (drop (at + 1) t)
ascii_here t at h l = (stepped_ascii t at h l).reads

-- the first byte
byte_of : (t : List ℕ) (at : ℕ) (b : ℕ) (m : List ℕ) → drop at t ≡ b ∷ m → get_or t at 0 ≡ b
byte_of t at b m e = let z : get_or (drop at t) 0 0 ≡ get_or t at 0 = get_or-drop at t 0 0 ∙ ap (λ (n : ℕ). get_or t n 0) (omega arith) in sym z ∙ ap (λ (l : List ℕ). get_or l 0 0) e

module _ (t : List ℕ) (at s next : ℕ) (e : drop at t ≡ encode s ++ drop next t) where
  pub lead_low : get_or t at 0 < 0x80 → s ≡ get_or t at 0
  lead_low l = go (encoded s)
    where
      go : Encoded s → s ≡ get_or t at 0
      go (one h p w) = sym (byte_of t at s (drop next t) (e ∙ rw p))
      go (many h b bs p k w) = absurd (omega (arith, byte_of t at b (bs ++ drop next t) (e ∙ rw p), k.0))

  pub lead_high : 0x80 ≤ get_or t at 0 → 0x80 ≤ s
  lead_high l = go (encoded s)
    where
      go : Encoded s → 0x80 ≤ s
      go (one h p w) = absurd (omega (arith, byte_of t at s (drop next t) (e ∙ rw p)))
      go (many h b bs p k w) = h

  pub low_lead : s < 0x80 → get_or t at 0 ≡ s
  low_lead l = go (encoded s)
    where
      go : Encoded s → get_or t at 0 ≡ s
      go (one h p w) = byte_of t at s (drop next t) (e ∙ rw p)
      go (many h b bs p k w) = absurd (omega arith)

  last_byte : (n : ℕ) → get_or (encode s ++ drop next t) n 0 ≡ get_or t (at + n) 0
  last_byte n = ap (λ (l : List ℕ). get_or l n 0) (sym e) ∙ get_or-drop at t n 0

  pub star_step : next ≡ at + width s → star_before t next ≡ eqb s 42
  unfolding star_before
  star_step d = go (encoded s)
    where
      go : Encoded s → star_before t next ≡ eqb s 42
      go (one h p w) =
          let z : next ≡ suc at = omega arith in
          rw z (ap (λ (b : ℕ). eqb b 42) (byte_of t at s (drop next t) (e ∙ rw p)))
      go (many h b bs p k w) =
          let z : next ≡ suc (at + length bs) = omega arith in
          let y : get_or ((b ∷ bs) ++ drop next t) (length bs) 0 ≡ get_or t (at + length bs) 0 = rw p at (last_byte (length bs)) in
          rw (z, ne_eqb s 42 (λ q. omega arith)) (ne_eqb (get_or t (at + length bs) 0) 42 (λ q. omega (arith, high_at (b ∷ bs) (drop next t) (length bs) k (omega arith), y)))

-- ---- a whole text
encode_more : (s : ℕ) (cs : List ℕ) → encode_all (s ∷ cs) ≡ encode s ++ encode_all cs
unfolding encode_all
encode_more s cs = refl

encode_none : encode_all [] ≡ []
unfolding encode_all
encode_none = refl

pub whole-step : (t : List ℕ) (at s next : ℕ) → Whole t at → Stepped t at s next → drop at t ≡ encode s ++ drop next t → Whole t next
whole-step t at s next w r e = record {
  inside = r.inside;
  small = w.small;
  whole =
      let z : encode s ++ encode_all (chars (drop next t)) ≡ encode s ++ drop next t =
      sym (encode_more s (chars (drop next t))) ∙ ap encode_all (sym r.reads) ∙ w.whole ∙ e in
      sym (drop-append_seam (encode s) (encode_all (chars (drop next t)))) ∙ ap (drop (length (encode s))) z ∙ drop-append_seam (encode s) (drop next t);
}

pub data Here (t : List ℕ) (at : ℕ) : Type 0 where
  stands : (s next : ℕ) → Stepped t at s next → drop at t ≡ encode s ++ drop next t → Whole t next → Here t at

pub readable_here : (t : List ℕ) (at : ℕ) → Readable t at → Here t at
readable_here t at r = from (view t at)
  where
    from : View t at → Here t at
    from (here s next p e) = stands s next p e (whole-step t at s next r.rest p e)
    from (past e) =
        let z : [] ≡ drop at t = sym encode_none ∙ ap encode_all (sym e) ∙ r.rest.whole in
        absurd (omega (arith, ap length z, length-drop at t, r.here))

-- past an ASCII character
pub whole-ascii : (t : List ℕ) (at : ℕ) → Whole t at → at < length t → get_or t at 0 < 0x80 → Whole t (at + 1)
whole-ascii t at w h l = whole-step t at (get_or t at 0) (at + 1) w (stepped_ascii t at h l) (step-bytes t at (get_or t at 0) (at + 1) (sym (step-ascii t at h l)))
