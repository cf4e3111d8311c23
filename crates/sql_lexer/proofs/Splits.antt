-- A valid text is cut at an ASCII byte into the characters before it, that character, and those after it.
-- Split, split_low   the characters whose encoding has the byte q at some place
-- Cut, chars_cut     the same of a valid text
-- Assumes nothing.
use mathlib.Core.Path.{◌≡◌, refl, sym, ap, ◌∙◌}
use mathlib.Core.Bool.{true}
use mathlib.Core.List.{List, [], ◌∷◌, ◌++◌}
use mathlib.Core.Option.{none}
use Prim.Native.Nat.{ℕ, ◌<◌}
use native.Mathlib.Omega.{arith}
use lib.ListN.{length, get_or, drop, length-append}
use Rattle.chars.specs.Utf8.{chars, encode, encode_all, is_scalar, all_scalars, first_bad}
use Rattle.chars.proofs.Bytes.{and_l, and_r}
use Rattle.chars.proofs.Whole.{whole}
use Rattle.chars.proofs.Encoded.{chars_encoded, encoded_valid}
use Rattle.chars.proofs.Rfc.{chars_scalars}
use Rattle.scans.proofs.Characters.{High, Encoded, one, many, encoded}

module _ (q : ℕ) (low : q < 0x80) (rest : List ℕ) where
  -- bytes from 0x80 on at the front are none of them q
  record Past (hs l pre : List ℕ) : Type 0 where
    left : List ℕ
    front : pre ≡ hs ++ left
    back : l ≡ left ++ q ∷ rest

  past : (hs l pre : List ℕ) → High hs → hs ++ l ≡ pre ++ q ∷ rest → Past hs l pre
  past [] l pre k e = record { left = pre; front = refl; back = e }
  past (h ∷ hs) l [] k e = let z : h ≡ q = ap (λ (m : List ℕ). get_or m 0 0) e in absurd (omega (arith, k.0))
  past (h ∷ hs) l (a ∷ pre) k e =
      let z : h ≡ a = ap (λ (m : List ℕ). get_or m 0 0) e in
      let r = past hs l pre k.1 (ap (drop 1) e) in
      record { left = r.left; front = ap (λ (x : ℕ). x ∷ pre) (sym z) ∙ ap (λ (m : List ℕ). h ∷ m) r.front; back = r.back }

  pub record Split (cs pre : List ℕ) : Type 0 where
    pub before : List ℕ
    pub after : List ℕ
    pub all : cs ≡ before ++ q ∷ after
    pub front : encode_all before ≡ pre
    pub back : encode_all after ≡ rest

  module _ (c : ℕ) (cs : List ℕ) (ih : (pre : List ℕ) → encode_all cs ≡ pre ++ q ∷ rest → Split cs pre) where
    -- q stands behind the character c
    further : (pre left : List ℕ) → pre ≡ encode c ++ left → encode_all cs ≡ left ++ q ∷ rest → Split (c ∷ cs) pre
    unfolding encode_all
    further pre left f e =
        let s = ih left e in
        record {
          before = c ∷ s.before;
          after = s.after;
          all = ap (λ (l : List ℕ). c ∷ l) s.all;
          front = ap (λ (l : List ℕ). encode c ++ l) s.front ∙ sym f;
          back = s.back;
        }

    split_one : (pre : List ℕ) → Encoded c → encode c ++ encode_all cs ≡ pre ++ q ∷ rest → Split (c ∷ cs) pre
    split_one [] (one h f w) e =
        let g : c ∷ encode_all cs ≡ q ∷ rest = ap (λ (l : List ℕ). l ++ encode_all cs) (sym f) ∙ e in
        record {
          before = [];
          after = cs;
          all = ap (λ (x : ℕ). x ∷ cs) (ap (λ (m : List ℕ). get_or m 0 0) g);
          front = unfold encode_all in refl;
          back = ap (drop 1) g;
        }
    split_one (a ∷ pre) (one h f w) e =
        let g : c ∷ encode_all cs ≡ a ∷ (pre ++ q ∷ rest) = ap (λ (l : List ℕ). l ++ encode_all cs) (sym f) ∙ e in
        further (a ∷ pre) pre (ap (λ (x : ℕ). x ∷ pre) (sym (ap (λ (m : List ℕ). get_or m 0 0) g)) ∙ ap (λ (l : List ℕ). l ++ pre) (sym f)) (ap (drop 1) g)
    split_one pre (many h b bs f k w) e =
        let p = past (b ∷ bs) (encode_all cs) pre k (ap (λ (l : List ℕ). l ++ encode_all cs) (sym f) ∙ e) in
        further pre p.left (p.front ∙ ap (λ (l : List ℕ). l ++ p.left) (sym f)) p.back

  pub split_low : (cs pre : List ℕ) → encode_all cs ≡ pre ++ q ∷ rest → Split cs pre
  unfolding encode_all
  split_low [] pre e = absurd (omega (arith, ap length e, length-append pre (q ∷ rest)))
  split_low (c ∷ cs) pre e = split_one c cs (split_low cs) pre (encoded c) e

pub record Cut (pre : List ℕ) (q : ℕ) (rest : List ℕ) : Type 0 where
  pub all : chars (pre ++ q ∷ rest) ≡ chars pre ++ q ∷ chars rest
  pub front : encode_all (chars pre) ≡ pre
  pub valid : first_bad rest ≡ none

scalars_front : (xs ys : List ℕ) → all_scalars (xs ++ ys) ≡ true → all_scalars xs ≡ true
unfolding all_scalars
scalars_front [] ys e = refl
scalars_front (x ∷ xs) ys e =
    rw (and_l (is_scalar x) (all_scalars (xs ++ ys)) e, scalars_front xs ys (and_r (is_scalar x) (all_scalars (xs ++ ys)) e))

scalars_back : (xs ys : List ℕ) → all_scalars (xs ++ ys) ≡ true → all_scalars ys ≡ true
unfolding all_scalars
scalars_back [] ys e = e
scalars_back (x ∷ xs) ys e = scalars_back xs ys (and_r (is_scalar x) (all_scalars (xs ++ ys)) e)

pub chars_cut : (pre : List ℕ) (q : ℕ) (rest : List ℕ) → q < 0x80 → first_bad (pre ++ q ∷ rest) ≡ none → Cut pre q rest
unfolding all_scalars
chars_cut pre q rest low e =
    let text : List ℕ = pre ++ q ∷ rest in
    let s = split_low q low rest (chars text) pre (whole text e) in
    let all : all_scalars (s.before ++ q ∷ s.after) ≡ true = ap all_scalars (sym s.all) ∙ chars_scalars text in
    let before : all_scalars s.before ≡ true = scalars_front s.before (q ∷ s.after) all in
    let after : all_scalars s.after ≡ true = and_r (is_scalar q) (all_scalars s.after) (scalars_back s.before (q ∷ s.after) all) in
    let first : chars pre ≡ s.before = ap chars (sym s.front) ∙ chars_encoded s.before before in
    let second : chars rest ≡ s.after = ap chars (sym s.back) ∙ chars_encoded s.after after in
    record {
      all = s.all ∙ ap (λ (l : List ℕ). l ++ q ∷ s.after) (sym first) ∙ ap (λ (l : List ℕ). chars pre ++ q ∷ l) (sym second);
      front = ap encode_all first ∙ s.front;
      valid = ap first_bad (sym s.back) ∙ encoded_valid s.after after;
    }
