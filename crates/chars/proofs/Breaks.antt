-- That the offset of the first bad sequence is RFC 3629's: the bytes before it are the encoding of some scalar values, and no scalar
-- value's encoding starts there. `BreaksAt` of Utf8.antt says so.
-- bad_breaks, breaks_bad  the first bad byte is at an offset exactly when the text breaks there
-- breaks_once             a text breaks at one offset alone
-- Assumes nothing.
use mathlib.Core.Path.{◌≡◌, refl, sym, ap, ◌∙◌}
use mathlib.Core.Bool.{true}
use mathlib.Core.Option.{some}
use mathlib.Core.List.{List, [], ◌∷◌, ◌++◌, append_assoc}
use Prim.Native.Nat.{ℕ, zero, suc, ◌+◌, ◌<◌}
use native.Mathlib.Omega.{arith}
use lib.ListN.{length, drop, take-append-drop, length-drop}
use lib.Seq.{length-take-le, take-append_seam, drop-append_seam}
use Rattle.chars.specs.Utf8.{Front, char, bad, end, front, chars_from, chars, bad_from, first_bad, encode, encode_all, all_scalars, BreaksAt}
use Rattle.chars.proofs.Joining.{drop_at}
use Rattle.chars.proofs.Scalars.{clash, front_read, read_back}
use Rattle.chars.proofs.Whole.{written, front_some}
use Rattle.chars.proofs.Stepping.{bad_here, end_here}
use Rattle.chars.proofs.Encoded.{encoded_passed}
use Rattle.chars.proofs.Rfc.{chars_scalars}

-- what is left of a text after its characters: no character starts there
record Rest (k : ℕ) (l : List ℕ) : Type 0 where
  rest : List ℕ
  is : drop k l ≡ encode_all (chars_from k l) ++ rest
  none_reads : (s n : ℕ) → front rest ≡ char s n → ⊥

rest_of : (k : ℕ) (l : List ℕ) → Rest k l
unfolding chars_from encode_all
rest_of zero [] = record { rest = []; is = refl; none_reads = λ s n e. unfold front in clash (cc) }
rest_of (suc k) [] = record { rest = []; is = refl; none_reads = λ s n e. unfold front in clash (cc) }
rest_of (suc k) (b ∷ l) = let r = rest_of k l in record { rest = r.rest; is = r.is; none_reads = r.none_reads }
rest_of zero (b ∷ l) = go (front (b ∷ l)) refl (λ n. rest_of n l)
  where
    go : (f : Front) → front (b ∷ l) ≡ f → ((n : ℕ) → Rest n l) → Rest 0 (b ∷ l)
    go (char s n) p ih = record {
      rest = (ih n).rest;
      is = rw p (written (b ∷ l) s n p ∙ ap (λ (y : List ℕ). encode s ++ y) (ih n).is ∙ sym (append_assoc (encode s) (encode_all (chars_from n l)) (ih n).rest));
      none_reads = (ih n).none_reads;
    }
    go bad p ih = record { rest = b ∷ l; is = rw p; none_reads = λ s n e. clash (cc) }
    go end p ih = absurd (front_some b l p)

bad_some : (l : List ℕ) → front l ≡ bad → 0 < length l
unfolding front
bad_some [] e = clash (cc)
bad_some (b ∷ l) e = omega arith

-- after the encoding of some scalar values, a front at which no character starts
breaks_after : (text ss rest : List ℕ) (at : ℕ) → text ≡ encode_all ss ++ rest → all_scalars ss ≡ true → front rest ≡ bad → at ≡ length (encode_all ss) → BreaksAt text at
breaks_after text ss rest at e i p k =
    let d : drop at text ≡ rest = rw (k, e, drop-append_seam (encode_all ss) rest) in
    record {
      before = ss;
      scalars = i;
      encoded = rw (k, e, take-append_seam (encode_all ss) rest);
      inside = omega (arith, bad_some rest p, length-drop at text, ap length d);
      none_starts = λ s more j q. let y = sym (read_back s more j) ∙ ap front (sym q ∙ d) ∙ p in clash (cc);
    }

pub bad_breaks : (text : List ℕ) (at : ℕ) → first_bad text ≡ some at → BreaksAt text at
unfolding first_bad chars
bad_breaks text at e = go (front left.rest) refl
  where
    left : Rest 0 text
    left = rest_of 0 text

    passed : bad_from 0 (0 + length (encode_all (chars text))) left.rest ≡ some at
    passed = sym (encoded_passed 0 (chars text) left.rest (chars_scalars text)) ∙ ap (bad_from 0 0) (sym left.is) ∙ e

    go : (f : Front) → front left.rest ≡ f → BreaksAt text at
    go (char s n) p = absurd (left.none_reads s n p)
    go bad p =
        let z = sym (bad_here _ left.rest p) ∙ passed in
        let k : at ≡ 0 + length (encode_all (chars text)) = cc in
        breaks_after text (chars text) left.rest at left.is (chars_scalars text) p (omega arith)
    go end p = let z = sym (end_here _ left.rest p) ∙ passed in clash (cc)

pub breaks_bad : (text : List ℕ) (at : ℕ) → BreaksAt text at → first_bad text ≡ some at
unfolding first_bad
breaks_bad text at b = passed ∙ go (front (drop at text)) refl
  where
    long : 0 + length (encode_all b.before) ≡ at
    long = omega (arith, ap length b.encoded, length-take-le at text (omega (arith, b.inside)))

    passed : bad_from 0 0 text ≡ bad_from 0 at (drop at text)
    passed =
        ap (bad_from 0 0) (sym (take-append-drop at text) ∙ ap (λ (l : List ℕ). l ++ drop at text) b.encoded)
        ∙ encoded_passed 0 b.before (drop at text) b.scalars
        ∙ ap (λ (k : ℕ). bad_from 0 k (drop at text)) long

    go : (f : Front) → front (drop at text) ≡ f → bad_from 0 at (drop at text) ≡ some at
    go (char s n) p = absurd (b.none_starts s (drop (suc n) (drop at text)) (front_read (drop at text) s n p).scalar (written (drop at text) s n p))
    go bad p = bad_here at (drop at text) p
    go end p = absurd (front_some _ _ (ap front (sym (drop_at text at b.inside)) ∙ p))

pub breaks_once : (text : List ℕ) (at at' : ℕ) → BreaksAt text at → BreaksAt text at' → at ≡ at'
breaks_once text at at' b b' = let e = sym (breaks_bad text at b) ∙ breaks_bad text at' b' in cc
