-- That the definitions of Utf8.antt are RFC 3629, whichever way one reads them.
-- chars_scalars  each character that is read is a scalar value, of any text
-- Encoding       a text is the encoding of its characters, all of them scalar values
-- valid_encodes, encodes_valid  a text is valid exactly when it is the encoding of its characters
-- read_one       reading back what `encode` wrote gives the scalar value, for every scalar value
-- width-encode   `width` is the length of the encoding
-- Assumes nothing.
use mathlib.Core.Path.{◌≡◌, refl, sym, ap, ◌∙◌}
use mathlib.Core.Bool.{Bool, true, false}
use mathlib.Core.Option.{none}
use mathlib.Core.List.{List, [], ◌∷◌, append-nil}
use Prim.Native.Nat.{ℕ, zero, suc}
use lib.Dec.{ltb}
use lib.ListN.{length}
use Rattle.chars.specs.Utf8.{Front, char, bad, end, front, on_front, chars_from, chars, first_bad, is_scalar, encode, width, encode_all, all_scalars}
use Rattle.chars.proofs.Scalars.{front_read}
use Rattle.chars.proofs.Encoded.{chars_encoded, encoded_valid}
use Rattle.chars.proofs.Whole.{whole}

scalars_from : (k : ℕ) (l : List ℕ) → all_scalars (chars_from k l) ≡ true
unfolding chars_from all_scalars
scalars_from zero [] = refl
scalars_from (suc k) [] = refl
scalars_from (suc k) (b ∷ l) = scalars_from k l
scalars_from zero (b ∷ l) = go (front (b ∷ l)) refl (λ n. scalars_from n l)
  where
    go : (f : Front) → front (b ∷ l) ≡ f → ((n : ℕ) → all_scalars (chars_from n l) ≡ true) → all_scalars (on_front f (λ s n. s ∷ chars_from n l) [] []) ≡ true
    go (char s n) p ih = rw ((front_read (b ∷ l) s n p).scalar, ih n)
    go bad p ih = refl
    go end p ih = refl

pub chars_scalars : (text : List ℕ) → all_scalars (chars text) ≡ true
unfolding chars
chars_scalars text = scalars_from 0 text

pub record Encoding (text : List ℕ) : Type 0 where
  pub scalars : all_scalars (chars text) ≡ true
  pub same : text ≡ encode_all (chars text)

pub valid_encodes : (text : List ℕ) → first_bad text ≡ none → Encoding text
valid_encodes text e = record { scalars = chars_scalars text; same = sym (whole text e) }

pub encodes_valid : (text : List ℕ) → Encoding text → first_bad text ≡ none
encodes_valid text e = ap first_bad e.same ∙ encoded_valid (chars text) e.scalars

encode_all_one : (s : ℕ) → encode_all (s ∷ []) ≡ encode s
unfolding encode_all
encode_all_one s = append-nil (encode s)

one_scalar : (s : ℕ) → is_scalar s ≡ true → all_scalars (s ∷ []) ≡ true
unfolding all_scalars
one_scalar s e = rw e

pub read_one : (s : ℕ) → is_scalar s ≡ true → chars (encode s) ≡ s ∷ []
read_one s e = ap chars (sym (encode_all_one s)) ∙ chars_encoded (s ∷ []) (one_scalar s e)

pub width-encode : (s : ℕ) → width s ≡ length (encode s)
unfolding width encode
width-encode s = go (ltb s 0x80) (ltb s 0x800) (ltb s 0x10000) refl refl refl
  where
    go : (p q r : Bool) → ltb s 0x80 ≡ p → ltb s 0x800 ≡ q → ltb s 0x10000 ≡ r → width s ≡ length (encode s)
    go true q r p1 p2 p3 = simp p1
    go false true r p1 p2 p3 = simp (p1, p2)
    go false false true p1 p2 p3 = simp (p1, p2, p3)
    go false false false p1 p2 p3 = simp (p1, p2, p3)
