-- An encoded list of scalar values is read as those values: the definition of `chars` is RFC 3629's.
-- chars_encoded   its characters are the values
-- encoded_passed  the first bad byte is looked for after it
-- encoded_valid   it has no bad byte
-- Assumes nothing.
use mathlib.Core.Path.{◌≡◌, refl, sym, ap, ◌∙◌}
use mathlib.Core.Bool.{Bool, true, false}
use mathlib.Core.Option.{none}
use mathlib.Core.List.{List, [], ◌∷◌, ◌++◌, append-nil, append_assoc}
use Prim.Native.Nat.{ℕ, suc, ◌+◌, ◌-◌, ◌<◌}
use native.Mathlib.Nat.{add-zero}
use native.Mathlib.Omega.{arith}
use lib.Dec.{ltb}
use lib.ListN.{length, length-append}
use lib.Seq.{drop-append_seam}
use Rattle.chars.specs.Utf8.{chars, chars_from, bad_from, first_bad, is_scalar, encode, encode_all, all_scalars}
use Rattle.chars.proofs.Bytes.{and_l, and_r}
use Rattle.chars.proofs.Scalars.{read_back}
use Rattle.chars.proofs.Stepping.{front-chars, front_bad}

encode_some : (s : ℕ) → 0 < length (encode s)
unfolding encode
encode_some s = go (ltb s 0x80) (ltb s 0x800) (ltb s 0x10000) refl refl refl
  where
    go : (p q r : Bool) → ltb s 0x80 ≡ p → ltb s 0x800 ≡ q → ltb s 0x10000 ≡ r → 0 < length (encode s)
    go true q r p1 p2 p3 = simp p1 (omega arith)
    go false true r p1 p2 p3 = simp (p1, p2) (omega arith)
    go false false true p1 p2 p3 = simp (p1, p2, p3) (omega arith)
    go false false false p1 p2 p3 = simp (p1, p2, p3) (omega arith)

pub chars_encoded : (ss : List ℕ) → all_scalars ss ≡ true → chars (encode_all ss) ≡ ss
unfolding encode_all all_scalars
chars_encoded [] e = unfold chars chars_from in refl
chars_encoded (s ∷ ss) e =
    let n : suc (length (encode s) - 1) ≡ length (encode s) = omega (arith, encode_some s) in
    front-chars (encode s ++ encode_all ss) s (length (encode s) - 1) (read_back s (encode_all ss) (and_l (is_scalar s) (all_scalars ss) e))
    ∙ rw (n, drop-append_seam (encode s) (encode_all ss)) (ap (λ (l : List ℕ). s ∷ l) (chars_encoded ss (and_r (is_scalar s) (all_scalars ss) e)))

pub encoded_passed : (at : ℕ) (ss rest : List ℕ) → all_scalars ss ≡ true → bad_from 0 at (encode_all ss ++ rest) ≡ bad_from 0 (at + length (encode_all ss)) rest
unfolding encode_all all_scalars
encoded_passed at [] rest e = rw add-zero
encoded_passed at (s ∷ ss) rest e =
    let more = encode_all ss ++ rest in
    let n : suc (length (encode s) - 1) ≡ length (encode s) = omega (arith, encode_some s) in
    let m : at + length (encode s) + length (encode_all ss) ≡ at + length (encode s ++ encode_all ss) = omega (arith, length-append (encode s) (encode_all ss)) in
    ap (bad_from 0 at) (append_assoc (encode s) (encode_all ss) rest)
    ∙ front_bad at (encode s ++ more) s (length (encode s) - 1) (read_back s more (and_l (is_scalar s) (all_scalars ss) e))
    ∙ rw (n, drop-append_seam (encode s) more) (encoded_passed (at + length (encode s)) ss rest (and_r (is_scalar s) (all_scalars ss) e))
    ∙ ap (λ (k : ℕ). bad_from 0 k rest) m

pub encoded_valid : (ss : List ℕ) → all_scalars ss ≡ true → first_bad (encode_all ss) ≡ none
unfolding first_bad bad_from
encoded_valid ss e = ap (bad_from 0 0) (sym (append-nil (encode_all ss))) ∙ encoded_passed 0 ss [] e
