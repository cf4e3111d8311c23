-- The known texts are ASCII, so a text may be looked up by its bytes.
-- known_bytes   the kind of some characters is that of their bytes
-- Assumes nothing.
use mathlib.Core.Path.{◌≡◌, refl, ap, ◌∙◌}
use mathlib.Core.Bool.{Bool, true, false, ◌&&◌}
use mathlib.Core.List.{List, [], ◌∷◌, ◌++◌, map}
use Prim.Native.Nat.{ℕ, zero, suc, ◌+◌, ◌≤◌, ◌<◌}
use native.Mathlib.Numerals.{one-add}
use native.Mathlib.Nat.{suc-add}
use native.Mathlib.Omega.{arith}
use lib.Dec.{eqb, ltb}
use lib.ListN.{take, drop}
use borrow.Author.Tests.{ne_eqb, ltb-true}
use Rattle.chars.specs.Utf8.{chars, width, encode, encode_all}
use Rattle.chars.proofs.Bytes.{and_l, and_r}
use Rattle.chars.proofs.Halving.{out}
use Rattle.tokens.specs.Texts.{Row, text_of, texts}
use Rattle.words.specs.declared.guess.Sort.{Sort}
use Rattle.words.specs.declared.guess.Sort.TheVariants.{Words, Runs, Zeros}
use Rattle.scans.specs.Scans.{bytes}
use Rattle.words.specs.Known.{lower, equal, find, words, runs, zeros, rows_of, known_kind}
use Rattle.scans.specs.Whole.{Whole}
use Rattle.scans.proofs.Characters.{Encoded, one, many, encoded}

-- every letter is ASCII
abbrev low : List ℕ → Bool
low [] = true
low (x ∷ xs) = ltb x 0x80 && low xs

abbrev low_rows : List Row → Bool
low_rows [] = true
low_rows (r ∷ rs) = low r.text && low_rows rs

high_lower : (c y : ℕ) → 0x80 ≤ c → y < 0x80 → eqb (lower c) y ≡ false
high_lower c y h k = rw (out 0x41 0x5A c (λ p q. omega arith)) (ne_eqb c y (λ e. omega arith))

same_char : (c : ℕ) (cs : List ℕ) (n : ℕ) (text : List ℕ) → Encoded c → low text ≡ true
    → ((t : List ℕ) → low t ≡ true → equal (map lower (take n cs)) t ≡ equal (map lower (take (bytes n cs) (encode_all cs))) t)
    → equal (map lower (take (suc n) (c ∷ cs))) text ≡ equal (map lower (take (width c + bytes n cs) (encode c ++ encode_all cs))) text
same_char c cs n [] (one h e w) l ih = rw (w, e, one-add)
same_char c cs n (y ∷ ys) (one h e w) l ih = rw (w, e, one-add) (ap (λ (b : Bool). eqb (lower c) y && b) (ih ys (and_r (ltb y 0x80) (low ys) l)))
same_char c cs n [] (many h b bs e k w) l ih = rw (w, e, suc-add)
same_char c cs n (y ∷ ys) (many h b bs e k w) l ih =
    let i : y < 0x80 = ltb-true y 0x80 (and_l (ltb y 0x80) (low ys) l) in
    rw (w, e, suc-add, high_lower c y h i, high_lower b y k.0 i)

same_bytes : (cs : List ℕ) (n : ℕ) (text : List ℕ) → low text ≡ true → equal (map lower (take n cs)) text ≡ equal (map lower (take (bytes n cs) (encode_all cs))) text
unfolding encode_all
same_bytes cs zero text l = refl
same_bytes [] (suc n) text l = refl
same_bytes (c ∷ cs) (suc n) text l = same_char c cs n text (encoded c) l (same_bytes cs n)

find-bytes : (rs : List Row) (cs : List ℕ) (n : ℕ) → low_rows rs ≡ true → find rs (map lower (take n cs)) ≡ find rs (map lower (take (bytes n cs) (encode_all cs)))
find-bytes [] cs n l = refl
find-bytes (r ∷ rs) cs n l =
    rw (same_bytes cs n r.text (and_l (low r.text) (low_rows rs) l), find-bytes rs cs n (and_r (low r.text) (low_rows rs) l))

low_rows_lem : (sort : Sort) → low_rows (rows_of sort) ≡ true
unfolding rows_of
low_rows_lem Words = unfold words text_of texts in refl
low_rows_lem Runs = unfold runs in refl
low_rows_lem Zeros = unfold zeros in refl

pub known_bytes : (sort : Sort) (t : List ℕ) (at n : ℕ) → Whole t at
    → known_kind sort (take n (chars (drop at t))) ≡ known_kind sort (take (bytes n (chars (drop at t))) (drop at t))
unfolding known_kind
known_bytes sort t at n w =
    find-bytes (rows_of sort) (chars (drop at t)) n (low_rows_lem sort)
    ∙ ap (λ (l : List ℕ). find (rows_of sort) (map lower (take (bytes n (chars (drop at t))) l))) w.whole
