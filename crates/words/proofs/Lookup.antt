-- Looking a text up: a guess by its key, confirmed by the row's text, is the definition's search.
-- equal_is, equal_self      the comparison
-- lookup_is                 guess and confirmation are the search
-- lookup_long               a text longer than any row is not known
-- named                     a guess has a kind, and its text is in lower case
-- answered, no_guess        what the code answers of a guess, and of none
-- zero-not, unprefixed      a number that does not begin with `0` is not known
-- Assumes nothing.
use mathlib.Core.Path.{◌≡◌, refl, sym, ap, ◌∙◌}
use mathlib.Core.Bool.{Bool, true, false, cond, not, ◌&&◌}
use mathlib.Core.List.{List, [], ◌∷◌, map}
use Rattle.std.specs.Prelude.{Option, None, Some, ◌↔◌}
use Rattle.std.specs.Option.{option_map}
use Rattle.std.specs.List.{starts_with}
use Prim.Native.Nat.{ℕ, zero, suc, ◌+◌, ◌<◌}
use Prim.Native.Char.{code}
use native.Mathlib.Omega.{arith}
use lib.Dec.{eqb, leb}
use lib.ListN.{length, get_or, take, drop}
use lib.Seq.{drop-cons}
use borrow.Author.Tests.{eq-eqb, eqb-true, ne_eqb, leb-true}
use Rattle.std.specs.Char.{to_ascii_lowercase}
use Rattle.std.specs.Bool.{then_some}
use Rattle.std.proofs.lemmas.Bool.Decides.{nat_tests}
use Rattle.chars.proofs.Bytes.{and_l, and_r}
use Rattle.chars.proofs.Scalars.{clash}
use Rattle.tokens.specs.Kinds as kind
use Rattle.tokens.specs.Named.{number, Finds}
use Rattle.tokens.specs.Texts.{Row}
use Rattle.words.specs.declared.guess.Sort.{Sort}
use Rattle.words.specs.declared.guess.Sort.TheVariants.{Words, Runs, Zeros}
use Rattle.words.specs.declared.table.Known.{Known}
use Rattle.words.specs.Known.{lower, equal, find, words, runs, zeros, rows_of, known_kind, as_row, key_of, keyed, guess_of}

-- ---- the comparison
pub equal_is : (a b : List ℕ) → equal a b ≡ true → a ≡ b
equal_is [] [] e = refl
equal_is [] (y ∷ b) e = clash (cc)
equal_is (x ∷ a) [] e = clash (cc)
equal_is (x ∷ a) (y ∷ b) e =
    let h : x ≡ y = eqb-true x y (and_l (eqb x y) (equal a b) e) in
    let t : a ≡ b = equal_is a b (and_r (eqb x y) (equal a b) e) in
    rw (h, t)

pub equal_self : (a : List ℕ) → equal a a ≡ true
equal_self [] = refl
equal_self (x ∷ a) = rw (eq-eqb x x refl, equal_self a)

-- ---- the tests of a table, passed by computation: no two rows have one key, no text is longer than nine bytes, each row has a kind and its text in
-- lower case
abbrev apart : ℕ → List Row → Bool
apart v [] = true
apart v (r ∷ rs) = not (eqb v (key_of r.text)) && apart v rs

abbrev distinct : List Row → Bool
distinct [] = true
distinct (r ∷ rs) = apart (key_of r.text) rs && distinct rs

abbrev short : List Row → Bool
short [] = true
short (r ∷ rs) = leb (length r.text) 9 && short rs

abbrev named_row : Row → Bool
named_row r = leb 1 r.kind && equal (map lower r.text) r.text

abbrev all_named : List Row → Bool
all_named [] = true
all_named (r ∷ rs) = named_row r && all_named rs

-- no row has a text of another key
absent : (rs : List Row) (w : List ℕ) (v : ℕ) → apart v rs ≡ true → key_of w ≡ v → find rs w ≡ kind.None
absent [] w v e p = refl
absent (r ∷ rs) w v e p = go (equal w r.text) refl (absent rs w v (and_r (not (eqb v (key_of r.text))) (apart v rs) e) p)
  where
    go : (b : Bool) → equal w r.text ≡ b → find rs w ≡ kind.None → cond b r.kind (find rs w) ≡ kind.None
    go true q ih =
        let z : eqb v (key_of r.text) ≡ true = eq-eqb v (key_of r.text) (sym p ∙ ap key_of (equal_is w r.text q)) in
        clash (let y : not true ≡ true = rw z at (and_l (not (eqb v (key_of r.text))) (apart v rs) e) in cc)
    go false q ih = ih

-- what the code answers, of a text w and a guess
abbrev pub confirmed : List ℕ → Option Row → ℕ
confirmed w None = kind.None
confirmed w (Some r) = cond (equal w r.text) r.kind kind.None

search_is : (rs : List Row) (w : List ℕ) → distinct rs ≡ true → find rs w ≡ confirmed w (keyed rs (key_of w))
search_is [] w d = refl
search_is (r ∷ rs) w d =
    go (eqb (key_of w) (key_of r.text)) refl (equal w r.text) refl (search_is rs w (and_r (apart (key_of r.text) rs) (distinct rs) d))
  where
    go : (b : Bool) → eqb (key_of w) (key_of r.text) ≡ b → (x : Bool) → equal w r.text ≡ x
        → find rs w ≡ confirmed w (keyed rs (key_of w))
        → cond x r.kind (find rs w) ≡ confirmed w (cond b (Some r) (keyed rs (key_of w)))
    go true q true y ih = rw y refl
    go true q false y ih =
        rw y (absent rs w (key_of r.text) (and_l (apart (key_of r.text) rs) (distinct rs) d) (eqb-true (key_of w) (key_of r.text) q))
    go false q true y ih = clash (let z : false ≡ true = sym q ∙ eq-eqb (key_of w) (key_of r.text) (ap key_of (equal_is w r.text y)) in cc)
    go false q false y ih = ih

too_long : (rs : List Row) (w : List ℕ) → short rs ≡ true → 9 < length w → find rs w ≡ kind.None
too_long [] w e h = refl
too_long (r ∷ rs) w e h = go (equal w r.text) refl (too_long rs w (and_r (leb (length r.text) 9) (short rs) e) h)
  where
    go : (b : Bool) → equal w r.text ≡ b → find rs w ≡ kind.None → cond b r.kind (find rs w) ≡ kind.None
    go true q ih = absurd (omega (arith, ap length (equal_is w r.text q), leb-true (length r.text) 9 (and_l (leb (length r.text) 9) (short rs) e)))
    go false q ih = ih

-- ---- the three tables
module _ (w : List ℕ) where
  pub lookup_is : (sort : Sort) → find (rows_of sort) w ≡ confirmed w (guess_of sort (key_of w))
  lookup_is Words = unfold guess_of rows_of in search_is words w (unfold words in refl)
  lookup_is Runs = unfold guess_of rows_of in search_is runs w (unfold runs in refl)
  lookup_is Zeros = unfold guess_of rows_of in search_is zeros w (unfold zeros in refl)

  pub lookup_long : (sort : Sort) → 9 < length w → find (rows_of sort) w ≡ kind.None
  lookup_long Words h = unfold rows_of in too_long words w (unfold words in refl) h
  lookup_long Runs h = unfold rows_of in too_long runs w (unfold runs in refl) h
  lookup_long Zeros h = unfold rows_of in too_long zeros w (unfold zeros in refl) h

-- a guess has a kind, and its text is in lower case
pub record Named (r : Row) : Type 0 where
  pub kinded : kind.None < r.kind
  pub low : map lower r.text ≡ r.text

named_in : (rs : List Row) (v : ℕ) → all_named rs ≡ true → (r : Row) → Some r ≡ keyed rs v → Named r
named_in [] v k r e = clash (cc)
named_in (q ∷ rs) v k r e = go (eqb v (key_of q.text)) e (named_in rs v (and_r (named_row q) (all_named rs) k) r)
  where
    this : named_row q ≡ true
    this = and_l (named_row q) (all_named rs) k

    go : (b : Bool) → Some r ≡ cond b (Some q) (keyed rs v) → (Some r ≡ keyed rs v → Named r) → Named r
    go true d later =
        let f : q ≡ r = cc in
        rw (← f) (record {
          kinded = omega (arith, leb-true 1 q.kind (and_l (leb 1 q.kind) (equal (map lower q.text) q.text) this));
          low = equal_is (map lower q.text) q.text (and_r (leb 1 q.kind) (equal (map lower q.text) q.text) this);
        })
    go false d later = later d

pub named : (sort : Sort) (v : ℕ) (r : Row) → Some r ≡ guess_of sort v → Named r
unfolding guess_of rows_of words runs zeros
named Words v = named_in words v refl
named Runs v = named_in runs v refl
named Zeros v = named_in zeros v refl

-- ---- letters in lower case, as the library has it
lower_same : (c : ℕ) → to_ascii_lowercase c ≡ lower c
lower_same c = grind (arith, nat_tests)

lower_all : (l : List ℕ) → map to_ascii_lowercase l ≡ map lower l
lower_all [] = refl
lower_all (c ∷ l) = rw (lower_same c, lower_all l)

-- what the lookup answers of a text whose guess is the row k, where b says that it has the row's text
pub answered : (sort : Sort) (text : List ℕ) (v : ℕ) (k : Known) (b : Bool) → v ≡ key_of (map lower text) → option_map as_row (Some k) ≡ guess_of sort v
    → ((b ≡ true) ↔ (map to_ascii_lowercase text ≡ map to_ascii_lowercase k.0.now))
    → Finds (known_kind sort text) (then_some b k.1)
unfolding known_kind
answered sort text v k b key e same = rw searched (go b refl (equal (map lower text) row) refl)
  where
    row : List ℕ
    row = k.0.now

    name : Named (as_row k)
    name = named sort v (as_row k) e

    searched : find (rows_of sort) (map lower text) ≡ cond (equal (map lower text) row) (number k.1) kind.None
    searched = lookup_is (map lower text) sort ∙ ap (confirmed (map lower text)) (sym (e ∙ ap (guess_of sort) key))

    low : map to_ascii_lowercase text ≡ map lower text
    low = lower_all text

    row_low : map to_ascii_lowercase row ≡ row
    row_low = lower_all row ∙ name.low

    go : (y : Bool) → b ≡ y → (x : Bool) → equal (map lower text) row ≡ x → Finds (cond x (number k.1) kind.None) (then_some y k.1)
    go true p true q = (refl, name.kinded)
    go true p false q =
        let h : map lower text ≡ row = sym low ∙ same.0 p ∙ row_low in
        let s : equal (map lower text) row ≡ true = rw (h, equal_self row) in
        clash (cc)
    go false p true q =
        let h : b ≡ true = same.1 (low ∙ equal_is (map lower text) row q ∙ sym row_low) in
        clash (cc)
    go false p false q = refl

-- nothing is known that has no guess
pub no_guess : (sort : Sort) (text : List ℕ) (v : ℕ) → v ≡ key_of (map lower text) → None ≡ guess_of sort v → known_kind sort text ≡ kind.None
unfolding known_kind
no_guess sort text v key e = lookup_is (map lower text) sort ∙ ap (confirmed (map lower text)) (sym (e ∙ ap (guess_of sort) key))

-- ---- the beginnings of numbers
lower-not : (b : ℕ) → (b ≡ code "0" → ⊥) → lower b ≡ code "0" → ⊥
lower-not b n = go (leb 0x41 b && leb b 0x5A) refl
  where
    go : (x : Bool) → (leb 0x41 b && leb b 0x5A) ≡ x → cond x (b + 0x20) b ≡ code "0" → ⊥
    go true e h = omega (arith, leb-true 0x41 b (and_l (leb 0x41 b) (leb b 0x5A) e))
    go false e h = n h

zero_first : (b : ℕ) (bs : List ℕ) → (b ≡ code "0" → ⊥) → known_kind Zeros (b ∷ bs) ≡ kind.None
unfolding known_kind rows_of zeros
zero_first b bs n = rw (ne_eqb (lower b) (code "0") (lower-not b n))

pub zero-not : (t : List ℕ) (at n : ℕ) → at < length t → (get_or t at 0 ≡ code "0" → ⊥) → kind.None ≡ known_kind Zeros (take n (drop at t))
zero-not t at zero h d = unfold known_kind rows_of zeros in refl
zero-not t at (suc n) h d = rw (drop-cons t at 0 h) (sym (zero_first (get_or t at 0) (take n (drop (suc at) t)) d))

pub unprefixed : (t : List ℕ) → starts_with eqb t (code "0" ∷ []) ≡ false → known_kind Zeros t ≡ kind.None
unprefixed [] e = unfold known_kind rows_of zeros in refl
unprefixed (b ∷ bs) e = zero_first b bs (λ z. let h : starts_with eqb (b ∷ bs) (code "0" ∷ []) ≡ true = rw z refl in clash (cc))
