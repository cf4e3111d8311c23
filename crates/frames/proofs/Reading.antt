-- Hexadecimal read.
-- hex_le                    the first character that is not hexadecimal is at most the length
-- bytes_few                 two characters a byte
-- all_hex                   there is none: each character has a value
-- no_value_at               where the search for it ends
-- pair_at                   the characters of a line, two by two
-- read_some, read_is        a character's value, as it is read
-- bytes_pair, bytes_short   the bytes of a line, from a place on
-- decode_more, decoded      one more byte decoded; all of them
-- Assumes nothing.
use mathlib.Core.Path.{◌≡◌, refl, sym, ap, ◌∙◌}
use mathlib.Core.Bool.{Bool, true, false, cond}
use mathlib.Core.List.{List, [], ◌∷◌, ◌++◌, append-nil}
use Prim.Native.Nat.{ℕ, zero, suc, ◌+◌, ◌*◌, ◌≤◌, ◌<◌}
use native.Mathlib.Nat.{zero-add}
use native.Mathlib.Numerals.{add-one}
use native.Mathlib.Omega.{arith}
use lib.Dec.{ltb}
use lib.ListN.{length, get_or, set, take, drop, length-drop, take-append-drop}
use lib.Seq.{drop-cons, append_snoc, take-suc-set, drop-set-lt, drop-drop, length-take-le}
use borrow.Author.Tests.{lt-ltb, ltb-true, ltb-false}
use Rattle.std.specs.Prelude.{Some, None}
use Rattle.std.specs.Option.{unwrap_or, is_none}
use Rattle.std.specs.List.{position, position_or_len}
use Rattle.std.specs.Simd.{first_chunks}
use Rattle.std.proofs.lemmas.List.{get_or-take, get_or-drop}
use Rattle.std.proofs.lemmas.List.Recursion.{is_position_or_len}
use Rattle.writer.specs.Promise.{Put}
use Rattle.frames.specs.Hex.{hex_value, is_hex, hex_read, first_not_hex, hex_bytes}

pub hex_le : (line : List ℕ) → first_not_hex line ≤ length line
unfolding first_not_hex
hex_le [] = omega arith
hex_le (c ∷ cs) = go (is_hex c) (hex_le cs)
  where
    go : (b : Bool) → first_not_hex cs ≤ length cs → cond b (suc (first_not_hex cs)) 0 ≤ suc (length cs)
    go true h = omega arith
    go false h = omega arith

pub bytes_few : (line : List ℕ) → length (hex_bytes line) * 2 ≤ length line
unfolding hex_bytes
bytes_few [] = omega arith
bytes_few (c ∷ []) = omega arith
bytes_few (c ∷ d ∷ cs) = omega (arith, bytes_few cs)

pub all_hex : (line : List ℕ) → first_not_hex line ≡ length line → (i : ℕ) → i < length line → hex_value (get_or line i 0) < 16
unfolding first_not_hex
all_hex [] e i h = absurd (omega arith)
all_hex (c ∷ cs) e i h = go (is_hex c) refl e i h (all_hex cs)
  where
    go : (b : Bool) → is_hex c ≡ b → cond b (suc (first_not_hex cs)) 0 ≡ suc (length cs) → (i : ℕ) → i < suc (length cs)
        → (first_not_hex cs ≡ length cs → (i : ℕ) → i < length cs → hex_value (get_or cs i 0) < 16)
        → hex_value (get_or (c ∷ cs) i 0) < 16
    go true q e zero h rest = ltb-true (hex_value c) 16 q
    go true q e (suc i) h rest = rest (omega arith) i (omega arith)
    go false q e i h rest = absurd (omega arith)

-- where the search for a character that has no value ends
pub no_value_at : (line : List ℕ) → unwrap_or (position (λ c. is_none (hex_read c)) line) (length line) ≡ first_not_hex line
unfolding first_not_hex
no_value_at line = ap found (sym place) ∙ go (ltb (first_not_hex line) (length line)) (λ e. ltb-false (first_not_hex line) (length line) e) (hex_le line)
  where
    p : ℕ → Bool
    p c = is_none (hex_read c)

    found : ℕ → ℕ
    found k = unwrap_or (cond (ltb k (length line)) (Some k) None) (length line)

    turned : (b : Bool) (v n : ℕ) → cond b (suc n) 0 ≡ cond (is_none (cond b (Some v) None)) 0 (1 + n)
    turned true v n = omega arith
    turned false v n = refl

    place : first_not_hex line ≡ position_or_len p line
    place = is_position_or_len first_not_hex p refl (λ x xs. turned (is_hex x) (hex_value x) (first_not_hex xs)) line

    go : (b : Bool) → (b ≡ false → length line ≤ first_not_hex line) → first_not_hex line ≤ length line
        → unwrap_or (cond b (Some (first_not_hex line)) None) (length line) ≡ first_not_hex line
    go true h g = refl
    go false h g = omega (arith, h refl)

-- the characters of a line, two by two
pub pair_at : (k : ℕ) (line : List ℕ) (i j : ℕ) → i < k → j < 2 → get_or (get_or (first_chunks 2 k line) i []) j 0 ≡ get_or line (i * 2 + j) 0
pair_at zero line i j h g = absurd (omega arith)
pair_at (suc k) line zero j h g = get_or-take 2 line j 0 g ∙ ap (λ (n : ℕ). get_or line n 0) (omega arith)
pair_at (suc k) line (suc i) j h g = pair_at k (drop 2 line) i j (omega arith) g ∙ get_or-drop 2 line (i * 2 + j) 0 ∙ ap (λ (n : ℕ). get_or line n 0) (omega arith)

-- a character's value, as it is read
pub read_some : (c : ℕ) → hex_value c < 16 → hex_read c ≡ Some (hex_value c)
read_some c h = ap (λ (b : Bool). cond b (Some (hex_value c)) None) (lt-ltb (hex_value c) 16 h)

pub read_is : (c : ℕ) {v : ℕ} → hex_read c ≡ Some v → v ≡ hex_value c
read_is c {v} = go (is_hex c)
  where
    go : (b : Bool) → cond b (Some (hex_value c)) None ≡ Some v → v ≡ hex_value c
    go true e = cc
    go false e = cc

-- the byte of two characters
abbrev pub pair : List ℕ → ℕ → ℕ
pair line i = hex_value (get_or line i 0) * 16 + hex_value (get_or line (i + 1) 0)

pub bytes_pair : (line : List ℕ) (n : ℕ) → n * 2 + 1 < length line → hex_bytes (drop (n * 2) line) ≡ pair line (n * 2) ∷ hex_bytes (drop ((n + 1) * 2) line)
unfolding hex_bytes
bytes_pair line n h =
    let i : ℕ = n * 2 in
    let two : suc (i + 1) ≡ (n + 1) * 2 = omega arith in
    ap hex_bytes (drop-cons line i 0 (omega arith) ∙ ap (λ (l : List ℕ). get_or line i 0 ∷ l) (ap (λ (k : ℕ). drop k line) (sym (add-one i)) ∙ drop-cons line (i + 1) 0 h))
    ∙ ap (λ (k : ℕ). pair line i ∷ hex_bytes (drop k line)) two

pub bytes_short : (l : List ℕ) → length l ≤ 1 → hex_bytes l ≡ []
unfolding hex_bytes
bytes_short [] h = refl
bytes_short (c ∷ []) h = refl
bytes_short (c ∷ d ∷ cs) h = absurd (omega arith)

module _ (line text₀ text : List ℕ) (n : ℕ) (e : hex_bytes line ≡ take n text ++ hex_bytes (drop (n * 2) line)) (f : drop n text ≡ drop n text₀) where
  pub decode_more : (v : ℕ) → v ≡ pair line (n * 2) → n * 2 + 1 < length line → n < length text
      → (hex_bytes line ≡ take (n + 1) (set text n v) ++ hex_bytes (drop ((n + 1) * 2) line)) × (drop (n + 1) (set text n v) ≡ drop (n + 1) text₀)
  decode_more v ev h g =
      let rest : List ℕ = hex_bytes (drop ((n + 1) * 2) line) in (
        e
            ∙ ap (λ (l : List ℕ). take n text ++ l) (bytes_pair line n h ∙ ap (λ (b : ℕ). b ∷ rest) (sym ev))
            ∙ sym (append_snoc (take n text) v rest)
            ∙ ap (λ (l : List ℕ). l ++ rest) (sym (take-suc-set text n v g) ∙ ap (λ (k : ℕ). take k (set text n v)) (sym (add-one n))),
        drop-set-lt (n + 1) text n v (omega arith) ∙ sym (drop-drop 1 n text) ∙ ap (drop 1) f ∙ drop-drop 1 n text₀,
      )

  pub decoded : length line ≤ n * 2 + 1 → n ≤ length text → Put text₀ 0 (hex_bytes line) n text
  decoded h g =
      let all : hex_bytes line ≡ take n text =
      e ∙ ap (λ (l : List ℕ). take n text ++ l) (bytes_short (drop (n * 2) line) (omega (arith, length-drop (n * 2) line))) ∙ append-nil (take n text) in
      let long : length (hex_bytes line) ≡ n = ap length all ∙ length-take-le n text g in
      record {
        next = omega arith;
        left = sym (take-append-drop n text) ∙ ap (λ (l : List ℕ). l ++ drop n text) (sym all) ∙ ap (λ (l : List ℕ). hex_bytes line ++ l) (f ∙ ap (λ (k : ℕ). drop k text₀) (sym long ∙ sym (zero-add (length (hex_bytes line)))));
      }
