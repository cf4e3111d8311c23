-- Hexadecimal written.
-- text_append        bytes joined, text joined
-- text_long          two characters a byte
-- put_front          what the front of a page holds after a copy
-- head_long, printed_long   the length of a printed frame
-- put_more           one more byte as text
-- Assumes nothing.
use mathlib.Core.Path.{◌≡◌, refl, sym, ap, ◌∙◌}
use mathlib.Core.List.{List, [], ◌∷◌, ◌++◌, append_assoc}
use Prim.Native.Nat.{ℕ, ◌+◌, ◌*◌, ◌/◌, ◌%◌, ◌≤◌, ◌<◌}
use native.Mathlib.Numerals.{add-one}
use native.Mathlib.Omega.{arith}
use lib.ListN.{length, get_or, set, take, drop, length-set, length-append}
use lib.Seq.{take-suc, take_at, length-take-le}
use Rattle.writer.specs.Promise.{Put}
use Rattle.writer.proofs.Puts.{put_as, put_one, put_then}
use Rattle.frames.specs.Hex.{hex_digit, hex_text}
use Rattle.frames.specs.Frames.{Shown, big_endian, head, printed}

pub text_append : (xs ys : List ℕ) → hex_text (xs ++ ys) ≡ hex_text xs ++ hex_text ys
unfolding hex_text
text_append [] ys = refl
text_append (x ∷ xs) ys = ap (λ (l : List ℕ). hex_digit (x / 16) ∷ hex_digit (x % 16) ∷ l) (text_append xs ys)

pub text_long : (bs : List ℕ) → length (hex_text bs) ≡ length bs * 2
unfolding hex_text
text_long [] = refl
text_long (b ∷ bs) = omega (arith, text_long bs)

-- the front of a page after a copy
pub put_front : {out : List ℕ} {at : ℕ} {s : List ℕ} {r : ℕ} {out' : List ℕ} → at ≤ length out → Put out at s r out' → take r out' ≡ take at out ++ s
put_front {out} {at} {s} {r} h p =
    ap (take r) p.left
    ∙ take_at (take at out ++ s) (drop (at + length s) out) r (omega (arith, length-append (take at out) s, length-take-le at out h, p.next))

-- the two characters of a byte
abbrev pub two : ℕ → List ℕ
two b = hex_digit (b / 16) ∷ hex_digit (b % 16) ∷ []

pub text_more : (bytes : List ℕ) (i : ℕ) → i < length bytes → hex_text (take (i + 1) bytes) ≡ hex_text (take i bytes) ++ two (get_or bytes i 0)
unfolding hex_text
text_more bytes i h =
    ap (λ (k : ℕ). hex_text (take k bytes)) (add-one i)
    ∙ ap hex_text (take-suc bytes i 0 h)
    ∙ text_append (take i bytes) (get_or bytes i 0 ∷ [])

pub head_long : (status number : ℕ) → length (hex_text (status ∷ big_endian number)) ≡ 10
unfolding hex_text big_endian
head_long status number = refl

pub printed_long : (f : Shown) → length (printed f) ≡ length f.shape * 2 + 11
unfolding printed
printed_long f =
    let h : List ℕ = hex_text (head f) in
    let t : List ℕ = hex_text f.shape in
    omega (arith, length-append (h ++ t) (10 ∷ []), length-append h t, head_long f.status f.number, text_long f.shape)

module _ (page₀ page bytes : List ℕ) (at end i : ℕ) (p : Put page₀ at (hex_text (take i bytes)) end page) where
  pub put_more : (d e : ℕ) → d ≡ hex_digit (get_or bytes i 0 / 16) → e ≡ hex_digit (get_or bytes i 0 % 16) → i < length bytes → at ≤ length page₀ → end + 1 < length page
      → Put page₀ at (hex_text (take (i + 1) bytes)) (end + 2) (set (set page end d) (end + 1) e)
  put_more d e ed ee h g k =
      let s : List ℕ = hex_text (take i bytes) in
      let first : Put page₀ at (s ++ (d ∷ [])) (end + 1) (set page end d) = put_then g p (put_one page end d (omega arith)) in
      let both : Put page₀ at (s ++ (d ∷ []) ++ (e ∷ [])) (end + 1 + 1) (set (set page end d) (end + 1) e) =
      put_then g first (put_one (set page end d) (end + 1) e (omega (arith, length-set page end d))) in
      let same : hex_text (take (i + 1) bytes) ≡ s ++ (d ∷ []) ++ (e ∷ []) =
      text_more bytes i h ∙ ap (λ (l : List ℕ). s ++ l) (ap (λ (x : ℕ). x ∷ hex_digit (get_or bytes i 0 % 16) ∷ []) (sym ed) ∙ ap (λ (x : ℕ). d ∷ x ∷ []) (sym ee)) ∙ sym (append_assoc s (d ∷ []) (e ∷ [])) in
      let q = put_as same both in
      record { next = omega (arith, q.next); left = q.left }
