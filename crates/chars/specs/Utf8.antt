-- UTF-8, RFC 3629, on a list of bytes.
-- Assumes nothing.
use Rattle.std.specs.Prelude.{◌≡◌, ℕ, zero, suc, ◌+◌, ◌-◌, ◌*◌, ◌/◌, ◌%◌, ◌<◌, Bool, true, cond, ◌&&◌, ◌||◌, List, [], ◌∷◌, ◌++◌, leb, ltb, length, take, drop}
use Rattle.std.proofs.Math.Option.{Option, none, some}

-- what stands at the front of a list of bytes: a character, as its scalar value and the number of bytes that follow its first
-- one; a byte at which no character starts; or nothing
pub data Front : Type 0 where
  char : ℕ → ℕ → Front
  bad : Front
  end : Front

-- a following byte, 10xxxxxx
unfoldable pub follows : ℕ → Bool
follows b = leb 0x80 b && ltb b 0xC0

-- a scalar value: up to U+10FFFF, and no surrogate
unfoldable pub is_scalar : ℕ → Bool
is_scalar s = ltb s 0xD800 || (leb 0xE000 s && leb s 0x10FFFF)

-- n following bytes, each of which joins its six payload bits to x; none where one is missing or is no following byte
unfoldable pub joined : ℕ → ℕ → List ℕ → Option ℕ
joined zero x rest = some x
joined (suc n) x [] = none
joined (suc n) x (b ∷ rest) = cond (follows b) (joined n (x * 64 + (b - 0x80)) rest) none

-- the joined bits are a character of 1 + n bytes, unless they are a surrogate, above U+10FFFF, or below the least value that
-- takes 1 + n bytes (an overlong form)
unfoldable pub ranged : ℕ → ℕ → Option ℕ → Front
ranged n least none = bad
ranged n least (some s) = cond (leb least s && is_scalar s) (char s n) bad

-- by the first byte: 0xxxxxxx, 10xxxxxx (a stray following byte), 110xxxxx, 1110xxxx, 11110xxx, 11111xxx
unfoldable pub front : List ℕ → Front
front [] = end
front (a ∷ rest) =
    cond (ltb a 0x80) (char a 0)
    (cond (ltb a 0xC0) bad
    (cond (ltb a 0xE0) (ranged 1 0x80 (joined 1 (a - 0xC0) rest))
    (cond (ltb a 0xF0) (ranged 2 0x800 (joined 2 (a - 0xE0) rest))
    (cond (ltb a 0xF8) (ranged 3 0x10000 (joined 3 (a - 0xF0) rest)) bad))))

-- by what stands at the front: a character, a bad byte, or nothing
abbrev pub on_front : {A : Type 0} → Front → (ℕ → ℕ → A) → A → A → A
on_front (char s n) f x y = f s n
on_front bad f x y = x
on_front end f x y = y

-- the characters of a text, up to the first bad byte, where the first `skip` bytes were read already
unfoldable pub chars_from : ℕ → List ℕ → List ℕ
chars_from skip [] = []
chars_from zero (b ∷ rest) = on_front (front (b ∷ rest)) (λ s n. s ∷ chars_from n rest) [] []
chars_from (suc k) (b ∷ rest) = chars_from k rest

-- the characters of a text, up to the first bad byte
unfoldable pub chars : List ℕ → List ℕ
chars text = chars_from 0 text

-- the offset, counted from `at`, of the first byte of the first bad sequence; none where the text is valid
unfoldable pub bad_from : ℕ → ℕ → List ℕ → Option ℕ
bad_from skip at [] = none
bad_from zero at (b ∷ rest) = on_front (front (b ∷ rest)) (λ s n. bad_from n (at + 1) rest) (some at) none
bad_from (suc k) at (b ∷ rest) = bad_from k (at + 1) rest

-- the offset of the first byte of the first bad sequence; none where the text is valid
unfoldable pub first_bad : List ℕ → Option ℕ
first_bad text = bad_from 0 0 text

-- ---- the other way
-- how RFC 3629 writes a scalar value
unfoldable pub encode : ℕ → List ℕ
encode s =
    cond (ltb s 0x80) (s ∷ [])
    (cond (ltb s 0x800) ((0xC0 + s / 64) ∷ ((0x80 + s % 64) ∷ []))
    (cond (ltb s 0x10000) ((0xE0 + s / 4096) ∷ ((0x80 + s / 64 % 64) ∷ ((0x80 + s % 64) ∷ [])))
    ((0xF0 + s / 262144) ∷ ((0x80 + s / 4096 % 64) ∷ ((0x80 + s / 64 % 64) ∷ ((0x80 + s % 64) ∷ []))))))

-- how many bytes that takes
unfoldable pub width : ℕ → ℕ
width s = cond (ltb s 0x80) 1 (cond (ltb s 0x800) 2 (cond (ltb s 0x10000) 3 4))

-- a list of scalar values, one after the other
unfoldable pub encode_all : List ℕ → List ℕ
encode_all [] = []
encode_all (s ∷ rest) = encode s ++ encode_all rest

-- every number of a list is a scalar value
unfoldable pub all_scalars : List ℕ → Bool
all_scalars [] = true
all_scalars (s ∷ rest) = is_scalar s && all_scalars rest

-- the first bad sequence starts at `at`, in RFC 3629's words: the bytes before it are the encoding of some scalar values, and the bytes
-- from there on, of which there are some, do not begin with the encoding of any
pub record BreaksAt (text : List ℕ) (at : ℕ) : Type 0 where
  pub before : List ℕ
  pub scalars : all_scalars before ≡ true
  pub encoded : take at text ≡ encode_all before
  pub inside : at < length text
  pub none_starts : (s : ℕ) (rest : List ℕ) → is_scalar s ≡ true → drop at text ≡ encode s ++ rest → ⊥
