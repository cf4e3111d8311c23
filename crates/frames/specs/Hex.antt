-- Hexadecimal: what a character stands for, the bytes of a line, and bytes as text. Assumes nothing.
use Rattle.std.specs.Prelude.{Bool, cond, Option, Some, None, ◌&&◌, List, [], ◌∷◌, ℕ, suc, ◌+◌, ◌-◌, ◌*◌, ◌/◌, ◌%◌, leb, ltb}
use Prim.Native.Char.{code}

-- the value of a hexadecimal character, in either letter case; 16 for any other character
unfoldable pub hex_value : ℕ → ℕ
hex_value c =
    cond (leb (code "0") c && leb c (code "9")) (c - code "0")
    (cond (leb (code "a") c && leb c (code "f")) (c - code "a" + 10)
    (cond (leb (code "A") c && leb c (code "F")) (c - code "A" + 10) 16))

-- the character is hexadecimal
abbrev pub is_hex : ℕ → Bool
is_hex c = ltb (hex_value c) 16

-- the value of a hexadecimal character, and none for any other
abbrev pub hex_read : ℕ → Option ℕ
hex_read c = cond (is_hex c) (Some (hex_value c)) None

-- the place of the first character that is not; the line's length, where each is
unfoldable pub first_not_hex : List ℕ → ℕ
first_not_hex [] = 0
first_not_hex (c ∷ cs) = cond (is_hex c) (suc (first_not_hex cs)) 0

-- the bytes of a line, two characters a byte
unfoldable pub hex_bytes : List ℕ → List ℕ
hex_bytes [] = []
hex_bytes (c ∷ []) = []
hex_bytes (c ∷ d ∷ cs) = (hex_value c * 16 + hex_value d) ∷ hex_bytes cs

-- the character of a value below 16, in lower case
unfoldable pub hex_digit : ℕ → ℕ
hex_digit v = cond (ltb v 10) (v + code "0") (v - 10 + code "a")

-- bytes as text
unfoldable pub hex_text : List ℕ → List ℕ
hex_text [] = []
hex_text (b ∷ bs) = hex_digit (b / 16) ∷ hex_digit (b % 16) ∷ hex_text bs
