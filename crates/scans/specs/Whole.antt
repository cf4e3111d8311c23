-- Where a scan starts: the byte before, and the rest of the text. Assumes nothing.
use Rattle.std.specs.Prelude.{ℕ, zero, suc, ◌≤◌, ◌<◌, ◌≡◌, Bool, false, List, eqb, length, drop, get_or}
use Prim.Native.Char.{code}
use Rattle.chars.specs.Utf8.{chars, encode_all}
use Rattle.tokens.specs.Answers.{limit}

-- the byte before an offset is `*`
unfoldable pub star_before : List ℕ → ℕ → Bool
star_before text zero = false
star_before text (suc k) = eqb (get_or text k 0) (code "*")

-- from the offset at on the text is its characters, written out: no bad byte follows, and at is not inside a character
pub record Whole (text : List ℕ) (at : ℕ) : Type 0 where
  pub inside : at ≤ length text
  pub small : length text ≤ limit
  pub whole : encode_all (chars (drop at text)) ≡ drop at text

-- and at is not the end
pub record Readable (text : List ℕ) (at : ℕ) : Type 0 where
  pub here : at < length text
  pub rest : Whole text at
