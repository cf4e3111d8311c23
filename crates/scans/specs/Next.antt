-- The first of two bytes in a text. Assumes nothing.
use Rattle.std.specs.Prelude.{ℕ, ◌≤◌, ◌<◌, ◌≡◌, Bool, true, false, ◌||◌, Option, None, Some, List, eqb, length, get_or}
use Rattle.chars.specs.declared.offset.Offset.{Offset}

-- c is one of the two
unfoldable pub is_of : ℕ → ℕ → ℕ → Bool
is_of a b c = eqb c a || eqb c b

-- neither stands from one offset up to another
abbrev pub NoneOf : ℕ → ℕ → List ℕ → ℕ → ℕ → Type 0
NoneOf a b text from to = (i : ℕ) → from ≤ i → i < to → is_of a b (get_or text i 0) ≡ false

-- the offset, from one on, where the first of them stands, or the end
pub record FirstOf (a b : ℕ) (text : List ℕ) (from at : ℕ) : Type 0 where
  pub after : from ≤ at
  pub within : at ≤ length text
  pub none : NoneOf a b text from at
  pub found : at < length text → is_of a b (get_or text at 0) ≡ true

-- where the code found it, or that it found none
abbrev pub FoundOf : ℕ → ℕ → List ℕ → ℕ → Option Offset → Type 0
FoundOf a b text from None = FirstOf a b text from (length text)
FoundOf a b text from (Some at) = FirstOf a b text from at.0 × (at.0 < length text)
