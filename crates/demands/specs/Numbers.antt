-- Document 01's table of kinds ("Token slots"): the numbers of each row, and its kinds in their order. Assumes nothing.
use Rattle.std.specs.Prelude.{List, [], ◌∷◌, ℕ}
use Rattle.tokens.specs.Kinds as kind

-- a row: its first and last number, and its kinds
pub record Row : Type 0 where
  pub first : ℕ
  pub last : ℕ
  pub kinds : List ℕ

-- a row of the table
abbrev pub numbers : ℕ → ℕ → List ℕ → Row
numbers first last ks = record { first = first; last = last; kinds = ks }

-- the twelve rows
abbrev pub kind_table : List Row
kind_table =
    numbers 0 0 (kind.None ∷ [])
    ∷ numbers 1 11
    (kind.Space ∷ kind.Newline ∷ kind.Dot ∷ kind.Comma ∷ kind.Wildcard ∷ kind.ParentheseOpen ∷ kind.ParentheseClose ∷ kind.SquareBracketOpen
    ∷ kind.SquareBracketClose ∷ kind.Colon ∷ kind.Semicolon ∷ [])
    ∷ numbers 12 16 (kind.Placeholder ∷ kind.Ellipsis ∷ kind.Null ∷ kind.True ∷ kind.False ∷ [])
    ∷ numbers 17 21 (kind.Multiply ∷ kind.Divide ∷ kind.Modulo ∷ kind.Plus ∷ kind.Minus ∷ [])
    ∷ numbers 22 31
    (kind.In ∷ kind.Not ∷ kind.Like ∷ kind.Ilike ∷ kind.Rlike ∷ kind.Glob ∷ kind.Match ∷ kind.Regexp ∷ kind.Then ∷ kind.Else ∷ [])
    ∷ numbers 32 42
    (kind.Equal ∷ kind.Equal2 ∷ kind.NullSafeEqual ∷ kind.GreaterThanOrEqual ∷ kind.LessThanOrEqual ∷ kind.EqualOrGreaterThan
    ∷ kind.EqualOrLessThan ∷ kind.EqualWithArrows ∷ kind.NotEqual ∷ kind.GreaterThan ∷ kind.LessThan ∷ [])
    ∷ numbers 43 48
    (kind.LeftShift ∷ kind.RightShift ∷ kind.BitwiseAnd ∷ kind.BitwiseOr ∷ kind.SpecifiedPath ∷ kind.SpecifiedPathAsText ∷ [])
    ∷ numbers 49 65
    (kind.Select ∷ kind.From ∷ kind.Where ∷ kind.And ∷ kind.Or ∷ kind.Update ∷ kind.Set ∷ kind.Insert ∷ kind.Into ∷ kind.Values ∷ kind.Inner
    ∷ kind.Join ∷ kind.On ∷ kind.Limit ∷ kind.Offset ∷ kind.Between ∷ kind.Array ∷ [])
    ∷ numbers 66 66 (kind.Other ∷ [])
    ∷ numbers 67 75
    (kind.Binary ∷ kind.Date ∷ kind.Time ∷ kind.Timestamp ∷ kind.X ∷ kind.ZeroX ∷ kind.B ∷ kind.ZeroB ∷ kind.N ∷ [])
    ∷ numbers 76 82
    (kind.Charset ∷ kind.Backticked ∷ kind.DoubleQuoted ∷ kind.SingleQuoted ∷ kind.Numeric ∷ kind.Comment ∷ kind.NumberedPlaceholder ∷ [])
    ∷ numbers 83 83 (kind.Unknown ∷ [])
    ∷ []
