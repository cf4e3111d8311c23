-- The kinds as the code names them, and their numbers. Assumes nothing.
use Rattle.std.specs.Prelude.{ℕ, ◌≡◌, ◌<◌, Option, Some, None, Result, Ok, Err}
use Rattle.tokens.specs.declared.kind.Kind.{Kind}
use Rattle.tokens.specs.declared.kind.Kind.TheVariants as the
use Rattle.tokens.specs.declared.kind.NoKind.{NoKind}
use Rattle.tokens.specs.Kinds as kind

-- the number of a kind
abbrev pub number : Kind → ℕ
number the.None = kind.None
number the.Space = kind.Space
number the.Newline = kind.Newline
number the.Dot = kind.Dot
number the.Comma = kind.Comma
number the.Wildcard = kind.Wildcard
number the.ParentheseOpen = kind.ParentheseOpen
number the.ParentheseClose = kind.ParentheseClose
number the.SquareBracketOpen = kind.SquareBracketOpen
number the.SquareBracketClose = kind.SquareBracketClose
number the.Colon = kind.Colon
number the.Semicolon = kind.Semicolon
number the.Placeholder = kind.Placeholder
number the.Ellipsis = kind.Ellipsis
number the.Null = kind.Null
number the.True = kind.True
number the.False = kind.False
number the.Multiply = kind.Multiply
number the.Divide = kind.Divide
number the.Modulo = kind.Modulo
number the.Plus = kind.Plus
number the.Minus = kind.Minus
number the.In = kind.In
number the.Not = kind.Not
number the.Like = kind.Like
number the.Ilike = kind.Ilike
number the.Rlike = kind.Rlike
number the.Glob = kind.Glob
number the.Match = kind.Match
number the.Regexp = kind.Regexp
number the.Then = kind.Then
number the.Else = kind.Else
number the.Equal = kind.Equal
number the.Equal2 = kind.Equal2
number the.NullSafeEqual = kind.NullSafeEqual
number the.GreaterThanOrEqual = kind.GreaterThanOrEqual
number the.LessThanOrEqual = kind.LessThanOrEqual
number the.EqualOrGreaterThan = kind.EqualOrGreaterThan
number the.EqualOrLessThan = kind.EqualOrLessThan
number the.EqualWithArrows = kind.EqualWithArrows
number the.NotEqual = kind.NotEqual
number the.GreaterThan = kind.GreaterThan
number the.LessThan = kind.LessThan
number the.LeftShift = kind.LeftShift
number the.RightShift = kind.RightShift
number the.BitwiseAnd = kind.BitwiseAnd
number the.BitwiseOr = kind.BitwiseOr
number the.SpecifiedPath = kind.SpecifiedPath
number the.SpecifiedPathAsText = kind.SpecifiedPathAsText
number the.Select = kind.Select
number the.From = kind.From
number the.Where = kind.Where
number the.And = kind.And
number the.Or = kind.Or
number the.Update = kind.Update
number the.Set = kind.Set
number the.Insert = kind.Insert
number the.Into = kind.Into
number the.Values = kind.Values
number the.Inner = kind.Inner
number the.Join = kind.Join
number the.On = kind.On
number the.Limit = kind.Limit
number the.Offset = kind.Offset
number the.Between = kind.Between
number the.Array = kind.Array
number the.Other = kind.Other
number the.Binary = kind.Binary
number the.Date = kind.Date
number the.Time = kind.Time
number the.Timestamp = kind.Timestamp
number the.X = kind.X
number the.ZeroX = kind.ZeroX
number the.B = kind.B
number the.ZeroB = kind.ZeroB
number the.N = kind.N
number the.Charset = kind.Charset
number the.Backticked = kind.Backticked
number the.DoubleQuoted = kind.DoubleQuoted
number the.SingleQuoted = kind.SingleQuoted
number the.Numeric = kind.Numeric
number the.Comment = kind.Comment
number the.NumberedPlaceholder = kind.NumberedPlaceholder
number the.Unknown = kind.Unknown

-- what a number is read as: the kind that has it; a number past the last is no kind
abbrev pub ReadsAs : ℕ → Result Kind NoKind → Type 0
ReadsAs n (Ok k) = number k ≡ n
ReadsAs n (Err e) = (kind.Unknown < n) × (e.0 ≡ n)

-- a kind that is looked for, by its number: kind None where there is none
abbrev pub Finds : ℕ → Option Kind → Type 0
Finds n None = n ≡ kind.None
Finds n (Some k) = (number k ≡ n) × (kind.None < n)
