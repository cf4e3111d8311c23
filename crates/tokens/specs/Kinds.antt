-- The 84 kinds of token by name, in document 01's order and by the Rust's enums, as src/kind.rt has them in code.
-- Assumes nothing.
use Rattle.std.specs.Prelude.{ℕ, Bool, ◌&&◌, leb}

-- None: used by the sanitiser to remove tokens
abbrev pub None : ℕ
None = 0

-- Generic tokens
abbrev pub Space : ℕ
Space = 1

abbrev pub Newline : ℕ
Newline = 2

abbrev pub Dot : ℕ
Dot = 3

abbrev pub Comma : ℕ
Comma = 4

abbrev pub Wildcard : ℕ
Wildcard = 5

abbrev pub ParentheseOpen : ℕ
ParentheseOpen = 6

abbrev pub ParentheseClose : ℕ
ParentheseClose = 7

abbrev pub SquareBracketOpen : ℕ
SquareBracketOpen = 8

abbrev pub SquareBracketClose : ℕ
SquareBracketClose = 9

abbrev pub Colon : ℕ
Colon = 10

abbrev pub Semicolon : ℕ
Semicolon = 11

-- Placeholder and Ellipsis, put in by the sanitiser, and the values that are words
abbrev pub Placeholder : ℕ
Placeholder = 12

abbrev pub Ellipsis : ℕ
Ellipsis = 13

abbrev pub Null : ℕ
Null = 14

abbrev pub True : ℕ
True = 15

abbrev pub False : ℕ
False = 16

-- Operators: ArithmeticOperator
abbrev pub Multiply : ℕ
Multiply = 17

abbrev pub Divide : ℕ
Divide = 18

abbrev pub Modulo : ℕ
Modulo = 19

abbrev pub Plus : ℕ
Plus = 20

abbrev pub Minus : ℕ
Minus = 21

-- Operators: LogicalOperator
abbrev pub In : ℕ
In = 22

abbrev pub Not : ℕ
Not = 23

abbrev pub Like : ℕ
Like = 24

abbrev pub Ilike : ℕ
Ilike = 25

abbrev pub Rlike : ℕ
Rlike = 26

abbrev pub Glob : ℕ
Glob = 27

abbrev pub Match : ℕ
Match = 28

abbrev pub Regexp : ℕ
Regexp = 29

abbrev pub Then : ℕ
Then = 30

abbrev pub Else : ℕ
Else = 31

-- Operators: ComparisonOperator
abbrev pub Equal : ℕ
Equal = 32

abbrev pub Equal2 : ℕ
Equal2 = 33

abbrev pub NullSafeEqual : ℕ
NullSafeEqual = 34

abbrev pub GreaterThanOrEqual : ℕ
GreaterThanOrEqual = 35

abbrev pub LessThanOrEqual : ℕ
LessThanOrEqual = 36

abbrev pub EqualOrGreaterThan : ℕ
EqualOrGreaterThan = 37

abbrev pub EqualOrLessThan : ℕ
EqualOrLessThan = 38

abbrev pub EqualWithArrows : ℕ
EqualWithArrows = 39

abbrev pub NotEqual : ℕ
NotEqual = 40

abbrev pub GreaterThan : ℕ
GreaterThan = 41

abbrev pub LessThan : ℕ
LessThan = 42

-- Operators: BitwiseOperator
abbrev pub LeftShift : ℕ
LeftShift = 43

abbrev pub RightShift : ℕ
RightShift = 44

abbrev pub BitwiseAnd : ℕ
BitwiseAnd = 45

abbrev pub BitwiseOr : ℕ
BitwiseOr = 46

-- Operators: JsonOperator
abbrev pub SpecifiedPath : ℕ
SpecifiedPath = 47

abbrev pub SpecifiedPathAsText : ℕ
SpecifiedPathAsText = 48

-- Words: Keyword
abbrev pub Select : ℕ
Select = 49

abbrev pub From : ℕ
From = 50

abbrev pub Where : ℕ
Where = 51

abbrev pub And : ℕ
And = 52

abbrev pub Or : ℕ
Or = 53

abbrev pub Update : ℕ
Update = 54

abbrev pub Set : ℕ
Set = 55

abbrev pub Insert : ℕ
Insert = 56

abbrev pub Into : ℕ
Into = 57

abbrev pub Values : ℕ
Values = 58

abbrev pub Inner : ℕ
Inner = 59

abbrev pub Join : ℕ
Join = 60

abbrev pub On : ℕ
On = 61

abbrev pub Limit : ℕ
Limit = 62

abbrev pub Offset : ℕ
Offset = 63

abbrev pub Between : ℕ
Between = 64

abbrev pub Array : ℕ
Array = 65

abbrev pub Other : ℕ
Other = 66

-- Indicators: LiteralValueTypeIndicator
abbrev pub Binary : ℕ
Binary = 67

abbrev pub Date : ℕ
Date = 68

abbrev pub Time : ℕ
Time = 69

abbrev pub Timestamp : ℕ
Timestamp = 70

abbrev pub X : ℕ
X = 71

abbrev pub ZeroX : ℕ
ZeroX = 72

abbrev pub B : ℕ
B = 73

abbrev pub ZeroB : ℕ
ZeroB = 74

abbrev pub N : ℕ
N = 75

abbrev pub Charset : ℕ
Charset = 76

-- Quoted, numbers, comments: the other kinds that carry offsets
abbrev pub Backticked : ℕ
Backticked = 77

abbrev pub DoubleQuoted : ℕ
DoubleQuoted = 78

abbrev pub SingleQuoted : ℕ
SingleQuoted = 79

abbrev pub Numeric : ℕ
Numeric = 80

abbrev pub Comment : ℕ
Comment = 81

abbrev pub NumberedPlaceholder : ℕ
NumberedPlaceholder = 82

-- Unknown: carries its character
abbrev pub Unknown : ℕ
Unknown = 83

-- ---- the groups of the Rust's enums
-- Operator(_)
unfoldable pub is_operator : ℕ → Bool
is_operator k = leb Multiply k && leb k SpecifiedPathAsText

-- Keyword(_)
unfoldable pub is_keyword : ℕ → Bool
is_keyword k = leb Select k && leb k Other

-- LiteralValueTypeIndicator(_)
unfoldable pub is_indicator : ℕ → Bool
is_indicator k = leb Binary k && leb k Charset

-- quoted: a quote stands before and after the slice
unfoldable pub is_quoted : ℕ → Bool
is_quoted k = leb Backticked k && leb k SingleQuoted
