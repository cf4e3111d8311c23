-- The fixed text of each kind that has one (document 01, "writer.rs"): all of its text, or the mark before its slice.
-- Assumes nothing.
use Rattle.std.specs.Prelude.{cond, List, [], ◌∷◌, ℕ, eqb}
use Prim.Native.String.{String}
use Prim.Native.Char.{code}
use Rattle.tokens.specs.Kinds as kind

-- the character codes of a text
abbrev pub ascii : String → List ℕ
ascii Prim.Native.String.[] = []
ascii (Prim.Native.String.◌∷◌ c s) = code c ∷ ascii s

-- a kind and a text
pub record Row : Type 0 where
  pub kind : ℕ
  pub text : List ℕ

abbrev pub row : ℕ → String → Row
row k s = record { kind = k; text = ascii s }

-- None, Other, Numeric, Comment, NumberedPlaceholder and Unknown have no fixed text
unfoldable pub texts : List Row
texts =
    row kind.Space " "
    ∷ row kind.Newline "\n"
    ∷ row kind.Dot "."
    ∷ row kind.Comma ","
    ∷ row kind.Wildcard "*"
    ∷ row kind.ParentheseOpen "("
    ∷ row kind.ParentheseClose ")"
    ∷ row kind.SquareBracketOpen "["
    ∷ row kind.SquareBracketClose "]"
    ∷ row kind.Colon ":"
    ∷ row kind.Semicolon ";"
    ∷ row kind.Placeholder "?"
    ∷ row kind.Ellipsis "..."
    ∷ row kind.Null "NULL"
    ∷ row kind.True "TRUE"
    ∷ row kind.False "FALSE"
    ∷ row kind.Multiply "*"
    ∷ row kind.Divide "/"
    ∷ row kind.Modulo "%"
    ∷ row kind.Plus "+"
    ∷ row kind.Minus "-"
    ∷ row kind.In "IN"
    ∷ row kind.Not "NOT"
    ∷ row kind.Like "LIKE"
    ∷ row kind.Ilike "ILIKE"
    ∷ row kind.Rlike "RLIKE"
    ∷ row kind.Glob "GLOB"
    ∷ row kind.Match "MATCH"
    ∷ row kind.Regexp "REGEXP"
    ∷ row kind.Then "THEN"
    ∷ row kind.Else "ELSE"
    ∷ row kind.Equal "="
    ∷ row kind.Equal2 "=="
    ∷ row kind.NullSafeEqual "<=>"
    ∷ row kind.GreaterThanOrEqual ">="
    ∷ row kind.LessThanOrEqual "<="
    ∷ row kind.EqualOrGreaterThan "=>"
    ∷ row kind.EqualOrLessThan "<="
    ∷ row kind.EqualWithArrows "<>"
    ∷ row kind.NotEqual "!="
    ∷ row kind.GreaterThan ">"
    ∷ row kind.LessThan "<"
    ∷ row kind.LeftShift "<<"
    ∷ row kind.RightShift ">>"
    ∷ row kind.BitwiseAnd "&"
    ∷ row kind.BitwiseOr "|"
    ∷ row kind.SpecifiedPath "#>"
    ∷ row kind.SpecifiedPathAsText "#>>"
    ∷ row kind.Select "SELECT"
    ∷ row kind.From "FROM"
    ∷ row kind.Where "WHERE"
    ∷ row kind.And "AND"
    ∷ row kind.Or "OR"
    ∷ row kind.Update "UPDATE"
    ∷ row kind.Set "SET"
    ∷ row kind.Insert "INSERT"
    ∷ row kind.Into "INTO"
    ∷ row kind.Values "VALUES"
    ∷ row kind.Inner "INNER"
    ∷ row kind.Join "JOIN"
    ∷ row kind.On "ON"
    ∷ row kind.Limit "LIMIT"
    ∷ row kind.Offset "OFFSET"
    ∷ row kind.Between "BETWEEN"
    ∷ row kind.Array "ARRAY"
    ∷ row kind.Binary "BINARY"
    ∷ row kind.Date "DATE"
    ∷ row kind.Time "TIME"
    ∷ row kind.Timestamp "TIMESTAMP"
    ∷ row kind.X "x"
    ∷ row kind.ZeroX "0x"
    ∷ row kind.B "b"
    ∷ row kind.ZeroB "0b"
    ∷ row kind.N "n"
    ∷ row kind.Charset "_"
    ∷ row kind.Backticked "`"
    ∷ row kind.DoubleQuoted "\""
    ∷ row kind.SingleQuoted "'"
    ∷ []

-- the text beside a kind; none where it is in no row
abbrev pub text_in : List Row → ℕ → List ℕ
text_in [] k = []
text_in (r ∷ rs) k = cond (eqb k r.kind) r.text (text_in rs k)

-- the fixed text of a kind
unfoldable pub text_of : ℕ → List ℕ
text_of k = text_in texts k
