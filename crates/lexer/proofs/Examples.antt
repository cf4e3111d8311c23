-- Worked statements, read by computation: the text, the tokens, and where the reading stops.
-- every_case   each statement of the table is read so
-- Assumes nothing.
use mathlib.Core.Path.{◌≡◌, refl}
use mathlib.Core.Bool.{Bool, true, ◌&&◌}
use mathlib.Core.List.{List, [], ◌∷◌}
use Prim.Native.Nat.{ℕ}
use Prim.Native.String.{String}
use lib.Dec.{eqb}
use Rattle.chars.specs.Utf8.{chars, chars_from, front, joined, ranged, follows, is_scalar, width, encode, encode_all}
use Rattle.chars.specs.Table.{within}
use Rattle.chars.specs.Pairs.{alphabetic_pairs, numeric_pairs}
use Rattle.chars.specs.Class.{alphabetic, numeric}
use Rattle.tokens.specs.Kinds as kind
use Rattle.tokens.specs.Texts.{ascii, text_of, texts}
use Rattle.tokens.specs.Slots as slots
use Rattle.tokens.specs.declared.slot.Slot.{Slot}
use Rattle.scans.specs.Ways.{pinned}
use Rattle.scans.specs.Scans.{scan, span, in_line, in_run, in_charset, in_word, in_number, goes_on}
use Rattle.words.specs.Known.{equal, words, runs, zeros, rows_of, known_kind}
use Rattle.lexer.specs.Rules.{rule_of, quoted, line, block, numbered, run, charset, word, number, by_rule, read_one}
use Rattle.lexer.specs.Read.{tokens, stop_at, go, reading}

record Case : Type 0 where
  text : String
  read : List Slot
  stop : ℕ

abbrev case : String → List Slot → ℕ → Case
case s ts n = record { text = s; read = ts; stop = n }

-- a token that carries nothing, and one that carries two offsets
abbrev bare : ℕ → Slot
bare k = slots.bare k

abbrev part : ℕ → ℕ → ℕ → Slot
part k from to = record { kind = k; first = from; second = to }

abbrev right : Case → Bool
right c =
    let r = reading pinned (encode_all (ascii c.text)) in
    equal (slots.words (tokens r)) (slots.words c.read) && eqb (stop_at r) c.stop

abbrev all : List Case → Bool
all [] = true
all (c ∷ cs) = right c && all cs

cases : List Case
cases =
    case "" [] 0
    ∷ case "a =< 1" (part kind.Other 0 1 ∷ bare kind.Space ∷ bare kind.EqualOrLessThan ∷ bare kind.Space ∷ part kind.Numeric 5 6 ∷ []) 6
    ∷ case "a ! b" (part kind.Other 0 1 ∷ bare kind.Space ∷ []) 2
    -- rule 3 looks back past the comment's start
    ∷ case "SELECT */* c */"
    (bare kind.Select ∷ bare kind.Space ∷ bare kind.Wildcard ∷ part kind.Comment 8 9 ∷ bare kind.Wildcard ∷ bare kind.Space
    ∷ part kind.Other 11 12 ∷ bare kind.Space ∷ bare kind.Wildcard ∷ bare kind.Divide ∷ []) 15
    ∷ case "/*/ a" (part kind.Comment 0 3 ∷ bare kind.Space ∷ part kind.Other 4 5 ∷ []) 5
    ∷ case "'it''s'" (part kind.SingleQuoted 1 3 ∷ part kind.SingleQuoted 5 6 ∷ []) 7
    -- backslashes before a quote that opens do not count; a backtick is escaped too; an unclosed text runs to the end
    ∷ case "\\'a\\'b" (record { kind = kind.Unknown; first = 92; second = 0 } ∷ part kind.SingleQuoted 2 6 ∷ []) 6
    ∷ case "`a\\`b`" (part kind.Backticked 1 5 ∷ []) 6
    ∷ case "'a\\\\'c" (part kind.SingleQuoted 1 4 ∷ part kind.Other 5 6 ∷ []) 6
    -- a word takes `-`
    ∷ case "a--b" (part kind.Other 0 4 ∷ []) 4
    ∷ case "a->c" (part kind.Other 0 2 ∷ bare kind.GreaterThan ∷ part kind.Other 3 4 ∷ []) 4
    ∷ case "1--b\n" (part kind.Numeric 0 1 ∷ part kind.Comment 1 4 ∷ bare kind.Newline ∷ []) 5
    -- `#` at the end is a comment; before `>` it is a run; \r ends a comment and is a Newline of its own
    ∷ case "#" (part kind.Comment 0 1 ∷ []) 1
    ∷ case "#>>#a\r\n" (bare kind.SpecifiedPathAsText ∷ part kind.Comment 3 5 ∷ bare kind.Newline ∷ bare kind.Newline ∷ []) 7
    -- a bare `$`, a bare `_`
    ∷ case "$ $12" (part kind.NumberedPlaceholder 0 1 ∷ bare kind.Space ∷ part kind.NumberedPlaceholder 2 5 ∷ []) 5
    ∷ case "_ _utf8" (part kind.Charset 1 1 ∷ bare kind.Space ∷ part kind.Charset 3 7 ∷ []) 7
    -- numbers: `0x` only where it is the whole; `-` before `.` is Minus
    ∷ case "0x 0B 0x1" (bare kind.ZeroX ∷ bare kind.Space ∷ bare kind.ZeroB ∷ bare kind.Space ∷ part kind.Numeric 6 9 ∷ []) 9
    ∷ case "-.5" (bare kind.Minus ∷ bare kind.Dot ∷ part kind.Numeric 2 3 ∷ []) 3
    ∷ case "-1" (part kind.Numeric 0 2 ∷ []) 2
    -- with a `-` the whole is no `0x`
    ∷ case "-0x" (part kind.Numeric 0 3 ∷ []) 3
    ∷ case "-0b" (part kind.Numeric 0 3 ∷ []) 3
    -- a word is tested before a number: U+2167 is alphabetic and numeric
    ∷ case "Ⅷ" (part kind.Other 0 3 ∷ []) 3
    ∷ case "-Ⅷ" (part kind.Numeric 0 4 ∷ []) 4
    -- case is ASCII only: U+212A is no k
    ∷ case "liKe like" (part kind.Other 0 6 ∷ bare kind.Space ∷ bare kind.Like ∷ []) 11
    -- a run takes no second `&`, and is looked up whole
    ∷ case "&&" (bare kind.BitwiseAnd ∷ bare kind.BitwiseAnd ∷ []) 2
    ∷ case "a=-=<>" (part kind.Other 0 1 ∷ bare kind.Equal ∷ bare kind.Minus ∷ []) 3
    ∷ case "*from*" (bare kind.Multiply ∷ bare kind.From ∷ bare kind.Multiply ∷ []) 6
    -- rule 6: a `from` ends what a `select` began, a second `select` begins it anew; no `;`, no `)` and no `where` ends it
    ∷ case "select from*1" (bare kind.Select ∷ bare kind.Space ∷ bare kind.From ∷ bare kind.Multiply ∷ part kind.Numeric 12 13 ∷ []) 13
    ∷ case "select*from select*" (bare kind.Select ∷ bare kind.Wildcard ∷ bare kind.From ∷ bare kind.Space ∷ bare kind.Select ∷ bare kind.Wildcard ∷ []) 19
    ∷ case "select;*" (bare kind.Select ∷ bare kind.Semicolon ∷ bare kind.Wildcard ∷ []) 8
    ∷ case "select)*" (bare kind.Select ∷ bare kind.ParentheseClose ∷ bare kind.Wildcard ∷ []) 8
    ∷ case "select where*" (bare kind.Select ∷ bare kind.Space ∷ bare kind.Where ∷ bare kind.Wildcard ∷ []) 13
    -- U+00A0 is no Space
    ∷ case "\u{a0}" (record { kind = kind.Unknown; first = 0xA0; second = 0 } ∷ []) 2
    -- anything else, tab included
    ∷ case "\t\\é€" (record { kind = kind.Unknown; first = 9; second = 0 } ∷ record { kind = kind.Unknown; first = 92; second = 0 }
    ∷ part kind.Other 2 4 ∷ record { kind = kind.Unknown; first = 0x20AC; second = 0 } ∷ []) 7
    ∷ []

every_case : all cases ≡ true
unfolding cases chars chars_from front joined ranged follows is_scalar width encode encode_all within alphabetic_pairs numeric_pairs alphabetic numeric
    text_of texts slots.words scan span in_line in_run in_charset in_word in_number goes_on words runs zeros rows_of known_kind
    rule_of quoted line block numbered run charset word number by_rule read_one go reading
every_case = refl
