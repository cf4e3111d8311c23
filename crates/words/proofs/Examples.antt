-- Worked lookups, by computation. The texts are those of lexer.rs, in both letter cases; a kind is the number that document 01 gives it, 0 where none.
-- lower_right   which bytes have a lower case
-- words_right, others_right, runs_right, zeros_right   each text of these tables has that kind
-- Assumes nothing.
use mathlib.Core.Path.{◌≡◌, refl}
use mathlib.Core.List.{List, [], ◌∷◌, ◌++◌, map}
use Prim.Native.Nat.{ℕ}
use Prim.Native.String.{String}
use Rattle.tokens.specs.Texts.{ascii}
use Rattle.words.specs.declared.guess.Sort.{Sort}
use Rattle.words.specs.declared.guess.Sort.TheVariants.{Words, Runs, Zeros}
use Rattle.words.specs.Known.{lower, words, runs, zeros, rows_of, known_kind}

-- `@ A Z [`, a backtick, `a z {`, and U+00C1 as Latin-1 would have it
lower_right : map lower (0x40 ∷ 0x41 ∷ 0x5A ∷ 0x5B ∷ 0x60 ∷ 0x61 ∷ 0x7A ∷ 0x7B ∷ 0xC1 ∷ [])
    ≡ 0x40 ∷ 0x61 ∷ 0x7A ∷ 0x5B ∷ 0x60 ∷ 0x61 ∷ 0x7A ∷ 0x7B ∷ 0xC1 ∷ []
lower_right = refl

record Case : Type 0 where
  text : List ℕ
  kind : ℕ

abbrev bytes : List ℕ → ℕ → Case
bytes t k = record { text = t; kind = k }

abbrev case : String → ℕ → Case
case s k = bytes (ascii s) k

-- the kinds that are found
abbrev found : Sort → List Case → List ℕ
found sort cases = map (λ (c : Case). known_kind sort c.text) cases

abbrev stated : List Case → List ℕ
stated cases = map (λ (c : Case). c.kind) cases

-- rule 9: the words
word_cases : List Case
word_cases =
    -- keywords
    case "SELECT" 49
    ∷ case "Select" 49
    ∷ case "sELECT" 49
    ∷ case "select" 49
    ∷ case "from" 50
    ∷ case "WHERE" 51
    ∷ case "And" 52
    ∷ case "or" 53
    ∷ case "UPDATE" 54
    ∷ case "set" 55
    ∷ case "INSERT" 56
    ∷ case "into" 57
    ∷ case "VALUES" 58
    ∷ case "inner" 59
    ∷ case "JOIN" 60
    ∷ case "on" 61
    ∷ case "LIMIT" 62
    ∷ case "offset" 63
    ∷ case "BETWEEN" 64
    ∷ case "array" 65
    -- logical operators
    ∷ case "IN" 22
    ∷ case "not" 23
    ∷ case "LIKE" 24
    ∷ case "ilike" 25
    ∷ case "RLIKE" 26
    ∷ case "glob" 27
    ∷ case "MATCH" 28
    ∷ case "regexp" 29
    ∷ case "THEN" 30
    ∷ case "else" 31
    -- indicators and values
    ∷ case "BINARY" 67
    ∷ case "date" 68
    ∷ case "TIME" 69
    ∷ case "timestamp" 70
    ∷ case "X" 71
    ∷ case "b" 73
    ∷ case "N" 75
    ∷ case "NULL" 14
    ∷ case "true" 15
    ∷ case "False" 16
    ∷ []

words_right : found Words word_cases ≡ stated word_cases
unfolding word_cases known_kind rows_of words
words_right = refl

-- no word: a part of one, one with more after it, a run, the beginning of a number, nothing
other_cases : List Case
other_cases =
    case "selec" 0
    ∷ case "selects" 0
    ∷ case "sel_ct" 0
    ∷ case "in " 0
    ∷ case "timestamps" 0
    ∷ case "=" 0
    ∷ case "0x" 0
    ∷ case "" 0
    -- U+212A, the Kelvin sign, is no k, U+017F, the long s, is no s
    ∷ bytes (ascii "LI" ++ 0xE2 ∷ 0x84 ∷ 0xAA ∷ ascii "E") 0
    ∷ bytes (0xC5 ∷ 0xBF ∷ ascii "et") 0
    ∷ []

others_right : found Words other_cases ≡ stated other_cases
unfolding other_cases known_kind rows_of words
others_right = refl

-- rule 7: the runs
run_cases : List Case
run_cases =
    case "=" 32
    ∷ case "==" 33
    ∷ case "<=>" 34
    ∷ case ">=" 35
    ∷ case "<=" 36
    ∷ case "=>" 37
    ∷ case "=<" 38
    ∷ case "<>" 39
    ∷ case "!=" 40
    ∷ case ">" 41
    ∷ case "<" 42
    ∷ case "<<" 43
    ∷ case ">>" 44
    ∷ case "&" 45
    ∷ case "|" 46
    ∷ case "#>" 47
    ∷ case "#>>" 48
    ∷ case "!" 0
    ∷ case "#" 0
    ∷ case "&&" 0
    ∷ case "===" 0
    ∷ case "<=>=" 0
    ∷ []

runs_right : found Runs run_cases ≡ stated run_cases
unfolding run_cases known_kind rows_of runs
runs_right = refl

-- rule 10: only the whole of `0x` and `0b`
zero_cases : List Case
zero_cases =
    case "0x" 72
    ∷ case "0X" 72
    ∷ case "0b" 74
    ∷ case "0B" 74
    ∷ case "0xF" 0
    ∷ case "1x" 0
    ∷ []

zeros_right : found Zeros zero_cases ≡ stated zero_cases
unfolding zero_cases known_kind rows_of zeros
zeros_right = refl
