-- The reading rules of document 01: what is read at the character c, where the characters cs follow it. Assumes nothing.
use Rattle.std.specs.Prelude.{ℕ, suc, ◌+◌, Bool, false, cond, not, ◌&&◌, ◌||◌, List, [], ◌∷◌, eqb, take, drop}
use Prim.Native.Char.{code}
use Rattle.tokens.specs.Kinds as kind
use Rattle.tokens.specs.Named as named
use Rattle.tokens.specs.declared.kind.Kind.{Kind}
use Rattle.tokens.specs.declared.kind.Kind.TheVariants as the
use Rattle.lexer.specs.declared.rule.State.{State}
use Rattle.lexer.specs.declared.rule.State.TheVariants.{Default, PastSelect, PastFrom}
use Rattle.lexer.specs.declared.rule.Rule.{Rule}
use Rattle.lexer.specs.declared.rule.Rule.TheVariants.{Quoted, Line, Block, Single, Numbered, Run, Charset, Word, Number, Unknown}
use Rattle.scans.specs.Ways.{Ways}
use Rattle.scans.specs.declared.goes.Stop.TheVariants as stop
use Rattle.scans.specs.Scans.{span, quote_len, in_line, block_len, in_run, goes_on}
use Rattle.words.specs.declared.guess.Sort.TheVariants.{Words, Runs, Zeros}
use Rattle.words.specs.Known.{known_kind}

-- what a token carries: nothing; a slice, from after so many of its characters up to after so many; or a character
pub data Carried : Type 0 where
  nothing : Carried
  slice : ℕ → ℕ → Carried
  scalar : ℕ → Carried

-- what is read: nothing, at a run that is not recognised; or a token, by its kind, what it carries, and how many characters it takes
-- after its first
pub data Out : Type 0 where
  halt : Out
  took : ℕ → Carried → ℕ → Out

-- a token that is all of its 1 + n characters
abbrev pub sliced : ℕ → ℕ → Out
sliced k n = took k (slice 0 (suc n)) n

-- a token of a known text, where there is one
abbrev pub known : ℕ → ℕ → Out → Out
known k n other = cond (eqb k kind.None) other (took k nothing n)

-- there is one more character
abbrev pub one_more : List ℕ → ℕ
one_more [] = 0
one_more (c ∷ cs) = 1

-- the next character passes the test
abbrev pub head_is : (ℕ → Bool) → List ℕ → Bool
head_is passes [] = false
head_is passes (c ∷ cs) = passes c

-- `*` is Wildcard after a select with no from since
abbrev pub star_kind : State → Kind
star_kind Default = the.Multiply
star_kind PastSelect = the.Wildcard
star_kind PastFrom = the.Multiply

-- select and from change what `*` is
abbrev pub state_after : ℕ → State → State
state_after k state = cond (eqb k kind.Select) PastSelect (cond (eqb k kind.From) PastFrom state)

-- ---- which rule reads: the first that fits
-- rule 1
abbrev pub quotes : ℕ → Rule → Rule
quotes c other =
    cond (eqb c (code "`")) (Quoted the.Backticked)
    (cond (eqb c (code "'")) (Quoted the.SingleQuoted)
    (cond (eqb c (code "\"")) (Quoted the.DoubleQuoted) other))

-- rules 2 and 3
abbrev pub comments : ℕ → List ℕ → Rule → Rule
comments c cs other =
    cond (eqb c (code "#") && not (head_is (λ d. eqb d (code ">")) cs)) Line
    (cond (eqb c (code "-") && head_is (λ d. eqb d (code "-")) cs) Line
    (cond (eqb c (code "/") && head_is (λ d. eqb d (code "*")) cs) Block other))

-- rule 4
abbrev pub singles : ℕ → Rule → Rule
singles c other =
    cond (eqb c (code " ")) (Single the.Space)
    (cond (eqb c (code "\n")) (Single the.Newline)
    (cond (eqb c (code "\r")) (Single the.Newline)
    (cond (eqb c (code ".")) (Single the.Dot)
    (cond (eqb c (code ",")) (Single the.Comma)
    (cond (eqb c (code "(")) (Single the.ParentheseOpen)
    (cond (eqb c (code ")")) (Single the.ParentheseClose)
    (cond (eqb c (code "[")) (Single the.SquareBracketOpen)
    (cond (eqb c (code "]")) (Single the.SquareBracketClose)
    (cond (eqb c (code ":")) (Single the.Colon)
    (cond (eqb c (code ";")) (Single the.Semicolon)
    (cond (eqb c (code "?")) (Single the.Placeholder) other)))))))))))

-- rules 5 and 6
abbrev pub arithmetic : Ways → State → ℕ → List ℕ → Rule → Rule
arithmetic w state c cs other =
    cond (eqb c (code "$")) Numbered
    (cond (eqb c (code "*")) (Single (star_kind state))
    (cond (eqb c (code "/")) (Single the.Divide)
    (cond (eqb c (code "%")) (Single the.Modulo)
    (cond (eqb c (code "+")) (Single the.Plus)
    (cond (eqb c (code "-") && not (head_is w.numeric cs)) (Single the.Minus) other)))))

-- rules 7 and 8
abbrev pub operators : ℕ → Rule → Rule
operators c other =
    cond (eqb c (code "=")) Run
    (cond (eqb c (code "!")) Run
    (cond (eqb c (code ">")) Run
    (cond (eqb c (code "<")) Run
    (cond (eqb c (code "&")) Run
    (cond (eqb c (code "|")) Run
    (cond (eqb c (code "#")) Run
    (cond (eqb c (code "_")) Charset other)))))))

-- rules 9, 10 and 11: an alphabetic starts a word
abbrev pub starts_word : Ways → ℕ → Bool
starts_word w c = w.alphabetic c

-- a numeric or `-` starts a number
abbrev pub starts_number : Ways → ℕ → Bool
starts_number w c = eqb c (code "-") || w.numeric c

-- a word, else a number, else Unknown
abbrev pub others : Ways → ℕ → Rule
others w c = cond (starts_word w c) Word (cond (starts_number w c) Number Unknown)

-- the first of the eleven rules that fits
unfoldable pub rule_of : Ways → State → ℕ → List ℕ → Rule
rule_of w state c cs = quotes c (comments c cs (singles c (arithmetic w state c cs (operators c (others w c)))))

-- the same at `#`, `-` and `/`, where two rules or three may fit. `#`: rules 7 and 2
abbrev pub at_hash : List ℕ → Rule
at_hash cs = cond (head_is (λ d. eqb d (code ">")) cs) Run Line

-- `-`: rules 2, 10 and 6
abbrev pub at_dash : Ways → List ℕ → Rule
at_dash w cs = cond (head_is (λ d. eqb d (code "-")) cs) Line (cond (head_is w.numeric cs) Number (Single the.Minus))

-- `/`: rules 3 and 6
abbrev pub at_slash : List ℕ → Rule
at_slash cs = cond (head_is (λ d. eqb d (code "*")) cs) Block (Single the.Divide)

-- ---- what each rule reads
-- rule 1: the content without its quotes
unfoldable pub quoted : ℕ → ℕ → List ℕ → Out
quoted k c cs = let n = quote_len c cs in took k (slice 1 (suc n)) (n + one_more (drop n cs))

-- rule 2
unfoldable pub line : List ℕ → Out
line cs = sliced kind.Comment (span in_line cs)

-- rule 3: star says that a `*` stands before the comment
unfoldable pub block : Bool → List ℕ → Out
block star cs = sliced kind.Comment (block_len star cs)

-- rules 4 and 6
abbrev pub single : ℕ → Out
single k = took k nothing 0

-- rule 5
unfoldable pub numbered : Ways → List ℕ → Out
numbered w cs = sliced kind.NumberedPlaceholder (span (goes_on w stop.Numerics) cs)

-- rule 7
unfoldable pub run : ℕ → List ℕ → Out
run c cs = let n = span in_run cs in known (known_kind Runs (take (suc n) (c ∷ cs))) n halt

-- rule 8: without its `_`
unfoldable pub charset : Ways → List ℕ → Out
charset w cs = let n = span (goes_on w stop.Charset) cs in took kind.Charset (slice 1 (suc n)) n

-- rule 9
unfoldable pub word : Ways → ℕ → List ℕ → Out
word w c cs = let n = span (goes_on w stop.Word) cs in known (known_kind Words (take (suc n) (c ∷ cs))) n (sliced kind.Other n)

-- rule 10
unfoldable pub number : Ways → ℕ → List ℕ → Out
number w c cs = let n = span (goes_on w stop.Number) cs in known (known_kind Zeros (take (suc n) (c ∷ cs))) n (sliced kind.Numeric n)

-- rule 11
abbrev pub unknown : ℕ → Out
unknown c = took kind.Unknown (scalar c) 0

-- what the rule reads
unfoldable pub by_rule : Rule → Ways → Bool → ℕ → List ℕ → Out
by_rule (Quoted k) w star c cs = quoted (named.number k) c cs
by_rule Line w star c cs = line cs
by_rule Block w star c cs = block star cs
by_rule (Single k) w star c cs = single (named.number k)
by_rule Numbered w star c cs = numbered w cs
by_rule Run w star c cs = run c cs
by_rule Charset w star c cs = charset w cs
by_rule Word w star c cs = word w c cs
by_rule Number w star c cs = number w c cs
by_rule Unknown w star c cs = unknown c

-- one token: star says that the character before is `*`
unfoldable pub read_one : Ways → Bool → State → ℕ → List ℕ → Out
read_one w star state c cs = by_rule (rule_of w state c cs) w star c cs
