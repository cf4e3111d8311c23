-- The marks of rule 4, which the code asks for before it goes through the rules. Assumes nothing.
use Rattle.std.specs.Prelude.{ℕ}
use Rattle.tokens.specs.Kinds as kind
use Rattle.tokens.specs.Named.{number}
use Rattle.lexer.specs.declared.rule.Rule.{Rule}
use Rattle.lexer.specs.declared.rule.Rule.TheVariants.{Quoted, Line, Block, Single, Numbered, Run, Charset, Word, Number, Unknown}
use Rattle.lexer.specs.Rules.{singles}

-- the kind that a single character has
abbrev pub single_kind : Rule → ℕ
single_kind (Quoted k) = kind.None
single_kind Line = kind.None
single_kind Block = kind.None
single_kind (Single k) = number k
single_kind Numbered = kind.None
single_kind Run = kind.None
single_kind Charset = kind.None
single_kind Word = kind.None
single_kind Number = kind.None
single_kind Unknown = kind.None

-- rule 4: the kind of a mark, and None for any other character
unfoldable pub mark_of : ℕ → ℕ
mark_of c = single_kind (singles c Unknown)
