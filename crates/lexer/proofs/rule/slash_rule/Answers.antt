-- `lexer::rule::slash_rule` meets its contract. Assumes nothing.
use mathlib.Core.Path.{sym, ◌∙◌}
use Rattle.lexer.proofs.rule.slash_rule.Goals as goal

pub returns-then-stands : goal.returns-then-stands
returns-then-stands c = rw (sym c.stands.ensures ∙ c.if-stands.true)

pub returns : goal.returns
returns c = rw (sym c.stands.ensures ∙ c.if-stands.false)
