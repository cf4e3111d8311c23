-- `lexer::rule::dash_rule` meets its contract. Assumes nothing.
use mathlib.Core.Path.{sym, ◌∙◌}
use Rattle.lexer.proofs.rule.dash_rule.Goals as goal

pub returns-then-stands : goal.returns-then-stands
returns-then-stands c = rw (sym c.stands.ensures ∙ c.if-stands.true)

pub returns-then-numeric_stands : goal.returns-then-numeric_stands
returns-then-numeric_stands c = rw (sym c.stands.ensures ∙ c.if-stands.false, sym c.numeric_stands.ensures ∙ c.if-numeric_stands.true)

pub returns : goal.returns
returns c = rw (sym c.stands.ensures ∙ c.if-stands.false, sym c.numeric_stands.ensures ∙ c.if-numeric_stands.false)
