-- `lexer::rule::class_rule` meets its contract. Assumes nothing.
use mathlib.Core.Path.{sym, ◌∙◌}
use borrow.Author.Tests.{eq-eqb, ne_eqb}
use Rattle.lexer.proofs.rule.class_rule.Goals as goal

pub returns-then-is_alphabetic : goal.returns-then-is_alphabetic
returns-then-is_alphabetic c = rw (sym c.is_alphabetic.ensures ∙ c.if-is_alphabetic.true)

pub returns-then-c-eq45 : goal.returns-then-c-eq45
returns-then-c-eq45 c = rw (sym c.is_alphabetic.ensures ∙ c.if-is_alphabetic.false, eq-eqb _ 45 c.if-c-eq45.true)

pub returns-then-is_numeric : goal.returns-then-is_numeric
returns-then-is_numeric c = rw (sym c.is_alphabetic.ensures ∙ c.if-is_alphabetic.false, ne_eqb _ 45 c.if-c-eq45.false, sym c.is_numeric.ensures ∙ c.if-is_numeric.true)

pub returns : goal.returns
returns c = rw (sym c.is_alphabetic.ensures ∙ c.if-is_alphabetic.false, ne_eqb _ 45 c.if-c-eq45.false, sym c.is_numeric.ensures ∙ c.if-is_numeric.false)
