-- `lexer::rule::state_after` meets its contract. Assumes nothing.
use borrow.Author.Tests.{ne_eqb}
use Rattle.tokens.specs.Kinds as kind
use Rattle.lexer.proofs.rule.state_after.Goals as goal

pub returns-in-49 : goal.returns-in-49
returns-in-49 c = rw c.in-49.is

pub returns-in-50 : goal.returns-in-50
returns-in-50 c = rw c.in-50.is

pub returns-in_default : goal.returns-in_default
returns-in_default c = rw (ne_eqb _ kind.Select c.in_default.in_default-own.rest.0.1, ne_eqb _ kind.From c.in_default.in_default-own.rest.1)
