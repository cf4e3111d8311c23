-- `lexer::lex::keep` meets its contract. Assumes nothing.
use mathlib.Core.Path.{◌∙◌}
use borrow.Author.Tests.{lt-ltb, le-ltb}
use Rattle.lexer.proofs.lex.keep.Goals as goal

pub returns-then-place-upto : goal.returns-then-place-upto
returns-then-place-upto c = c.put.ensures ∙ rw (lt-ltb _ _ c.if-place-upto.true)

pub returns-else-place-upto : goal.returns-else-place-upto
returns-else-place-upto c = rw (le-ltb _ _ c.if-place-upto.false)
