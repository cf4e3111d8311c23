-- `lexer::mark::mark_of` meets its contract: the table has the definition's kinds, by computation. Assumes nothing.
use mathlib.Core.Path.{refl}
use Rattle.lexer.specs.declared.mark.TheConstants.{MARKS}
use Rattle.lexer.specs.Marks.{mark_of}
use Rattle.lexer.proofs.Marks.{charted, mark_high}
use Rattle.lexer.proofs.mark.mark_of.Goals as goal

pub returns-then-b-ge128 : goal.returns-then-b-ge128
returns-then-b-ge128 c = mark_high c.args.b c.if-b-ge128.true

pub returns : goal.returns
unfolding mark_of
returns c = charted mark_of MARKS refl c.args.b c.if-b-ge128.false
