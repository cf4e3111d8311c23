-- `lexer::rule::stands` meets its contract: no byte of a longer character is an ASCII character. Assumes nothing.
use mathlib.Core.Path.{sym}
use native.Mathlib.Omega.{arith}
use borrow.Author.Tests.{le-ltb}
use Rattle.lexer.proofs.Choice.{stands_is, stands_end}
use Rattle.lexer.proofs.rule.stands.Goals as goal

pub bounds-text-i : goal.bounds-text-i
bounds-text-i c = omega arith

pub returns-then-i-text : goal.returns-then-i-text
returns-then-i-text c =
    stands_is c.args.text.now c.args.at.0 c.args.b c.requires.whole c.requires.b_bound c.if-i-text.true

pub returns-else-i-text : goal.returns-else-i-text
returns-else-i-text c = rw (le-ltb _ _ c.if-i-text.false) (sym (stands_end c.args.text.now c.args.at.0 _ c.if-i-text.false))
