-- `lexer::read::number_from` meets its contract. Assumes nothing.
use native.Mathlib.Omega.{arith}
use Rattle.lexer.proofs.Steps.{number_dash, number_same}
use Rattle.lexer.proofs.read.number_from.Goals as goal

pub bounds-text-i : goal.bounds-text-i
bounds-text-i c = omega (arith, c.requires.readable.here)

pub overflow_add-result : goal.overflow_add-result
overflow_add-result c = omega (arith, c.requires.readable.here)

pub returns-then-text-i-eq45 : goal.returns-then-text-i-eq45
returns-then-text-i-eq45 c = number_dash c.args.text.now c.args.at.0 c.requires c.if-text-i-eq45.true

pub returns : goal.returns
returns c = number_same c.args.text.now c.args.at.0 c.requires c.if-text-i-eq45.false
