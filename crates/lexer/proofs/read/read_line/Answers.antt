-- `lexer::read::read_line` meets its contract. Assumes nothing.
use native.Mathlib.Omega.{arith}
use Rattle.scans.specs.Scans.{span, in_line}
use Rattle.lexer.proofs.Steps.{after_whole, at_small, end_small, line_read}
use Rattle.lexer.proofs.read.read_line.Goals as goal

pub overflow_add-at : goal.overflow_add-at
overflow_add-at c = omega (arith, c.requires.readable.here)

pub line_end-end-requires : goal.line_end-end-requires
line_end-end-requires c = after_whole c.args.text.now c.args.at.0 c.requires

pub part-requires : goal.part-requires
part-requires c =
    (at_small c.args.text.now c.args.at.0 c.requires, end_small c.args.text.now c.args.at.0 c.requires (span in_line) c.line_end-end.result c.line_end-end.ensures)

pub returns : goal.returns
returns c =
    rw c.part.ensures (line_read c.args.text.now c.args.at.0 c.requires c.line_end-end.result c.line_end-end.ensures)
