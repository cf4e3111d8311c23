-- `lexer::read::read_numbered` meets its contract. Assumes nothing.
use native.Mathlib.Omega.{arith}
use Rattle.scans.specs.Ways.{pinned}
use Rattle.scans.specs.Scans.{span, goes_on}
use Rattle.scans.specs.declared.goes.Stop.TheVariants.{Numerics}
use Rattle.lexer.proofs.Steps.{at_small, end_small, numbered_read}
use Rattle.lexer.proofs.read.read_numbered.Goals as goal

pub overflow_add-at : goal.overflow_add-at
overflow_add-at c = omega (arith, c.requires.readable.here)

pub part-requires : goal.part-requires
part-requires c =
    (at_small c.args.text.now c.args.at.0 c.requires, end_small c.args.text.now c.args.at.0 c.requires (span (goes_on pinned Numerics)) c.numerics_end-end.result c.numerics_end-end.ensures)

pub returns : goal.returns
returns c =
    rw c.part.ensures (numbered_read c.args.text.now c.args.at.0 c.requires c.numerics_end-end.result c.numerics_end-end.ensures)
