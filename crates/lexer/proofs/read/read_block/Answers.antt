-- `lexer::read::read_block` meets its contract. Assumes nothing.
use native.Mathlib.Omega.{arith}
use Rattle.scans.specs.Scans.{block_len}
use Rattle.lexer.proofs.Steps.{after_whole, at_small, end_small, block_read}
use Rattle.lexer.proofs.read.read_block.Goals as goal

pub overflow_add-at : goal.overflow_add-at
overflow_add-at c = omega (arith, c.requires.readable.here)

pub star_before-requires : goal.star_before-requires
star_before-requires c = c.requires.readable.here

pub block_end-end-requires : goal.block_end-end-requires
block_end-end-requires c = after_whole c.args.text.now c.args.at.0 c.requires

pub part-requires : goal.part-requires
part-requires c =
    (at_small c.args.text.now c.args.at.0 c.requires, end_small c.args.text.now c.args.at.0 c.requires (block_len c.star_before.result) c.block_end-end.result c.block_end-end.ensures)

pub returns : goal.returns
returns c =
    rw c.part.ensures (rw c.star_before.ensures at (block_read c.args.text.now c.args.at.0 c.requires c.star_before.result c.block_end-end.result c.block_end-end.ensures))
