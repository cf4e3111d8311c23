-- `lexer::read::read_charset` meets its contract. Assumes nothing.
use native.Mathlib.Omega.{arith}
use Rattle.scans.specs.Ways.{pinned}
use Rattle.scans.specs.Scans.{span, goes_on}
use Rattle.scans.specs.declared.goes.Stop.TheVariants.{Charset}
use Rattle.lexer.proofs.Steps.{after_small, end_small, charset_read}
use Rattle.lexer.proofs.read.read_charset.Goals as goal

pub overflow_add-from : goal.overflow_add-from
overflow_add-from c = omega (arith, c.requires.readable.here)

pub part-requires : goal.part-requires
part-requires c =
    (after_small c.args.text.now c.args.at.0 c.requires, end_small c.args.text.now c.args.at.0 c.requires (span (goes_on pinned Charset)) c.charset_end-end.result c.charset_end-end.ensures)

pub returns : goal.returns
returns c =
    rw c.part.ensures (charset_read c.args.text.now c.args.at.0 c.requires c.charset_end-end.result c.charset_end-end.ensures)
