-- `lexer::read::read_quoted` meets its contract: the text ends at a quote that closes, or at the end. Assumes nothing.
use native.Mathlib.Omega.{arith}
use lib.ListN.{get_or}
use Rattle.scans.specs.Scans.{quote_len}
use Rattle.tokens.specs.Named.{number}
use Rattle.lexer.proofs.Steps.{after_whole, after_small, end_small, quoted_closed, quoted_open}
use Rattle.lexer.proofs.read.read_quoted.Goals as goal

pub overflow_add-from : goal.overflow_add-from
overflow_add-from c = omega (arith, c.requires.readable.here)

pub bounds-text-i : goal.bounds-text-i
bounds-text-i c = omega (arith, c.requires.readable.here)

pub quote_end-end-requires : goal.quote_end-end-requires
quote_end-end-requires c = record { whole = after_whole c.args.text.now c.args.at.0 c.requires; quote_bound = c.requires.low }

pub part-requires : goal.part-requires
part-requires c =
    (after_small c.args.text.now c.args.at.0 c.requires, end_small c.args.text.now c.args.at.0 c.requires (quote_len (get_or c.args.text.now c.args.at.0 0)) c.quote_end-end.result c.quote_end-end.ensures)

pub overflow_add-result : goal.overflow_add-result
overflow_add-result c = omega arith

pub returns-then-end-text : goal.returns-then-end-text
returns-then-end-text c =
    rw c.part.ensures (quoted_closed c.args.text.now c.args.at.0 c.requires (number c.args.kind) c.quote_end-end.result c.quote_end-end.ensures c.if-end-text.true)

pub part-requires-2 : goal.part-requires-2
part-requires-2 c =
    (after_small c.args.text.now c.args.at.0 c.requires, end_small c.args.text.now c.args.at.0 c.requires (quote_len (get_or c.args.text.now c.args.at.0 0)) c.quote_end-end.result c.quote_end-end.ensures)

pub returns : goal.returns
returns c =
    rw c.part-2.ensures (quoted_open c.args.text.now c.args.at.0 c.requires (number c.args.kind) c.quote_end-end.result c.quote_end-end.ensures c.if-end-text.false)
