-- `words::known::known_kind` meets its contract: the guess, confirmed, is the search. Assumes nothing.
use Rattle.std.proofs.Common.{map, arith}
use lib.ListN.{length-map}
use Rattle.words.specs.Known.{lower, known_kind}
use Rattle.words.proofs.Lookup.{lookup_long, answered, no_guess}
use Rattle.words.proofs.known.known_kind.Goals as goal

pub returns-then-text-gt-LONGEST : goal.returns-then-text-gt-LONGEST
unfolding known_kind
returns-then-text-gt-LONGEST c = lookup_long (map lower c.args.text.now) c.args.sort (omega (arith, length-map c.args.text.now lower))

pub returns-in_err-row : goal.returns-in_err-row
returns-in_err-row c = rw c.from_residual.ensures (no_guess c.args.sort c.args.text.now c.key_of.result c.key_of.ensures c.in_err-row.ensures)

pub returns : goal.returns
returns c =
    rw c.then_some.ensures
    (answered c.args.sort c.args.text.now c.key_of.result c.in_ok-row.field-0 c.eq_ignore_ascii_case.result c.key_of.ensures c.in_ok-row.ensures c.eq_ignore_ascii_case.ensures.test)
