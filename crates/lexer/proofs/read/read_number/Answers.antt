-- `lexer::read::read_number` meets its contract. Assumes nothing.
use mathlib.Core.Path.{refl}
use native.Mathlib.Omega.{arith}
use Rattle.tokens.specs.Named.{number}
use Rattle.lexer.proofs.Steps.{here_small, number_bounds, number-known, number_plain}
use Rattle.lexer.proofs.read.read_number.Goals as goal

pub slice_bounds-zero_kind-end : goal.slice_bounds-zero_kind-end
slice_bounds-zero_kind-end c = (number_bounds c.args.text.now c.args.at.0 c.requires c.number_from.result.0 c.number_from.ensures c.number_end-end.result c.number_end-end.ensures).1

pub part-requires : goal.part-requires
part-requires c =
    let w = c.requires.readable.rest in
    (here_small c.args.text.now c.args.at.0 w, omega (arith, number_bounds c.args.text.now c.args.at.0 c.requires c.number_from.result.0 c.number_from.ensures c.number_end-end.result c.number_end-end.ensures, w.small))

pub returns-in-None : goal.returns-in-None
returns-in-None c =
    rw c.part.ensures (number_plain c.args.text.now c.args.at.0 c.requires c.number_from.result.0 c.number_from.ensures c.number_end-end.result c.number_end-end.ensures _ refl c.in-None.ensures)

pub returns-in-Some : goal.returns-in-Some
returns-in-Some c =
    rw c.bare.ensures (number-known c.args.text.now c.args.at.0 c.requires c.number_from.result.0 c.number_from.ensures c.number_end-end.result c.number_end-end.ensures (number c.in-Some.kind) c.in-Some.ensures.0 (λ z. omega (arith, z, c.in-Some.ensures.0, c.in-Some.ensures.1)))
