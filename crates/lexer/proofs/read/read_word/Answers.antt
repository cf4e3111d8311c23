-- `lexer::read::read_word` meets its contract. Assumes nothing.
use mathlib.Core.Path.{refl}
use native.Mathlib.Omega.{arith}
use Rattle.scans.specs.declared.goes.Stop.TheVariants.{Word}
use Rattle.scans.specs.Ways.{pinned}
use Rattle.scans.specs.Scans.{span, goes_on}
use Rattle.tokens.specs.Named.{number}
use Rattle.lexer.proofs.Steps.{here_small, far_in, far_after, far_small, word-known, word_other}
use Rattle.lexer.proofs.read.read_word.Goals as goal

pub slice_bounds-known_kind-count : goal.slice_bounds-known_kind-count
slice_bounds-known_kind-count c = far_after c.args.text.now c.args.at.0 c.requires.readable.rest (span (goes_on pinned Word)) c.word_end-end.result c.word_end-end.ensures

pub slice_bounds-known_kind-start : goal.slice_bounds-known_kind-start
slice_bounds-known_kind-start c = far_after c.args.text.now c.args.at.0 c.requires.readable.rest (span (goes_on pinned Word)) c.word_end-end.result c.word_end-end.ensures

pub slice_bounds-known_kind-end : goal.slice_bounds-known_kind-end
slice_bounds-known_kind-end c = far_in c.args.text.now c.args.at.0 c.requires.readable.rest (span (goes_on pinned Word)) c.word_end-end.result c.word_end-end.ensures

pub part-requires : goal.part-requires
part-requires c =
    let w = c.requires.readable.rest in
    (here_small c.args.text.now c.args.at.0 w, far_small c.args.text.now c.args.at.0 w (span (goes_on pinned Word)) c.word_end-end.result c.word_end-end.ensures)

pub returns-in-Some : goal.returns-in-Some
returns-in-Some c =
    rw c.bare.ensures (word-known c.args.text.now c.args.at.0 c.requires c.word_end-end.result c.word_end-end.ensures (number c.in-Some.kind) c.in-Some.ensures.0 (λ z. omega (arith, z, c.in-Some.ensures.0, c.in-Some.ensures.1)))

pub returns-in-None : goal.returns-in-None
returns-in-None c =
    rw c.part.ensures (word_other c.args.text.now c.args.at.0 c.requires c.word_end-end.result c.word_end-end.ensures _ refl c.in-None.ensures)
