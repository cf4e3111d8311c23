-- `lexer::read::read_run` meets its contract. Assumes nothing.
use mathlib.Core.Path.{refl, ◌∙◌}
use native.Mathlib.Omega.{arith}
use Rattle.scans.specs.Scans.{span, in_run}
use Rattle.tokens.specs.Named.{number}
use Rattle.lexer.proofs.Steps.{after_whole, end_in, end_after, run-known, run_halt}
use Rattle.lexer.proofs.read.read_run.Goals as goal

pub overflow_add-at : goal.overflow_add-at
overflow_add-at c = omega (arith, c.requires.readable.here)

pub run_end-end-requires : goal.run_end-end-requires
run_end-end-requires c = after_whole c.args.text.now c.args.at.0 c.requires

pub slice_bounds-known_kind-count : goal.slice_bounds-known_kind-count
slice_bounds-known_kind-count c = end_after c.args.text.now c.args.at.0 c.requires (span in_run) c.run_end-end.result c.run_end-end.ensures

pub slice_bounds-known_kind-start : goal.slice_bounds-known_kind-start
slice_bounds-known_kind-start c = end_after c.args.text.now c.args.at.0 c.requires (span in_run) c.run_end-end.result c.run_end-end.ensures

pub slice_bounds-known_kind-end : goal.slice_bounds-known_kind-end
slice_bounds-known_kind-end c = end_in c.args.text.now c.args.at.0 c.requires (span in_run) c.run_end-end.result c.run_end-end.ensures

pub returns-in_err-kind : goal.returns-in_err-kind
returns-in_err-kind c =
    c.from_residual.ensures ∙ run_halt c.args.text.now c.args.at.0 c.requires c.run_end-end.result c.run_end-end.ensures _ refl c.in_err-kind.ensures

pub returns : goal.returns
returns c =
    rw c.bare.ensures (run-known c.args.text.now c.args.at.0 c.requires c.run_end-end.result c.run_end-end.ensures (number c.in_ok-kind.kind) c.in_ok-kind.ensures.0 (λ z. omega (arith, z, c.in_ok-kind.ensures.0, c.in_ok-kind.ensures.1)))
