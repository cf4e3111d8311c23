-- `shape::run` meets its contract. The invariant: all that was read has passed. Assumes nothing.
use Rattle.std.proofs.Common.{refl}
use Rattle.shape.proofs.Passing.{Since, since_start, since_read, since_runs}
use Rattle.shape.proofs.run.Goals.{else-loop-test, then-loop-test+then-ne}
use Rattle.shape.proofs.run.Goals as goal

pub loop-init : goal.loop-init
loop-init c = since_start _ c.new.ensures c.new-2.ensures refl

pub loop-preserved : goal.loop-preserved
loop-preserved c = since_read c.loop.invariant c.turn.ensures

pub returns : goal.returns
returns c =
    let w : Since c.loop-test.held =
    elim c.loop-test.branch [ else-loop-test w ↦ rw w.held-is c.loop.invariant | then-loop-test+then-ne w ↦ rw w.held-is (since_read c.loop.invariant w.turn.ensures) ] in
    since_runs w c.finish.ensures.input c.finish.ensures.closes
