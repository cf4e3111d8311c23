-- `sanitizer::turn::blank` meets its contract. The invariant: blanking what is left gives what blanking all gives, whatever the count.
-- Assumes nothing.
use native.Mathlib.Omega.{arith}
use Rattle.sanitizer.proofs.Turning.{leads_more, leads_done}
use Rattle.sanitizer.proofs.turn.blank.Goals as goal

pub loop-at-preserved : goal.loop-at-preserved
loop-at-preserved c =
    let a = c.args in
    let loop = c.loop-at in (
      omega arith,
      leads_more a.slots.now loop.slots c.replace.new.slots a.from.0 loop.at a.to.0 (omega arith) loop.invariant.0 c.replace.ensures loop.invariant.1,
    )

pub returns : goal.returns
returns c = leads_done c.args.slots.now c.loop-at.slots c.args.from.0 c.loop-at.at c.args.to.0 (omega arith) c.loop-at.invariant.1
