-- `scans::next::over_blocks` meets its contract: stretch by stretch. Assumes nothing.
use Rattle.std.proofs.Common.{◌+◌, arith}
use Rattle.scans.proofs.Nones.{none_here, none_join}
use Rattle.scans.proofs.next.over_blocks.Goals as goal

pub loop-at-init : goal.loop-at-init
loop-at-init c = let a = c.args in (omega arith, omega arith, none_here a.a a.b a.text.now a.from a.from (omega arith))

pub loop-at-preserved : goal.loop-at-preserved
loop-at-preserved c =
    let a = c.args in
    (omega arith, omega arith, none_join a.a a.b a.text.now a.from c.loop-at.at (c.loop-at.at + 16) c.loop-at.invariant.2 (c.plain_block.ensures c.if-plain_block.true))
