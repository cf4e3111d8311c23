-- `frames::put_frame` meets its contract: three copies, one behind the other. Assumes nothing.
use native.Mathlib.Omega.{arith}
use lib.ListN.{take}
use lib.Seq.{length-take-le}
use Rattle.writer.proofs.Puts.{put_one, put_then}
use Rattle.frames.specs.Frames.{printed}
use Rattle.frames.proofs.Printing.{text_long, head_long}
use Rattle.frames.proofs.put_frame.Goals as goal

pub put_hex-end-requires : goal.put_hex-end-requires
put_hex-end-requires c = omega (arith, c.put_head-start.ensures.next, head_long c.args.shown.status c.args.shown.number, length-take-le c.args.shown.length c.args.out.now (omega arith))

pub bounds-page-end : goal.bounds-page-end
bounds-page-end c = omega (arith, c.put_hex-end.ensures.next, c.put_head-start.ensures.next, head_long c.args.shown.status c.args.shown.number, text_long (take c.args.shown.length c.args.out.now), length-take-le c.args.shown.length c.args.out.now (omega arith))

pub returns : goal.returns
unfolding printed
returns c =
    put_then (omega arith) (put_then (omega arith) c.put_head-start.ensures c.put_hex-end.ensures) (put_one _ _ _ (bounds-page-end c))
