-- `frames::hex::put_hex` meets its contract. The invariant: the bytes so far stand as text behind the first `at`. Assumes nothing.
use Rattle.std.proofs.Common.{arith}
use Rattle.writer.proofs.Puts.{put_none}
use Rattle.frames.specs.Hex.{hex_text}
use Rattle.frames.proofs.Printing.{put_more}
use Rattle.frames.proofs.hex.put_hex.Goals as goal

pub loop-b-init : goal.loop-b-init
unfolding hex_text
loop-b-init c = (omega arith, put_none c.args.page.now c.args.at)

pub loop-b-preserved : goal.loop-b-preserved
loop-b-preserved c =
    let l = c.loop-b in
    let a = c.args in
    (omega arith, put_more a.page.now l.page a.bytes.now a.at l.end l.b-index l.invariant.1 _ _ c.hex_digit.ensures c.hex_digit-in-loop-b.ensures (omega arith) (omega arith) (omega arith))
