-- `frames::print_frame` meets its contract: the frame of the line, as text. Assumes nothing.
use mathlib.Core.Path.{◌≡◌, sym, ap}
use native.Mathlib.Omega.{arith}
use lib.ListN.{length}
use Rattle.writer.proofs.Puts.{put_as}
use Rattle.frames.specs.declared.Frame.{Frame}
use Rattle.frames.specs.Frames.{frame_of, shown_over, printed}
use Rattle.frames.proofs.Printing.{printed_long, put_front}
use Rattle.frames.proofs.Answers.{shown_fits, shown_back}
use Rattle.frames.proofs.print_frame.Goals as goal

pub put_frame-requires : goal.put_frame-requires
put_frame-requires c =
    let x = c.args in
    let e = c.frame_line-shown.ensures.value in
    let f = frame_of x.line.now in
    let long : c.frame_line-shown.result.length ≡ length f.shape = ap (λ (r : Frame). r.length) e.answer in
    let fits = shown_fits f.shape x.work.now.out.now e.left.output in
    (omega (arith, long, fits), omega (arith, long, fits))

pub returns : goal.returns
returns c =
    let x = c.args in
    let e = c.frame_line-shown.ensures.value in
    let f = frame_of x.line.now in
    let long : c.frame_line-shown.result.length ≡ length f.shape = ap (λ (r : Frame). r.length) e.answer in
    let fits = shown_fits f.shape x.work.now.out.now e.left.output in
    let same : shown_over c.frame_line-shown.result _ ≡ f = shown_back f _ x.work.now.out.now e.answer e.left.output in
    let p = put_as (ap printed (sym same)) c.put_frame.ensures in
    record { printed = record { put = p; within = omega (arith, p.next, printed_long f, fits); front = put_front (omega arith) p }; left = e.left; same = c.frame_line-shown.ensures.same }
