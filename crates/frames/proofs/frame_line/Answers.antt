-- `frames::frame_line` meets its contract: refusal 8, or the frame of the bytes. Assumes nothing.
use mathlib.Core.Path.{sym, ap, ◌∙◌}
use native.Mathlib.Omega.{arith}
use Rattle.frames.specs.Hex.{hex_bytes}
use Rattle.frames.specs.Frames.{checked}
use Rattle.frames.proofs.Reading.{bytes_few}
use Rattle.frames.proofs.Answers.{line_passes, fine-line, bad_line_lem}
use Rattle.frames.proofs.frame_line.Goals as goal

pub decode-count-requires : goal.decode-count-requires
decode-count-requires c =
    let line = c.args.line.now in
    let p = line_passes line (sym (ap checked c.in-Ok.is) ∙ c.check_line.ensures) in
    (omega (arith, p.0), p.1)

pub shared_ref_as_front-frame_text : goal.shared_ref_as_front-frame_text
shared_ref_as_front-frame_text c =
    let line = c.args.line.now in
    let p = line_passes line (sym (ap checked c.in-Ok.is) ∙ c.check_line.ensures) in
    omega (arith, p.0, c.decode-count.ensures.next, bytes_few line)

pub returns-in-Ok-clause-value : goal.returns-in-Ok-clause-value
returns-in-Ok-clause-value c = fine-line _ _ _ _ (sym (ap checked c.in-Ok.is) ∙ c.check_line.ensures) c.decode-count.ensures c.frame_text.ensures

pub returns-in-Err-clause-value : goal.returns-in-Err-clause-value
returns-in-Err-clause-value c = bad_line_lem _ _ _ _ (sym (ap checked c.in-Err.is) ∙ c.check_line.ensures) (c.refused_frame.ensures (hex_bytes c.args.line.now))
