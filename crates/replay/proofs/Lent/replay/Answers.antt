-- `replay::Lent::replay` meets its contract. Assumes nothing.
use Rattle.std.proofs.Common.{sym, ap, ◌∙◌, arith}
use Rattle.frames.specs.Frames.{checked}
use Rattle.frames.proofs.Answers.{line_passes}
use Rattle.replay.proofs.Lent.replay.Goals as goal

pub decode-n-requires : goal.decode-n-requires
decode-n-requires c =
    let p = line_passes c.args.line.now (sym (ap checked c.in_ok-check_line.was) ∙ c.check_line.ensures) in
    (omega (arith, p.0), p.1)
