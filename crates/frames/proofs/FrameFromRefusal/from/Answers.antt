-- `Frame::from` of a refusal meets its contract: its number and its detail, framed. Assumes nothing.
use Rattle.frames.proofs.FrameFromRefusal.from.Goals as goal

pub returns : goal.returns
returns c text = rw c.numbers-number.ensures.value (c.refused_frame.ensures text)
