-- `frames::frame_text` meets its contract: the answer of the one call, framed. Assumes nothing.
use borrow.Author.Rules.{rules}
use Rattle.frames.proofs.Answers.{shaped_frame, refused_text}
use Rattle.frames.proofs.frame_text.Goals as goal

pub returns-in-Ok : goal.returns-in-Ok
returns-in-Ok c = shaped_frame _ _ _ (search rules) (search rules) _ c.read_status.ensures c.in-Ok.is c.sanitize_string.ensures

pub returns-in-Err : goal.returns-in-Err
returns-in-Err c = refused_text _ _ _ (search rules) (search rules) (c.from.ensures _) c.in-Err.is c.sanitize_string.ensures
