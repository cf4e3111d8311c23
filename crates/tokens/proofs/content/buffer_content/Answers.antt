-- `tokens::content::buffer_content` meets its contract: its three answers are the three slices of Parts.antt. Assumes nothing.
use native.Mathlib.Omega.{arith}
use Rattle.tokens.proofs.Parts.{handed_within, handed_back, handed_beyond}
use Rattle.tokens.proofs.content.buffer_content.Goals as goal

pub returns-then-b-a : goal.returns-then-b-a
returns-then-b-a c = handed_back _ _ _ (omega arith)

pub returns-then-text-b : goal.returns-then-text-b
returns-then-text-b c = handed_beyond _ _ _ (omega arith)

pub returns : goal.returns
returns c = handed_within _ _ _ (omega arith) (omega arith)
