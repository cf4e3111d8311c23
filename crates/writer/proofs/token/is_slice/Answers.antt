-- `writer::token::is_slice` meets its contract: by the ranges of the kinds. Assumes nothing.
use mathlib.Core.Logic.{inl, inr}
use native.Mathlib.Omega.{arith}
use Rattle.tokens.proofs.Forms.{carries_other, carries_in}
use Rattle.tokens.proofs.Rows.{text_none}
use Rattle.writer.proofs.ByKind.{quoted_out, text_bare}
use Rattle.writer.proofs.token.is_slice.Goals as goal

pub returns-in-66 : goal.returns-in-66
returns-in-66 c = λ _. (carries_other c.args.kind (omega arith), quoted_out c.args.kind (inl (omega arith)), text_bare c.args.kind (omega arith))

pub returns-in-66-2 : goal.returns-in-66-2
returns-in-66-2 c = λ _. (carries_in c.args.kind (omega arith) (omega arith), quoted_out c.args.kind (inr (omega arith)), text_none c.args.kind (omega arith))
