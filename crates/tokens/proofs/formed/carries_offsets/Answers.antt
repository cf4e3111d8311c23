-- `tokens::formed::carries_offsets` meets its contract: each arm is a range of the kinds. Assumes nothing.
use mathlib.Core.Path.{sym}
use native.Mathlib.Omega.{arith}
use Rattle.tokens.proofs.Forms.{carries_other, carries_in, carries_low, carries_high}
use Rattle.tokens.proofs.formed.carries_offsets.Goals as goal

pub returns-in-66 : goal.returns-in-66
returns-in-66 c = sym (carries_other _ (omega arith))

pub returns-in-66-2 : goal.returns-in-66-2
returns-in-66-2 c = sym (carries_in _ (omega arith) (omega arith))

pub returns-in_default : goal.returns-in_default
returns-in_default c = sym (carries_low _ (omega arith) (omega arith))

pub returns-in_default-2 : goal.returns-in_default-2
returns-in_default-2 c = sym (carries_high _ (omega arith))
