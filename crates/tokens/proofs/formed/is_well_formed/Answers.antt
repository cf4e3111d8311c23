-- `tokens::formed::is_well_formed` meets its contract: each arm is a range of the kinds. Assumes nothing.
use mathlib.Core.Path.{sym}
use native.Mathlib.Omega.{arith}
use borrow.Author.Tests.{eq-eqb, ne_eqb}
use Rattle.tokens.proofs.Forms.{carries_other, carries_in, formed_carries, formed_unknown, formed_plain, formed_none}
use Rattle.tokens.proofs.formed.is_well_formed.Goals as goal

pub returns-in-66 : goal.returns-in-66
returns-in-66 c = sym (formed_carries c.args.slot (carries_other _ (omega arith)))

pub returns-then-is_scalar : goal.returns-then-is_scalar
returns-then-is_scalar c =
    rw (formed_unknown c.args.slot (omega arith), ← c.is_scalar.ensures, c.if-is_scalar.true)

pub returns-else-is_scalar : goal.returns-else-is_scalar
returns-else-is_scalar c =
    rw (formed_unknown c.args.slot (omega arith), ← c.is_scalar.ensures, c.if-is_scalar.false)

pub returns-then-slot-eq0 : goal.returns-then-slot-eq0
returns-then-slot-eq0 c =
    let slot = c.args.slot in
    rw (formed_plain slot (omega arith) (omega arith), eq-eqb slot.first 0 c.if-slot-eq0.true)

pub returns-else-slot-eq0 : goal.returns-else-slot-eq0
returns-else-slot-eq0 c =
    let slot = c.args.slot in
    rw (formed_plain slot (omega arith) (omega arith), ne_eqb slot.first 0 c.if-slot-eq0.false)

pub returns-in-66-2 : goal.returns-in-66-2
returns-in-66-2 c = sym (formed_carries c.args.slot (carries_in _ (omega arith) (omega arith)))

pub returns-in_default : goal.returns-in_default
returns-in_default c = sym (formed_none c.args.slot (omega arith))
