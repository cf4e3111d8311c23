-- `writer::survey::is_faulty` meets its contract: `faulty` by the kind. Assumes nothing.
use mathlib.Core.Path.{sym, ap, ◌∙◌}
use mathlib.Core.Bool.{not}
use native.Mathlib.Omega.{arith}
use borrow.Author.Tests.{ne_eqb}
use Rattle.writer.proofs.Surveying.{faulty_first, faulty_second, faulty_carries, faulty-bare}
use Rattle.writer.proofs.survey.is_faulty.Goals as goal

pub returns-then-slot-ne0 : goal.returns-then-slot-ne0
returns-then-slot-ne0 c =
    let x = c.args in
    ap not (ne_eqb x.slot.first 0 c.if-slot-ne0.true) ∙ sym (faulty_first x.text.now x.slot (omega arith) c.if-slot-ne0.true)

pub returns-else-slot-ne0 : goal.returns-else-slot-ne0
returns-else-slot-ne0 c = let x = c.args in sym (faulty_second x.text.now x.slot (omega arith) c.if-slot-ne0.false)

pub returns-then-carries_offsets : goal.returns-then-carries_offsets
returns-then-carries_offsets c =
    let x = c.args in
    c.is_cut.ensures ∙ sym (faulty_carries x.text.now x.slot (sym c.carries_offsets.ensures ∙ c.if-carries_offsets.true))

pub returns : goal.returns
returns c =
    let x = c.args in
    ap not c.is_well_formed.ensures ∙ sym (faulty-bare x.text.now x.slot (sym c.carries_offsets.ensures ∙ c.if-carries_offsets.false))
