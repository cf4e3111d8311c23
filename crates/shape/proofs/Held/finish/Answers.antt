-- `shape::Held::finish` meets its contract. Assumes nothing.
use Rattle.std.proofs.Common.{[], subst}
use Rattle.shape.specs.declared.input.Input.{Input}
use Rattle.shape.specs.Fits.{has_ended, whole}
use Rattle.shape.specs.Passes.{Closes}
use Rattle.shape.proofs.Passing.{room_keeps, room_passes, closes_page, passes_closes}
use Rattle.shape.proofs.Held.finish.Goals as goal

pub returns-clause-closes : goal.returns-clause-closes
returns-clause-closes c =
    let h = c.args.self.now in
    let m = c.make_room in
    passes_closes (has_ended h.stand.input) (room_passes h m.ensures)
    (subst (λ (i : Input). Closes (whole (has_ended i) m.new.self []) m.new.self.stand c.flush.new.self.stand) (room_keeps m.ensures) (closes_page c.end_input.ensures c.flush.ensures))
