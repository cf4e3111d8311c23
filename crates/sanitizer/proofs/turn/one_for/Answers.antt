-- `sanitizer::turn::one_for` meets its contract: a store, then blanking. Assumes nothing.
use Prim.Native.Nat.{◌+◌, ◌-◌}
use mathlib.Core.List.{List}
use native.Mathlib.Omega.{arith}
use Rattle.tokens.specs.Named.{number}
use Rattle.tokens.specs.declared.slot.Slot.{Slot}
use Rattle.sanitizer.specs.Run.{blank}
use Rattle.sanitizer.proofs.Turning.{left_put, left_by}
use Rattle.sanitizer.proofs.turn.one_for.Goals as goal

pub returns : goal.returns
returns c =
    let a = c.args in
    λ n h l.
    let one = left_put n a.place.0 (number a.kind) (omega arith) l c.replace.ensures in
    left_by (λ (ts : List Slot). blank (a.place.0 + 1) (a.to.0 - (a.place.0 + 1)) ts) one
    (c.blank.ensures n h (omega (arith, one.long)))
