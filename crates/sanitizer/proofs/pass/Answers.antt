-- `sanitizer::pass` meets its contract. The invariant: the turns still to take end in the sanitised list, and past the count nothing is changed.
-- Assumes nothing.
use mathlib.Core.Path.{sym, subst}
use mathlib.Core.List.{List}
use native.Mathlib.Omega.{arith}
use Rattle.tokens.specs.Slots.{tokens_in}
use Rattle.tokens.specs.declared.slot.Slot.{Slot}
use Rattle.tokens.proofs.Storing.{left_same, left_then}
use Rattle.sanitizer.specs.Run.{sanitized, Known}
use Rattle.sanitizer.proofs.Keeping.{known-turn}
use Rattle.sanitizer.proofs.Turning.{runs_start, runs_done, runs_more, left_is}
use Rattle.sanitizer.proofs.pass.Goals as goal

pub loop-turn-init : goal.loop-turn-init
loop-turn-init c =
    let a = c.args in
    (omega arith, left_same a.count a.slots.now, c.requires.1, runs_start a.count a.slots.now)

pub loop-turn-preserved : goal.loop-turn-preserved
loop-turn-preserved c =
    let e = c.turn_at-turn.ensures in
    let loop = c.loop-turn in
    let a = c.args in (
      e.near,
      left_then loop.invariant.1 (left_is e.left.tokens e.left),
      subst (λ (ts : List Slot). Known ts) (sym e.left.tokens) (known-turn (tokens_in loop.slots a.count) loop.turn.next.0 loop.turn.state loop.invariant.2),
      runs_more a.count loop.slots loop.turn.next.0 loop.turn.state (sanitized (tokens_in a.slots.now a.count)) c.turn_at-turn.new.slots
          c.turn_at-turn.result.next.0 c.turn_at-turn.result.state c.loop-turn-test.true e loop.invariant.3,
    )

pub returns : goal.returns
returns c =
    let loop = c.loop-turn in
    let a = c.args in
    left_is (sym (runs_done a.count loop.slots loop.turn.next.0 loop.turn.state (sanitized (tokens_in a.slots.now a.count)) c.loop-turn-test.false loop.invariant.3)) loop.invariant.1
