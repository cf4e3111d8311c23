-- `sanitizer::turn::remove_comment` meets its contract: a store, and a second where a Space stands before. Assumes nothing.
use Prim.Native.Nat.{◌-◌}
use mathlib.Core.Path.{sym, ◌∙◌}
use mathlib.Core.List.{List}
use native.Mathlib.Omega.{arith}
use lib.ListN.{set}
use Rattle.tokens.specs.Kinds as kind
use Rattle.tokens.specs.Slots.{bare, tokens_in}
use Rattle.tokens.specs.declared.slot.Slot.{Slot}
use Rattle.sanitizer.proofs.Turning.{left_put, left_by, left_is, comment_first, comment_other, comment_spaced, before_stored}
use Rattle.sanitizer.proofs.turn.remove_comment.Goals as goal
use Rattle.sanitizer.proofs.turn.remove_comment.Goals.{else-at-ne0-via-then-at-ne0+else-kind_at-from, else-at-ne0-via-else-at-ne0}

pub returns-then-kind_at-from : goal.returns-then-kind_at-from
returns-then-kind_at-from c =
    let a = c.args in
    λ n h l.
    let b = before_stored a.slots.now n a.place.0 kind.None h (omega arith) c.replace.ensures ∙ sym c.kind_at.ensures in
    let one = left_put n a.place.0 kind.None h l c.replace.ensures in
    left_is (comment_spaced (tokens_in a.slots.now n) a.place.0 (b ∙ c.if-kind_at-from.true ∙ c.from.ensures))
    (left_by (λ (ts : List Slot). set ts (a.place.0 - 1) (bare kind.None)) one
    (left_put n (a.place.0 - 1) kind.None (omega arith) (omega (arith, one.long)) c.replace-then-kind_at-from.ensures))

pub returns-else-at-ne0 : goal.returns-else-at-ne0
returns-else-at-ne0 c =
    let a = c.args in
    λ n h l.
    let one = left_put n a.place.0 kind.None h l c.replace.ensures in
    elim c.else-at-ne0.branch [
      | else-at-ne0-via-then-at-ne0+else-kind_at-from w ↦
          let b = before_stored a.slots.now n a.place.0 kind.None h (omega arith) c.replace.ensures ∙ sym w.kind_at.ensures in
          left_is (comment_other (tokens_in a.slots.now n) a.place.0 (λ e. w.if-kind_at-from.false (sym b ∙ e ∙ sym w.from.ensures))) one
      | else-at-ne0-via-else-at-ne0 w ↦ left_is (comment_first (tokens_in a.slots.now n) a.place.0 (omega arith)) one
    ]
