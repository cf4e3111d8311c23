-- `sanitizer::turn::turn_at` meets its contract: for each thing that an arm does, what the buffer is left as. Assumes nothing.
use mathlib.Core.Path.{refl, sym, ap, ◌∙◌}
use mathlib.Core.Bool.{cond}
use Prim.Native.Nat.{ℕ, ◌+◌}
use native.Mathlib.Omega.{arith}
use lib.ListN.{set}
use Rattle.tokens.specs.Kinds as kind
use Rattle.tokens.specs.Named.{number}
use Rattle.tokens.specs.Slots.{bare, tokens_in}
use Rattle.tokens.proofs.Storing.{left_same}
use Rattle.sanitizer.specs.declared.arms.Does.TheVariants.{Stay, Go, Replace, ReplaceUnlessDotted, ReplaceToClose, CollapseRows, RemoveComment}
use Rattle.sanitizer.specs.Run.{turn_by, one_for}
use Rattle.sanitizer.proofs.Scanning.{kind_tokens}
use Rattle.sanitizer.proofs.Turning.{left_put, turned}
use Rattle.sanitizer.proofs.turn.turn_at.Goals as goal

-- every kind of the list is one of the 84
pub unreachable-requires : goal.unreachable-requires
unreachable-requires c =
    let a = c.args in
    omega (arith, kind_tokens a.slots.now a.count a.place.0 (omega arith), c.kind_at.ensures, c.in_default.ensures.0)

pub returns-else-not-is_dotted : goal.returns-else-not-is_dotted
unfolding turn_by
returns-else-not-is_dotted c =
    let a = c.args in
    let t = tokens_in a.slots.now a.count in
    let k = c.in-Ok.ensures ∙ c.kind_at.ensures ∙ sym (kind_tokens a.slots.now a.count a.place.0 (omega arith)) in
    turned a.count a.slots.now _ a.place.0 (number c.in-Ok.kind) a.state c.choose-does.result ReplaceUnlessDotted k c.choose-does.ensures c.in-ReplaceUnlessDotted.is
    (ap (λ b. cond b t (set t a.place.0 (bare kind.Placeholder))) (sym c.is_dotted.ensures ∙ c.if-not-is_dotted.false)) (left_same a.count a.slots.now) refl refl (omega arith) (omega arith)

pub returns-in-Stay : goal.returns-in-Stay
unfolding turn_by
returns-in-Stay c =
    let a = c.args in
    let t = tokens_in a.slots.now a.count in
    let k = c.in-Ok.ensures ∙ c.kind_at.ensures ∙ sym (kind_tokens a.slots.now a.count a.place.0 (omega arith)) in
    turned a.count a.slots.now _ a.place.0 (number c.in-Ok.kind) a.state c.choose-does.result Stay k c.choose-does.ensures c.in-Stay.is
    refl (left_same a.count a.slots.now) refl refl (omega arith) (omega arith)

pub returns-in-Go : goal.returns-in-Go
unfolding turn_by
returns-in-Go c =
    let a = c.args in
    let t = tokens_in a.slots.now a.count in
    let k = c.in-Ok.ensures ∙ c.kind_at.ensures ∙ sym (kind_tokens a.slots.now a.count a.place.0 (omega arith)) in
    turned a.count a.slots.now _ a.place.0 (number c.in-Ok.kind) a.state c.choose-does.result (Go c.in-Go.state) k c.choose-does.ensures c.in-Go.is
    refl (left_same a.count a.slots.now) refl refl (omega arith) (omega arith)

pub returns-in-Replace : goal.returns-in-Replace
unfolding turn_by
returns-in-Replace c =
    let a = c.args in
    let t = tokens_in a.slots.now a.count in
    let k = c.in-Ok.ensures ∙ c.kind_at.ensures ∙ sym (kind_tokens a.slots.now a.count a.place.0 (omega arith)) in
    turned a.count a.slots.now _ a.place.0 (number c.in-Ok.kind) a.state c.choose-does.result Replace k c.choose-does.ensures c.in-Replace.is
    refl (left_put a.count a.place.0 kind.Placeholder (omega arith) (omega arith) c.replace.ensures) refl refl (omega arith) (omega arith)

pub returns-then-not-is_dotted : goal.returns-then-not-is_dotted
unfolding turn_by
returns-then-not-is_dotted c =
    let a = c.args in
    let t = tokens_in a.slots.now a.count in
    let k = c.in-Ok.ensures ∙ c.kind_at.ensures ∙ sym (kind_tokens a.slots.now a.count a.place.0 (omega arith)) in
    turned a.count a.slots.now _ a.place.0 (number c.in-Ok.kind) a.state c.choose-does.result ReplaceUnlessDotted k c.choose-does.ensures c.in-ReplaceUnlessDotted.is
    (ap (λ b. cond b t (set t a.place.0 (bare kind.Placeholder))) (sym c.is_dotted.ensures ∙ c.if-not-is_dotted.true)) (left_put a.count a.place.0 kind.Placeholder (omega arith) (omega arith) c.replace-then-not-is_dotted.ensures) refl refl (omega arith) (omega arith)

pub returns-in-ReplaceToClose : goal.returns-in-ReplaceToClose
unfolding turn_by
returns-in-ReplaceToClose c =
    let a = c.args in
    let t = tokens_in a.slots.now a.count in
    let k = c.in-Ok.ensures ∙ c.kind_at.ensures ∙ sym (kind_tokens a.slots.now a.count a.place.0 (omega arith)) in
    let e = c.close_from-close.ensures.0 in
    turned a.count a.slots.now _ a.place.0 (number c.in-Ok.kind) a.state c.choose-does.result ReplaceToClose k c.choose-does.ensures c.in-ReplaceToClose.is
    (ap (one_for kind.Placeholder t a.place.0) (sym e)) (c.one_for.ensures a.count (omega arith) (omega arith)) e refl (omega arith) (omega arith)

pub returns-in-CollapseRows : goal.returns-in-CollapseRows
unfolding turn_by
returns-in-CollapseRows c =
    let a = c.args in
    let t = tokens_in a.slots.now a.count in
    let k = c.in-Ok.ensures ∙ c.kind_at.ensures ∙ sym (kind_tokens a.slots.now a.count a.place.0 (omega arith)) in
    let e = c.rows_from-end.ensures.0 in
    turned a.count a.slots.now _ a.place.0 (number c.in-Ok.kind) a.state c.choose-does.result CollapseRows k c.choose-does.ensures c.in-CollapseRows.is
    (ap (one_for kind.Ellipsis t a.place.0) (sym e)) (c.one_for-in-CollapseRows.ensures a.count (omega arith) (omega arith)) (ap (λ (x : ℕ). x + 1) e) refl (omega arith) (omega arith)

pub returns-in-RemoveComment : goal.returns-in-RemoveComment
unfolding turn_by
returns-in-RemoveComment c =
    let a = c.args in
    let t = tokens_in a.slots.now a.count in
    let k = c.in-Ok.ensures ∙ c.kind_at.ensures ∙ sym (kind_tokens a.slots.now a.count a.place.0 (omega arith)) in
    turned a.count a.slots.now _ a.place.0 (number c.in-Ok.kind) a.state c.choose-does.result RemoveComment k c.choose-does.ensures c.in-RemoveComment.is
    refl (c.remove_comment.ensures a.count (omega arith) (omega arith)) refl refl (omega arith) (omega arith)
