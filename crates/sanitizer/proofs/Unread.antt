-- A turn changes nothing from its next place on, and goes on.
-- next_later   the next place is a later one
-- unread       the tokens from the next place on are as they were
-- Assumes nothing.
use mathlib.Core.Path.{◌≡◌, refl, ◌∙◌}
use mathlib.Core.Bool.{Bool, true, false, cond}
use mathlib.Core.List.{List}
use Prim.Native.Nat.{ℕ, zero, suc, ◌+◌, ◌≤◌, ◌<◌, ◌-◌}
use native.Mathlib.Omega.{arith}
use lib.ListN.{set, drop}
use lib.Seq.{drop-set-lt}
use lib.Dec.{eqb}
use Rattle.tokens.specs.Kinds as kind
use Rattle.tokens.specs.Slots.{bare, kinds}
use Rattle.tokens.specs.declared.slot.Slot.{Slot}
use Rattle.sanitizer.specs.declared.arms.State.{State}
use Rattle.sanitizer.specs.declared.arms.Does.{Does}
use Rattle.sanitizer.specs.declared.arms.Does.TheVariants.{Stay, Go, Replace, ReplaceUnlessDotted, ReplaceToClose, CollapseRows, RemoveComment}
use Rattle.sanitizer.specs.Arms.{arm_of, does_of}
use Rattle.sanitizer.specs.Scans.{kind_at, kind_before, close_at, rows_at}
use Rattle.sanitizer.specs.Run.{dotted, one_for, turn, turn_by, blank}
use Rattle.sanitizer.proofs.Scanning.{close_ge, rows_ge}

pub next_later : (ts : List Slot) (p : ℕ) (s : State) → p < (turn ts p s).next
unfolding turn turn_by
next_later ts p s = go (does_of (arm_of s (kind_at ts p)))
  where
    go : (d : Does) → p < (turn_by d ts p s).next
    go Stay = omega arith
    go (Go s') = omega arith
    go Replace = omega arith
    go ReplaceUnlessDotted = omega arith
    go ReplaceToClose = omega (arith, close_ge (drop (p + 1) (kinds ts)) (p + 1))
    go CollapseRows = omega (arith, rows_ge (drop (p + 1) (kinds ts)) true (p + 1) (p + 1) (omega arith))
    go RemoveComment = omega arith

drop-blank : (n p q : ℕ) (ts : List Slot) → p + n ≤ q → drop q (blank p n ts) ≡ drop q ts
unfolding blank
drop-blank zero p q ts h = refl
drop-blank (suc n) p q ts h =
    drop-blank n (suc p) q (set ts p (bare kind.None)) (omega arith) ∙ drop-set-lt q ts p (bare kind.None) (omega arith)

drop-cond : (b : Bool) (q : ℕ) (x y ts : List Slot) → drop q x ≡ drop q ts → drop q y ≡ drop q ts → drop q (cond b x y) ≡ drop q ts
drop-cond true q x y ts h g = h
drop-cond false q x y ts h g = g

drop_one : (k p e q : ℕ) (ts : List Slot) → p + 1 ≤ e → e ≤ q → drop q (one_for k ts p e) ≡ drop q ts
drop_one k p e q ts h g =
    drop-blank (e - (p + 1)) (p + 1) q (set ts p (bare k)) (omega arith) ∙ drop-set-lt q ts p (bare k) (omega arith)

unread_by : (d : Does) (ts : List Slot) (p : ℕ) (s : State) → drop (turn_by d ts p s).next (turn_by d ts p s).left ≡ drop (turn_by d ts p s).next ts
unfolding turn_by
unread_by Stay ts p s = refl
unread_by (Go s') ts p s = refl
unread_by Replace ts p s = drop-set-lt (p + 1) ts p (bare kind.Placeholder) (omega arith)
unread_by ReplaceUnlessDotted ts p s =
    drop-cond (dotted ts p) (p + 1) ts (set ts p (bare kind.Placeholder)) ts refl (drop-set-lt (p + 1) ts p (bare kind.Placeholder) (omega arith))
unread_by ReplaceToClose ts p s =
    let e = close_at ts (p + 1) in drop_one kind.Placeholder p e e ts (close_ge (drop (p + 1) (kinds ts)) (p + 1)) (omega arith)
unread_by CollapseRows ts p s =
    let e = rows_at true (p + 1) ts (p + 1) in
    drop_one kind.Ellipsis p e (e + 1) ts (rows_ge (drop (p + 1) (kinds ts)) true (p + 1) (p + 1) (omega arith)) (omega arith)
unread_by RemoveComment ts p s =
    let removed = set ts p (bare kind.None) in
    let one : drop (p + 1) removed ≡ drop (p + 1) ts = drop-set-lt (p + 1) ts p (bare kind.None) (omega arith) in
    drop-cond (eqb (kind_before ts p) kind.Space) (p + 1) (set removed (p - 1) (bare kind.None)) removed ts
    (drop-set-lt (p + 1) removed (p - 1) (bare kind.None) (omega arith) ∙ one) one

pub unread : (ts : List Slot) (p : ℕ) (s : State) → drop (turn ts p s).next (turn ts p s).left ≡ drop (turn ts p s).next ts
unfolding turn
unread ts p s = unread_by (does_of (arm_of s (kind_at ts p))) ts p s
