-- The scans begin one place after the token that begins them; the Rust begins them at that token. The answers are the same.
-- value_no_close      a value that begins blanking is no close
-- open_only           only a round open begins a collapse
-- close_start         arm 28: the scan to the close, from the value's own place
-- rows_start          arm 23: the scan of the rows, from the open's own place
-- Assumes nothing.
use mathlib.Core.Path.{◌≡◌, refl}
use mathlib.Core.Bool.{Bool, true, false, ◌&&◌, false≢true}
use borrow.Author.Tests.{ne_eqb, eqb-true}
use mathlib.Core.List.{List}
use Prim.Native.Nat.{ℕ, ◌+◌, ◌≤◌, ◌<◌}
use native.Mathlib.Omega.{arith}
use lib.ListN.{length}
use Rattle.tokens.specs.Kinds as kind
use Rattle.tokens.specs.Kinds.{is_operator, is_keyword, is_indicator}
use Rattle.tokens.specs.declared.slot.Slot.{Slot}
use Rattle.sanitizer.specs.declared.arms.State.{State}
use Rattle.sanitizer.specs.declared.arms.Does.TheVariants.{Stay, ReplaceToClose, CollapseRows}
use Rattle.sanitizer.specs.Arms.{any_kind, any_state, rule, arm_of, does_of, rules}
use Rattle.sanitizer.specs.Scans.{kind_at, close_at, rows_at}
use Rattle.sanitizer.specs.Run.{Known}
use Rattle.sanitizer.proofs.Deciding.{takes}
use Rattle.sanitizer.proofs.Scanning.{close_on, rows_open}

-- the arms with a scan
pub arm_to_close : does_of 28 ≡ ReplaceToClose
unfolding does_of rules
arm_to_close = refl

pub arm_rows : does_of 23 ≡ CollapseRows
unfolding does_of rules
arm_rows = refl

pub value_no_close : (s : State) (k : ℕ) → kind.ParentheseClose ≤ k → k ≤ kind.SquareBracketClose → arm_of s k ≡ 28 → ⊥
unfolding arm_of rules
value_no_close s k l h e =
    false≢true
    (rw (ne_eqb k kind.DoubleQuoted (omega arith), ne_eqb k kind.NumberedPlaceholder (omega arith), ne_eqb k kind.SingleQuoted (omega arith), ne_eqb k kind.Numeric (omega arith), ne_eqb k kind.Null (omega arith), ne_eqb k kind.True (omega arith), ne_eqb k kind.False (omega arith)) at (takes rules 1 27 (rule any_kind any_state Stay) s k (omega arith) e))

pub open_only : (s : State) (k : ℕ) → arm_of s k ≡ 23 → k ≡ kind.ParentheseOpen
unfolding arm_of rules
open_only s k e = eqb-true k kind.ParentheseOpen (and_l' _ _ (takes rules 1 22 (rule any_kind any_state Stay) s k (omega arith) e))
  where
    and_l' : (a b : Bool) → (a && b) ≡ true → a ≡ true
    and_l' true b q = refl
    and_l' false b q = q

module _ (ts : List Slot) (p : ℕ) (s : State) (h : p < length ts) where
  pub close_start : arm_of s (kind_at ts p) ≡ 28 → close_at ts p ≡ close_at ts (p + 1)
  close_start e =
      close_on ts p h (λ k. value_no_close s (kind_at ts p) (omega arith) (omega arith) e)
      (λ k. value_no_close s (kind_at ts p) (omega arith) (omega arith) e)

  pub rows_start : Known ts → arm_of s (kind_at ts p) ≡ 23 → rows_at true p ts p ≡ rows_at true (p + 1) ts (p + 1)
  rows_start known e = rows_open ts p true p h (open_only s (kind_at ts p) e)
