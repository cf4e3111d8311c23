-- The sanitiser: the table's turns over a list of tokens. Assumes nothing.
use Rattle.std.specs.Prelude.{Bool, true, ◌||◌, cond, List, ℕ, zero, suc, ◌+◌, ◌-◌, ◌≤◌, ltb, eqb, length, set}
use Rattle.tokens.specs.Kinds as kind
use Rattle.tokens.specs.Slots.{bare}
use Rattle.tokens.specs.declared.slot.Slot.{Slot}
use Rattle.sanitizer.specs.declared.arms.State.{State}
use Rattle.sanitizer.specs.declared.arms.State.TheVariants.{Default}
use Rattle.sanitizer.specs.declared.arms.Does.{Does}
use Rattle.sanitizer.specs.declared.arms.Does.TheVariants.{Stay, Go, Replace, ReplaceUnlessDotted, ReplaceToClose, CollapseRows, RemoveComment}
use Rattle.sanitizer.specs.Arms.{arm_of, does_of}
use Rattle.sanitizer.specs.Scans.{kind_at, kind_before, close_at, rows_at, close_from, rows_from}

-- n places from p on made None
unfoldable pub blank : ℕ → ℕ → List Slot → List Slot
blank p zero ts = ts
blank p (suc n) ts = blank (suc p) n (set ts p (bare kind.None))

-- kind k put at place p, and all after it up to, not including, place e made None
abbrev pub one_for : ℕ → List Slot → ℕ → ℕ → List Slot
one_for k ts p e = blank (p + 1) (e - (p + 1)) (set ts p (bare k))

-- a Dot directly before or after place p
abbrev pub dotted : List Slot → ℕ → Bool
dotted ts p = eqb (kind_before ts p) kind.Dot || eqb (kind_at ts (p + 1)) kind.Dot

-- the comment at place p made None, with a Space directly before it
abbrev pub uncommented : List Slot → ℕ → List Slot
uncommented ts p =
    let removed = set ts p (bare kind.None) in
    cond (eqb (kind_before ts p) kind.Space) (set removed (p - 1) (bare kind.None)) removed

-- what a turn leaves: the tokens, the place to read next, and the state there
pub record Step : Type 0 where
  pub left : List Slot
  pub next : ℕ
  pub state : State

-- a step, by its parts
abbrev pub step : List Slot → ℕ → State → Step
step ts p s = record { left = ts; next = p; state = s }

-- one turn at place p in state s, by what the arm does; a scan begins one place on (from place p itself, where the Rust begins it, it
-- finds the same: proofs/Starts.antt)
unfoldable pub turn_by : Does → List Slot → ℕ → State → Step
unfolding close_from rows_from blank
turn_by Stay ts p s = step ts (p + 1) s
turn_by (Go s') ts p s = step ts (p + 1) s'
turn_by Replace ts p s = step (set ts p (bare kind.Placeholder)) (p + 1) s
turn_by ReplaceUnlessDotted ts p s = step (cond (dotted ts p) ts (set ts p (bare kind.Placeholder))) (p + 1) s
turn_by ReplaceToClose ts p s = let e = close_at ts (p + 1) in step (one_for kind.Placeholder ts p e) e s
turn_by CollapseRows ts p s = let e = rows_at true (p + 1) ts (p + 1) in step (one_for kind.Ellipsis ts p e) (e + 1) s
turn_by RemoveComment ts p s = step (uncommented ts p) (p + 1) s

-- one turn at place p in state s: the arm that takes the kind there decides
unfoldable pub turn : List Slot → ℕ → State → Step
turn ts p s = turn_by (does_of (arm_of s (kind_at ts p))) ts p s

-- turns from place p in state s until the list's end, as many as the first number at most
unfoldable pub run : ℕ → List Slot → ℕ → State → List Slot
run zero ts p s = ts
run (suc most) ts p s =
    cond (ltb p (length ts)) (run most (turn ts p s).left (turn ts p s).next (turn ts p s).state) ts

-- the sanitised list: each turn goes on by a place or more, so as many turns as tokens are enough
unfoldable pub sanitized : List Slot → List Slot
sanitized ts = run (length ts) ts 0 Default

-- every kind is one of the 84
abbrev pub Known : List Slot → Type 0
Known ts = (i : ℕ) → kind_at ts i ≤ kind.Unknown
