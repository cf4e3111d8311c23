-- What the pieces of a turn leave of a buffer: the relations that their contracts cite. Assumes nothing.
use Rattle.std.specs.Prelude.{◌≡◌, List, ℕ, ◌+◌, ◌-◌, ◌≤◌, ◌<◌}
use Rattle.tokens.specs.Slots.{room, tokens_in, Left}
use Rattle.sanitizer.specs.declared.arms.State.{State}
use Rattle.sanitizer.specs.Run.{blank, one_for, uncommented, Step}

-- What blanking the places from p up to e leaves of any n slots that hold them.
abbrev pub Blanked : List ℕ → List ℕ → ℕ → ℕ → Type 0
Blanked before after p e = (n : ℕ) → e ≤ n → n ≤ room before → Left n before after (blank p (e - p) (tokens_in before n))

-- What putting one token of kind k for the places from p up to e leaves.
abbrev pub Covered : ℕ → List ℕ → List ℕ → ℕ → ℕ → Type 0
Covered k before after p e = (n : ℕ) → e ≤ n → n ≤ room before → Left n before after (one_for k (tokens_in before n) p e)

-- What removing the comment at place p leaves.
abbrev pub Uncommented : List ℕ → List ℕ → ℕ → Type 0
Uncommented before after p =
    (n : ℕ) → p < n → n ≤ room before → Left n before after (uncommented (tokens_in before n) p)

-- What the code of a turn at place p leaves of n slots: what the step says, in the buffer and in its answer, and the next place is a
-- later one, at most one past the end.
pub record Turned (n : ℕ) (before after : List ℕ) (p : ℕ) (t : Step) (next : ℕ) (state : State) : Type 0 where
  pub left : Left n before after t.left
  pub next_is : next ≡ t.next
  pub state_is : state ≡ t.state
  pub later : p < next
  pub near : next ≤ n + 1
