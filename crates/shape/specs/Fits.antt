-- What the program holds between two characters. Assumes nothing.
use Rattle.std.specs.Prelude.{◌≡◌, ℕ, Bool, true, false, List, [], ◌∷◌, ◌++◌}
use Rattle.shape.specs.Due.{due}
use Rattle.shape.specs.declared.Held.{Held}
use Rattle.shape.specs.declared.input.Input.{Input}
use Rattle.shape.specs.declared.input.Input.TheVariants.{Open, Ended, Failed}

-- the room of a page
abbrev pub page_room : ℕ
page_room = 65536

-- the input has ended
abbrev pub has_ended : Input → Bool
has_ended Open = false
has_ended Ended = true
has_ended Failed = false

-- nothing was read or written
abbrev pub Still : Held → Held → Type 0
Still h r = r.stand ≡ h.stand

-- what is collected in the page, and what is due after it, where the characters cs are still to come
abbrev pub whole : Bool → Held → List ℕ → List ℕ
whole ended h cs = h.page ++ due ended h.line cs

-- one character c is taken: whatever comes after it, and however that stops, all that is printed in the end is the same
pub record Takes (c : ℕ) (h r : Held) : Type 0 where
  pub still : Still h r
  pub same : (ended : Bool) (cs : List ℕ) → whole ended r cs ≡ whole ended h (c ∷ cs)

-- no more is read: the page holds all that is left to be printed
pub record Ends (h r : Held) : Type 0 where
  pub still : Still h r
  pub all : r.page ≡ whole (has_ended h.stand.input) h []
