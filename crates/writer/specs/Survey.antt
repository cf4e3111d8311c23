-- What the functions of this crate promise each other: which tokens may not be written, one pass over a token list, and a page that grows. The
-- writer's own promise is Promise.antt. Assumes nothing.
use Rattle.std.specs.Prelude.{◌≡◌, Bool, Result, Ok, Err, ◌||◌, List, ℕ, ◌<◌, length}
use Rattle.writer.specs.declared.survey.Fault.{Fault}
use Rattle.tokens.specs.declared.slot.Slot.{Slot}
use Rattle.tokens.specs.Slots.{tokens_in}
use Rattle.tokens.specs.Formed.{malformed, first_place}
use Rattle.writer.specs.declared.copy.Page.{Page}
use Rattle.writer.specs.Written.{written, cuts}
use Rattle.writer.specs.Promise.{Put}

-- a token that may not be written: refusal 5 or 6
unfoldable pub faulty : List ℕ → Slot → Bool
faulty text t = malformed t || cuts text t

-- one pass over n tokens: the length of their text, where each may be written; or the first that may not, and the length
-- of the text before it
abbrev pub Surveyed : List ℕ → List ℕ → ℕ → Result ℕ Fault → Type 0
Surveyed text ws n (Ok total) =
    (first_place (faulty text) (tokens_in ws n) ≡ n) × (total ≡ length (written text (tokens_in ws n)))
Surveyed text ws n (Err f) =
    (f.place.0 < n) × (f.place.0 ≡ first_place (faulty text) (tokens_in ws n)) × (f.total ≡ length (written text (tokens_in ws f.place.0)))

-- a page that has grown by a text: it stands behind what was written, in the same buffer
pub record Grown (before : Page) (s : List ℕ) (after : Page) : Type 0 where
  pub put : Put before.out.now before.at s after.at after.out.now
  pub long : length after.out.now ≡ length before.out.now
  pub same : after.out.ghost_name ≡ before.out.ghost_name
