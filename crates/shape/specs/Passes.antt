-- What passes through the program: chunks that reads gave, and what writes took. Which bytes these were no contract can say; how many there
-- were the two functions answer, and all else is said here. Assumes nothing.
use Rattle.std.specs.Prelude.{◌≡◌, ℕ, ◌+◌, ◌%◌, ◌^◌, ◌≤◌, Bool, true, false, cond, ◌||◌, ◌⊎◌, List, [], ◌++◌, length, take, Option, Some, None, ◌==◌, nat_lt}
use Rattle.frames.specs.Frames.{longest}
use Rattle.shape.specs.Due.{output}
use Rattle.shape.specs.Fits.{page_room, has_ended, whole}
use Rattle.shape.specs.Moved.{Moved, clamp_len}
use Rattle.shape.specs.declared.Held.{Held}
use Rattle.shape.specs.declared.Stand.{Stand}
use Rattle.shape.specs.declared.input.Input.{Input}
use Rattle.shape.specs.declared.input.Input.TheVariants.{Open, Ended, Failed}

-- a counter of 64 bits went from n to m while w was written
abbrev pub Counted : ℕ → List ℕ → ℕ → Type 0
Counted n w m = m % 2 ^ 64 ≡ (n + length w) % 2 ^ 64

-- the page is written, and the writes took n of its bytes; fewer than all, and what is left is lost
abbrev pub wrote : Held → ℕ → Held
wrote h n =
    record { line = h.line; page = []; work = h.work; stand = record { sent = (h.stand.sent + n) % 2 ^ 64; lost = h.stand.lost || nat_lt n (length h.page); input = h.stand.input } }

-- the page is written, as far as the writes took it; not at all where one has failed before
pub record Flushes (h r : Held) : Type 0 where
  pub took : ℕ
  pub within : took ≤ length h.page
  pub silent : (h.stand.lost ≡ true → took ≡ 0)
  pub left : r ≡ wrote h took

-- there is room for the longest frame: there was, or the page is written
pub record MakesRoom (h r : Held) : Type 0 where
  pub room : length r.page + longest ≤ page_room
  pub how : (r ≡ h) ⊎ Flushes h r

-- a chunk is taken, and meanwhile `written` was written: it and what is left is what was due before of the chunk and of what comes after it.
-- What is left is what is due then, unless a write failed; after that nothing is written, so that what was is a beginning with no gap.
pub record Passes (chunk : List ℕ) (h r : Held) : Type 0 where
  pub written : List ℕ
  pub rest : Bool → List ℕ → List ℕ
  pub sent : Counted h.stand.sent written r.stand.sent
  pub same : (ended : Bool) (cs : List ℕ) → written ++ rest ended cs ≡ whole ended h (chunk ++ cs)
  pub left : (r.stand.lost ≡ false → (ended : Bool) (cs : List ℕ) → rest ended cs ≡ whole ended r cs)
  pub silent : (h.stand.lost ≡ true → (r.stand.lost ≡ true) × (written ≡ []))

-- what a read's answer says of the input: it has ended where the read gave no byte
abbrev pub told : Option ℕ → Input
told None = Failed
told (Some k) = cond (k == 0) Ended Open

-- a read answered `got`: so many bytes of the buffer are taken, and none but these two answers, none and no byte, stops the reading
pub record Took (got : Option ℕ) (buf : List ℕ) (h r : Held) : Type 0 where
  pub passes : Passes (take (clamp_len got (length buf)) buf) h r
  pub input : r.stand.input ≡ told got

-- there are an answer and bytes, such as a read may give, that were taken
pub record Reads (h r : Held) : Type 0 where
  pub got : Option ℕ
  pub buf : List ℕ
  pub moved : Moved (length buf) got
  pub took : Took got buf h r

-- all that is due is written, or a beginning of it with no gap
pub record Closes (owed : List ℕ) (h r : Stand) : Type 0 where
  pub written : List ℕ
  pub rest : List ℕ
  pub sent : Counted h.sent written r.sent
  pub same : written ++ rest ≡ owed
  pub all : (r.lost ≡ false → rest ≡ [])
  pub silent : (h.lost ≡ true → (r.lost ≡ true) × (written ≡ []))

-- before the first read
abbrev pub at_start : Stand
at_start = record { sent = 0; lost = false; input = Open }

-- there is an input such that what is printed of it is written, or a beginning of it
pub record Runs (r : Stand) : Type 0 where
  pub input : List ℕ
  pub closes : Closes (output (has_ended r.input) input) at_start r
