-- What a line may ask for. Assumes nothing.
use Rattle.std.specs.Prelude.{ℕ, ◌+◌, ◌*◌, ◌≤◌}
use Rattle.replay.specs.declared.head.Head.{Head}

-- no more than the buffers have, and the words given are in the line, which has so many bytes
pub record Asks (h : Head) (bytes : ℕ) : Type 0 where
  pub words_lent : h.words ≤ 1024
  pub bytes_lent : h.room ≤ 1024
  pub text_size : h.size ≤ 1048577
  pub words_given : 22 + h.given * 4 ≤ bytes
