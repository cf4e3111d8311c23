-- What a read may answer, and how many bytes of its buffer that is. Assumes nothing.
use Rattle.std.specs.Prelude.{ℕ, ◌≤◌, min, Option, Some, None}

-- what a call that is handed n bytes may answer: that it failed, or how many bytes it moved, at most n
abbrev pub Moved : ℕ → Option ℕ → Type 0
Moved n (Some k) = k ≤ n
Moved n None = Unit {0}

-- what a read answered, brought into `0..=most`
abbrev pub clamp_len : Option ℕ → ℕ → ℕ
clamp_len (Some k) most = min k most
clamp_len None most = 0
