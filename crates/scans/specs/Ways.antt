-- What a reading takes from outside: which characters are alphabetic and which numeric. Assumes nothing.
use Rattle.std.specs.Prelude.{ℕ, Bool}
use Rattle.chars.specs.Class.{alphabetic, numeric}

-- the ways to read
pub record Ways : Type 0 where
  pub alphabetic : ℕ → Bool
  pub numeric : ℕ → Bool

-- the ways of the pinned Rust
abbrev pub pinned : Ways
pinned = record { alphabetic = alphabetic; numeric = numeric }
