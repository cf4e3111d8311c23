-- Bytes as they come. Assumes nothing.
use Rattle.std.specs.Prelude.{◌≡◌, ℕ, ◌<◌, ◌≤◌, List, [], ◌∷◌, ◌++◌, length}

-- the byte c is kept behind the others, or there is no room and all is as it was
pub record Keeps (room : ℕ) (held : List ℕ) (c : ℕ) (held' : List ℕ) : Type 0 where
  pub kept : (length held < room → held' ≡ held ++ (c ∷ []))
  pub full : (room ≤ length held → held' ≡ held)
