-- A function of numbers as a table, which code that has the table looks up. Assumes nothing.
use Rattle.std.specs.Prelude.{ℕ, zero, suc, List, [], ◌∷◌}

-- f of n numbers from k on
abbrev pub tabled : (ℕ → ℕ) → ℕ → ℕ → List ℕ
tabled f k zero = []
tabled f k (suc n) = f k ∷ tabled f (suc k) n
