-- The 84 numbers: document 01's table of kinds, computed.
-- rows_numbered   the kinds of each row are the numbers from its first to its last
-- kinds-numbered  the rows one after the other are 0 to 83: none is left out, and none stands twice
-- carrying        which of them carry offsets: 66, and 76 to 82
-- Assumes nothing.
use mathlib.Core.Path.{◌≡◌, refl}
use mathlib.Core.Bool.{Bool, cond}
use mathlib.Core.List.{List, [], ◌∷◌, ◌++◌, map}
use Prim.Native.Nat.{ℕ, suc, ◌-◌}
use Rattle.tokens.specs.Tabled.{tabled}
use Rattle.tokens.specs.Formed.{carries_offsets}
use Rattle.demands.specs.Numbers.{Row, kind_table}

-- the numbers from one up to another
abbrev up_to : ℕ → ℕ → List ℕ
up_to first last = tabled (λ k. k) first (suc last - first)

pub rows_numbered : map (λ (r : Row). r.kinds) kind_table ≡ map (λ (r : Row). up_to r.first r.last) kind_table
rows_numbered = refl

-- all rows, one after the other
abbrev together : List Row → List ℕ
together [] = []
together (r ∷ rs) = r.kinds ++ together rs

pub kinds-numbered : together kind_table ≡ up_to 0 83
kinds-numbered = refl

-- the numbers of a list that pass a test
abbrev those : (ℕ → Bool) → List ℕ → List ℕ
those p [] = []
those p (k ∷ ks) = cond (p k) (k ∷ those p ks) (those p ks)

pub carrying : those carries_offsets (up_to 0 83) ≡ 66 ∷ up_to 76 82
unfolding carries_offsets
carrying = refl
