-- and_l, and_r   the two halves of a test that passed
-- Assumes nothing.
use mathlib.Core.Bool.{Bool, true, false, ◌&&◌}
use lib.Dec.{T}

pub and_l : (a b : Bool) → T (a && b) → T a
and_l true b h = tt
and_l false b h = h

pub and_r : (a b : Bool) → T (a && b) → T b
and_r true b h = h
and_r false b h = absurd h
