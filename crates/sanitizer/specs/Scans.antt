-- The two scans of the sanitiser, over the kinds of a list: to the close of a scope, and to the end of the rows of a collapse.
-- Assumes nothing.
use Rattle.std.specs.Prelude.{Bool, true, false, ◌||◌, cond, List, [], ◌∷◌, ℕ, zero, suc, eqb, get_or, drop}
use Rattle.tokens.specs.Kinds as kind
use Rattle.tokens.specs.Slots.{bare, kinds}
use Rattle.tokens.specs.declared.slot.Slot.{Slot}

-- the kind at a place; None past the end
abbrev pub kind_at : List Slot → ℕ → ℕ
kind_at ts p = (get_or ts p (bare kind.None)).kind

-- the kind just before a place; None before place 0
abbrev pub kind_before : List Slot → ℕ → ℕ
kind_before ts zero = kind.None
kind_before ts (suc p) = kind_at ts p

-- a close of either sort
abbrev pub is_close : ℕ → Bool
is_close k = eqb k kind.ParentheseClose || eqb k kind.SquareBracketClose

-- what may stand between rows
abbrev pub is_gap : ℕ → Bool
is_gap k = eqb k kind.Comma || eqb k kind.Space

-- the place of the first close among kinds that begin at place p, or of their end
unfoldable pub close_from : ℕ → List ℕ → ℕ
close_from p [] = p
close_from p (k ∷ ks) = cond (is_close k) p (close_from (suc p) ks)

-- the place of the first close from place p on, or the list's end
abbrev pub close_at : List Slot → ℕ → ℕ
close_at ts p = close_from p (drop p (kinds ts))

-- The place after the rows to blank, among kinds that begin at place p; e is that place so far. A round bracket, and all that is inside,
-- is blanked with the commas and spaces passed since e; the first close ends the inside.
unfoldable pub rows_from : Bool → ℕ → ℕ → List ℕ → ℕ
rows_from inside e p [] = e
rows_from inside e p (k ∷ ks) =
    cond (eqb k kind.ParentheseClose) (rows_from false (suc p) (suc p) ks)
    (cond (eqb k kind.ParentheseOpen) (rows_from true (suc p) (suc p) ks)
    (cond inside (rows_from true (suc p) (suc p) ks)
    (cond (is_gap k) (rows_from false e (suc p) ks) e)))

-- the same, of a list from place p on
abbrev pub rows_at : Bool → ℕ → List Slot → ℕ → ℕ
rows_at inside e ts p = rows_from inside e p (drop p (kinds ts))
