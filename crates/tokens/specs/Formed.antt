-- Which slots are well formed, and the first place in a list that passes a test. Assumes nothing.
use Rattle.std.specs.Prelude.{Bool, true, cond, not, ◌&&◌, ◌||◌, List, [], ◌∷◌, ℕ, suc, eqb, leb, ltb, Option, Some, None}
use Rattle.chars.specs.Utf8.{is_scalar}
use Rattle.tokens.specs.declared.place.Place.{Place}
use Rattle.tokens.specs.declared.slot.Slot.{Slot}
use Rattle.tokens.specs.Kinds as kind

-- Other, and Charset to NumberedPlaceholder, carry a start and an end offset
unfoldable pub carries_offsets : ℕ → Bool
carries_offsets k = eqb k kind.Other || (leb kind.Charset k && leb k kind.NumberedPlaceholder)

-- a kind that carries offsets may hold any two, an Unknown holds a scalar value and 0, every other kind 0 and 0
unfoldable pub well_formed : Slot → Bool
well_formed t =
    cond (carries_offsets t.kind) true
    (cond (eqb t.kind kind.Unknown) (is_scalar t.first && eqb t.second 0)
    (ltb t.kind kind.Unknown && (eqb t.first 0 && eqb t.second 0)))

-- not well formed
abbrev pub malformed : Slot → Bool
malformed t = not (well_formed t)

-- the place of the first token that passes the test; the list's length, where none does
unfoldable pub first_place : (Slot → Bool) → List Slot → ℕ
first_place p [] = 0
first_place p (t ∷ ts) = cond (p t) 0 (suc (first_place p ts))

-- a place below n, as the code answers it: none, where n has been reached
abbrev pub place_below : ℕ → ℕ → Option Place
place_below n p = cond (ltb p n) (Some (record { 0 = p })) None
