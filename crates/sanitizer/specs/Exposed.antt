-- The exposed count: the values left in a sanitised list. Assumes nothing.
use Rattle.std.specs.Prelude.{Bool, ◌||◌, cond, List, [], ◌∷◌, ℕ, suc, eqb}
use Rattle.tokens.specs.Kinds as kind
use Rattle.tokens.specs.declared.slot.Slot.{Slot}

-- SingleQuoted or Numeric
abbrev pub is_exposed : ℕ → Bool
is_exposed k = eqb k kind.SingleQuoted || eqb k kind.Numeric

-- how many tokens are of such a kind
unfoldable pub exposed : List Slot → ℕ
exposed [] = 0
exposed (t ∷ ts) = cond (is_exposed t.kind) (suc (exposed ts)) (exposed ts)
