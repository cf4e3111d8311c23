-- Token slots: three words a token, from the front of a buffer. Assumes nothing.
use Rattle.std.specs.Prelude.{◌≡◌, List, [], ◌∷◌, ◌++◌, map, ℕ, zero, suc, ◌+◌, ◌*◌, ◌/◌, length, get_or, drop, set}
use Rattle.tokens.specs.declared.slot.Slot.{Slot}

-- how many words a slot is
abbrev pub words_per_slot : ℕ
words_per_slot = 3

-- a token that carries nothing
abbrev pub bare : ℕ → Slot
bare k = record { kind = k; first = 0; second = 0 }

-- how many whole slots a buffer has
abbrev pub room : List ℕ → ℕ
room ws = length ws / words_per_slot

-- the token in slot i
abbrev pub slot_at : List ℕ → ℕ → Slot
slot_at ws i =
    let at = i * words_per_slot in record { kind = get_or ws at 0; first = get_or ws (at + 1) 0; second = get_or ws (at + 2) 0 }

-- the words with a token stored in slot i
unfoldable pub stored : List ℕ → ℕ → Slot → List ℕ
stored ws i t =
    let at = i * words_per_slot in set (set (set ws at t.kind) (at + 1) t.first) (at + 2) t.second

-- n tokens, from slot i on
unfoldable pub tokens_from : List ℕ → ℕ → ℕ → List Slot
tokens_from ws i zero = []
tokens_from ws i (suc n) = slot_at ws i ∷ tokens_from ws (suc i) n

-- the tokens in the first n slots
abbrev pub tokens_in : List ℕ → ℕ → List Slot
tokens_in ws n = tokens_from ws 0 n

-- the words of a list of tokens
unfoldable pub words : List Slot → List ℕ
words [] = []
words (t ∷ ts) = t.kind ∷ t.first ∷ t.second ∷ words ts

-- tokens laid over the front of a buffer: all past them is as it was
unfoldable pub laid : List Slot → List ℕ → List ℕ
laid ts ws = words ts ++ drop (length ts * words_per_slot) ws

-- the kinds of a list of tokens
abbrev pub kinds : List Slot → List ℕ
kinds ts = map (λ (t : Slot). t.kind) ts

-- after work on the first n slots of a buffer: they hold the tokens ts, and all past them is as it was
pub record Left (n : ℕ) (before after : List ℕ) (ts : List Slot) : Type 0 where
  pub tokens : tokens_in after n ≡ ts
  pub rest : drop (n * words_per_slot) after ≡ drop (n * words_per_slot) before
  pub long : length after ≡ length before
