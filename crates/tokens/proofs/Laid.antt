-- Tokens laid over the front of a buffer are read off it again.
-- slots_on       the slots after the first, read off the words after its own
-- tokens-laid    as many slots as tokens were laid hold those tokens
-- laid_left      what laying tokens leaves of a buffer
-- Assumes nothing.
use mathlib.Core.Path.{◌≡◌, refl, ap, ◌∙◌}
use mathlib.Core.List.{List, [], ◌∷◌, ◌++◌}
use Prim.Native.Nat.{ℕ, zero, suc, ◌+◌, ◌*◌, ◌≤◌}
use native.Mathlib.Omega.{arith}
use lib.ListN.{length, get_or, drop}
use Rattle.tokens.specs.declared.slot.Slot.{Slot}
use lib.Seq.{drop_at}
use Rattle.tokens.specs.Slots.{words_per_slot, room, slot_at, tokens_from, tokens_in, words, laid, Left}
use Rattle.tokens.proofs.Storing.{slot_ext, length-words, length-laid}

module _ (a b c : ℕ) (ws : List ℕ) where
  -- a word of a later slot
  word_on : (j k : ℕ) → j ≡ suc (suc (suc k)) → get_or (a ∷ b ∷ c ∷ ws) j 0 ≡ get_or ws k 0
  word_on j k e = ap (λ (m : ℕ). get_or (a ∷ b ∷ c ∷ ws) m 0) e

  slot_on : (i : ℕ) → slot_at (a ∷ b ∷ c ∷ ws) (suc i) ≡ slot_at ws i
  slot_on i =
      slot_ext _ _ (word_on (suc i * words_per_slot) (i * words_per_slot) (omega arith)) (word_on (suc i * words_per_slot + 1) (i * words_per_slot + 1) (omega arith))
      (word_on (suc i * words_per_slot + 2) (i * words_per_slot + 2) (omega arith))

  slots_on : (i n : ℕ) → tokens_from (a ∷ b ∷ c ∷ ws) (suc i) n ≡ tokens_from ws i n
  unfolding tokens_from
  slots_on i zero = refl
  slots_on i (suc n) = ap (λ (t : Slot). t ∷ tokens_from (a ∷ b ∷ c ∷ ws) (suc (suc i)) n) (slot_on i) ∙ ap (λ (us : List Slot). slot_at ws i ∷ us) (slots_on (suc i) n)

pub tokens-words : (ts : List Slot) (rest : List ℕ) → tokens_in (words ts ++ rest) (length ts) ≡ ts
unfolding tokens_from words
tokens-words [] rest = refl
tokens-words (t ∷ ts) rest = ap (λ (us : List Slot). t ∷ us) (slots_on t.kind t.first t.second (words ts ++ rest) 0 (length ts) ∙ tokens-words ts rest)

pub tokens-laid : (ts : List Slot) (ws : List ℕ) → tokens_in (laid ts ws) (length ts) ≡ ts
unfolding laid
tokens-laid ts ws = tokens-words ts (drop (length ts * words_per_slot) ws)

pub laid_left : (ts : List Slot) (ws : List ℕ) → length ts ≤ room ws → Left (length ts) ws (laid ts ws) ts
unfolding laid
laid_left ts ws h = record {
  tokens = tokens-laid ts ws;
  rest = drop_at (words ts) (drop (length ts * words_per_slot) ws) (length ts * words_per_slot) (length-words ts);
  long = length-laid ts ws h;
}
