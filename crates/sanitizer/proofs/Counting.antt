-- The exposed count one token at a time, and the answers of `sanitize`.
-- exposed_end, _on             the count of the tokens from a place on
-- accept                       the promise of a list that is accepted
-- Assumes nothing.
use mathlib.Core.Path.{◌≡◌, ap, ◌∙◌}
use mathlib.Core.Bool.{Bool, true, false, cond}
use mathlib.Core.List.{List, [], ◌∷◌}
use Prim.Native.Nat.{ℕ, suc, ◌+◌, ◌≤◌, ◌<◌}
use native.Mathlib.Omega.{arith}
use native.Mathlib.Numerals.{add-one}
use lib.ListN.{length, drop, drop_of_length-le}
use lib.Seq.{drop-cons}
use Rattle.tokens.specs.Kinds as kind
use Rattle.tokens.specs.Slots.{bare, room, tokens_in, laid}
use Rattle.tokens.specs.Answers.{Answer, done}
use Rattle.tokens.specs.Checks.{◌then◌, fine, check_count, check_form, afterwards}
use Rattle.tokens.specs.declared.slot.Slot.{Slot}
use Rattle.tokens.proofs.Storing.{left_laid}
use Rattle.std.specs.Prelude.{Ok}
use Rattle.sanitizer.specs.Scans.{kind_at}
use Rattle.sanitizer.specs.Run.{sanitized}
use Rattle.sanitizer.specs.Exposed.{exposed, is_exposed}
use Rattle.sanitizer.specs.Promise.{sanitize_answer, sanitize_buffer, Sanitizes, SanitizesTokens}

-- ---- the count
module _ (ts : List Slot) (i : ℕ) where
  pub exposed_end : length ts ≤ i → exposed (drop i ts) ≡ 0
  unfolding exposed
  exposed_end h = rw (drop_of_length-le ts {i = i} h)

  pub exposed_on : i < length ts → exposed (drop i ts) ≡ cond (is_exposed (kind_at ts i)) 1 0 + exposed (drop (i + 1) ts)
  unfolding exposed
  exposed_on h = rw (drop-cons ts i (bare kind.None) h, add-one i) (go (is_exposed (kind_at ts i)))
    where
      go : (b : Bool) → cond b (suc (exposed (drop (suc i) ts))) (exposed (drop (suc i) ts)) ≡ cond b 1 0 + exposed (drop (suc i) ts)
      go true = omega arith
      go false = omega arith

-- ---- the answers
module _ (ws : List ℕ) (n : ℕ) where
  abbrev after : Answer → List ℕ
  after a = afterwards a (laid (sanitized (tokens_in ws n)) ws) ws

  answer_done : fine ≡ (check_count ws n then check_form (tokens_in ws n)) → done (exposed (sanitized (tokens_in ws n)) ∷ []) ≡ sanitize_answer ws n
  unfolding sanitize_answer
  answer_done e = ap (λ (a : Answer). a then done (exposed (sanitized (tokens_in ws n)) ∷ [])) e

  pub accept : fine ≡ (check_count ws n then check_form (tokens_in ws n)) → n ≤ room ws → (r : ℕ) (ws' : List ℕ) → SanitizesTokens ws n r ws' → Sanitizes ws n (Ok r) ws'
  unfolding sanitize_buffer
  accept e h r ws' d = record {
    answer = ap (λ (m : ℕ). done (m ∷ [])) d.count ∙ answer_done e;
    buffer = left_laid h d.left ∙ ap after (answer_done e);
  }
