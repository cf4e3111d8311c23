-- The checks by facts of numbers: which answer each gives.
-- text_long, text_within             check_text
-- text_passes                        it finds nothing: the length is within the limit and no byte is bad
-- count_passes                       check_count finds nothing
-- form_bad, form_fine, form_passes   check_form
-- then_assoc                         checks one after the other
-- list_passes                        check_count and check_form find nothing
-- refusal-then, refusal_after        after a refusal nothing is checked and nothing written
-- Assumes nothing.
use mathlib.Core.Path.{◌≡◌, refl}
use mathlib.Core.Bool.{Bool, true, false, cond, ◌||◌}
use mathlib.Core.List.{List}
use mathlib.Core.Option.{Option, none, some}
use Prim.Native.Nat.{ℕ, ◌≤◌, ◌<◌}
use lib.Dec.{ltb}
use lib.ListN.{length}
use borrow.Author.Tests.{lt-ltb, le-ltb, ltb-false}
use Rattle.chars.specs.Utf8.{first_bad}
use Rattle.chars.proofs.Scalars.{clash}
use Rattle.tokens.specs.declared.slot.Slot.{Slot}
use Rattle.tokens.specs.declared.refusal.Refusal.{Refusal}
use Rattle.tokens.specs.declared.refusal.Refusal.TheVariants.{TextTooLong, NotUtf8, NoRoomTokens, BadCount, BadToken, CutChar, NoRoomOut}
use Rattle.tokens.specs.Answers.{Answer, done, refused, limit, refusal, text_too_long, bad_count, bad_token}
use Rattle.tokens.specs.Slots.{room}
use Rattle.tokens.specs.Formed.{first_place, malformed}
use Rattle.tokens.specs.Checks.{◌then◌, check_text, check_count, check_form, validity, fine, afterwards}

module _ (text : List ℕ) where
  pub text_long : limit < length text → check_text text ≡ text_too_long (length text)
  unfolding check_text
  text_long h = simp (lt-ltb limit (length text) h)

  pub text_within : length text ≤ limit → check_text text ≡ validity (first_bad text)
  unfolding check_text
  text_within h = simp (le-ltb limit (length text) h)

  pub text_passes : check_text text ≡ fine → (length text ≤ limit) × (first_bad text ≡ none)
  unfolding check_text
  text_passes e = go (ltb limit (length text)) (first_bad text) refl refl e
    where
      go : (b : Bool) (o : Option ℕ) → ltb limit (length text) ≡ b → first_bad text ≡ o
          → cond b (text_too_long (length text)) (validity o) ≡ fine → (length text ≤ limit) × (first_bad text ≡ none)
      go true o p q f = clash (cc)
      go false none p q f = (ltb-false limit (length text) p, q)
      go false (some at) p q f = clash (cc)

module _ (ws : List ℕ) (n : ℕ) where
  pub count_passes : check_count ws n ≡ fine → (n ≤ limit) × (n ≤ room ws)
  unfolding check_count
  count_passes e = go (ltb limit n) (ltb (room ws) n) refl refl e
    where
      go : (a b : Bool) → ltb limit n ≡ a → ltb (room ws) n ≡ b → cond (a || b) (bad_count (room ws)) fine ≡ fine → (n ≤ limit) × (n ≤ room ws)
      go true b p q f = clash (cc)
      go false true p q f = clash (cc)
      go false false p q f = (ltb-false limit n p, ltb-false (room ws) n q)

module _ (ts : List Slot) where
  pub form_bad : first_place malformed ts < length ts → check_form ts ≡ bad_token (first_place malformed ts)
  unfolding check_form
  form_bad h = simp (lt-ltb (first_place malformed ts) (length ts) h)

  pub form_fine : length ts ≤ first_place malformed ts → check_form ts ≡ fine
  unfolding check_form
  form_fine h = simp (le-ltb (first_place malformed ts) (length ts) h)

  pub form_passes : check_form ts ≡ fine → length ts ≤ first_place malformed ts
  unfolding check_form
  form_passes e = go (ltb (first_place malformed ts) (length ts)) refl e
    where
      go : (b : Bool) → ltb (first_place malformed ts) (length ts) ≡ b → cond b (bad_token (first_place malformed ts)) fine ≡ fine → length ts ≤ first_place malformed ts
      go true p f = clash (cc)
      go false p f = ltb-false (first_place malformed ts) (length ts) p

-- ---- checks one after the other
pub then_assoc : (a b c : Answer) → ((a then b) then c) ≡ (a then b then c)
then_assoc (done ns) b c = refl
then_assoc (refused k d) b c = refl

pub list_passes : (ws : List ℕ) (n : ℕ) (ts : List Slot) → (check_count ws n then check_form ts) ≡ fine
    → (n ≤ limit) × (n ≤ room ws) × (length ts ≤ first_place malformed ts)
unfolding check_count
list_passes ws n ts e = go (ltb limit n) (ltb (room ws) n) refl refl e
  where
    go : (a b : Bool) → ltb limit n ≡ a → ltb (room ws) n ≡ b → (cond (a || b) (bad_count (room ws)) fine then check_form ts) ≡ fine
        → (n ≤ limit) × (n ≤ room ws) × (length ts ≤ first_place malformed ts)
    go true b p q f = clash (cc)
    go false true p q f = clash (cc)
    go false false p q f = (ltb-false limit n p, ltb-false (room ws) n q, form_passes ts f)

pub refusal-then : (r : Refusal) (next : Answer) → (refusal r then next) ≡ refusal r
refusal-then (TextTooLong n) next = refl
refusal-then (NotUtf8 at) next = refl
refusal-then (NoRoomTokens n) next = refl
refusal-then (BadCount n) next = refl
refusal-then (BadToken p) next = refl
refusal-then (CutChar p) next = refl
refusal-then (NoRoomOut n) next = refl

pub refusal_after : (r : Refusal) (w b : List ℕ) → afterwards (refusal r) w b ≡ b
refusal_after (TextTooLong n) w b = refl
refusal_after (NotUtf8 at) w b = refl
refusal_after (NoRoomTokens n) w b = refl
refusal_after (BadCount n) w b = refl
refusal_after (BadToken p) w b = refl
refusal_after (CutChar p) w b = refl
refusal_after (NoRoomOut n) w b = refl
