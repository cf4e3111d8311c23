-- Refusals read back from the paper's numbers: no two refusals have one number and detail.
-- back_refusal  reading a refusal's number and detail gives it back
-- refusal_one   equal on paper, equal in code
-- Assumes nothing.
use mathlib.Core.Path.{◌≡◌, refl, sym, ap, ◌∙◌}
use mathlib.Core.Bool.{cond}
use lib.Dec.{eqb}
use Rattle.tokens.specs.declared.refusal.Refusal.{Refusal}
use Rattle.tokens.specs.declared.refusal.Refusal.TheVariants.{TextTooLong, NotUtf8, NoRoomTokens, BadCount, BadToken, CutChar, NoRoomOut}
use Rattle.tokens.specs.Answers.{Answer, done, refused, refusal}

-- the refusal of a number and a detail
unfoldable pub back : Answer → Refusal
back (done ns) = TextTooLong 0
back (refused k d) =
    cond (eqb k 1) (TextTooLong d)
    (cond (eqb k 2) (NotUtf8 (record { 0 = d }))
    (cond (eqb k 3) (NoRoomTokens d)
    (cond (eqb k 4) (BadCount d)
    (cond (eqb k 5) (BadToken (record { 0 = d }))
    (cond (eqb k 6) (CutChar (record { 0 = d })) (NoRoomOut d))))))

pub back_refusal : (r : Refusal) → back (refusal r) ≡ r
unfolding back
back_refusal (TextTooLong n) = refl
back_refusal (NotUtf8 at) = refl
back_refusal (NoRoomTokens n) = refl
back_refusal (BadCount n) = refl
back_refusal (BadToken p) = refl
back_refusal (CutChar p) = refl
back_refusal (NoRoomOut n) = refl

pub refusal_one : {r s : Refusal} → refusal r ≡ refusal s → r ≡ s
refusal_one {r} {s} e = sym (back_refusal r) ∙ ap back e ∙ back_refusal s
