-- The text of a token list.
-- written-append   a list cut in two and written as two: the texts joined are the whole list's text
-- written_more     one more token
-- written_room     what is written so far and the next token are within the whole
-- total_more       one more token measured: the total, and that it stays small
-- fill_more        one more token written behind what lies over the front
-- Assumes nothing.
use mathlib.Core.Path.{◌≡◌, refl, ap, sym, ◌∙◌, subst₂}
use mathlib.Core.List.{List, [], ◌∷◌, ◌++◌, append_assoc, append-nil}
use Prim.Native.Nat.{ℕ, suc, ◌+◌, ◌*◌, ◌-◌, ◌≤◌, ◌<◌}
use native.Mathlib.Omega.{arith}
use lib.ListN.{length, length-append}
use Rattle.tokens.specs.declared.slot.Slot.{Slot}
use Rattle.tokens.specs.Answers.{limit}
use Rattle.tokens.specs.Slots.{slot_at, tokens_from, tokens_in}
use Rattle.tokens.proofs.Storing.{tokens_more, tokens-at}
use Rattle.writer.specs.Written.{token_text, written, onto}
use Rattle.writer.specs.Promise.{Put}
use Rattle.writer.proofs.ByKind.{token_small}
use Rattle.writer.proofs.Puts.{put_as, put_onto}

-- how long a token's text can be
abbrev pub token_limit : ℕ
token_limit = limit + 18

pub written-append : (text : List ℕ) (xs ys : List Slot) → written text (xs ++ ys) ≡ written text xs ++ written text ys
unfolding written
written-append text [] ys = refl
written-append text (x ∷ xs) ys = rw (written-append text xs ys, append_assoc)

pub written_more : (text ws : List ℕ) (i : ℕ) → written text (tokens_in ws (i + 1)) ≡ written text (tokens_in ws i) ++ token_text text (slot_at ws i)
unfolding written
written_more text ws i = rw (tokens_more ws i, written-append text (tokens_in ws i) (slot_at ws i ∷ []), append-nil)

pub written_room : (text ws : List ℕ) (i n : ℕ) → i < n
    → length (written text (tokens_in ws i)) + length (token_text text (slot_at ws i)) ≤ length (written text (tokens_in ws n))
unfolding written
written_room text ws i n l =
    let rest : List Slot = tokens_from ws (suc i) (n - suc i) in
    rw (tokens-at ws i n l, written-append text (tokens_in ws i) (slot_at ws i ∷ rest))
    (omega (arith, length-append (written text (tokens_in ws i)) (token_text text (slot_at ws i) ++ written text rest), length-append (token_text text (slot_at ws i)) (written text rest)))

pub total_more : (text ws : List ℕ) (i : ℕ) {t : Slot} {n total : ℕ} → length text ≤ limit → t ≡ slot_at ws i → n ≡ length (token_text text t)
    → total ≡ length (written text (tokens_in ws i)) → total ≤ i * token_limit
    → (total + n ≡ length (written text (tokens_in ws (i + 1)))) × (total + n ≤ (i + 1) * token_limit)
total_more text ws i {t} {n} {total} l et en eo small =
    let here : n ≡ length (token_text text (slot_at ws i)) = en ∙ ap (λ (t : Slot). length (token_text text t)) et in
    let more = ap length (written_more text ws i) ∙ length-append (written text (tokens_in ws i)) (token_text text (slot_at ws i)) in
    (omega (arith, here, more), omega (arith, here, token_small text (slot_at ws i)))

pub fill_more : (text ws out : List ℕ) (i : ℕ) {t : Slot} {o : List ℕ} {at r : ℕ} {o' : List ℕ} → t ≡ slot_at ws i → at ≡ length (written text (tokens_in ws i))
    → o ≡ onto (written text (tokens_in ws i)) out → Put o at (token_text text t) r o'
    → (r ≡ length (written text (tokens_in ws (i + 1)))) × (o' ≡ onto (written text (tokens_in ws (i + 1))) out)
fill_more text ws out i {t} {r = r} {o' = o'} et ea eo p =
    let w : List ℕ = written text (tokens_in ws i) in
    let s : List ℕ = token_text text (slot_at ws i) in
    let q : Put (onto w out) (length w) s r o' = subst₂ (λ (o : List ℕ) (a : ℕ). Put o a s r o') eo ea (put_as (ap (token_text text) (sym et)) p) in (
      q.next ∙ sym (length-append w s) ∙ ap length (sym (written_more text ws i)),
      put_onto w out q ∙ ap (λ (l : List ℕ). onto l out) (sym (written_more text ws i)),
    )
