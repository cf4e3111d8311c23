-- Demand 3's "room counts and any no-room refusal", for the calls of one stage: two statements alike that are read into slots of equal size, and
-- whose sanitised tokens are written into outputs of equal size. A room count is the detail of refusal 3 (the tokens needed) or of 7 (the bytes
-- needed). The one call's are in Demand3.antt, `same_call`.
-- same_read    `lex` answers the same but for the stop offset: the same refusal 3 with the same detail, or the same token count
-- same_write   `write` answers the same: the same refusal 7 with the same detail, or the same length; and leaves the same text
-- slots_suffice   with as many slots as bytes the condition of refusal 3 does not hold
-- Assumes nothing.
use Rattle.std.specs.Prelude.{Result}
use Rattle.tokens.specs.declared.refusal.Refusal.{Refusal}
use mathlib.Core.Path.{◌≡◌, refl, sym, ap, ◌∙◌}
use mathlib.Core.Bool.{Bool, true, false, cond}
use mathlib.Core.List.{List, [], ◌∷◌}
use Prim.Native.Nat.{ℕ, ◌/◌, ◌≤◌}
use native.Mathlib.Omega.{arith}
use lib.Dec.{ltb}
use lib.ListN.{length, drop}
use lib.Seq.{take-append_seam, take-length}
use Rattle.tokens.specs.Slots.{words_per_slot, room, tokens_in}
use Rattle.tokens.specs.Answers.{Answer, done, refused, no_room_tokens, no_room_out}
use Rattle.tokens.specs.Checks.{◌then◌, fine, check_count, check_form, afterwards}
use Rattle.tokens.proofs.Checking.{text_within, form_fine}
use Rattle.scans.specs.Ways.{pinned}
use Rattle.lexer.specs.Read.{stop_at, reading}
use Rattle.lexer.specs.Lexes as lexer
use Rattle.lexer.specs.Lexes.{valid_answer, lex_answer, Lexes}
use Rattle.lexer.specs.declared.lex.Lexed.{Lexed}
use Rattle.lexer.proofs.Formed.{all_formed}
use Rattle.lexer.proofs.Turns.{tokens_few}
use Rattle.sanitizer.proofs.Keeping.{accepted_sanitized}
use Rattle.writer.specs.Written.{written, onto}
use Rattle.writer.specs.Promise as writer
use Rattle.writer.specs.Promise.{check_cuts, check_out, write_answer, Writes}
use Rattle.sql_lexer.specs.Promise.{sanitized_tokens, shape}
use Rattle.sql_lexer.proofs.Uncut.{reading_uncut, sanitised_uncut, uncut_fine}
use Rattle.demands.specs.Terms.{Fit, tokens_of, sanitized_of, Alike, but_stop, text_in}
use Rattle.demands.specs.Tables.{NoRoomTokens}
use Rattle.demands.proofs.Demand3.{same_shape, same_counts}

-- ---- reading
fit_read : (text : List ℕ) (slots : ℕ) → Fit text
    → but_stop (lex_answer pinned text slots) ≡ cond (ltb slots (length (tokens_of text))) (no_room_tokens (length (tokens_of text))) (done (length (tokens_of text) ∷ 0 ∷ 0 ∷ []))
unfolding lex_answer valid_answer
fit_read text slots f = rw (text_within text f.short, f.valid) (from (ltb slots (length (tokens_of text))))
  where
    from : (b : Bool)
        → but_stop (cond b (no_room_tokens (length (tokens_of text))) (done (length (tokens_of text) ∷ stop_at (reading pinned text) ∷ [])))
        ≡ cond b (no_room_tokens (length (tokens_of text))) (done (length (tokens_of text) ∷ 0 ∷ 0 ∷ []))
    from true = refl
    from false = refl

room_same : (ws us : List ℕ) → length ws ≡ length us → room ws ≡ room us
room_same ws us e = ap (λ (n : ℕ). n / words_per_slot) e

-- ---- writing: the sanitised tokens of a statement are well formed and cut no character, so 4 or 7 is the refusal
fit_write : (text ws : List ℕ) (n out : ℕ) → Fit text → tokens_in ws n ≡ sanitized_of text
    → write_answer text ws n out ≡ (check_count ws n then check_out (length (shape pinned text)) out)
unfolding sanitized_tokens shape
fit_write text ws n out f e =
    let formed : check_form (sanitized_of text) ≡ fine = form_fine (sanitized_of text) (omega (arith, accepted_sanitized (tokens_of text) (all_formed pinned text))) in
    let uncut : check_cuts text (sanitized_of text) ≡ fine = uncut_fine text (sanitized_of text) (sanitised_uncut text (tokens_of text) (reading_uncut pinned text f.valid)) in
    rw (text_within text f.short, f.valid, e, formed, uncut)

-- the text at the front of the output
text_in_lem : (a : Answer) (w out : List ℕ) → text_in (a then check_out (length w) (length out)) (afterwards (a then check_out (length w) (length out)) (onto w out) out)
    ≡ text_in (a then check_out (length w) (length out)) w
unfolding check_out
text_in_lem (refused k d) w out = refl
text_in_lem (done ns) w out = from (ltb (length out) (length w))
  where
    from : (b : Bool) → let last = cond b (no_room_out (length w)) (done (length w ∷ [])) in text_in last (afterwards last (onto w out) out) ≡ text_in last w
    from true = refl
    from false = take-append_seam w (drop (length w) out) ∙ sym (take-length w)

module _ (x y : List ℕ) (fit-x : Fit x) (fit-y : Fit y) (alike : Alike x y) where
  pub same_read : {ws us : List ℕ} → length ws ≡ length us → {r s : Result Lexed Refusal} {ws' us' : List ℕ} → Lexes x ws r ws' → Lexes y us s us'
      → but_stop (lexer.paper r) ≡ but_stop (lexer.paper s)
  same_read {ws} {us} e p q =
      let n : ℕ = length (tokens_of x) in
      let m : ℕ = length (tokens_of y) in
      let same : cond (ltb (room ws) n) (no_room_tokens n) (done (n ∷ 0 ∷ 0 ∷ [])) ≡ cond (ltb (room us) m) (no_room_tokens m) (done (m ∷ 0 ∷ 0 ∷ [])) =
      rw ((same_counts x y alike).0, room_same ws us e) in
      ap but_stop p.answer ∙ fit_read x (room ws) fit-x ∙ same ∙ sym (fit_read y (room us) fit-y) ∙ sym (ap but_stop q.answer)

  -- for slots of equal length whose first n hold the sanitised tokens, and outputs of equal length
  pub same_write : {ws us out put : List ℕ} {n : ℕ} → length ws ≡ length us → length out ≡ length put
      → tokens_in ws n ≡ sanitized_of x → tokens_in us n ≡ sanitized_of y
      → {r s : Result ℕ Refusal} {out' put' : List ℕ} → Writes x ws n out r out' → Writes y us n put s put'
      → (writer.paper r ≡ writer.paper s) × (text_in (writer.paper r) out' ≡ text_in (writer.paper s) put')
  unfolding check_count shape sanitized_tokens
  same_write {ws} {us} {out} {put} {n} e f hx hy {r} {s} {out'} {put'} p q =
      let answer-x : write_answer x ws n (length out) ≡ (check_count ws n then check_out (length (shape pinned x)) (length out)) = fit_write x ws n (length out) fit-x hx in
      let answer-y : write_answer y us n (length put) ≡ (check_count us n then check_out (length (shape pinned y)) (length put)) = fit_write y us n (length put) fit-y hy in
      let both : (check_count ws n then check_out (length (shape pinned x)) (length out)) ≡ (check_count us n then check_out (length (shape pinned y)) (length put)) =
      rw (room_same ws us e, same_shape x y alike, f) in
      let same : writer.paper r ≡ writer.paper s = p.answer ∙ answer-x ∙ both ∙ sym answer-y ∙ sym q.answer in
      let left : text_in (writer.paper r) out' ≡ text_in (writer.paper r) (shape pinned x) = shown x ws out fit-x hx p in
      let right : text_in (writer.paper s) put' ≡ text_in (writer.paper s) (shape pinned y) = shown y us put fit-y hy q in
      (same, left ∙ ap (λ (a : Answer). text_in a (shape pinned x)) same ∙ ap (text_in (writer.paper s)) (same_shape x y alike) ∙ sym right)
    where
      shown : (text zs room : List ℕ) → Fit text → tokens_in zs n ≡ sanitized_of text → {a : Result ℕ Refusal} {left : List ℕ} → Writes text zs n room a left
          → text_in (writer.paper a) left ≡ text_in (writer.paper a) (shape pinned text)
      shown text zs room f h {a} {left} promise =
          let answered : writer.paper a ≡ (check_count zs n then check_out (length (shape pinned text)) (length room)) = promise.answer ∙ fit_write text zs n (length room) f h in
          let list : written text (tokens_in zs n) ≡ shape pinned text = ap (written text) h in
          ap (text_in (writer.paper a)) promise.buffer
          ∙ ap (λ (b : Answer). text_in (writer.paper a) (afterwards b (onto (written text (tokens_in zs n)) room) room)) (sym promise.answer)
          ∙ ap (λ (w : List ℕ). text_in (writer.paper a) (afterwards (writer.paper a) (onto w room) room)) list
          ∙ ap (λ (b : Answer). text_in b (afterwards b (onto (shape pinned text) room) room)) answered
          ∙ text_in_lem (check_count zs n) (shape pinned text) room
          ∙ ap (λ (b : Answer). text_in b (shape pinned text)) (sym answered)

-- ---- enough slots
pub slots_suffice : (text ws : List ℕ) → length text ≤ room ws → (d : ℕ) → NoRoomTokens text ws d → ⊥
slots_suffice text ws h d e = omega (arith, tokens_few pinned text, e.0)
