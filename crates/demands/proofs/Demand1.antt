-- Demand 1: "Every call ends with an answer on every input. The caller checks nothing beforehand. Each refusal is given exactly when its
-- condition holds and none earlier in document 01's order does, and leaves the lent buffers as stated there."
-- That every call ends with an answer is what the check of a function says for each input that its precondition takes: it takes every one.
-- The tables are in specs/Tables.antt.
-- lex_open, sanitize_open, write_open, string_open, content_open   the precondition, as the checker reads it, holds of every input
-- lex_follows, sanitize_follows, write_follows, string_follows   the answer follows its table
-- lex_leaves, sanitize_leaves, write_leaves, string_leaves       and what it leaves in the buffers
-- `buffer_content` refuses nothing and lends nothing to write in.
-- Assumes nothing.
use Rattle.std.specs.Prelude.{Result}
use Rattle.tokens.specs.declared.refusal.Refusal.{Refusal}
use contract.Lifetimes.{Lfts}
use borrow.Fn.Kinds.{Dens}
use mathlib.Core.Path.{◌≡◌, sym, ap, subst, ◌∙◌}
use mathlib.Core.Bool.{Bool, true, false, cond}
use mathlib.Core.List.{List, [], ◌∷◌}
use mathlib.Core.Option.{Option, none, some}
use Prim.Native.Nat.{ℕ}
use native.Mathlib.Omega.{arith}
use lib.Dec.{ltb}
use lib.ListN.{length}
use Rattle.chars.specs.Utf8.{first_bad}
use Rattle.chars.proofs.Scalars.{clash}
use Rattle.tokens.specs.Slots.{room, tokens_in, laid}
use Rattle.tokens.specs.Answers.{Answer, done, refused, limit, text_too_long, no_room_tokens, no_room_out}
use Rattle.tokens.specs.Checks.{◌then◌, fine, validity, check_text, check_count, check_form, afterwards}
use Rattle.tokens.proofs.Checking.{then_assoc}
use Rattle.scans.specs.Ways.{pinned}
use Rattle.lexer.specs.Read.{stop_at, reading}
use Rattle.lexer.specs.Lexes as lexer
use Rattle.lexer.specs.Lexes.{valid_answer, lex_answer, lex_buffer, Lexes}
use Rattle.lexer.specs.declared.lex.Lexed.{Lexed}
use Rattle.sanitizer.specs.Run.{sanitized}
use Rattle.sanitizer.specs.Exposed.{exposed}
use Rattle.sanitizer.specs.Promise as sanitizer
use Rattle.sanitizer.specs.Promise.{sanitize_answer, sanitize_buffer, Sanitizes}
use Rattle.writer.specs.Written.{written, onto}
use Rattle.writer.specs.Promise as writer
use Rattle.writer.specs.Promise.{check_cuts, check_out, Writes}
use Rattle.sql_lexer.specs.Promise as face
use Rattle.sql_lexer.specs.Promise.{shape, figures, string_answer, string_slots, string_out, SanitizesString}
use Rattle.sql_lexer.specs.declared.Figures.{Figures}
use Rattle.sql_lexer.proofs.lex.Kinds as lex-kinds
use Rattle.sql_lexer.proofs.lex.Reads as lex-reads
use Rattle.sql_lexer.proofs.sanitize.Kinds as sanitize-kinds
use Rattle.sql_lexer.proofs.sanitize.Reads as sanitize-reads
use Rattle.sql_lexer.proofs.write.Kinds as write-kinds
use Rattle.sql_lexer.proofs.write.Reads as write-reads
use Rattle.sql_lexer.proofs.sanitize_string.Kinds as string-kinds
use Rattle.sql_lexer.proofs.sanitize_string.Reads as string-reads
use Rattle.sql_lexer.proofs.buffer_content.Kinds as content-kinds
use Rattle.sql_lexer.proofs.buffer_content.Reads as content-reads
use Rattle.demands.specs.Terms.{tokens_of, sanitized_of}
use Rattle.demands.specs.Tables.{Follows, Leaves, LeavesSlots, lex_table, sanitize_table, write_table, string_table}
use Rattle.demands.proofs.Checks.{number_of, long, text_checks, cond-then, cond_over, follows_end, follows_then, check_long, check_valid, check_tokens, check_count_lem, check_form_lem, check_cuts_lem, check_out_lem}

-- ---- the caller checks nothing beforehand
pub lex_open : (κs : Lfts 2) (a : Dens κs lex-kinds.ps) → lex-reads.Pre κs a
lex_open κs a = tt

pub sanitize_open : (κs : Lfts 1) (a : Dens κs sanitize-kinds.ps) → sanitize-reads.Pre κs a
sanitize_open κs a = tt

pub write_open : (κs : Lfts 3) (a : Dens κs write-kinds.ps) → write-reads.Pre κs a
write_open κs a = tt

pub string_open : (κs : Lfts 3) (a : Dens κs string-kinds.ps) → string-reads.Pre κs a
string_open κs a = tt

pub content_open : (κs : Lfts 1) (a : Dens κs content-kinds.ps) → content-reads.Pre κs a
content_open κs a = tt

-- a buffer after an answer
leaves : {answer : Answer} {before written after : List ℕ} → after ≡ afterwards answer written before → Leaves answer before written after
leaves {answer} {before} {written} {after} e = record {
  on_refusal = λ k d r. e ∙ ap (λ (a : Answer). afterwards a written before) r;
  on_done = λ ns r. e ∙ ap (λ (a : Answer). afterwards a written before) r;
}

-- slots after the one call: refused before 7 was looked at, or not
module _ {answer : Answer} {before written after : List ℕ} where
  slots_refused : (k d : ℕ) → (k ≡ 7 → ⊥) → answer ≡ refused k d → after ≡ before → LeavesSlots answer before written after
  unfolding number_of
  slots_refused k d h e l = record {
    on_refusal = λ k' d' r g. l;
    on_no_room = λ d' r. absurd (h (ap number_of (sym e ∙ r)));
    on_done = λ ns r. clash (cc);
  }

  slots_done : (ns : List ℕ) → answer ≡ done ns → after ≡ written → LeavesSlots answer before written after
  slots_done ns e l = record {
    on_refusal = λ k d r g. clash (cc);
    on_no_room = λ d r. clash (cc);
    on_done = λ ms r. l;
  }

  slots_no_room : (d : ℕ) → answer ≡ refused 7 d → after ≡ written → LeavesSlots answer before written after
  unfolding number_of
  slots_no_room d e l = record {
    on_refusal = λ k d' r g. absurd (g (sym (ap number_of (sym e ∙ r))));
    on_no_room = λ d' r. l;
    on_done = λ ns r. clash (cc);
  }

-- ---- reading: 1, 2, 3
module _ {text ws : List ℕ} {r : Result Lexed Refusal} {left : List ℕ} (promise : Lexes text ws r left) where
  pub lex_follows : Follows (lexer.paper r) (lex_table text ws) (length (tokens_of text) ∷ stop_at (reading pinned text) ∷ [])
  unfolding lex_answer valid_answer
  lex_follows =
      let n : ℕ = length (tokens_of text) in
      let ns : List ℕ = n ∷ stop_at (reading pinned text) ∷ [] in
      subst (λ (a : Answer). Follows a (lex_table text ws) ns)
      (sym (promise.answer ∙ text_checks text (valid_answer pinned text (room ws)) ∙ ap (λ (a : Answer). long text then validity (first_bad text) then a) (cond-then (ltb (room ws) n) 3 n (done ns))))
      (follows_then (check_long text) (follows_then (check_valid text) (follows_then (check_tokens text ws) (follows_end ns))))

  pub lex_leaves : Leaves (lexer.paper r) ws (laid (tokens_of text) ws) left
  unfolding lex_buffer
  lex_leaves = leaves (promise.buffer ∙ ap (λ (a : Answer). afterwards a (laid (tokens_of text) ws) ws) (sym promise.answer))

-- ---- sanitising: 4, 5
module _ {ws : List ℕ} {n : ℕ} {r : Result ℕ Refusal} {left : List ℕ} (promise : Sanitizes ws n r left) where
  pub sanitize_follows : Follows (sanitizer.paper r) (sanitize_table ws n) (exposed (sanitized (tokens_in ws n)) ∷ [])
  unfolding sanitize_answer
  sanitize_follows =
      subst (λ (a : Answer). Follows a (sanitize_table ws n) (exposed (sanitized (tokens_in ws n)) ∷ []))
      (sym (promise.answer ∙ then_assoc (check_count ws n) (check_form (tokens_in ws n)) (done (exposed (sanitized (tokens_in ws n)) ∷ []))))
      (follows_then (check_count_lem ws n) (follows_then (check_form_lem ws n) (follows_end (exposed (sanitized (tokens_in ws n)) ∷ []))))

  pub sanitize_leaves : Leaves (sanitizer.paper r) ws (laid (sanitized (tokens_in ws n)) ws) left
  unfolding sanitize_buffer
  sanitize_leaves = leaves (promise.buffer ∙ ap (λ (a : Answer). afterwards a (laid (sanitized (tokens_in ws n)) ws) ws) (sym promise.answer))

-- ---- writing: 1, 2, 4, 5, 6, 7
module _ {text ws : List ℕ} {n : ℕ} {out : List ℕ} {r : Result ℕ Refusal} {left : List ℕ} (promise : Writes text ws n out r left) where
  pub write_follows : Follows (writer.paper r) (write_table text ws n out) (length (written text (tokens_in ws n)) ∷ [])
  unfolding check_out
  write_follows =
      let ts = tokens_in ws n in
      let need : ℕ = length (written text ts) in
      subst (λ (a : Answer). Follows a (write_table text ws n out) (need ∷ []))
      (sym (promise.answer
      ∙ text_checks text (check_count ws n then check_form ts then check_cuts text ts then check_out need (length out))
      ∙ ap (λ (a : Answer). long text then validity (first_bad text) then check_count ws n then check_form ts then check_cuts text ts then a) (cond-then (ltb (length out) need) 7 need (done (need ∷ [])))))
      (follows_then (check_long text)
      (follows_then (check_valid text)
      (follows_then (check_count_lem ws n)
      (follows_then (check_form_lem ws n)
      (follows_then (check_cuts_lem text ws n) (follows_then (check_out_lem (written text ts) out) (follows_end (need ∷ []))))))))

  pub write_leaves : Leaves (writer.paper r) out (onto (written text (tokens_in ws n)) out) left
  write_leaves = leaves (promise.buffer ∙ ap (λ (a : Answer). afterwards a (onto (written text (tokens_in ws n)) out) out) (sym promise.answer))

-- ---- the one call: 1, 2, 3, 7
-- the answer of reading, by what its checks find
abbrev first : List ℕ → Bool → Option ℕ → Bool → Answer
first text a o b =
    cond a (text_too_long (length text)) (validity o)
    then cond b (no_room_tokens (length (tokens_of text))) (done (length (tokens_of text) ∷ stop_at (reading pinned text) ∷ []))

module _ {text ws out : List ℕ} {r : Result Figures Refusal} {left left' : List ℕ} (promise : SanitizesString text ws out r left left') where
  -- its checks, one after the other
  string_checks : face.paper r
      ≡ (long text
      then validity (first_bad text)
      then cond (ltb (room ws) (length (tokens_of text))) (no_room_tokens (length (tokens_of text))) fine
      then cond (ltb (length out) (length (shape pinned text))) (no_room_out (length (shape pinned text))) fine
      then done (figures pinned text))
  unfolding string_answer lex_answer valid_answer check_out
  string_checks =
      let n : ℕ = length (tokens_of text) in
      let need : ℕ = length (shape pinned text) in
      let last : Answer = check_out need (length out) then done (figures pinned text) in
      promise.answer
      ∙ then_assoc (check_text text) (valid_answer pinned text (room ws)) last
      ∙ text_checks text (valid_answer pinned text (room ws) then last)
      ∙ ap (λ (a : Answer). long text then validity (first_bad text) then a) (cond_over (ltb (room ws) n) 3 n (n ∷ stop_at (reading pinned text) ∷ []) last)
      ∙ ap (λ (a : Answer). long text then validity (first_bad text) then cond (ltb (room ws) n) (no_room_tokens n) fine then a) (cond_over (ltb (length out) need) 7 need (need ∷ []) (done (figures pinned text)))

  pub string_follows : Follows (face.paper r) (string_table text ws out) (figures pinned text)
  string_follows =
      subst (λ (a : Answer). Follows a (string_table text ws out) (figures pinned text)) (sym string_checks)
      (follows_then (check_long text)
      (follows_then (check_valid text)
      (follows_then (check_tokens text ws) (follows_then (check_out_lem (shape pinned text) out) (follows_end (figures pinned text))))))

  slots_left : LeavesSlots (face.paper r) ws (laid (sanitized_of text) ws) left
  unfolding string_answer string_slots lex_answer valid_answer check_text check_out
  slots_left =
      from (ltb limit (length text)) (first_bad text) (ltb (room ws) (length (tokens_of text))) (ltb (length out) (length (shape pinned text))) promise.answer promise.buffers.0
    where
      from : (a : Bool) (o : Option ℕ) (b c : Bool)
          → face.paper r ≡ (first text a o b then cond c (no_room_out (length (shape pinned text))) (done (length (shape pinned text) ∷ [])) then done (figures pinned text))
          → left ≡ afterwards (first text a o b) (laid (sanitized_of text) ws) ws → LeavesSlots (face.paper r) ws (laid (sanitized_of text) ws) left
      from true o b c e l = slots_refused 1 (length text) (λ z. omega arith) e l
      from false (some at) b c e l = slots_refused 2 at (λ z. omega arith) e l
      from false none true c e l = slots_refused 3 (length (tokens_of text)) (λ z. omega arith) e l
      from false none false true e l = slots_no_room (length (shape pinned text)) e l
      from false none false false e l = slots_done (figures pinned text) e l

  pub string_leaves : LeavesSlots (face.paper r) ws (laid (sanitized_of text) ws) left × Leaves (face.paper r) out (onto (shape pinned text) out) left'
  unfolding string_out
  string_leaves = (slots_left, leaves (promise.buffers.1 ∙ ap (λ (a : Answer). afterwards a (onto (shape pinned text) out) out) (sym promise.answer)))
