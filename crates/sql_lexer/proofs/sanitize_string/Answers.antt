-- `sql_lexer::sanitize_string` meets its contract: what each stage leaves is what the next asks for, and each answer is a case of
-- `string_answer`. Assumes nothing.
use mathlib.Core.Path.{◌≡◌, refl, ap, ◌∙◌}
use mathlib.Core.List.{List}
use Prim.Native.Nat.{ℕ}
use native.Mathlib.Omega.{arith}
use lib.ListN.{length}
use Rattle.tokens.specs.declared.slot.Slot.{Slot}
use Rattle.tokens.specs.Slots.{tokens_in}
use Rattle.scans.specs.Ways.{pinned}
use Rattle.std.proofs.lemmas.Result.{err_from_is_err_and}
use Rattle.lexer.proofs.Turns.{tokens_few}
use Rattle.writer.specs.Written.{written, onto}
use Rattle.sql_lexer.specs.Promise.{shape}
use Rattle.sql_lexer.proofs.Stages.{lex_readied, readied_known, Cleaned, cleaned}
use Rattle.sql_lexer.proofs.Answers.{not_read, no_room, shaped}
use Rattle.sql_lexer.proofs.sanitize_string.Goals as goal

-- what was measured, or filled in, is the shape
module _ {text ws : List ℕ} {n shown : ℕ} {left : List ℕ} (k : Cleaned text ws n shown left) where
  measured : (m : ℕ) → m ≡ length (written text (tokens_in left n)) → m ≡ length (shape pinned text)
  unfolding shape
  measured m e = e ∙ ap (λ (ts : List Slot). length (written text ts)) k.tokens

  filled : (out after : List ℕ) → after ≡ onto (written text (tokens_in left n)) out → after ≡ onto (shape pinned text) out
  unfolding shape
  filled out after e = e ∙ ap (λ (ts : List Slot). onto (written text ts) out) k.tokens

pub sanitize_tokens-exposed-requires : goal.sanitize_tokens-exposed-requires
sanitize_tokens-exposed-requires c =
    readied_known (lex_readied c.in_ok-tokens.ensures)

pub measure-length-requires : goal.measure-length-requires
measure-length-requires c =
    let x = c.args in
    let r = lex_readied c.in_ok-tokens.ensures in
    (r.short, omega (arith, r.count, r.short, tokens_few pinned x.text.now), (cleaned r c.sanitize_tokens-exposed.ensures).places)

pub returns-then-out-length : goal.returns-then-out-length
returns-then-out-length c =
    let r = lex_readied c.in_ok-tokens.ensures in
    let k = cleaned r c.sanitize_tokens-exposed.ensures in
    no_room _ _ _ r k _ (measured k _ c.measure-length.ensures) (omega arith)

pub fill-requires-clause-count_bound : goal.fill-requires-clause-count_bound
fill-requires-clause-count_bound c =
    let r = lex_readied c.in_ok-tokens.ensures in
    let k = cleaned r c.sanitize_tokens-exposed.ensures in
    (k.places, k.formed)

pub returns : goal.returns
returns c =
    let r = lex_readied c.in_ok-tokens.ensures in
    let k = cleaned r c.sanitize_tokens-exposed.ensures in
    shaped _ _ _ r k _ refl refl refl (measured k _ c.measure-length.ensures) (omega arith) (filled k _ _ c.fill.ensures)

pub returns-in_err-tokens : goal.returns-in_err-tokens
returns-in_err-tokens c =
    let p = err_from_is_err_and c.from_residual.result c.from_residual.ensures.1 in
    rw (p.1, p.2) (not_read _ _ _ c.in_err-tokens.ensures)
