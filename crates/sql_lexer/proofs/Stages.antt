-- What each stage of the one call leaves to the next.
-- Readied, lex_readied             a text that was read: its tokens over the front of the slots
-- Cleaned, readied_known, cleaned  those tokens sanitised: they keep their number and their form
-- Assumes nothing.
use mathlib.Core.Path.{◌≡◌, refl, sym, ap, subst, ◌∙◌}
use mathlib.Core.Bool.{Bool, true, false, cond}
use mathlib.Core.List.{List, [], ◌∷◌}
use mathlib.Core.Option.{Option, none, some}
use Prim.Native.Nat.{ℕ, ◌≤◌}
use native.Mathlib.Omega.{arith}
use lib.Dec.{ltb}
use lib.ListN.{length, get_or}
use borrow.Author.Tests.{ltb-false}
use Rattle.chars.specs.Utf8.{first_bad}
use Rattle.chars.proofs.Scalars.{clash}
use Rattle.tokens.specs.declared.slot.Slot.{Slot}
use Rattle.tokens.specs.Answers.{Answer, done, refused, limit, text_too_long, no_room_tokens}
use Rattle.tokens.specs.Checks.{◌then◌, check_text, validity, afterwards}
use Rattle.tokens.specs.Slots.{room, tokens_in, laid, Left}
use Rattle.tokens.specs.Formed.{first_place, malformed}
use Rattle.tokens.proofs.Storing.{left_then, left_laid}
use Rattle.tokens.proofs.Laid.{laid_left}
use Rattle.scans.specs.Ways.{pinned}
use Rattle.lexer.specs.Read.{tokens, stop_at, reading}
use Rattle.lexer.specs.Lexes.{valid_answer, lex_answer, lex_buffer, Lexes}
use Rattle.std.specs.Prelude.{Ok}
use Rattle.lexer.specs.declared.lex.Lexed.{Lexed}
use Rattle.lexer.proofs.Formed.{all_formed}
use Rattle.sanitizer.specs.Run.{sanitized, Known}
use Rattle.sanitizer.specs.Exposed.{exposed}
use Rattle.sanitizer.specs.Promise.{SanitizesTokens}
use Rattle.sanitizer.proofs.Keeping.{length-sanitized, accepted_sanitized, accepted_known}
use Rattle.sql_lexer.specs.Promise.{sanitized_tokens}

-- the tokens of a text
abbrev read_off : List ℕ → List Slot
read_off text = tokens (reading pinned text)

-- ---- reading
-- the text was read: n tokens, up to `stop`, lie over the front of the slots
pub record Readied (text ws : List ℕ) (n stop : ℕ) (left : List ℕ) : Type 0 where
  pub count : n ≡ length (tokens (reading pinned text))
  pub stopped : stop ≡ stop_at (reading pinned text)
  pub short : length text ≤ limit
  pub fits : length (tokens (reading pinned text)) ≤ room ws
  pub slots : left ≡ laid (tokens (reading pinned text)) ws
  pub answer : done (n ∷ stop ∷ []) ≡ lex_answer pinned text (room ws)

-- the i-th number of an answer
number : ℕ → Answer → ℕ
number i (done ns) = get_or ns i 0
number i (refused k d) = 0

module _ {text ws : List ℕ} {l : Lexed} {left : List ℕ} where
  pub lex_readied : Lexes text ws (Ok l) left → Readied text ws l.tokens l.stop.0 left
  unfolding lex_answer valid_answer check_text lex_buffer number
  lex_readied p =
      go (ltb limit (length text)) (first_bad text) (ltb (room ws) (length (read_off text))) refl refl p.answer p.buffer
    where
      go : (long : Bool) (bad : Option ℕ) (over : Bool) → ltb limit (length text) ≡ long → ltb (room ws) (length (read_off text)) ≡ over
          → done (l.tokens ∷ l.stop.0 ∷ [])
          ≡ (cond long (text_too_long (length text)) (validity bad) then cond over (no_room_tokens (length (read_off text))) (done (length (read_off text) ∷ stop_at (reading pinned text) ∷ [])))
          → left
          ≡ afterwards (cond long (text_too_long (length text)) (validity bad) then cond over (no_room_tokens (length (read_off text))) (done (length (read_off text) ∷ stop_at (reading pinned text) ∷ []))) (laid (read_off text) ws) ws
          → Readied text ws l.tokens l.stop.0 left
      go true bad over q r e f = clash (cc)
      go false (some at) over q r e f = clash (cc)
      go false none true q r e f = clash (cc)
      go false none false q r e f = record {
        count = ap (number 0) e;
        stopped = ap (number 1) e;
        short = ltb-false limit (length text) q;
        fits = ltb-false (room ws) (length (read_off text)) r;
        slots = f;
        answer = p.answer;
      }

-- ---- sanitising
readied_left : {text ws left : List ℕ} {n stop : ℕ} → Readied text ws n stop left → Left n ws left (read_off text)
readied_left {text} {ws} {left} {n} {stop} r =
    subst (λ (m : ℕ). Left m ws left (read_off text)) (sym r.count)
    (subst (λ (b : List ℕ). Left (length (read_off text)) ws b (read_off text)) (sym r.slots) (laid_left (read_off text) ws r.fits))

-- what is read has known kinds
pub readied_known : {text ws left : List ℕ} {n stop : ℕ} → Readied text ws n stop left → (n ≤ room left) × Known (tokens_in left n)
readied_known {text} {ws} {left} {n} {stop} r = (
  omega (arith, r.count, r.fits, (readied_left r).long),
  subst Known (sym (readied_left r).tokens) (accepted_known (read_off text) (all_formed pinned text)),
)

-- the tokens of a text are sanitised: they lie over the front of the slots, and their exposed count is `shown`
pub record Cleaned (text ws : List ℕ) (n shown : ℕ) (left : List ℕ) : Type 0 where
  pub tokens : tokens_in left n ≡ sanitized_tokens pinned text
  pub slots : left ≡ laid (sanitized_tokens pinned text) ws
  pub places : n ≤ room left
  pub formed : n ≤ first_place malformed (tokens_in left n)
  pub count : shown ≡ exposed (sanitized_tokens pinned text)

pub cleaned : {text ws left left' : List ℕ} {n stop shown : ℕ} → Readied text ws n stop left → SanitizesTokens left n shown left' → Cleaned text ws n shown left'
unfolding sanitized_tokens
cleaned {text} {ws} {left} {left'} {n} {stop} {shown} r s =
    let read : Left n ws left (read_off text) = readied_left r in
    let all : Left n ws left' (sanitized (tokens_in left n)) = left_then read s.left in
    let ts : sanitized (tokens_in left n) ≡ sanitized (read_off text) = ap sanitized read.tokens in
    let held : tokens_in left' n ≡ sanitized (read_off text) = all.tokens ∙ ts in
    let whole : first_place malformed (sanitized (read_off text)) ≡ length (sanitized (read_off text)) = accepted_sanitized (read_off text) (all_formed pinned text) in
    record {
      tokens = held;
      slots = left_laid (omega (arith, r.count, r.fits)) all ∙ ap (λ (us : List Slot). laid us ws) ts;
      places = omega (arith, r.count, r.fits, all.long);
      formed = omega (arith, ap (first_place malformed) held, whole, length-sanitized (read_off text), r.count);
      count = s.count ∙ ap exposed ts;
    }
