-- What sanitising promises: the answer and every word of the buffer, refused or not. Assumes nothing.
use Rattle.std.specs.Prelude.{◌≡◌, Result, Ok, Err, List, [], ◌∷◌, ℕ}
use Rattle.tokens.specs.Slots.{tokens_in, laid, Left}
use Rattle.tokens.specs.Answers.{Answer, done, refusal}
use Rattle.tokens.specs.Checks.{◌then◌, check_count, check_form, afterwards}
use Rattle.tokens.specs.declared.refusal.Refusal.{Refusal}
use Rattle.sanitizer.specs.Run.{sanitized}
use Rattle.sanitizer.specs.Exposed.{exposed}

-- the code's answers in the paper's numbers
abbrev pub paper : Result ℕ Refusal → Answer
paper (Ok n) = done (n ∷ [])
paper (Err r) = refusal r

-- the answer on n slots of a buffer: refusals 4 and 5, or the exposed count
unfoldable pub sanitize_answer : List ℕ → ℕ → Answer
sanitize_answer ws n = (check_count ws n then check_form (tokens_in ws n)) then done (exposed (sanitized (tokens_in ws n)) ∷ [])

-- the buffer after it: the sanitised tokens over its front, or as it was
unfoldable pub sanitize_buffer : List ℕ → ℕ → List ℕ
sanitize_buffer ws n = afterwards (sanitize_answer ws n) (laid (sanitized (tokens_in ws n)) ws) ws

-- the contract of `sanitize`
pub record Sanitizes (ws : List ℕ) (n : ℕ) (r : Result ℕ Refusal) (ws' : List ℕ) : Type 0 where
  pub answer : paper r ≡ sanitize_answer ws n
  pub buffer : ws' ≡ sanitize_buffer ws n

-- the contract of `sanitize_tokens`, on n slots that were accepted
pub record SanitizesTokens (ws : List ℕ) (n : ℕ) (r : ℕ) (ws' : List ℕ) : Type 0 where
  pub left : Left n ws ws' (sanitized (tokens_in ws n))
  pub count : r ≡ exposed (sanitized (tokens_in ws n))
