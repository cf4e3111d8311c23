-- No second answer meets the sanitiser's promises.
-- paper_one             two answers with the same numbers are one
-- unique                one answer and one buffer meet `Sanitizes`
-- contract_unique       the same of the contract of `sanitize`, as the check reads it off the function
-- unique_tokens, tokens_unique   the same of the contract of `sanitize_tokens`
-- Assumes nothing.
use mathlib.Core.Path.{◌≡◌, refl, ap, sym, ◌∙◌}
use mathlib.Core.List.{List}
use Prim.Native.Nat.{ℕ, ◌≤◌}
use lib.ListN.{get_or}
use contract.Lifetimes.{Lfts}
use borrow.Fn.Kinds.{Dens, res_t, ended_of}
use denote.Triple.Clauses.{AtExit}
use Rattle.tokens.specs.Slots.{room}
use Rattle.tokens.specs.Answers.{Answer, done, refused, refusal}
use Rattle.tokens.specs.declared.refusal.Refusal.{Refusal}
use Rattle.tokens.specs.declared.refusal.Refusal.TheVariants.{TextTooLong, NotUtf8, NoRoomTokens, BadCount, BadToken, CutChar, NoRoomOut}
use Rattle.tokens.proofs.Storing.{left_laid}
use Rattle.tokens.proofs.Back.{back, back_refusal}
use Rattle.std.specs.Prelude.{Result, Ok, Err}
use Rattle.sanitizer.specs.Promise.{paper, Sanitizes, SanitizesTokens}
use Rattle.sanitizer.proofs.sanitize.Kinds as kinds
use Rattle.sanitizer.proofs.sanitize.Reads as reads
use Rattle.sanitizer.proofs.sanitize_tokens.Kinds as tokens-kinds
use Rattle.sanitizer.proofs.sanitize_tokens.Reads as tokens-reads

-- an answer read back from the paper's numbers
read : Answer → Result ℕ Refusal
read (done ns) = Ok (get_or ns 0 0)
read (refused k d) = Err (back (refused k d))

read_refusal : (r : Refusal) → read (refusal r) ≡ Err r
unfolding read
read_refusal (TextTooLong n) = ap Err (back_refusal (TextTooLong n))
read_refusal (NotUtf8 at) = ap Err (back_refusal (NotUtf8 at))
read_refusal (NoRoomTokens n) = ap Err (back_refusal (NoRoomTokens n))
read_refusal (BadCount n) = ap Err (back_refusal (BadCount n))
read_refusal (BadToken p) = ap Err (back_refusal (BadToken p))
read_refusal (CutChar p) = ap Err (back_refusal (CutChar p))
read_refusal (NoRoomOut n) = ap Err (back_refusal (NoRoomOut n))

read_paper : (r : Result ℕ Refusal) → read (paper r) ≡ r
unfolding read
read_paper (Ok n) = refl
read_paper (Err r) = read_refusal r

pub paper_one : {r s : Result ℕ Refusal} → paper r ≡ paper s → r ≡ s
paper_one {r} {s} e = sym (read_paper r) ∙ ap read e ∙ read_paper s

pub unique : {ws : List ℕ} {n : ℕ} {r s : Result ℕ Refusal} {a b : List ℕ} → Sanitizes ws n r a → Sanitizes ws n s b → (r ≡ s) × (a ≡ b)
unique p q = (paper_one (p.answer ∙ sym q.answer), p.buffer ∙ sym q.buffer)

-- for whatever lifetimes and arguments, two results and two ways to leave the buffer that both meet the contract are one result and one content
pub contract_unique :
    (κs : Lfts 1) (a : Dens κs kinds.ps) (r₁ r₂ : (res_t kinds.r κs).Denot) (s₁ s₂ : AtExit (ended_of 1 kinds.ps kinds.r) κs)
    → reads.Post κs a r₁ s₁ → reads.Post κs a r₂ s₂ → (r₁ ≡ r₂) × (s₁.0.now ≡ s₂.0.now)
contract_unique κs a r₁ r₂ s₁ s₂ p q = unique p q

pub unique_tokens : {ws : List ℕ} {n r s : ℕ} {a b : List ℕ} → n ≤ room ws → SanitizesTokens ws n r a → SanitizesTokens ws n s b → (r ≡ s) × (a ≡ b)
unique_tokens h p q = (p.count ∙ sym q.count, left_laid h p.left ∙ sym (left_laid h q.left))

pub tokens_unique :
    (κs : Lfts 1) (a : Dens κs tokens-kinds.ps) (r₁ r₂ : (res_t tokens-kinds.r κs).Denot) (s₁ s₂ : AtExit (ended_of 1 tokens-kinds.ps tokens-kinds.r) κs)
    → tokens-reads.Pre κs a → tokens-reads.Post κs a r₁ s₁ → tokens-reads.Post κs a r₂ s₂ → (r₁ ≡ r₂) × (s₁.0.now ≡ s₂.0.now)
tokens_unique κs a r₁ r₂ s₁ s₂ h p q = unique_tokens h.0 p q
