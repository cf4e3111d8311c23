-- No second answer meets the writer's promise.
-- paper_one        equal on paper, equal in code
-- writes_one       two answers and two buffers that meet the promise are the same
-- contract_unique  the same of the contract, as the check reads it off the function's clauses
-- Assumes nothing.
use contract.Lifetimes.{Lfts}
use borrow.Fn.Kinds.{Dens, res_t, ended_of}
use denote.Triple.Clauses.{AtExit}
use mathlib.Core.Path.{◌≡◌, refl, ap, sym, ◌∙◌}
use mathlib.Core.List.{List}
use Prim.Native.Nat.{ℕ}
use lib.ListN.{get_or}
use Rattle.tokens.specs.declared.refusal.Refusal.{Refusal}
use Rattle.tokens.specs.declared.refusal.Refusal.TheVariants.{TextTooLong, NotUtf8, NoRoomTokens, BadCount, BadToken, CutChar, NoRoomOut}
use Rattle.tokens.specs.Answers.{Answer, done, refused}
use Rattle.tokens.proofs.Back.{back}
use Rattle.writer.specs.Promise.{paper, Writes}
use Rattle.std.specs.Prelude.{Result, Ok, Err}
use Rattle.writer.proofs.write.Kinds as kinds
use Rattle.writer.proofs.write.Reads as reads

-- an answer read back from the paper's numbers
wrote : Answer → Result ℕ Refusal
wrote (done ns) = Ok (get_or ns 0 0)
wrote (refused k d) = Err (back (refused k d))

wrote-paper : (r : Result ℕ Refusal) → wrote (paper r) ≡ r
unfolding wrote back
wrote-paper (Ok n) = refl
wrote-paper (Err (TextTooLong n)) = refl
wrote-paper (Err (NotUtf8 at)) = refl
wrote-paper (Err (NoRoomTokens n)) = refl
wrote-paper (Err (BadCount n)) = refl
wrote-paper (Err (BadToken p)) = refl
wrote-paper (Err (CutChar p)) = refl
wrote-paper (Err (NoRoomOut n)) = refl

pub paper_one : {r s : Result ℕ Refusal} → paper r ≡ paper s → r ≡ s
paper_one {r} {s} e = sym (wrote-paper r) ∙ ap wrote e ∙ wrote-paper s

pub writes_one : {text ws : List ℕ} {n : ℕ} {out : List ℕ} {r₁ r₂ : Result ℕ Refusal} {b₁ b₂ : List ℕ}
    → Writes text ws n out r₁ b₁ → Writes text ws n out r₂ b₂ → (r₁ ≡ r₂) × (b₁ ≡ b₂)
writes_one p q = (paper_one (p.answer ∙ sym q.answer), p.buffer ∙ sym q.buffer)

-- for whatever lifetimes and arguments, two results and two ways to leave the parameters that both meet the contract are one result, and
-- one content of the output
pub contract_unique : (κs : Lfts 3) (a : Dens κs kinds.ps) (r₁ r₂ : (res_t kinds.r κs).Denot) (s₁ s₂ : AtExit (ended_of 3 kinds.ps kinds.r) κs)
    → reads.Post κs a r₁ s₁ → reads.Post κs a r₂ s₂ → (r₁ ≡ r₂) × (s₁.1.1.1.0.now ≡ s₂.1.1.1.0.now)
contract_unique κs a r₁ r₂ s₁ s₂ p q = writes_one p q
