-- No second answer meets the promise of `lex`.
-- paper_one        equal on paper, equal in code
-- lexes_one        two answers and two buffers that meet the promise are the same
-- contract_unique  the same of the contract, as the check reads it off the function's clauses
-- Assumes nothing.
use contract.Lifetimes.{Lfts}
use borrow.Fn.Kinds.{Dens, res_t, ended_of}
use denote.Triple.Clauses.{AtExit}
use mathlib.Core.Path.{◌≡◌, refl, ap, sym, ◌∙◌}
use mathlib.Core.List.{List}
use Prim.Native.Nat.{ℕ}
use lib.ListN.{get_or}
use Rattle.tokens.specs.declared.refusal.Refusal.TheVariants.{TextTooLong, NotUtf8, NoRoomTokens, BadCount, BadToken, CutChar, NoRoomOut}
use Rattle.tokens.specs.Answers.{Answer, done, refused}
use Rattle.tokens.proofs.Back.{back}
use Rattle.lexer.specs.Lexes.{paper, Lexes}
use Rattle.lexer.specs.declared.lex.Lexed.{Lexed}
use Rattle.tokens.specs.declared.refusal.Refusal.{Refusal}
use Rattle.std.specs.Prelude.{Result, Ok, Err}
use Rattle.lexer.proofs.lex.lex.Kinds as kinds
use Rattle.lexer.proofs.lex.lex.Reads as reads

-- an answer read back from the paper's numbers
lexed : Answer → Result Lexed Refusal
lexed (done ns) = Ok (record { tokens = get_or ns 0 0; stop = record { 0 = get_or ns 1 0 } })
lexed (refused k d) = Err (back (refused k d))

lexed_paper : (r : Result Lexed Refusal) → lexed (paper r) ≡ r
unfolding lexed back
lexed_paper (Ok l) = refl
lexed_paper (Err (TextTooLong n)) = refl
lexed_paper (Err (NotUtf8 at)) = refl
lexed_paper (Err (NoRoomTokens n)) = refl
lexed_paper (Err (BadCount n)) = refl
lexed_paper (Err (BadToken p)) = refl
lexed_paper (Err (CutChar p)) = refl
lexed_paper (Err (NoRoomOut n)) = refl

pub paper_one : {r s : Result Lexed Refusal} → paper r ≡ paper s → r ≡ s
paper_one {r} {s} e = sym (lexed_paper r) ∙ ap lexed e ∙ lexed_paper s

pub lexes_one : {text ws : List ℕ} {r₁ r₂ : Result Lexed Refusal} {b₁ b₂ : List ℕ} → Lexes text ws r₁ b₁ → Lexes text ws r₂ b₂ → (r₁ ≡ r₂) × (b₁ ≡ b₂)
lexes_one p q = (paper_one (p.answer ∙ sym q.answer), p.buffer ∙ sym q.buffer)

-- for whatever lifetimes and arguments, two results and two ways to leave the parameters that both meet the contract are one result, and
-- one content of the slots
pub contract_unique : (κs : Lfts 2) (a : Dens κs kinds.ps) (r₁ r₂ : (res_t kinds.r κs).Denot) (s₁ s₂ : AtExit (ended_of 2 kinds.ps kinds.r) κs)
    → reads.Post κs a r₁ s₁ → reads.Post κs a r₂ s₂ → (r₁ ≡ r₂) × (s₁.1.0.now ≡ s₂.1.0.now)
contract_unique κs a r₁ r₂ s₁ s₂ p q = lexes_one p q
