-- No second answer meets the promise of the one call. The crate demands states it against the contract itself.
-- paper_one        equal on paper, equal in code
-- strings_one      two answers and two pairs of buffers that meet the promise are the same
-- Assumes nothing.
use mathlib.Core.Path.{◌≡◌, refl, ap, sym, ◌∙◌}
use mathlib.Core.List.{List}
use Prim.Native.Nat.{ℕ}
use lib.ListN.{get_or}
use Rattle.tokens.specs.declared.refusal.Refusal.TheVariants.{TextTooLong, NotUtf8, NoRoomTokens, BadCount, BadToken, CutChar, NoRoomOut}
use Rattle.tokens.specs.Answers.{Answer, done, refused}
use Rattle.tokens.proofs.Back.{back}
use Rattle.sql_lexer.specs.Promise.{paper, SanitizesString}
use Rattle.std.specs.Prelude.{Result, Ok, Err}
use Rattle.tokens.specs.declared.refusal.Refusal.{Refusal}
use Rattle.sql_lexer.specs.declared.Figures.{Figures}

-- an answer read back from the paper's numbers
read : Answer → Result Figures Refusal
read (done ns) = Ok (record { tokens = get_or ns 0 0; stop = record { 0 = get_or ns 1 0 }; exposed = get_or ns 2 0; length = get_or ns 3 0 })
read (refused k d) = Err (back (refused k d))

read_paper : (r : Result Figures Refusal) → read (paper r) ≡ r
unfolding read back
read_paper (Ok f) = refl
read_paper (Err (TextTooLong n)) = refl
read_paper (Err (NotUtf8 at)) = refl
read_paper (Err (NoRoomTokens n)) = refl
read_paper (Err (BadCount n)) = refl
read_paper (Err (BadToken p)) = refl
read_paper (Err (CutChar p)) = refl
read_paper (Err (NoRoomOut n)) = refl

pub paper_one : {r s : Result Figures Refusal} → paper r ≡ paper s → r ≡ s
paper_one {r} {s} e = sym (read_paper r) ∙ ap read e ∙ read_paper s

pub strings_one : {text ws out : List ℕ} {r₁ r₂ : Result Figures Refusal} {a₁ a₂ b₁ b₂ : List ℕ}
    → SanitizesString text ws out r₁ a₁ b₁ → SanitizesString text ws out r₂ a₂ b₂ → (r₁ ≡ r₂) × (a₁ ≡ a₂) × (b₁ ≡ b₂)
strings_one p q =
    (paper_one (p.answer ∙ sym q.answer), p.buffers.0 ∙ sym q.buffers.0, p.buffers.1 ∙ sym q.buffers.1)
