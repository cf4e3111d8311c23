-- No second answer: two counts that both meet the contract of `hay_count`, as the checker reads it off its clauses, are the same; and every
-- text is taken.
-- hay_count_once, hay_count_open
-- Assumes nothing.
use contract.Lifetimes.{Lfts}
use borrow.Fn.Kinds.{Dens, res_t, ended_of}
use denote.Triple.Clauses.{AtExit}
use mathlib.Core.Path.{◌≡◌, sym, ◌∙◌}
use Rattle.chars_b.proofs.hay_count.Kinds as hay-count-kinds
use Rattle.chars_b.proofs.hay_count.Reads as hay-count-reads

-- `hay_count(text)`
pub hay_count_once :
    (κs : Lfts 1) (a : Dens κs hay-count-kinds.ps) (r₁ r₂ : (res_t hay-count-kinds.r κs).Denot) (s₁ s₂ : AtExit (ended_of 1 hay-count-kinds.ps hay-count-kinds.r) κs)
    → hay-count-reads.Post κs a r₁ s₁ → hay-count-reads.Post κs a r₂ s₂ → r₁ ≡ r₂
hay_count_once κs a r₁ r₂ s₁ s₂ p q = p ∙ sym q

pub hay_count_open : (κs : Lfts 1) (a : Dens κs hay-count-kinds.ps) → hay-count-reads.Pre κs a
hay_count_open κs a = tt
