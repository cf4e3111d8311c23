-- No second answer: for each function two answers that both meet its contract are the same; and it asks nothing of its arguments. Both are
-- stated against the contract as the checker reads it off the function's clauses, for whatever lifetimes and arguments. No function here is
-- lent a buffer to write in.
-- hay_is_alphabetic_once, hay_is_numeric_once, hay_valid_up_to_once, hay_step_once   two answers are the same
-- hay_is_alphabetic_open, hay_is_numeric_open, hay_valid_up_to_open, hay_step_open   every input is taken
-- Assumes nothing.
use contract.Lifetimes.{Lfts}
use borrow.Fn.Kinds.{Dens, res_t, ended_of}
use denote.Triple.Clauses.{AtExit}
use mathlib.Core.Path.{◌≡◌, sym, ◌∙◌}
use Rattle.chars_c.proofs.hay_is_alphabetic.Kinds as hay-is-alphabetic-kinds
use Rattle.chars_c.proofs.hay_is_alphabetic.Reads as hay-is-alphabetic-reads
use Rattle.chars_c.proofs.hay_is_numeric.Kinds as hay-is-numeric-kinds
use Rattle.chars_c.proofs.hay_is_numeric.Reads as hay-is-numeric-reads
use Rattle.chars_c.proofs.hay_valid_up_to.Kinds as hay-valid-up-to-kinds
use Rattle.chars_c.proofs.hay_valid_up_to.Reads as hay-valid-up-to-reads
use Rattle.chars_c.proofs.hay_step.Kinds as hay-step-kinds
use Rattle.chars_c.proofs.hay_step.Reads as hay-step-reads

-- `hay_is_alphabetic(c)`
pub hay_is_alphabetic_once :
    (κs : Lfts 0) (a : Dens κs hay-is-alphabetic-kinds.ps) (r₁ r₂ : (res_t hay-is-alphabetic-kinds.r κs).Denot) (s₁ s₂ : AtExit (ended_of 0 hay-is-alphabetic-kinds.ps hay-is-alphabetic-kinds.r) κs)
    → hay-is-alphabetic-reads.Post κs a r₁ s₁ → hay-is-alphabetic-reads.Post κs a r₂ s₂ → r₁ ≡ r₂
hay_is_alphabetic_once κs a r₁ r₂ s₁ s₂ p q = p ∙ sym q

pub hay_is_alphabetic_open : (κs : Lfts 0) (a : Dens κs hay-is-alphabetic-kinds.ps) → hay-is-alphabetic-reads.Pre κs a
hay_is_alphabetic_open κs a = tt

-- `hay_is_numeric(c)`
pub hay_is_numeric_once :
    (κs : Lfts 0) (a : Dens κs hay-is-numeric-kinds.ps) (r₁ r₂ : (res_t hay-is-numeric-kinds.r κs).Denot) (s₁ s₂ : AtExit (ended_of 0 hay-is-numeric-kinds.ps hay-is-numeric-kinds.r) κs)
    → hay-is-numeric-reads.Post κs a r₁ s₁ → hay-is-numeric-reads.Post κs a r₂ s₂ → r₁ ≡ r₂
hay_is_numeric_once κs a r₁ r₂ s₁ s₂ p q = p ∙ sym q

pub hay_is_numeric_open : (κs : Lfts 0) (a : Dens κs hay-is-numeric-kinds.ps) → hay-is-numeric-reads.Pre κs a
hay_is_numeric_open κs a = tt

-- `hay_valid_up_to(text)`
pub hay_valid_up_to_once :
    (κs : Lfts 1) (a : Dens κs hay-valid-up-to-kinds.ps) (r₁ r₂ : (res_t hay-valid-up-to-kinds.r κs).Denot) (s₁ s₂ : AtExit (ended_of 1 hay-valid-up-to-kinds.ps hay-valid-up-to-kinds.r) κs)
    → hay-valid-up-to-reads.Post κs a r₁ s₁ → hay-valid-up-to-reads.Post κs a r₂ s₂ → r₁ ≡ r₂
hay_valid_up_to_once κs a r₁ r₂ s₁ s₂ p q = p ∙ sym q

pub hay_valid_up_to_open : (κs : Lfts 1) (a : Dens κs hay-valid-up-to-kinds.ps) → hay-valid-up-to-reads.Pre κs a
hay_valid_up_to_open κs a = tt

-- `hay_step(text, at)`
pub hay_step_once :
    (κs : Lfts 1) (a : Dens κs hay-step-kinds.ps) (r₁ r₂ : (res_t hay-step-kinds.r κs).Denot) (s₁ s₂ : AtExit (ended_of 1 hay-step-kinds.ps hay-step-kinds.r) κs)
    → hay-step-reads.Post κs a r₁ s₁ → hay-step-reads.Post κs a r₂ s₂ → r₁ ≡ r₂
hay_step_once κs a r₁ r₂ s₁ s₂ p q = p ∙ sym q

pub hay_step_open : (κs : Lfts 1) (a : Dens κs hay-step-kinds.ps) → hay-step-reads.Pre κs a
hay_step_open κs a = tt
