-- No second answer: for each exported function two answers, and two sets of buffers, that both meet its contract are the same; and it asks nothing of
-- its arguments. Both are stated against the contract as the checker reads it off the function's clauses, for whatever lifetimes and
-- arguments. There is no exception.
-- hay_lex_once, hay_sanitize_once, hay_write_once, hay_sanitize_string_once   two answers and what they leave are the same
-- hay_lex_open, hay_sanitize_open, hay_write_open, hay_sanitize_string_open   every input is taken
-- Assumes nothing.
use contract.Lifetimes.{Lfts}
use borrow.Fn.Kinds.{Dens, res_t, ended_of}
use denote.Triple.Clauses.{AtExit}
use mathlib.Core.Path.{◌≡◌, sym, ◌∙◌}
use Rattle.hayrumble_c.proofs.hay_lex.Kinds as hay-lex-kinds
use Rattle.hayrumble_c.proofs.hay_lex.Reads as hay-lex-reads
use Rattle.hayrumble_c.proofs.hay_sanitize.Kinds as hay-sanitize-kinds
use Rattle.hayrumble_c.proofs.hay_sanitize.Reads as hay-sanitize-reads
use Rattle.hayrumble_c.proofs.hay_write.Kinds as hay-write-kinds
use Rattle.hayrumble_c.proofs.hay_write.Reads as hay-write-reads
use Rattle.hayrumble_c.proofs.hay_sanitize_string.Kinds as hay-sanitize-string-kinds
use Rattle.hayrumble_c.proofs.hay_sanitize_string.Reads as hay-sanitize-string-reads

-- `hay_lex(text, slots)`
pub hay_lex_once :
    (κs : Lfts 2) (a : Dens κs hay-lex-kinds.ps) (r₁ r₂ : (res_t hay-lex-kinds.r κs).Denot) (s₁ s₂ : AtExit (ended_of 2 hay-lex-kinds.ps hay-lex-kinds.r) κs)
    → hay-lex-reads.Post κs a r₁ s₁ → hay-lex-reads.Post κs a r₂ s₂ → (r₁ ≡ r₂) × (s₁.1.0.now ≡ s₂.1.0.now)
hay_lex_once κs a r₁ r₂ s₁ s₂ p q = (p.0 ∙ sym q.0, p.1 ∙ sym q.1)

pub hay_lex_open : (κs : Lfts 2) (a : Dens κs hay-lex-kinds.ps) → hay-lex-reads.Pre κs a
hay_lex_open κs a = tt

-- `hay_sanitize(slots, count)`
pub hay_sanitize_once :
    (κs : Lfts 1) (a : Dens κs hay-sanitize-kinds.ps) (r₁ r₂ : (res_t hay-sanitize-kinds.r κs).Denot) (s₁ s₂ : AtExit (ended_of 1 hay-sanitize-kinds.ps hay-sanitize-kinds.r) κs)
    → hay-sanitize-reads.Post κs a r₁ s₁ → hay-sanitize-reads.Post κs a r₂ s₂ → (r₁ ≡ r₂) × (s₁.0.now ≡ s₂.0.now)
hay_sanitize_once κs a r₁ r₂ s₁ s₂ p q = (p.0 ∙ sym q.0, p.1 ∙ sym q.1)

pub hay_sanitize_open : (κs : Lfts 1) (a : Dens κs hay-sanitize-kinds.ps) → hay-sanitize-reads.Pre κs a
hay_sanitize_open κs a = tt

-- `hay_write(text, slots, count, out)`
pub hay_write_once :
    (κs : Lfts 3) (a : Dens κs hay-write-kinds.ps) (r₁ r₂ : (res_t hay-write-kinds.r κs).Denot) (s₁ s₂ : AtExit (ended_of 3 hay-write-kinds.ps hay-write-kinds.r) κs)
    → hay-write-reads.Post κs a r₁ s₁ → hay-write-reads.Post κs a r₂ s₂ → (r₁ ≡ r₂) × (s₁.1.1.1.0.now ≡ s₂.1.1.1.0.now)
hay_write_once κs a r₁ r₂ s₁ s₂ p q = (p.0 ∙ sym q.0, p.1 ∙ sym q.1)

pub hay_write_open : (κs : Lfts 3) (a : Dens κs hay-write-kinds.ps) → hay-write-reads.Pre κs a
hay_write_open κs a = tt

-- `hay_sanitize_string(text, slots, out)`
pub hay_sanitize_string_once :
    (κs : Lfts 3) (a : Dens κs hay-sanitize-string-kinds.ps) (r₁ r₂ : (res_t hay-sanitize-string-kinds.r κs).Denot) (s₁ s₂ : AtExit (ended_of 3 hay-sanitize-string-kinds.ps hay-sanitize-string-kinds.r) κs)
    → hay-sanitize-string-reads.Post κs a r₁ s₁ → hay-sanitize-string-reads.Post κs a r₂ s₂ → (r₁ ≡ r₂) × (s₁.1.0.now ≡ s₂.1.0.now) × (s₁.1.1.0.now ≡ s₂.1.1.0.now)
hay_sanitize_string_once κs a r₁ r₂ s₁ s₂ p q = (p.0 ∙ sym q.0, p.1.0 ∙ sym q.1.0, p.1.1 ∙ sym q.1.1)

pub hay_sanitize_string_open : (κs : Lfts 3) (a : Dens κs hay-sanitize-string-kinds.ps) → hay-sanitize-string-reads.Pre κs a
hay_sanitize_string_open κs a = tt
