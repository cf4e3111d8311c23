-- No second answer: for each public function two answers, and two sets of buffers, that both meet its contract are the same. Each is stated
-- against the contract as the checker reads it off the function's clauses: for whatever lifetimes and arguments, two results and two ways to
-- leave the parameters. There is no exception.
-- lex_once, sanitize_once, write_once, string_once, content_once
-- Assumes nothing.
use contract.Lifetimes.{Lfts}
use borrow.Fn.Kinds.{Dens, res_t, ended_of}
use denote.Triple.Clauses.{AtExit}
use mathlib.Core.Path.{◌≡◌, sym, ◌∙◌}
use Rattle.lexer.proofs.Unique.{lexes_one}
use Rattle.sanitizer.proofs.Unique.{unique}
use Rattle.writer.proofs.Unique.{writes_one}
use Rattle.sql_lexer.proofs.Unique.{strings_one}
use Rattle.sql_lexer.proofs.lex.Kinds as lex-kinds
use Rattle.sql_lexer.proofs.lex.Reads as lex-reads
use Rattle.sql_lexer.proofs.sanitize.Kinds as sanitize-kinds
use Rattle.sql_lexer.proofs.sanitize.Reads as sanitize-reads
use Rattle.sql_lexer.proofs.write.Kinds as write-kinds
use Rattle.sql_lexer.proofs.write.Reads as write-reads
use Rattle.sql_lexer.proofs.sanitize_string.Kinds as string-kinds
use Rattle.sql_lexer.proofs.sanitize_string.Reads as string-reads
use Rattle.sql_lexer.proofs.buffer_content.Kinds as content-kinds
use Rattle.sql_lexer.proofs.buffer_content.Reads as content-reads

pub lex_once :
    (κs : Lfts 2) (a : Dens κs lex-kinds.ps) (r₁ r₂ : (res_t lex-kinds.r κs).Denot) (s₁ s₂ : AtExit (ended_of 2 lex-kinds.ps lex-kinds.r) κs)
    → lex-reads.Post κs a r₁ s₁ → lex-reads.Post κs a r₂ s₂ → (r₁ ≡ r₂) × (s₁.1.0.now ≡ s₂.1.0.now)
lex_once κs a r₁ r₂ s₁ s₂ p q = lexes_one p q

pub sanitize_once :
    (κs : Lfts 1) (a : Dens κs sanitize-kinds.ps) (r₁ r₂ : (res_t sanitize-kinds.r κs).Denot) (s₁ s₂ : AtExit (ended_of 1 sanitize-kinds.ps sanitize-kinds.r) κs)
    → sanitize-reads.Post κs a r₁ s₁ → sanitize-reads.Post κs a r₂ s₂ → (r₁ ≡ r₂) × (s₁.0.now ≡ s₂.0.now)
sanitize_once κs a r₁ r₂ s₁ s₂ p q = unique p q

pub write_once :
    (κs : Lfts 3) (a : Dens κs write-kinds.ps) (r₁ r₂ : (res_t write-kinds.r κs).Denot) (s₁ s₂ : AtExit (ended_of 3 write-kinds.ps write-kinds.r) κs)
    → write-reads.Post κs a r₁ s₁ → write-reads.Post κs a r₂ s₂ → (r₁ ≡ r₂) × (s₁.1.1.1.0.now ≡ s₂.1.1.1.0.now)
write_once κs a r₁ r₂ s₁ s₂ p q = writes_one p q

pub string_once :
    (κs : Lfts 3) (a : Dens κs string-kinds.ps) (r₁ r₂ : (res_t string-kinds.r κs).Denot) (s₁ s₂ : AtExit (ended_of 3 string-kinds.ps string-kinds.r) κs)
    → string-reads.Post κs a r₁ s₁ → string-reads.Post κs a r₂ s₂ → (r₁ ≡ r₂) × (s₁.1.0.now ≡ s₂.1.0.now) × (s₁.1.1.0.now ≡ s₂.1.1.0.now)
string_once κs a r₁ r₂ s₁ s₂ p q = strings_one p q

-- it lends nothing to write in: the part that is handed out is one, by its bytes and by where it points
pub content_once :
    (κs : Lfts 1) (a : Dens κs content-kinds.ps) (r₁ r₂ : (res_t content-kinds.r κs).Denot) (s₁ s₂ : AtExit (ended_of 1 content-kinds.ps content-kinds.r) κs)
    → content-reads.Post κs a r₁ s₁ → content-reads.Post κs a r₂ s₂ → (r₁.now ≡ r₂.now) × (r₁.ref_ptr ≡ r₂.ref_ptr)
content_once κs a r₁ r₂ s₁ s₂ p q = (p.bytes ∙ sym q.bytes, p.points ∙ sym q.points)
