-- `tokens::texts::fixed_text` meets its contract: the table's row, and past the table no kind has a text. Assumes nothing.
use mathlib.Core.Path.{sym}
use native.Mathlib.Omega.{arith}
use Rattle.std.proofs.Common.{Bor, List, ℕ}
use Rattle.tokens.proofs.Rows.{text_none, text_row}
use Rattle.tokens.proofs.texts.fixed_text.Goals as goal

pub returns-then-row-lt-KINDS : goal.returns-then-row-lt-KINDS
returns-then-row-lt-KINDS c = text_row (λ (t : Bor (List ℕ)). t.now) _ _ c.texts.ensures c.args.kind (omega arith)

pub returns-else-row-lt-KINDS : goal.returns-else-row-lt-KINDS
returns-else-row-lt-KINDS c = sym (text_none c.args.kind (omega arith))
