-- `lexer::read::read_unknown` meets its contract, by the step at the offset. Assumes nothing.
use mathlib.Core.Path.{sym, ◌∙◌}
use Rattle.chars.proofs.Stepping.{stepped, stepped_none}
use Rattle.lexer.proofs.Steps.{unknown_read, none_read}
use Rattle.lexer.proofs.read.read_unknown.Goals as goal

pub returns-in-Char : goal.returns-in-Char
returns-in-Char c =
    rw c.from.ensures (unknown_read c.args.text.now c.args.at.0 c.in-Char.c c.in-Char.next.0 (stepped c.args.text.now c.args.at.0 c.in-Char.c c.in-Char.next.0 (sym c.step_at.ensures ∙ c.in-Char.is)))

pub returns-in-Bad : goal.returns-in-Bad
returns-in-Bad c =
    none_read _ c.args.text.now c.args.at.0 (stepped_none c.args.text.now c.args.at.0 (rw c.step_at.ensures at c.in-Bad.is))
