-- `lexer::rule::numeric_stands` meets its contract, by the step at the offset. Assumes nothing.
use mathlib.Core.Path.{sym, ◌∙◌}
use Rattle.chars.proofs.Stepping.{stepped, stepped_none}
use Rattle.lexer.proofs.rule.numeric_stands.Goals as goal

pub returns-in-Char : goal.returns-in-Char
returns-in-Char c =
    let p = stepped c.args.text.now c.args.at.0 c.in-Char.c c.in-Char.field-1.0 (sym c.step_at.ensures ∙ c.in-Char.is) in
    rw p.reads c.is_numeric.ensures

pub returns-in-Bad : goal.returns-in-Bad
returns-in-Bad c = rw (stepped_none c.args.text.now c.args.at.0 (rw c.step_at.ensures at c.in-Bad.is))
