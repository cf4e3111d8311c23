-- `lexer::lex::lex` meets its contract: the refusals in their order, and then the reading. Assumes nothing.
use mathlib.Core.Path.{refl}
use Rattle.std.proofs.lemmas.Result.{err_from_is_err_and}
use Rattle.lexer.proofs.Answering.{lex_refused, lex_read, whole_text}
use Rattle.lexer.proofs.lex.lex.Goals as goal

pub returns-in_err-check_text : goal.returns-in_err-check_text
returns-in_err-check_text c =
    let p = err_from_is_err_and c.from_residual.result c.from_residual.ensures.1 in
    rw (p.1, p.2) (lex_refused c.args.text.now c.args.slots.now _ _ c.in_err-check_text.ensures refl)

pub lex_valid-requires : goal.lex_valid-requires
lex_valid-requires c = whole_text c.args.text.now c.in_ok-check_text.ensures

pub returns : goal.returns
returns c = lex_read c.args.text.now c.args.slots.now _ c.in_ok-check_text.ensures _ c.lex_valid.ensures
