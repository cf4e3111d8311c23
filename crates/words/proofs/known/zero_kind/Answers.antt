-- `words::known::zero_kind` meets its contract: a text of another first byte is neither beginning. Assumes nothing.
use Rattle.std.proofs.Common.{sym, ◌∙◌}
use Rattle.words.proofs.Lookup.{unprefixed}
use Rattle.words.proofs.known.zero_kind.Goals as goal

pub returns-then-not-starts_with : goal.returns-then-not-starts_with
returns-then-not-starts_with c = unprefixed c.args.text.now (sym c.starts_with.ensures.value ∙ c.if-not-starts_with.true)
