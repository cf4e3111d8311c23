-- `tokens::texts::texts` meets its contract: the static has the definition's text of each kind, by computation. Assumes nothing.
use mathlib.Core.Path.{refl}
use Rattle.tokens.specs.Texts.{texts, text_of}
use Rattle.tokens.proofs.texts.texts.Goals as goal

pub returns : goal.returns
unfolding text_of texts
returns c = refl
