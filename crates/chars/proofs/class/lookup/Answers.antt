-- `chars::class::lookup` meets its contract, for any table that meets the rule: the search by halving meets a pair that holds c, or none
-- does. Assumes nothing.
use mathlib.Core.Path.{◌∙◌}
use Rattle.std.proofs.Common.{rules, of_calls}
use Rattle.std.proofs.lemmas.Fn.{always_returns_same}
use Rattle.chars.proofs.Halving.{carried, side, found_at}
use Rattle.chars.proofs.class.lookup.Goals as goal

pub returns : goal.returns
returns c =
    let cut = c.as_chunks.ensures in
    let search_is = c.binary_search_by.ensures in
    c.is_ok.ensures.value
    ∙ found_at c.args.table.now c.args.c _ (carried _ c.requires) cut.front cut.front_len _ search_is.bound
    (search_is.position (side c.args.c) (always_returns_same _ _ _ (λ a r f k. search (rules, of_calls))))
