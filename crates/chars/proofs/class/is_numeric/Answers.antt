-- `chars::class::is_numeric` meets its contract: the table in the source is the list of specs/, which meets the rule. Assumes nothing.
use Rattle.chars.specs.Class.{numeric}
use Rattle.chars.specs.Pairs.{numeric_pairs}
use Rattle.chars.proofs.Rule.{numeric-meets}
use Rattle.chars.proofs.class.is_numeric.Goals as goal

pub lookup-requires : goal.lookup-requires
unfolding numeric_pairs
lookup-requires c = numeric-meets

-- the answer of the search, in the list of specs/
pub returns-else-c-lt128 : goal.returns-else-c-lt128
unfolding numeric numeric_pairs
returns-else-c-lt128 c = c.lookup.ensures
