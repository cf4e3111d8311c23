-- `chars::class::is_alphabetic` meets its contract: the table in the source is the list of specs/, which meets the rule. Assumes nothing.
use Rattle.chars.specs.Class.{alphabetic}
use Rattle.chars.specs.Pairs.{alphabetic_pairs}
use Rattle.chars.proofs.Rule.{alphabetic-meets}
use Rattle.chars.proofs.class.is_alphabetic.Goals as goal

pub lookup-requires : goal.lookup-requires
unfolding alphabetic_pairs
lookup-requires c = alphabetic-meets

-- the answer of the search, in the list of specs/
pub returns-else-common_script : goal.returns-else-common_script
unfolding alphabetic alphabetic_pairs
returns-else-common_script c = c.lookup.ensures
