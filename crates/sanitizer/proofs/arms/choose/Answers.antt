-- `sanitizer::arms::choose` meets its contract: the check finds all answers but those of the operators, whose arm names 31 kinds. Assumes nothing.
use Rattle.sanitizer.specs.Arms.{arm, does_of, rules}
use Rattle.sanitizer.proofs.Deciding.{join_arm, operator_arm}
use Rattle.sanitizer.proofs.arms.choose.Goals as goal

pub returns-in-JoinOn : goal.returns-in-JoinOn
unfolding arm does_of rules
returns-in-JoinOn c = rw c.in-JoinOn.is (join_arm c.args.kind c.in-Multiply.is)

pub returns-in_default : goal.returns-in_default
unfolding arm does_of rules
returns-in_default c = operator_arm c.args.state c.args.kind c.in-Multiply.is c.in_default.not-JoinOn
