-- `shape::run` meets its contract. The invariant: all that was read has passed. Assumes nothing.
use Rattle.shape.proofs.Passing.{Since}
use Rattle.shape.proofs.run.Given as goal

abbrev pub invariant-loop : goal.invariant-loop
invariant-loop l = Since l.held
