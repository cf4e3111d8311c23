-- `lexer::lex::walk` meets its contract. The invariant: `Walking`, of which the n tokens read so far are the first of all, and those below `upto` are laid. Assumes nothing.
use Prim.Native.Nat.{◌-◌}
use lib.ListN.{length}
use Rattle.scans.specs.Ways.{pinned}
use Rattle.lexer.proofs.Turns.{Walking}
use Rattle.lexer.proofs.lex.walk.Given as goal

abbrev pub invariant-loop-at : goal.invariant-loop-at
invariant-loop-at l = Walking pinned l.text l.initial.slots l.upto l.slots l.at l.n l.state

abbrev pub decreases-loop-at : goal.decreases-loop-at
decreases-loop-at l = length l.text - l.at
