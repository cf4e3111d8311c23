-- `chars::utf8::sequence` meets its contract. The invariant, `Joining`: the bits joined so far, with the bytes still to come, are
-- those of the whole sequence. Assumes nothing.
use Rattle.chars.proofs.Joining.{Joining}
use Rattle.chars.proofs.utf8.sequence.Given as goal

abbrev pub invariant-loop-b : goal.invariant-loop-b
invariant-loop-b l = Joining l.rest l.count l.lead l.x l.b-index
