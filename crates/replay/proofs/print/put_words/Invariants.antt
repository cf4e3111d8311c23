-- `replay::print::put_words` meets its contract. The invariant: eight bytes a word so far. Assumes nothing.
use Rattle.std.proofs.Common.{◌≡◌, ◌+◌, ◌*◌}
use Rattle.replay.proofs.print.put_words.Given as goal

abbrev pub invariant-loop-word : goal.invariant-loop-word
invariant-loop-word l = l.end ≡ l.at + l.word-index * 8
