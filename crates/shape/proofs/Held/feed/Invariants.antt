-- `shape::Held::feed` meets its contract. The invariant: the characters passed are taken. Assumes nothing.
use Rattle.std.proofs.Common.{take}
use Rattle.shape.specs.Passes.{Passes}
use Rattle.shape.proofs.Held.feed.Given as goal

abbrev pub invariant-loop-c : goal.invariant-loop-c
invariant-loop-c l = Passes (take l.c-index l.chunk) l.initial.self l.self
