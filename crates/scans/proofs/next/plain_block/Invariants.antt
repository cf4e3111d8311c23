-- `scans::next::plain_block` meets its contract: where all bytes so far were counted, none of them is one of the two. Assumes nothing.
use mathlib.Core.Path.{◌≡◌}
use Prim.Native.Nat.{◌+◌, ◌≤◌}
use Rattle.scans.specs.Next.{NoneOf}
use Rattle.scans.proofs.next.plain_block.Given as goal

abbrev pub invariant-loop-i : goal.invariant-loop-i
invariant-loop-i l = (l.others ≤ l.i) × (l.others ≡ l.i → NoneOf l.a l.b l.text l.at (l.at + l.i))
