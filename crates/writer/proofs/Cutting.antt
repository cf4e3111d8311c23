-- Cut characters by facts of numbers.
-- cuts_kind   a kind that carries no offsets cuts nothing
-- Assumes nothing.
use mathlib.Core.Path.{◌≡◌}
use mathlib.Core.Bool.{false}
use mathlib.Core.List.{List}
use Prim.Native.Nat.{ℕ}
use Rattle.tokens.specs.declared.slot.Slot.{Slot}
use Rattle.tokens.specs.Formed.{carries_offsets}
use Rattle.writer.specs.Written.{cuts}

module _ (text : List ℕ) (t : Slot) where
  pub cuts_kind : carries_offsets t.kind ≡ false → cuts text t ≡ false
  unfolding cuts
  cuts_kind h = simp h
