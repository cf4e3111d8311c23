-- Counting the characters of a text by the step.
-- Counting        those passed and those to come are all of them
-- counting_on     one more is passed; counting_done, no_more none to come
-- Assumes nothing.
use mathlib.Core.Path.{◌≡◌, refl, sym, ap}
use mathlib.Core.Logic.{inl, inr}
use mathlib.Core.List.{List, []}
use Prim.Native.Nat.{ℕ, ◌+◌, ◌≤◌}
use native.Mathlib.Omega.{arith}
use lib.ListN.{length, drop}
use Rattle.chars.specs.declared.offset.Offset.{Offset}
use Rattle.chars.specs.declared.utf8.Step.{Step}
use Rattle.chars.specs.declared.utf8.Step.TheVariants.{Char, Bad, End}
use Rattle.chars.specs.Utf8.{chars}
use Rattle.chars.specs.Steps.{step_at}
use Rattle.chars.proofs.Stepping.{Stepped, stepped_none}

pub record Counting (t : List ℕ) (count at : ℕ) : Type 0 where
  pub few : count ≤ at
  pub inside : at ≤ length t
  pub total : count + length (chars (drop at t)) ≡ length (chars t)

pub counting_on : {t : List ℕ} {count at s next : ℕ} → Counting t count at → Stepped t at s next → Counting t (count + 1) next
counting_on k step = record {
  few = omega (arith, k.few, step.on);
  inside = step.inside;
  total = omega (arith, k.total, ap length step.reads);
}

pub counting_done : {t : List ℕ} {count at : ℕ} → Counting t count at → chars (drop at t) ≡ [] → count ≡ length (chars t)
counting_done k e = omega (arith, k.total, ap length e)

-- none is to come where the step is to no character
pub no_more : (t : List ℕ) (at : Offset) (s : Step) → s ≡ step_at t at → ((x : ℕ) (next : Offset) → s ≡ Char x next → ⊥) → chars (drop at.0 t) ≡ []
no_more t at (Char x next) e f = absurd (f x next refl)
no_more t at Bad e f = stepped_none t at.0 (inl (sym e))
no_more t at End e f = stepped_none t at.0 (inr (sym e))
