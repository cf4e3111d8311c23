-- `chars::utf8::step_at` meets its contract: ASCII is its own law; above it the scalar value, or none, tells the step. Assumes nothing.
use mathlib.Core.Path.{sym, ap, ◌∙◌}
use Prim.Native.Nat.{ℕ, ◌+◌}
use native.Mathlib.Omega.{arith}
use Rattle.chars.specs.declared.utf8.Step.TheVariants.{Char}
use Rattle.chars.specs.Steps.{offset}
use Rattle.chars.proofs.Stepping.{stepped, step_end, step-ascii, step_bad, step_char}
use Rattle.chars.proofs.utf8.step_at.Goals as goal

pub returns-in_default : goal.returns-in_default
returns-in_default c = step_end _ _ c.in_default.ensures.lookup.3

pub returns-then-a-lt128 : goal.returns-then-a-lt128
returns-then-a-lt128 c =
    let a = c.in-Some.ensures.lookup.3 in
    ap (λ (v : ℕ). Char v (offset (c.args.offset.0 + 1))) (a.1 0) ∙ step-ascii _ _ a.0 (omega (arith, a.1 0))

pub overflow_add-result-in-Some-scalar_at : goal.overflow_add-result-in-Some-scalar_at
overflow_add-result-in-Some-scalar_at c =
    let a = c.in-Some.ensures.lookup.3 in
    omega (arith, (stepped _ _ _ _ (sym (step_char _ _ a.0 _ (sym c.in-Some-scalar_at.is ∙ c.scalar_at.ensures)))).inside)

pub returns-in-Some-scalar_at : goal.returns-in-Some-scalar_at
returns-in-Some-scalar_at c =
    let a = c.in-Some.ensures.lookup.3 in
    ap (λ (w : ℕ). Char c.in-Some-scalar_at.x (offset (c.args.offset.0 + w))) c.width_of.ensures
    ∙ step_char _ _ a.0 _ (sym c.in-Some-scalar_at.is ∙ c.scalar_at.ensures)

pub returns-in-None : goal.returns-in-None
returns-in-None c =
    let a = c.in-Some.ensures.lookup.3 in
    step_bad _ _ a.0 (sym c.in-None.is ∙ c.scalar_at.ensures)
