-- `chars::utf8::scalar_at` meets its contract: one law for each lead byte. Assumes nothing.
use mathlib.Core.Path.{◌≡◌, ◌∙◌}
use mathlib.Core.List.{List}
use Prim.Native.Nat.{ℕ, ◌-◌}
use native.Mathlib.Omega.{arith}
use lib.ListN.{length, take, drop, length-drop}
use Rattle.std.proofs.lemmas.List.{take_all}
use Rattle.chars.proofs.Fronts.{front_stray, front_none, scalar_none, scalar_two, scalar_three, scalar_four}
use Rattle.chars.proofs.utf8.scalar_at.Goals as goal

-- the rest of a text, as the code cuts it
rest : (t : List ℕ) (n : ℕ) → take (length t - n) (drop n t) ≡ drop n t
rest t n = take_all (length t - n) (drop n t) (omega (arith, length-drop n t))

pub returns-in-192-to-223 : goal.returns-in-192-to-223
returns-in-192-to-223 c =
    rw rest at c.sequence.ensures ∙ scalar_two c.args.text.now c.args.at (omega arith) (omega arith) (omega arith)

pub returns-in-224-to-239 : goal.returns-in-224-to-239
returns-in-224-to-239 c =
    rw rest at c.sequence-in-224-to-239.ensures ∙ scalar_three c.args.text.now c.args.at (omega arith) (omega arith) (omega arith)

pub returns-in-240-to-247 : goal.returns-in-240-to-247
returns-in-240-to-247 c =
    rw rest at c.sequence-in-240-to-247.ensures ∙ scalar_four c.args.text.now c.args.at (omega arith) (omega arith) (omega arith)

pub returns-in_default : goal.returns-in_default
returns-in_default c =
    scalar_none c.args.text.now c.args.at (omega arith) (front_stray c.args.text.now c.args.at (omega arith) (omega arith) (omega arith))

pub returns-in_default-2 : goal.returns-in_default-2
returns-in_default-2 c =
    scalar_none c.args.text.now c.args.at (omega arith) (front_none c.args.text.now c.args.at (omega arith) (omega arith))
