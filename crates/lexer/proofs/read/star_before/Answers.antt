-- `lexer::read::star_before` meets its contract. Assumes nothing.
use mathlib.Core.Path.{◌≡◌, refl}
use native.Mathlib.Omega.{arith}
use Prim.Native.Nat.{ℕ, zero, suc, ◌-◌}
use mathlib.Core.Bool.{not}
use mathlib.Core.List.{List}
use lib.Dec.{eqb}
use lib.ListN.{get_or}
use Rattle.scans.specs.Whole.{star_before}
use Rattle.lexer.proofs.read.star_before.Goals as goal

first : (t : List ℕ) (n : ℕ) → n ≡ 0 → not (eqb n 0) ≡ star_before t n
unfolding star_before
first t n e = rw e

later : (t : List ℕ) (n : ℕ) → (n ≡ 0 → ⊥) → eqb (get_or t (n - 1) 0) 42 ≡ star_before t n
unfolding star_before
later t zero h = absurd (h refl)
later t (suc n) h = let e : suc n - 1 ≡ n = omega arith in rw e

pub returns-else-i-ne0 : goal.returns-else-i-ne0
returns-else-i-ne0 c = first c.args.text.now c.args.at.0 (omega arith)

pub returns-then-i-ne0 : goal.returns-then-i-ne0
returns-then-i-ne0 c = later c.args.text.now c.args.at.0 c.if-i-ne0.true
