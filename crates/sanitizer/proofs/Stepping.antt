-- Some turns, and the rest of the run after them.
-- after                        what n turns leave
-- after_ge, length_after       it goes on, and the list stays as long
-- run_enough                   more turns than there are places left change nothing
-- run_after                    the run is the run after n turns, where these stay within the list
-- sanitized_after              so is the sanitised list
-- Assumes nothing.
use mathlib.Core.Path.{◌≡◌, refl, sym, ap, ◌∙◌}
use mathlib.Core.List.{List}
use Prim.Native.Nat.{ℕ, zero, suc, ◌+◌, ◌≤◌, ◌<◌}
use native.Mathlib.Nat.{suc-add, zero-add}
use native.Mathlib.Omega.{arith}
use native.Mathlib.Decide.{dec_lt}
use lib.ListN.{length}
use Rattle.tokens.specs.declared.slot.Slot.{Slot}
use Rattle.sanitizer.specs.declared.arms.State.{State}
use Rattle.sanitizer.specs.declared.arms.State.TheVariants.{Default}
use Rattle.sanitizer.specs.Run.{Step, step, turn, run, sanitized}
use Rattle.sanitizer.proofs.Keeping.{length-turn}
use Rattle.sanitizer.proofs.Turning.{run_done, run_more}
use Rattle.sanitizer.proofs.Unread.{next_later}

unfoldable pub after : ℕ → List Slot → ℕ → State → Step
after zero ts p s = step ts p s
after (suc n) ts p s = after n (turn ts p s).left (turn ts p s).next (turn ts p s).state

pub after_ge : (n : ℕ) (ts : List Slot) (p : ℕ) (s : State) → p ≤ (after n ts p s).next
unfolding after
after_ge zero ts p s = omega arith
after_ge (suc n) ts p s =
    let t = turn ts p s in
    let one = after_ge n t.left t.next t.state in omega (arith, next_later ts p s)

pub length_after : (n : ℕ) (ts : List Slot) (p : ℕ) (s : State) → length (after n ts p s).left ≡ length ts
unfolding after
length_after zero ts p s = refl
length_after (suc n) ts p s =
    let t = turn ts p s in length_after n t.left t.next t.state ∙ length-turn ts p s

pub run_enough : (m m' : ℕ) (ts : List Slot) (p : ℕ) (s : State) → length ts ≤ p + m → length ts ≤ p + m' → run m ts p s ≡ run m' ts p s
run_enough zero m' ts p s h h' =
    run_done zero ts p s (omega arith) ∙ sym (run_done m' ts p s (omega arith))
run_enough (suc m) zero ts p s h h' =
    run_done (suc m) ts p s (omega arith) ∙ sym (run_done zero ts p s (omega arith))
run_enough (suc m) (suc m') ts p s h h' = go (dec_lt p (length ts)) (run_enough m m')
  where
    go : Dec (p < length ts)
        → ((us : List Slot) (q : ℕ) (z : State) → length us ≤ q + m → length us ≤ q + m' → run m us q z ≡ run m' us q z)
        → run (suc m) ts p s ≡ run (suc m') ts p s
    go (yes l) ih =
        let t = turn ts p s in
        run_more m ts p s l
        ∙ ih t.left t.next t.state (omega (arith, length-turn ts p s, next_later ts p s)) (omega (arith, length-turn ts p s, next_later ts p s))
        ∙ sym (run_more m' ts p s l)
    go (no l) ih = run_done (suc m) ts p s (omega arith) ∙ sym (run_done (suc m') ts p s (omega arith))

pub run_after : (n m : ℕ) (ts : List Slot) (p : ℕ) (s : State) → (after n ts p s).next ≤ length ts
    → run (n + m) ts p s ≡ run m (after n ts p s).left (after n ts p s).next (after n ts p s).state
unfolding after
run_after zero m ts p s h = ap (λ (k : ℕ). run k ts p s) (zero-add m)
run_after (suc n) m ts p s h =
    let t = turn ts p s in
    let g = after_ge n t.left t.next t.state in
    ap (λ (k : ℕ). run k ts p s) (suc-add n m) ∙ run_more (n + m) ts p s (omega (arith, next_later ts p s))
    ∙ run_after n m t.left t.next t.state (omega (arith, length-turn ts p s))

pub sanitized_after : (n m : ℕ) (ts : List Slot) → (after n ts 0 Default).next ≤ length ts → length ts ≤ (after n ts 0 Default).next + m
    → sanitized ts ≡ run m (after n ts 0 Default).left (after n ts 0 Default).next (after n ts 0 Default).state
unfolding sanitized
sanitized_after n m ts h g =
    let x = after n ts 0 Default in
    run_enough (length ts) (n + length ts) ts 0 Default (omega arith) (omega arith) ∙ run_after n (length ts) ts 0 Default h
    ∙ run_enough (length ts) m x.left x.next x.state (omega (arith, length_after n ts 0 Default)) (omega (arith, length_after n ts 0 Default))
