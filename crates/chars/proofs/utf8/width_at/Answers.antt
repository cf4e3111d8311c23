-- `chars::utf8::width_at` meets its contract: each return is one law of Sizes.antt. Assumes nothing.
use mathlib.Core.Path.{sym, ap, ◌∙◌}
use mathlib.Core.Bool.{Bool, cond}
use Prim.Native.Nat.{ℕ}
use native.Mathlib.Omega.{arith}
use Rattle.std.specs.Prelude.{Option, Some, None}
use Rattle.chars.proofs.Joining.{followed}
use Rattle.chars.proofs.Sizes.{size_one, size_low, second_none, size_two, third_none, size_three, fourth_none, size_four}
use Rattle.chars.proofs.utf8.width_at.Goals as goal

pub returns-then-a-lt128 : goal.returns-then-a-lt128
returns-then-a-lt128 c = size_one c.args.text.now c.args.at (omega arith) (omega arith)

pub returns-then-a-lt194 : goal.returns-then-a-lt194
returns-then-a-lt194 c = size_low c.args.text.now c.args.at (omega arith) (omega arith) (omega arith)

pub returns-in_err-b : goal.returns-in_err-b
returns-in_err-b c = c.from_residual.ensures ∙ second_none c.args.text.now c.args.at (omega arith) (omega arith) (sym c.following.ensures ∙ c.in_err-b.was)

pub returns-then-a-lt224 : goal.returns-then-a-lt224
returns-then-a-lt224 c =
    let b = followed _ _ _ (sym c.in_ok-b.was ∙ c.following.ensures) in
    size_two c.args.text.now c.args.at (omega arith) (omega arith) b.inside b.follows_it (omega arith)

pub returns-in_err-following : goal.returns-in_err-following
returns-in_err-following c =
    let b = followed _ _ _ (sym c.in_ok-b.was ∙ c.following.ensures) in
    c.from_residual-in_err-following.ensures
    ∙ third_none c.args.text.now c.args.at (omega arith) (omega arith) b.inside b.follows_it (omega arith) (sym c.following-2.ensures ∙ c.in_err-following.was)

pub returns-then-fits_three : goal.returns-then-fits_three
returns-then-fits_three c =
    let b = followed _ _ _ (sym c.in_ok-b.was ∙ c.following.ensures) in
    let d = followed _ _ _ (sym c.in_ok-following.was ∙ c.following-2.ensures) in
    let fits = rw b.is at (sym c.if-fits_three.true ∙ c.fits_three.ensures) in
    ap (λ (p : Bool). cond {A = Option ℕ} p (Some 3) None) fits
    ∙ size_three c.args.text.now c.args.at (omega arith) (omega arith) b.inside b.follows_it (omega arith) d.inside d.follows_it (omega arith)

pub returns-else-fits_three : goal.returns-else-fits_three
returns-else-fits_three c =
    let b = followed _ _ _ (sym c.in_ok-b.was ∙ c.following.ensures) in
    let d = followed _ _ _ (sym c.in_ok-following.was ∙ c.following-2.ensures) in
    let fits = rw b.is at (sym c.if-fits_three.false ∙ c.fits_three.ensures) in
    ap (λ (p : Bool). cond {A = Option ℕ} p (Some 3) None) fits
    ∙ size_three c.args.text.now c.args.at (omega arith) (omega arith) b.inside b.follows_it (omega arith) d.inside d.follows_it (omega arith)

pub returns-in_err-following-2 : goal.returns-in_err-following-2
returns-in_err-following-2 c =
    let b = followed _ _ _ (sym c.in_ok-b.was ∙ c.following.ensures) in
    let d = followed _ _ _ (sym c.in_ok-following.was ∙ c.following-2.ensures) in
    c.from_residual-in_err-following-2.ensures
    ∙ fourth_none c.args.text.now c.args.at (omega arith) (omega arith) b.inside b.follows_it (omega arith) d.inside d.follows_it (omega arith)
    (sym c.following-3.ensures ∙ c.in_err-following-2.was)

pub returns-then-fits_four : goal.returns-then-fits_four
returns-then-fits_four c =
    let b = followed _ _ _ (sym c.in_ok-b.was ∙ c.following.ensures) in
    let d = followed _ _ _ (sym c.in_ok-following.was ∙ c.following-2.ensures) in
    let e = followed _ _ _ (sym c.in_ok-following-2.was ∙ c.following-3.ensures) in
    let fits = rw b.is at (sym c.if-fits_four.true ∙ c.fits_four.ensures) in
    ap (λ (p : Bool). cond {A = Option ℕ} p (Some 4) None) fits
    ∙ size_four c.args.text.now c.args.at (omega arith) (omega arith) b.inside b.follows_it (omega arith) d.inside d.follows_it (omega arith) e.inside e.follows_it

pub returns-else-fits_four : goal.returns-else-fits_four
returns-else-fits_four c =
    let b = followed _ _ _ (sym c.in_ok-b.was ∙ c.following.ensures) in
    let d = followed _ _ _ (sym c.in_ok-following.was ∙ c.following-2.ensures) in
    let e = followed _ _ _ (sym c.in_ok-following-2.was ∙ c.following-3.ensures) in
    let fits = rw b.is at (sym c.if-fits_four.false ∙ c.fits_four.ensures) in
    ap (λ (p : Bool). cond {A = Option ℕ} p (Some 4) None) fits
    ∙ size_four c.args.text.now c.args.at (omega arith) (omega arith) b.inside b.follows_it (omega arith) d.inside d.follows_it (omega arith) e.inside e.follows_it
