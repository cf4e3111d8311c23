-- `chars::utf8::sequence` meets its contract. The invariant, `Joining`: the bits joined so far, with the bytes still to come, are
-- those of the whole sequence. Assumes nothing.
use mathlib.Core.Path.{◌≡◌, sym, ap, ◌∙◌}
use mathlib.Core.List.{List}
use Prim.Native.Nat.{ℕ, ◌-◌, ◌<◌}
use native.Mathlib.Omega.{arith}
use lib.ListN.{get_or}
use Rattle.std.specs.Prelude.{slice_range}
use Rattle.std.proofs.lemmas.List.{get_or-take}
use Rattle.chars.specs.Utf8.{follows, joined}
use Rattle.chars.proofs.Joining.{small_start, joined_few, joining_more, joining_stray, joining_done, answer_none, answer_overlong, answer_char, answer_no_scalar}
use Rattle.chars.proofs.utf8.sequence.Goals as goal
use Rattle.chars.proofs.utf8.sequence.Goals.{else-least-x-via-then-least-x+else-is_scalar, else-least-x-via-else-least-x}

item : (rest items : List ℕ) (n i : ℕ) → items ≡ slice_range rest 0 n → i < n → get_or items i 0 ≡ get_or rest i 0
item rest items n i e h = rw e (get_or-take (n - 0) rest i 0 (omega arith))

pub returns-in_err-b-items : goal.returns-in_err-b-items
returns-in_err-b-items c =
    let few = c.in_err-b-items.ensures.lookup.0 in
    c.from_residual.ensures ∙ answer_none _ _ _ (joined_few _ _ _ (omega arith))

pub loop-b-init : goal.loop-b-init
loop-b-init c = record { few = c.requires.0; small = small_start _ _ (omega (arith, c.requires.0)) c.requires.1; same = ap (λ (n : ℕ). joined n c.args.lead c.args.rest.now) (omega arith) }

pub returns-then-not-is_following : goal.returns-then-not-is_following
returns-then-not-is_following c =
    let items = c.in_ok-b-items.ensures.lookup.0 in
    let is = item c.args.rest.now c.in_ok-b-items.b-items.now c.args.count c.loop-b.b-index items.2 (omega (arith, items.3)) in
    answer_none _ _ _ (joining_stray c.loop-b.invariant (omega (arith, items.3)) (omega (arith, items.3)) (ap follows (sym is) ∙ sym c.is_following.ensures ∙ c.if-not-is_following.true))

pub loop-b-preserved : goal.loop-b-preserved
loop-b-preserved c =
    let items = c.in_ok-b-items.ensures.lookup.0 in
    let is = item c.args.rest.now c.in_ok-b-items.b-items.now c.args.count c.loop-b.b-index items.2 (omega (arith, items.3)) in
    rw is (joining_more c.loop-b.invariant (omega (arith, items.3)) (omega (arith, items.3)) (ap follows (sym is) ∙ sym c.is_following.ensures ∙ c.if-not-is_following.false))

pub returns-then-is_scalar : goal.returns-then-is_scalar
returns-then-is_scalar c =
    let items = c.in_ok-b-items.ensures.lookup.0 in
    answer_char _ _ _ _ (joining_done c.loop-b.invariant (omega (arith, items.3))) c.if-least-x.true (sym c.is_scalar.ensures ∙ c.if-is_scalar.true)

pub returns-else-least-x : goal.returns-else-least-x
returns-else-least-x c =
    let items = c.in_ok-b-items.ensures.lookup.0 in
    let done = joining_done c.loop-b.invariant (omega (arith, items.3)) in
    elim c.else-least-x.branch [
      | else-least-x-via-then-least-x+else-is_scalar w ↦ answer_no_scalar _ _ _ _ done w.if-least-x.true (sym w.is_scalar.ensures ∙ w.if-is_scalar.false)
      | else-least-x-via-else-least-x w ↦ answer_overlong _ _ _ _ done w.if-least-x.false
    ]
