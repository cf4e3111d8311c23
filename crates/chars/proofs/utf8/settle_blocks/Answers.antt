-- `chars::utf8::settle_blocks` meets its contract. The invariant of the loop: while every byte was in place, what Blocks.antt says of the bytes
-- passed holds, with the last three of them. Assumes nothing.
use mathlib.Core.Path.{◌≡◌, sym, ◌∙◌}
use Prim.Native.Nat.{ℕ, ◌-◌, ◌%◌}
use native.Mathlib.Omega.{arith}
use lib.ListN.{length}
use Rattle.std.proofs.lemmas.List.{get_or-take, length-take}
use Rattle.chars.proofs.Bytes.{and_l, and_r}
use Rattle.chars.proofs.Blocks.{passed_none, passed_on, settled_start, cut_one, cut_two}
use Rattle.chars.proofs.utf8.settle_blocks.Goals as goal

pub loop-b-init : goal.loop-b-init
loop-b-init c = λ e. passed_none c.args.text.now

pub loop-b-preserved : goal.loop-b-preserved
loop-b-preserved c =
    let at = c.loop-b in
    let text = c.args.text.now in
    let end : ℕ = length text - length text % 32 in
    λ e. rw (get_or-take end text at.b-index 0 (omega (arith, length-take end text)))
    (passed_on text at.b-index at.p3 at.p2 at.p1 (omega (arith, length-take end text))
    (rw (get_or-take end text at.b-index 0 (omega (arith, length-take end text))) at (sym c.in_place-good.ensures ∙ and_r at.good c.in_place-good.result e))
    (at.invariant (and_l at.good c.in_place-good.result e)))

pub returns-then-not-good : goal.returns-then-not-good
returns-then-not-good c = settled_start c.args.text.now

pub returns-then-p1-ge192 : goal.returns-then-p1-ge192
returns-then-p1-ge192 c =
    let text = c.args.text.now in
    let e : c.loop-b.b-index ≡ length text - length text % 32 = omega (arith, length-take (length text - length text % 32) text) in
    rw (← e) (cut_one (c.loop-b.invariant c.if-not-good.false) (omega arith)).1

pub returns-then-p2-ge224 : goal.returns-then-p2-ge224
returns-then-p2-ge224 c =
    let text = c.args.text.now in
    let e : c.loop-b.b-index ≡ length text - length text % 32 = omega (arith, length-take (length text - length text % 32) text) in
    rw (← e) (cut_two (c.loop-b.invariant c.if-not-good.false) (omega arith) (omega arith)).1
