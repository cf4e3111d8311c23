-- `lexer::lex::walk` meets its contract. The invariant: `Walking`, of which the n tokens read so far are the first of all, and those below `upto` are laid. Assumes nothing.
use mathlib.Core.Path.{sym, ◌∙◌}
use Prim.Native.Nat.{ℕ, ◌+◌}
use mathlib.Core.Path.{◌≡◌}
use mathlib.Core.List.{List}
use Rattle.tokens.specs.Kinds as kind
use Rattle.lexer.specs.Marks.{mark_of}
use Rattle.lexer.specs.declared.rule.State.{State}
use native.Mathlib.Omega.{arith}
use lib.ListN.{get_or}
use Rattle.scans.specs.Ways.{pinned}
use Rattle.scans.specs.Whole.{Readable}
use Rattle.chars.specs.Steps.{offset}
use Rattle.tokens.specs.Named.{number}
use Rattle.tokens.specs.Slots.{bare}
use Rattle.scans.specs.Whole.{star_before}
use Rattle.lexer.proofs.Marks.{mark_state, mark_read}
use Rattle.lexer.proofs.Turns.{Turn, turn, turn_stop, go_end, walking_start, walking_more, kept-length, all_read, stop_here, all_laid}
use Rattle.lexer.proofs.lex.walk.Goals as goal

-- the mark that was read, where a character is left
marked : (text : List ℕ) (at : ℕ) (state : State) → Readable text at → (m : ℕ) → m ≡ mark_of (get_or text at 0) → (m ≡ kind.None → ⊥)
    → Turn pinned text at state (bare m) (at + 1)
marked text at state i m e n =
    rw e
    (turn pinned text at state i _ (offset (at + 1)) (mark_read pinned state (star_before text at) text at i (λ f. n (e ∙ f))))

pub loop-at-init : goal.loop-at-init
loop-at-init c = walking_start pinned c.args.text.now c.args.slots.now c.args.upto c.requires.whole

pub keep-requires : goal.keep-requires
keep-requires c = omega (arith, c.loop-at.invariant.long, c.requires.upto_bound)

pub overflow_add-at : goal.overflow_add-at
overflow_add-at c = omega (arith, c.loop-at-test.true, c.loop-at.invariant.whole.small)

pub overflow_add-n : goal.overflow_add-n
overflow_add-n c = omega (arith, c.loop-at.invariant.few, c.loop-at-test.true)

pub loop-at-smaller-in-Some : goal.loop-at-smaller-in-Some
loop-at-smaller-in-Some c = omega (arith, c.loop-at-test.true)

pub loop-at-preserved-in-Some : goal.loop-at-preserved-in-Some
loop-at-preserved-in-Some c =
    let slot = bare (number c.in-Some.mark) in
    rw (c.keep.ensures, c.bare.ensures, ← mark_state (get_or c.args.text.now c.loop-at.at 0) c.loop-at.state, ← c.in-Some.ensures.0)
    (walking_more pinned c.args.text.now c.args.slots.now c.args.upto c.loop-at.slots c.loop-at.at c.loop-at.n c.loop-at.state c.loop-at.invariant
    slot (c.loop-at.at + 1) (marked c.args.text.now c.loop-at.at c.loop-at.state record { here = c.loop-at-test.true; rest = c.loop-at.invariant.whole } (number c.in-Some.mark) c.in-Some.ensures.0 (λ z. omega (arith, z, c.in-Some.ensures.0, c.in-Some.ensures.1))) c.requires.upto_bound (kept-length c.loop-at.slots c.args.upto c.loop-at.n slot))

pub read_one-requires : goal.read_one-requires
read_one-requires c = record { here = c.loop-at-test.true; rest = c.loop-at.invariant.whole }

pub keep-requires-in-loop-at : goal.keep-requires-in-loop-at
keep-requires-in-loop-at c = omega (arith, c.loop-at.invariant.long, c.requires.upto_bound)

pub overflow_add-n-in-loop-at : goal.overflow_add-n-in-loop-at
overflow_add-n-in-loop-at c = omega (arith, c.loop-at.invariant.few, c.loop-at-test.true)

pub loop-at-smaller : goal.loop-at-smaller
loop-at-smaller c = let u = turn pinned c.args.text.now c.loop-at.at c.loop-at.state record { here = c.loop-at-test.true; rest = c.loop-at.invariant.whole } c.in-Some-read_one.taken.slot c.in-Some-read_one.taken.next (sym c.in-Some-read_one.is ∙ c.read_one.ensures) in omega (arith, u.further, u.whole.inside)

pub loop-at-preserved : goal.loop-at-preserved
loop-at-preserved c =
    rw (c.keep-in-loop-at.ensures, c.state_after-state.ensures)
    (walking_more pinned c.args.text.now c.args.slots.now c.args.upto c.loop-at.slots c.loop-at.at c.loop-at.n c.loop-at.state c.loop-at.invariant
    c.in-Some-read_one.taken.slot c.in-Some-read_one.taken.next.0 (turn pinned c.args.text.now c.loop-at.at c.loop-at.state record { here = c.loop-at-test.true; rest = c.loop-at.invariant.whole } c.in-Some-read_one.taken.slot c.in-Some-read_one.taken.next (sym c.in-Some-read_one.is ∙ c.read_one.ensures)) c.requires.upto_bound (kept-length c.loop-at.slots c.args.upto c.loop-at.n c.in-Some-read_one.taken.slot))

pub returns-in_default-read_one : goal.returns-in_default-read_one
returns-in_default-read_one c =
    let a = c.args in
    let t = a.text.now in
    let e = turn_stop pinned t c.loop-at.at c.loop-at.state record { here = c.loop-at-test.true; rest = c.loop-at.invariant.whole } (sym c.in_default-read_one.is ∙ c.read_one.ensures) in
    let v = c.loop-at.invariant in record {
      value = rw (
        all_read pinned t a.slots.now a.upto c.loop-at.slots c.loop-at.at c.loop-at.n c.loop-at.state v e,
        stop_here pinned t a.slots.now a.upto c.loop-at.slots c.loop-at.at c.loop-at.n c.loop-at.state v e,
      );
      slots_after = all_laid pinned t a.slots.now a.upto c.loop-at.slots c.loop-at.at c.loop-at.n c.loop-at.state v e;
    }

pub returns : goal.returns
returns c =
    let a = c.args in
    let t = a.text.now in
    let e = go_end pinned t c.loop-at.at c.loop-at.state c.loop-at-test.false in
    let v = c.loop-at.invariant in record {
      value = rw (
        all_read pinned t a.slots.now a.upto c.loop-at.slots c.loop-at.at c.loop-at.n c.loop-at.state v e,
        stop_here pinned t a.slots.now a.upto c.loop-at.slots c.loop-at.at c.loop-at.n c.loop-at.state v e,
      );
      slots_after = all_laid pinned t a.slots.now a.upto c.loop-at.slots c.loop-at.at c.loop-at.n c.loop-at.state v e;
    }
