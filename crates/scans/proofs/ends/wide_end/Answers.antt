-- `scans::ends::wide_end` meets its contract. Assumes nothing.
use Rattle.std.proofs.Common.{◌≡◌, sym, ap, ◌∙◌, arith, refl, inl, inr, ℕ, List, [], drop}
use Rattle.chars.specs.declared.offset.Offset.{Offset}
use Rattle.chars.specs.Utf8.{chars}
use Rattle.chars.specs.Steps.{offset, step_at}
use Rattle.chars.proofs.Stepping.{Stepped, stepped, stepped_none}
use Rattle.chars.specs.declared.utf8.Step.{Step}
use Rattle.chars.specs.declared.utf8.Step.TheVariants.{Char, Bad, End}
use Rattle.scans.specs.Ways.{pinned}
use Rattle.scans.specs.Scans.{span, goes_on}
use Rattle.scans.proofs.Reaching.{reach_none, span_on, span_off}
use Rattle.scans.proofs.ends.wide_end.Goals as goal

-- the step that was read
read : (t : List ℕ) (at s next : ℕ) (r : Step) → r ≡ step_at t (offset at) → r ≡ Char s (offset next) → Stepped t at s next
read t at s next r e v = stepped t at s next (sym e ∙ v)

-- no character was read
none : (t : List ℕ) (at : ℕ) (r : Step) → r ≡ step_at t (offset at) → ((s : ℕ) (next : Offset) → r ≡ Char s next → ⊥) → chars (drop at t) ≡ []
none t at (Char s next) e n = absurd (n s next refl)
none t at Bad e n = stepped_none t at (inl (sym e))
none t at End e n = stepped_none t at (inr (sym e))

pub loop-c-smaller : goal.loop-c-smaller
loop-c-smaller g c =
    let r = read c.args.text.now c.loop-c.at.0 c.in-Char.c c.in-Char.next.0 c.step_at.result c.step_at.ensures c.in-Char.is in
    omega (arith, r.on, r.inside)

pub loop-c-preserved : goal.loop-c-preserved
loop-c-preserved g c =
    let r = read c.args.text.now c.loop-c.at.0 c.in-Char.c c.in-Char.next.0 c.step_at.result c.step_at.ensures c.in-Char.is in
    c.loop-c.invariant ∙ span_on (goes_on pinned g.R.StopRule.stop) c.args.text.now c.loop-c.at.0 _ _ r (sym c.goes_on.ensures ∙ c.if-not-goes_on.false)

pub returns-then-not-goes_on : goal.returns-then-not-goes_on
returns-then-not-goes_on g c =
    let r = read c.args.text.now c.loop-c.at.0 c.in-Char.c c.in-Char.next.0 c.step_at.result c.step_at.ensures c.in-Char.is in
    ap offset (sym (c.loop-c.invariant ∙ span_off (goes_on pinned g.R.StopRule.stop) c.args.text.now c.loop-c.at.0 _ _ r (sym c.goes_on.ensures ∙ c.if-not-goes_on.true)))

pub returns-in_default : goal.returns-in_default
returns-in_default g c =
    let n = none c.args.text.now c.loop-c.at.0 c.step_at.result c.step_at.ensures c.in_default.not-Char in
    ap offset (sym (c.loop-c.invariant ∙ reach_none (span (goes_on pinned g.R.StopRule.stop)) c.args.text.now c.loop-c.at.0 n))
