-- `scans::ends::class_end` meets its contract. Assumes nothing.
use Rattle.std.proofs.Common.{◌≡◌, sym, ap, ◌∙◌, arith, ℕ, ◌≤◌, ◌<◌, List, length}
use native.Mathlib.Decide.{dec_lt}
use Rattle.chars.specs.Steps.{offset}
use Rattle.scans.specs.Ways.{pinned}
use Rattle.scans.specs.Scans.{span, reach, goes_on}
use Rattle.scans.proofs.Characters.{stepped_ascii}
use Rattle.scans.proofs.Reaching.{reach_end, span_on, span_off}
use Rattle.scans.proofs.ends.class_end.Goals as goal

pub returns-then-b-ge128 : goal.returns-then-b-ge128
returns-then-b-ge128 g c = c.wide_end.ensures ∙ ap offset (sym c.loop-at.invariant)

pub returns-then-not-ascii_goes_on : goal.returns-then-not-ascii_goes_on
returns-then-not-ascii_goes_on g c =
    let t = c.args.text.now in
    let p = stepped_ascii t c.loop-at.at (omega arith) (omega arith) in
    ap offset (sym (c.loop-at.invariant ∙ span_off (goes_on pinned g.R.StopRule.stop) t c.loop-at.at _ _ p (sym c.ascii_goes_on.ensures ∙ c.if-not-ascii_goes_on.true)))

pub loop-at-preserved : goal.loop-at-preserved
loop-at-preserved g c =
    let t = c.args.text.now in
    let p = stepped_ascii t c.loop-at.at (omega arith) (omega arith) in
    c.loop-at.invariant ∙ span_on (goes_on pinned g.R.StopRule.stop) t c.loop-at.at _ _ p (sym c.ascii_goes_on.ensures ∙ c.if-not-ascii_goes_on.false)

-- the end of the text
past : (f : List ℕ → ℕ) (t : List ℕ) (from at to : ℕ) → reach f t from ≡ reach f t at → (from ≤ length t → at ≡ to) → length t ≤ at → (length t < from → from ≡ to)
    → to ≡ reach f t from
past f t from at to i p l q = go (dec_lt (length t) from)
  where
    go : Dec (length t < from) → to ≡ reach f t from
    go (yes h) = sym (reach_end f t from (omega arith) ∙ q h)
    go (no n) = sym (i ∙ reach_end f t at l ∙ p (omega arith))

pub returns : goal.returns
returns g c =
    let f = span (goes_on pinned g.R.StopRule.stop) in
    let t = c.args.text.now in
    ap offset (past f t c.args.from.0 c.loop-at.at c.max.result c.loop-at.invariant (λ h. omega arith) (omega arith) (λ h. omega arith))
