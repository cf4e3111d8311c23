-- `scans::ends::quote_end` meets its contract. Assumes nothing.
use Rattle.std.proofs.Common.{◌≡◌, ap, ◌∙◌, refl, arith}
use Rattle.scans.proofs.Quotes.{end, ended, closed, plain}
use Rattle.scans.proofs.ends.quote_end.Goals as goal

pub returns-then-b-quote : goal.returns-then-b-quote
returns-then-b-quote c =
    let a = c.args in
    let at = c.loop-at.at in
    ended a.text.now a.quote a.from.0 at at c.requires.whole c.requires.quote_bound c.loop-at.invariant (closed a.text.now a.quote at (omega (arith, c.min-soon.ensures)) c.if-b-quote.true)

pub returns-then-b-eq92 : goal.returns-then-b-eq92
returns-then-b-eq92 c = c.far_quote_end.ensures ∙ (let a = c.args in ended a.text.now a.quote a.from.0 c.loop-at.at _ c.requires.whole c.requires.quote_bound c.loop-at.invariant refl)

pub loop-at-preserved : goal.loop-at-preserved
loop-at-preserved c =
    c.loop-at.invariant ∙ plain c.args.text.now c.args.quote c.loop-at.at (omega (arith, c.min-soon.ensures)) c.if-b-quote.false c.if-b-eq92.false

pub returns : goal.returns
returns c =
    let a = c.args in
    let s = c.min-soon.result in
    let e : c.loop-at.at ≡ s = omega (arith, c.min-soon.ensures) in
    c.far_quote_end-2.ensures
    ∙ ended a.text.now a.quote a.from.0 s _ c.requires.whole c.requires.quote_bound (c.loop-at.invariant ∙ ap (end a.text.now a.quote) e) refl
