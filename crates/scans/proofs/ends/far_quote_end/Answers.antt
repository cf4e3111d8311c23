-- `scans::ends::far_quote_end` meets its contract. Assumes nothing.
use Rattle.std.proofs.Common.{sym, ap, ◌∙◌, arith, length}
use Rattle.chars.specs.Steps.{offset}
use Rattle.scans.proofs.Quotes.{over, end_first, closed, first_past}
use Rattle.scans.proofs.ends.far_quote_end.Goals as goal

pub returns-then-text-next : goal.returns-then-text-next
returns-then-text-next c =
    let t = c.args.text.now in
    let q = c.args.quote in
    let n = c.in-Some.next.0 in
    ap offset (sym (c.loop-next.invariant.same ∙ end_first t q c.loop-next.at.0 n c.in-Some.ensures.0 ∙ closed t q n c.in-Some.ensures.1 c.if-text-next.true))

pub loop-next-preserved : goal.loop-next-preserved
loop-next-preserved c = record {
  inside = omega (arith, c.min.ensures);
  same = c.loop-next.invariant.same ∙ first_past c.args.text.now c.args.quote c.loop-next.at.0 c.in-Some.next.0 c.in-Some.ensures.0 c.in-Some.ensures.1 c.if-text-next.false c.min.result c.min.ensures;
}

pub returns : goal.returns
returns c =
    let t = c.args.text.now in
    let q = c.args.quote in
    ap offset (sym (c.loop-next.invariant.same ∙ end_first t q c.loop-next.at.0 (length t) c.in_default.ensures ∙ over t q (length t) (omega arith)))
