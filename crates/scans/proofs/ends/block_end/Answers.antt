-- `scans::ends::block_end` meets its contract. Assumes nothing.
use Rattle.std.proofs.Common.{◌≡◌, sym, ap, ◌∙◌, arith, ◌+◌, Bool, true, false, length}
use Rattle.chars.specs.Steps.{offset}
use Rattle.scans.specs.Scans.{reach, block_len}
use Rattle.scans.proofs.Comments.{end, opened, stopped, goes_on_lem, out, closes, skip, star}
use Rattle.scans.proofs.ends.block_end.Goals as goal
use Rattle.scans.proofs.ends.block_end.Goals.{else-at-text-via-then-at-text+else-text-at-eq47, else-at-text-via-else-at-text}

pub returns-then-starred : goal.returns-then-starred
returns-then-starred c =
    let a = c.args in
    ap offset (sym (opened a.text.now a.from.0) ∙ ap (λ (b : Bool). reach (block_len b) a.text.now a.from.0) (sym c.if-starred.true))

pub returns-then-text-at-eq47 : goal.returns-then-text-at-eq47
returns-then-text-at-eq47 c =
    let t = c.args.text.now in
    let n = c.in-Some.star.0 in
    stopped t c.args.starred c.args.from.0 c.loop-star.at.0 (n + 1 + 1) c.requires c.if-starred.false c.loop-star.invariant.same
    (star t c.loop-star.at.0 n c.in-Some.ensures.0 c.in-Some.ensures.1 ∙ closes t (n + 1) c.if-at-text.true c.if-text-at-eq47.true)

pub loop-star-preserved : goal.loop-star-preserved
loop-star-preserved c =
    let t = c.args.text.now in
    let n = c.in-Some.star.0 in
    let on : end t true (n + 1) ≡ end t false (n + 1) = elim c.else-at-text.branch [
      | else-at-text-via-then-at-text+else-text-at-eq47 w ↦ goes_on_lem t (n + 1) w.if-at-text.true w.if-text-at-eq47.false
      | else-at-text-via-else-at-text w ↦ out t (n + 1) true false w.if-at-text.false ∙ sym (out t (n + 1) false false w.if-at-text.false)
    ] in
    record {
      inside = omega (arith, c.in-Some.ensures.1);
      same = c.loop-star.invariant.same ∙ star t c.loop-star.at.0 n c.in-Some.ensures.0 c.in-Some.ensures.1 ∙ on;
    }

pub returns : goal.returns
returns c =
    let t = c.args.text.now in
    stopped t c.args.starred c.args.from.0 c.loop-star.at.0 (length t) c.requires c.if-starred.false c.loop-star.invariant.same
    (skip t c.loop-star.at.0 (length t) c.in_default.ensures ∙ out t (length t) false false (omega arith))
