-- `scans::next::next_of` meets its contract: over blocks that hold neither, and then byte by byte. Assumes nothing.
use Rattle.std.proofs.Common.{sym, ap, ◌∙◌}
use Rattle.std.specs.List.{position}
use Rattle.scans.specs.Next.{is_of}
use Rattle.scans.proofs.Nones.{from_on, found-none, found-some}
use Rattle.scans.proofs.next.next_of.Goals as goal

pub returns-in_err-next : goal.returns-in_err-next
returns-in_err-next c =
    let a = c.args in
    let at = c.over_blocks-at.result in
    let o = c.over_blocks-at.ensures in
    rw c.from_residual.ensures (found-none a.a a.b a.text.now a.from.0 at o.0 o.1 o.2 (ap (position (is_of a.a a.b)) (sym (from_on a.text.now at)) ∙ sym c.position_of.ensures ∙ c.in_err-next.was))

pub returns : goal.returns
returns c =
    let a = c.args in
    let at = c.over_blocks-at.result in
    let o = c.over_blocks-at.ensures in
    found-some a.a a.b a.text.now a.from.0 at o.0 o.1 o.2 c.in_ok-next.next (ap (position (is_of a.a a.b)) (sym (from_on a.text.now at)) ∙ sym c.position_of.ensures ∙ c.in_ok-next.was)
