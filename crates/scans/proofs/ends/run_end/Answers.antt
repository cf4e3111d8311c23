-- `scans::ends::run_end` meets its contract: the scan over bytes is the definition's. Assumes nothing.
use Rattle.std.proofs.Common.{◌≡◌, ap, ◌∙◌, ◌+◌, ℕ, List, length, drop}
use Rattle.std.specs.List.{take_while}
use Rattle.chars.specs.Steps.{offset}
use Rattle.scans.specs.Scans.{span, in_run}
use Rattle.scans.proofs.ByteScans.{over_bytes, run_alike, span-taken}
use Rattle.scans.proofs.Nones.{from_on}
use Rattle.scans.proofs.ends.run_end.Goals as goal

pub returns : goal.returns
returns c =
    let t = c.args.text.now in
    let at = c.args.from.0 in
    let n : c.run_len.result ≡ span in_run (drop at t) = c.run_len.ensures ∙ ap (λ (l : List ℕ). length (take_while in_run l)) (from_on t at) ∙ span-taken in_run (drop at t) in
    ap offset (ap (λ (k : ℕ). at + k) n ∙ over_bytes in_run run_alike t at c.requires)
