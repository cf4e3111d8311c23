-- `scans::ends::line_end` meets its contract: the scan over bytes goes up to the first \n or \r. Assumes nothing.
use Rattle.std.proofs.Common.{◌≡◌, sym, ap, ◌∙◌, arith, ℕ, ◌+◌, ◌<◌, List, length, drop, not, Option, Some, None}
use mathlib.Core.Bool.{not-not}
use native.Mathlib.Decide.{dec_lt}
use Rattle.std.specs.Option.{unwrap_or}
use Rattle.chars.specs.declared.offset.Offset.{Offset}
use Rattle.chars.specs.Steps.{offset}
use Rattle.scans.specs.Scans.{span, in_line}
use Rattle.scans.specs.Next.{is_of, FirstOf, FoundOf}
use Rattle.scans.proofs.ByteScans.{over_bytes, span_byte_first, span_byte_off, span_byte_end, line_alike}
use Rattle.scans.proofs.ends.line_end.Goals as goal

-- the two are the bytes that end a line
two : (c : ℕ) → not (in_line c) ≡ is_of 10 13 c
unfolding in_line is_of
two c = not-not (is_of 10 13 c)

stops : (t : List ℕ) (at to : ℕ) → FirstOf 10 13 t at to → at + span in_line (drop at t) ≡ to
stops t at to f = span_byte_first in_line t 10 13 (λ c e. two c ∙ e) at to f ∙ go (dec_lt to (length t))
  where
    go : Dec (to < length t) → to + span in_line (drop to t) ≡ to
    go (yes h) = span_byte_off in_line t to h (two _ ∙ f.found h)
    go (no h) = span_byte_end in_line t to (omega arith)

found : (t : List ℕ) (at : ℕ) (o : Option Offset) → FoundOf 10 13 t at o → unwrap_or o (offset (length t)) ≡ offset (at + span in_line (drop at t))
found t at (Some to) f = ap offset (sym (stops t at to.0 f.0))
found t at None f = ap offset (sym (stops t at (length t) f))

pub returns : goal.returns
returns c =
    let t = c.args.text.now in
    c.unwrap_or.ensures ∙ found t c.args.from.0 c.next_of.result c.next_of.ensures ∙ ap offset (over_bytes in_line line_alike t c.args.from.0 c.requires)
