-- `frames::hex::first_not_hex` meets its contract. Assumes nothing.
use Rattle.std.proofs.Common.{length, ap, ◌∙◌}
use Rattle.std.specs.Option.{unwrap_or}
use Rattle.frames.proofs.Reading.{no_value_at}
use Rattle.frames.proofs.hex.first_not_hex.Goals as goal

pub returns : goal.returns
returns c =
    let line = c.args.line.now in
    c.unwrap_or.ensures ∙ ap (λ o. unwrap_or o (length line)) c.place_not_hex.ensures ∙ no_value_at line
