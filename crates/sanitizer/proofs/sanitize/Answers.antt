-- `sanitizer::sanitize` meets its contract: the checks of the list, then the whole run. Assumes nothing.
use mathlib.Core.Path.{sym}
use native.Mathlib.Omega.{arith}
use Rattle.tokens.specs.Slots.{tokens_in}
use Rattle.tokens.specs.Formed.{malformed}
use Rattle.tokens.proofs.Places.{place_le}
use Rattle.tokens.proofs.Checking.{list_passes}
use Rattle.sanitizer.proofs.Keeping.{accepted_known}
use Rattle.sanitizer.proofs.Counting.{accept}
use Rattle.sanitizer.proofs.sanitize.Goals as goal

pub sanitize_tokens-requires : goal.sanitize_tokens-requires
sanitize_tokens-requires c =
    let a = c.args in
    let t = tokens_in a.slots.now a.count in
    let n = list_passes a.slots.now a.count t (sym c.in_ok-check_list.ensures) in
    let p = place_le malformed t in
    (n.1, accepted_known t (omega (arith, n.2)))

pub returns : goal.returns
returns c =
    let a = c.args in
    let n = list_passes a.slots.now a.count (tokens_in a.slots.now a.count) (sym c.in_ok-check_list.ensures) in
    accept a.slots.now a.count c.in_ok-check_list.ensures n.1 c.sanitize_tokens.result c.sanitize_tokens.new.slots c.sanitize_tokens.ensures
