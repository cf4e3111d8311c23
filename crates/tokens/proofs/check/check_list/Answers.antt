-- `tokens::check::check_list` meets its contract: the count, then the form of each token. Assumes nothing.
use mathlib.Core.Path.{sym, ap, ◌∙◌}
use native.Mathlib.Omega.{arith}
use Rattle.tokens.specs.Slots.{tokens_in}
use Rattle.tokens.specs.Answers.{Answer, bad_token}
use Rattle.tokens.specs.Formed.{first_place, malformed}
use Rattle.tokens.specs.Checks.{◌then◌, check_form}
use Rattle.tokens.proofs.Storing.{length-tokens}
use Rattle.tokens.proofs.Places.{below_some, below_none}
use Rattle.tokens.proofs.Checking.{count_passes, form_bad, form_fine}
use Rattle.tokens.proofs.check.check_list.Goals as goal

pub first_malformed-requires : goal.first_malformed-requires
first_malformed-requires c = (count_passes c.args.slots.now c.args.count (sym c.in_ok-check_count.ensures)).1

pub returns-in-Some : goal.returns-in-Some
returns-in-Some c =
    let args = c.args in
    let ts = tokens_in args.slots.now args.count in
    let found = below_some args.count (first_place malformed ts) c.in-Some.place (sym c.first_malformed.ensures ∙ c.in-Some.is) in
    ap bad_token found.1
    ∙ sym (form_bad ts (omega (arith, length-tokens args.slots.now 0 args.count, found.0)))
    ∙ ap (λ (a : Answer). a then check_form ts) c.in_ok-check_count.ensures

pub returns-in-None : goal.returns-in-None
returns-in-None c =
    let args = c.args in
    let ts = tokens_in args.slots.now args.count in
    let past = below_none args.count (first_place malformed ts) (sym c.first_malformed.ensures ∙ c.in-None.is) in
    sym (form_fine ts (omega (arith, length-tokens args.slots.now 0 args.count, past)))
    ∙ ap (λ (a : Answer). a then check_form ts) c.in_ok-check_count.ensures
