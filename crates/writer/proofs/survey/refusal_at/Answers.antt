-- `writer::survey::refusal_at` meets its contract: a malformed token anywhere, or else the place is that of the first cut. Assumes nothing.
use mathlib.Core.Path.{sym, ap, ◌∙◌}
use Prim.Native.Nat.{◌≤◌}
use native.Mathlib.Omega.{arith}
use lib.ListN.{length}
use Rattle.tokens.specs.Slots.{tokens_in}
use Rattle.tokens.specs.Formed.{malformed, first_place}
use Rattle.tokens.specs.Answers.{Answer, bad_token, cut_char}
use Rattle.tokens.specs.Checks.{◌then◌}
use Rattle.tokens.proofs.Storing.{length-tokens}
use Rattle.tokens.proofs.Places.{below_some, below_none}
use Rattle.tokens.proofs.Checking.{form_bad, form_fine}
use Rattle.writer.specs.Promise.{check_cuts}
use Rattle.writer.proofs.Answers.{cuts_found}
use Rattle.writer.proofs.Surveying.{faulty-cuts}
use Rattle.writer.proofs.survey.refusal_at.Goals as goal

pub returns-in-Some : goal.returns-in-Some
returns-in-Some c =
    let x = c.args in
    let ts = tokens_in x.slots.now x.count in
    let found = below_some x.count (first_place malformed ts) c.in-Some.bad (sym c.first_malformed.ensures ∙ c.in-Some.is) in
    ap bad_token found.1
    ∙ sym (ap (λ (a : Answer). a then check_cuts x.text.now ts) (form_bad ts (omega (arith, length-tokens x.slots.now 0 x.count, found.0))))

pub returns-in-None : goal.returns-in-None
returns-in-None c =
    let x = c.args in
    let ts = tokens_in x.slots.now x.count in
    let long = length-tokens x.slots.now 0 x.count in
    let past = below_none x.count (first_place malformed ts) (sym c.first_malformed.ensures ∙ c.in-None.is) in
    let formed : length ts ≤ first_place malformed ts = omega (arith, long, past) in
    let at = c.requires.2 ∙ faulty-cuts x.text.now ts formed in
    ap cut_char at ∙ sym (cuts_found x.text.now ts (omega (arith, long, at)))
    ∙ sym (ap (λ (a : Answer). a then check_cuts x.text.now ts) (form_fine ts formed))
