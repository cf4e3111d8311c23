-- `tokens::formed::first_malformed` meets its contract. Assumes nothing.
use mathlib.Core.Path.{◌≡◌, refl, sym, ap, ◌∙◌}
use mathlib.Core.Bool.{not}
use native.Mathlib.Omega.{arith}
use Rattle.tokens.specs.Slots.{tokens_from, tokens_in}
use Rattle.tokens.specs.Formed.{malformed, well_formed, first_place, place_below}
use Rattle.tokens.proofs.Places.{place_found, place_more, below_there, below_past}
use Rattle.tokens.proofs.formed.first_malformed.Goals as goal

pub loop-i-init : goal.loop-i-init
unfolding first_place tokens_from
loop-i-init c = refl

pub returns-then-not-is_well_formed : goal.returns-then-not-is_well_formed
returns-then-not-is_well_formed c =
    let args = c.args in
    let here = c.is_well_formed.ensures ∙ ap well_formed c.slot_at.ensures in
    let found = place_found malformed args.slots.now c.loop-i.i args.count (omega arith) c.loop-i.invariant (ap not (sym here ∙ c.if-not-is_well_formed.true)) in
    sym (ap (place_below args.count) found ∙ below_there _ _ (omega arith))

pub loop-i-preserved : goal.loop-i-preserved
loop-i-preserved c =
    let here = c.is_well_formed.ensures ∙ ap well_formed c.slot_at.ensures in
    place_more malformed c.args.slots.now c.loop-i.i c.loop-i.invariant (ap not (sym here ∙ c.if-not-is_well_formed.false))

pub returns : goal.returns
returns c = let e : c.loop-i.i ≡ c.args.count = omega arith in sym (below_past _ _ (omega (arith, c.loop-i.invariant, ap (λ n. first_place malformed (tokens_in c.args.slots.now n)) e)))
