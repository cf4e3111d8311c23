-- `writer::write` meets its contract: the checks in their order, each answer a case of `write_answer`. Assumes nothing.
use mathlib.Core.Path.{◌≡◌, sym, ap, ◌∙◌}
use mathlib.Core.List.{List}
use Prim.Native.Nat.{ℕ, ◌≤◌}
use native.Mathlib.Omega.{arith}
use lib.ListN.{length}
use Rattle.std.specs.Prelude.{Result, Ok, Err, MatchResult}
use Rattle.writer.specs.declared.survey.Fault.{Fault}
use Rattle.tokens.specs.declared.refusal.Refusal.{Refusal}
use Rattle.tokens.specs.Checks.{fine, check_text, check_count}
use Rattle.tokens.specs.Slots.{tokens_in}
use Rattle.tokens.specs.Formed.{first_place, malformed}
use Rattle.tokens.proofs.Checking.{text_passes, count_passes}
use Rattle.tokens.proofs.Storing.{length-tokens}
use Rattle.writer.specs.Written.{written}
use Rattle.writer.specs.Promise.{check_out, write_answer}
use Rattle.writer.specs.Survey.{faulty, Surveyed}
use Rattle.tokens.specs.declared.slot.Slot.{Slot}
use Rattle.writer.proofs.Answers.{out_short, out_fits, after_list, refuses, writes}
use Rattle.writer.proofs.Surveying.{faulty_none, faulty-cuts}
use Rattle.writer.proofs.write.Goals as goal

-- what is known after a pass over the whole list
module _ (text ws : List ℕ) (n : ℕ) where
  abbrev ts : List Slot
  ts = tokens_in ws n

  abbrev done_with : ℕ → Result ℕ Refusal
  done_with total = Ok total

  seen : {total : ℕ} (r : Result ℕ Fault) → Surveyed text ws n r → MatchResult r (λ x. done_with total ≡ Ok x) (λ e. ⊥)
      → (first_place (faulty text) ts ≡ n) × (total ≡ length (written text ts))
  seen {total} (Ok x) p e = let same : total ≡ x = cc in (p.0, same ∙ p.1)
  seen (Err at) p e = absurd e

  formed : first_place (faulty text) ts ≡ n → n ≤ first_place malformed ts
  formed through = omega (arith, length-tokens ws 0 n, faulty_none text ts (omega (arith, length-tokens ws 0 n)))

  -- what is left is the output's room
  whole : {total : ℕ} (space : ℕ) → fine ≡ check_text text → fine ≡ check_count ws n
      → (first_place (faulty text) ts ≡ n) × (total ≡ length (written text ts)) → check_out total space ≡ write_answer text ws n space
  whole space v k p =
      let long = length-tokens ws 0 n in
      let all : length ts ≤ first_place malformed ts = omega (arith, long, formed p.0) in
      ap (λ (m : ℕ). check_out m space) p.1
      ∙ after_list text ws n space v k all (omega (arith, p.0, long, faulty-cuts text ts all))

pub survey-requires : goal.survey-requires
survey-requires c =
    let short = text_passes c.args.text.now (sym c.in_ok-check_text.ensures) in
    let numbers = count_passes c.args.slots.now c.args.count (sym c.in_ok-check_count.ensures) in
    (short.0, numbers.0, numbers.1)

pub map_err-requires : goal.map_err-requires
map_err-requires c = λ e is κs b w r u v f l m.
    let numbers = count_passes c.args.slots.now c.args.count (sym c.in_ok-check_count.ensures) in
    let found = rw is at c.survey.ensures in
    (numbers.1, found.0, found.1)

pub returns-then-out-total : goal.returns-then-out-total
returns-then-out-total c =
    let x = c.args in
    let all = seen x.text.now x.slots.now x.count c.survey.result c.survey.ensures c.in_ok-total.ensures.cases in
    refuses _
    (sym (out_short _ _ c.if-out-total.true)
    ∙ whole x.text.now x.slots.now x.count (length x.out.now) c.in_ok-check_text.ensures c.in_ok-check_count.ensures all)

pub fill-requires : goal.fill-requires
fill-requires c =
    let x = c.args in
    let numbers = count_passes x.slots.now x.count (sym c.in_ok-check_count.ensures) in
    let all = seen x.text.now x.slots.now x.count c.survey.result c.survey.ensures c.in_ok-total.ensures.cases in
    record {
      count_bound = (numbers.1, formed x.text.now x.slots.now x.count all.0);
      count_in_bounds = omega (arith, all.1);
    }

pub returns : goal.returns
returns c =
    let x = c.args in
    let all = seen x.text.now x.slots.now x.count c.survey.result c.survey.ensures c.in_ok-total.ensures.cases in
    writes
    (sym (out_fits _ _ c.if-out-total.false)
    ∙ whole x.text.now x.slots.now x.count (length x.out.now) c.in_ok-check_text.ensures c.in_ok-check_count.ensures all)
    c.fill.ensures
