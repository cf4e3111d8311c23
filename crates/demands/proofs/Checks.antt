-- Each check is a row of its table, and checks one after the other are a table. What Demand1.antt rests on.
-- Check           a check finds nothing where its row never applies, else refuses with the one detail with which it does
-- follows_end, follows_then   a table from its end on, one check at a time
-- check_long, _valid, _tokens, _count, _form, _cuts, _out   the seven
-- Assumes nothing.
use mathlib.Core.Path.{◌≡◌, refl, sym, ap, subst, ◌∙◌}
use mathlib.Core.Bool.{Bool, true, false, cond, ◌||◌}
use mathlib.Core.List.{List, [], ◌∷◌}
use mathlib.Core.Logic.{◌⊎◌, inl, inr}
use mathlib.Core.Option.{Option, none, some}
use Prim.Native.Nat.{ℕ, zero, suc, ◌<◌}
use native.Mathlib.Omega.{arith}
use native.Mathlib.Nat.{le_of_suc-le-suc}
use lib.Dec.{ltb}
use lib.ListN.{length}
use borrow.Author.Tests.{ltb-true, ltb-false}
use Rattle.chars.specs.Utf8.{first_bad}
use Rattle.chars.proofs.Scalars.{clash}
use Rattle.tokens.specs.declared.slot.Slot.{Slot}
use Rattle.tokens.specs.Slots.{room, tokens_in}
use Rattle.tokens.specs.Formed.{first_place, malformed}
use Rattle.tokens.specs.Answers.{Answer, done, refused, limit, text_too_long, no_room_tokens, bad_count, no_room_out}
use Rattle.tokens.specs.Checks.{◌then◌, fine, validity, check_text, check_count, check_form}
use Rattle.writer.specs.Written.{cuts}
use Rattle.writer.specs.Promise.{check_cuts}
use Rattle.demands.specs.Terms.{tokens_of, at}
use Rattle.demands.specs.Tables.{Table, end, row, Refuses, Follows, First, TextTooLong, NotUtf8, NoRoomTokens, BadCount, BadToken, CutChar, NoRoomOut}

pub data Check (a : Answer) (n : ℕ) (applies : ℕ → Type 0) : Type 0 where
  passes : a ≡ fine → ((e : ℕ) → applies e → ⊥) → Check a n applies
  fails : (d : ℕ) → a ≡ refused n d → applies d → ((e : ℕ) → applies e → e ≡ d) → Check a n applies

-- the number and the detail of a refusal
unfoldable pub number_of : Answer → ℕ
number_of (done ns) = 0
number_of (refused k d) = k

detail_of : Answer → ℕ
detail_of (done ns) = 0
detail_of (refused k d) = d

numbers_of : Answer → List ℕ
numbers_of (done ns) = ns
numbers_of (refused k d) = []

pub follows_end : (ns : List ℕ) → Follows (done ns) end ns
unfolding numbers_of
follows_end ns = record {
  refused_when = λ k d r. absurd r;
  refused_only = λ k d e. clash (cc);
  done_when = λ c. refl;
  done_only = λ ms e. (tt, sym (ap numbers_of e));
}

pub follows_then : {a next : Answer} {n : ℕ} {applies : ℕ → Type 0} {rest : Table} {ns : List ℕ} → Check a n applies → Follows next rest ns
    → Follows (a then next) (row n applies rest) ns
unfolding number_of detail_of
follows_then {a} {next} {n} {applies} {rest} {ns} (passes e none-applies) f =
    subst (λ (b : Answer). Follows (b then next) (row n applies rest) ns) (sym e) (record {
      refused_when = λ k d r. from k d r;
      refused_only = λ k d g. inr (none-applies, f.refused_only k d g);
      done_when = λ c. f.done_when c.1;
      done_only = λ ms g. ((none-applies, (f.done_only ms g).0), (f.done_only ms g).1);
    })
  where
    from : (k d : ℕ) → Refuses (row n applies rest) k d → next ≡ refused k d
    from k d (inl r) = absurd (none-applies d r.1)
    from k d (inr r) = f.refused_when k d r.1
follows_then {a} {next} {n} {applies} {rest} {ns} (fails d₀ e it one) f =
    subst (λ (b : Answer). Follows (b then next) (row n applies rest) ns) (sym e) (record {
      refused_when = λ k d r. from k d r;
      refused_only = λ k d g. inl (sym (ap number_of g), subst applies (ap detail_of g) it);
      done_when = λ c. absurd (c.0 d₀ it);
      done_only = λ ms g. clash (cc);
    })
  where
    from : (k d : ℕ) → Refuses (row n applies rest) k d → refused n d₀ ≡ refused k d
    from k d (inl r) = ap (λ (m : ℕ). refused m d₀) (sym r.0) ∙ ap (refused k) (sym (one d r.1))
    from k d (inr r) = absurd (r.0 d₀ it)

-- a check that answers with numbers where it finds nothing
pub cond-then : (b : Bool) (k d : ℕ) (next : Answer) → cond b (refused k d) next ≡ (cond b (refused k d) fine then next)
cond-then true k d next = refl
cond-then false k d next = refl

pub cond_over : (b : Bool) (k d : ℕ) (ns : List ℕ) (next : Answer) → (cond b (refused k d) (done ns) then next) ≡ (cond b (refused k d) fine then next)
cond_over true k d ns next = refl
cond_over false k d ns next = refl

-- ---- the checks
-- a bound: over it, refused with a detail that does not depend on more
over : (n bound value detail : ℕ) → Check (cond (ltb bound value) (refused n detail) fine) n (λ d. (bound < value) × (d ≡ detail))
over n bound value detail = from (ltb bound value) refl
  where
    from : (b : Bool) → ltb bound value ≡ b → Check (cond b (refused n detail) fine) n (λ d. (bound < value) × (d ≡ detail))
    from true e = fails detail refl (ltb-true bound value e, refl) (λ d a. a.1)
    from false e = passes refl (λ d a. omega (arith, a.0, ltb-false bound value e))

-- 1
abbrev pub long : List ℕ → Answer
long text = cond (ltb limit (length text)) (text_too_long (length text)) fine

pub check_long : (text : List ℕ) → Check (long text) 1 (TextTooLong text)
check_long text = over 1 limit (length text) (length text)

-- 2
pub check_valid : (text : List ℕ) → Check (validity (first_bad text)) 2 (NotUtf8 text)
check_valid text = from (first_bad text) refl
  where
    from : (o : Option ℕ) → first_bad text ≡ o → Check (validity o) 2 (NotUtf8 text)
    from none e = passes refl (λ d a. clash (cc))
    from (some at) e = fails at refl e (λ d a. cc)

pub text_checks : (text : List ℕ) (next : Answer) → (check_text text then next) ≡ (long text then validity (first_bad text) then next)
unfolding check_text
text_checks text next = from (ltb limit (length text))
  where
    from : (b : Bool) → (cond b (text_too_long (length text)) (validity (first_bad text)) then next) ≡ (cond b (text_too_long (length text)) fine then validity (first_bad text) then next)
    from true = refl
    from false = refl

-- 3
pub check_tokens : (text ws : List ℕ) → Check (cond (ltb (room ws) (length (tokens_of text))) (no_room_tokens (length (tokens_of text))) fine) 3 (NoRoomTokens text ws)
check_tokens text ws = over 3 (room ws) (length (tokens_of text)) (length (tokens_of text))

-- 4
pub check_count_lem : (ws : List ℕ) (n : ℕ) → Check (check_count ws n) 4 (BadCount ws n)
unfolding check_count
check_count_lem ws n = from (ltb limit n) (ltb (room ws) n) refl refl
  where
    from : (a b : Bool) → ltb limit n ≡ a → ltb (room ws) n ≡ b → Check (cond (a || b) (bad_count (room ws)) fine) 4 (BadCount ws n)
    from true b e f = fails (room ws) refl (inl (ltb-true limit n e), refl) (λ d a. a.1)
    from false true e f = fails (room ws) refl (inr (ltb-true (room ws) n f), refl) (λ d a. a.1)
    from false false e f = passes refl (λ d a. neither a.0)
      where
        neither : (limit < n) ⊎ (room ws < n) → ⊥
        neither (inl h) = omega (arith, ltb-false limit n e)
        neither (inr h) = omega (arith, ltb-false (room ws) n f)

-- 5 and 6: the first place that passes a test
module _ (p : Slot → Bool) where
  place_before : (ts : List Slot) (i : ℕ) → i < first_place p ts → p (at ts i) ≡ false
  unfolding first_place
  place_before [] i h = absurd (omega arith)
  place_before (t ∷ ts) i h = from (p t) refl i h (place_before ts)
    where
      from : (b : Bool) → p t ≡ b → (j : ℕ) → j < cond b 0 (suc (first_place p ts)) → ((k : ℕ) → k < first_place p ts → p (at ts k) ≡ false) → p (at (t ∷ ts) j) ≡ false
      from true e j k ih = absurd (omega arith)
      from false e zero k ih = e
      from false e (suc j) k ih = ih j (le_of_suc-le-suc k)

  place_here : (ts : List Slot) → first_place p ts < length ts → p (at ts (first_place p ts)) ≡ true
  unfolding first_place
  place_here [] h = absurd (omega arith)
  place_here (t ∷ ts) h = from (p t) refl h (place_here ts)
    where
      from : (b : Bool) → p t ≡ b → cond b 0 (suc (first_place p ts)) < length (t ∷ ts) → (first_place p ts < length ts → p (at ts (first_place p ts)) ≡ true)
          → p (at (t ∷ ts) (cond b 0 (suc (first_place p ts)))) ≡ true
      from true e g ih = e
      from false e g ih = ih (le_of_suc-le-suc g)

  first_is : (ts : List Slot) (d : ℕ) → First p ts d → d ≡ first_place p ts
  unfolding first_place
  first_is [] d f = absurd (omega (arith, f.inside))
  first_is (t ∷ ts) zero f = ap (λ (b : Bool). cond b 0 (suc (first_place p ts))) (sym f.here)
  first_is (t ∷ ts) (suc d) f =
      ap suc (first_is ts d (record { inside = le_of_suc-le-suc f.inside; here = f.here; before = λ i h. f.before (suc i) (omega arith) }))
      ∙ ap (λ (b : Bool). cond b 0 (suc (first_place p ts))) (sym (f.before 0 (omega arith)))

  check_first : (n : ℕ) (ts : List Slot) → Check (cond (ltb (first_place p ts) (length ts)) (refused n (first_place p ts)) fine) n (First p ts)
  check_first n ts = from (ltb (first_place p ts) (length ts)) refl
    where
      from : (b : Bool) → ltb (first_place p ts) (length ts) ≡ b → Check (cond b (refused n (first_place p ts)) fine) n (First p ts)
      from true e =
          let h : first_place p ts < length ts = ltb-true (first_place p ts) (length ts) e in
          fails (first_place p ts) refl (record { inside = h; here = place_here ts h; before = place_before ts }) (first_is ts)
      from false e = passes refl (λ d f. omega (arith, ltb-false (first_place p ts) (length ts) e, first_is ts d f, f.inside))

pub check_form_lem : (ws : List ℕ) (n : ℕ) → Check (check_form (tokens_in ws n)) 5 (BadToken ws n)
unfolding check_form
check_form_lem ws n = check_first malformed 5 (tokens_in ws n)

pub check_cuts_lem : (text ws : List ℕ) (n : ℕ) → Check (check_cuts text (tokens_in ws n)) 6 (CutChar text ws n)
unfolding check_cuts
check_cuts_lem text ws n = check_first (cuts text) 6 (tokens_in ws n)

-- 7
pub check_out_lem : (text out : List ℕ) → Check (cond (ltb (length out) (length text)) (no_room_out (length text)) fine) 7 (NoRoomOut text out)
check_out_lem text out = over 7 (length out) (length text) (length text)
