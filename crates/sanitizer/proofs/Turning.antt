-- One turn and all turns, as the code takes them.
-- left_put                     what a store of a bare token leaves
-- left_by                      work on top of work
-- blank_step, blank_done       blanking one place at a time
-- Leads, leads_more, _done   blanking leads on to what is left to blank
-- left_is                      what is left, by an equal list
-- before_stored                the kind before a place that was stored to
-- comment_first, _other, _spaced   what removing a comment leaves
-- turned                       a turn, from what its arm does
-- Runs, runs_start, _done, _more   the turns still to take end in the sanitised list
-- Assumes nothing.
use mathlib.Core.Path.{◌≡◌, refl, sym, ap, ◌∙◌, subst}
use mathlib.Core.List.{List}
use Prim.Native.Nat.{ℕ, zero, suc, ◌+◌, ◌≤◌, ◌<◌, ◌-◌}
use native.Mathlib.Omega.{arith}
use native.Mathlib.Numerals.{add-one}
use lib.ListN.{length, set}
use borrow.Author.Tests.{eq-eqb, ne_eqb, le-ltb, lt-ltb}
use Rattle.tokens.specs.Kinds as kind
use Rattle.tokens.specs.Slots.{bare, room, slot_at, stored, tokens_in, Left}
use Rattle.tokens.specs.declared.slot.Slot.{Slot}
use Rattle.tokens.proofs.Storing.{length-tokens, left_stored, left_then, slot_other}
use Rattle.sanitizer.specs.declared.arms.State.{State}
use Rattle.sanitizer.specs.declared.arms.State.TheVariants.{Default}
use Rattle.sanitizer.specs.declared.arms.Does.{Does}
use Rattle.sanitizer.specs.declared.arms.Arm.{Arm}
use Rattle.sanitizer.specs.Arms.{arm_of, does_of, arm}
use Rattle.sanitizer.specs.Scans.{kind_at, kind_before}
use Rattle.sanitizer.specs.Run.{turn, turn_by, run, sanitized, blank, uncommented}
use Rattle.sanitizer.specs.Leaves.{Turned, Blanked}
use Rattle.sanitizer.proofs.Scanning.{kind_of, kind_tokens, before_is, before_first}

-- ---- changes to the buffer
pub left_put : {ws ws' : List ℕ} (n p k : ℕ) → p < n → n ≤ room ws → ws' ≡ stored ws p (bare k) → Left n ws ws' (set (tokens_in ws n) p (bare k))
left_put {ws} {ws'} n p k h l e =
    subst (λ (x : List ℕ). Left n ws x (set (tokens_in ws n) p (bare k))) (sym e) (left_stored ws p (bare k) n h l)

pub left_by : {n : ℕ} {a b c : List ℕ} {ts : List Slot} (f : List Slot → List Slot) → Left n a b ts → Left n b c (f (tokens_in b n)) → Left n a c (f ts)
left_by f l m = record { tokens = m.tokens ∙ ap f l.tokens; rest = m.rest ∙ l.rest; long = m.long ∙ l.long }

pub left_is : {n : ℕ} {ws ws' : List ℕ} {ts us : List Slot} → us ≡ ts → Left n ws ws' ts → Left n ws ws' us
left_is {n} {ws} {ws'} e l = subst (λ (x : List Slot). Left n ws ws' x) (sym e) l

pub blank_step : (p e : ℕ) (ts : List Slot) → p < e → blank p (e - p) ts ≡ blank (p + 1) (e - (p + 1)) (set ts p (bare kind.None))
unfolding blank
blank_step p e ts h = let q : e - p ≡ suc (e - (p + 1)) = omega arith in rw (q, add-one p)

pub blank_done : (p e : ℕ) (ts : List Slot) → e ≤ p → blank p (e - p) ts ≡ ts
unfolding blank
blank_done p e ts h = let q : e - p ≡ 0 = omega arith in rw q

-- blanking the places from p up to e leads on from the words after blanking the first of them, up to q, whatever the count
abbrev pub Leads : List ℕ → List ℕ → ℕ → ℕ → ℕ → Type 0
Leads ws ws' p q e =
    (n : ℕ) → e ≤ n → n ≤ room ws
    → Left n ws ws' (tokens_in ws' n) × (blank q (e - q) (tokens_in ws' n) ≡ blank p (e - p) (tokens_in ws n))

module _ (ws ws' : List ℕ) where
  pub leads_more : (ws'' : List ℕ) (p q e : ℕ) → q < e → length ws' ≡ length ws → ws'' ≡ stored ws' q (bare kind.None) → Leads ws ws' p q e → Leads ws ws'' p (q + 1) e
  leads_more ws'' p q e h g s f = λ n k l.
      let one = left_put {ws = ws'} {ws' = ws''} n q kind.None (omega arith) (omega arith) s in
      let two = f n k l in (
        left_then two.0 (left_is one.tokens one),
        ap (λ (ts : List Slot). blank (q + 1) (e - (q + 1)) ts) one.tokens ∙ sym (blank_step q e (tokens_in ws' n) h) ∙ two.1,
      )

  pub leads_done : (p q e : ℕ) → e ≤ q → Leads ws ws' p q e → Blanked ws ws' p e
  leads_done p q e h f = λ n k l.
      let two = f n k l in left_is (sym (sym (blank_done q e (tokens_in ws' n) h) ∙ two.1)) two.0

-- the kind before place p, read after a store at p
pub before_stored : (ws : List ℕ) {ws' : List ℕ} (n p k : ℕ) → p < n → 0 < p → ws' ≡ stored ws p (bare k) → kind_before (tokens_in ws n) p ≡ (slot_at ws' (p - 1)).kind
before_stored ws {ws'} n p k h l e =
    before_is (tokens_in ws n) p l ∙ kind_tokens ws n (p - 1) (omega arith)
    ∙ ap kind_of (sym (slot_other ws p (bare k) (p - 1) (λ z. omega arith)))
    ∙ ap (λ (x : List ℕ). (slot_at x (p - 1)).kind) (sym e)

module _ (ts : List Slot) (p : ℕ) where
  abbrev removed : List Slot
  removed = set ts p (bare kind.None)

  pub comment_spaced : kind_before ts p ≡ kind.Space → uncommented ts p ≡ set removed (p - 1) (bare kind.None)
  comment_spaced h = rw (eq-eqb (kind_before ts p) kind.Space h)

  pub comment_other : (kind_before ts p ≡ kind.Space → ⊥) → uncommented ts p ≡ removed
  comment_other h = rw (ne_eqb (kind_before ts p) kind.Space h)

  pub comment_first : p ≡ 0 → uncommented ts p ≡ removed
  comment_first e = comment_other (λ h. omega (arith, before_first ts p e))

-- ---- one turn
module _ (n : ℕ) (ws ws' : List ℕ) (p k : ℕ) (s : State) (chosen : Arm) (d : Does) where
  pub turned : k ≡ kind_at (tokens_in ws n) p → chosen ≡ arm (arm_of s k) → chosen.1 ≡ d → {ts : List Slot} → (turn_by d (tokens_in ws n) p s).left ≡ ts → Left n ws ws' ts
      → {q : ℕ} → q ≡ (turn_by d (tokens_in ws n) p s).next → {s' : State} → s' ≡ (turn_by d (tokens_in ws n) p s).state → p < q → q ≤ n + 1
      → Turned n ws ws' p (turn (tokens_in ws n) p s) q s'
  unfolding turn arm
  turned ke ce de {ts} l h {q} a {s'} b u v =
      let e : does_of (arm_of s (kind_at (tokens_in ws n) p)) ≡ d =
      ap (λ (x : ℕ). does_of (arm_of s x)) (sym ke) ∙ sym (ap (λ (x : Arm). x.1) ce) ∙ de in
      subst (λ (x : Does). Turned n ws ws' p (turn_by x (tokens_in ws n) p s) q s') (sym e)
      (record { left = subst (λ (x : List Slot). Left n ws ws' x) (sym l) h; next_is = a; state_is = b; later = u; near = v })

-- ---- all turns
-- the turns from place p in state s, enough of them, end in the list us
abbrev pub Runs : ℕ → List ℕ → ℕ → State → List Slot → Type 0
Runs n ws p s us = (most : ℕ) × (n ≤ p + most) × (run most (tokens_in ws n) p s ≡ us)

pub run_done : (most : ℕ) (ts : List Slot) (p : ℕ) (s : State) → length ts ≤ p → run most ts p s ≡ ts
unfolding run
run_done zero ts p s h = refl
run_done (suc most) ts p s h = rw (le-ltb p (length ts) h)

pub run_more : (most : ℕ) (ts : List Slot) (p : ℕ) (s : State) → p < length ts → run (suc most) ts p s ≡ run most (turn ts p s).left (turn ts p s).next (turn ts p s).state
unfolding run
run_more most ts p s h = rw (lt-ltb p (length ts) h)

pub runs_start : (n : ℕ) (ws : List ℕ) → Runs n ws 0 Default (sanitized (tokens_in ws n))
unfolding sanitized
runs_start n ws = (n, omega arith, ap (λ (m : ℕ). run m (tokens_in ws n) 0 Default) (sym (length-tokens ws 0 n)))

module _ (n : ℕ) (ws : List ℕ) (p : ℕ) (s : State) (us : List Slot) where
  pub runs_done : n ≤ p → Runs n ws p s us → tokens_in ws n ≡ us
  runs_done h r = sym (run_done r.0 (tokens_in ws n) p s (omega (arith, length-tokens ws 0 n))) ∙ r.2

  pub runs_more : (ws' : List ℕ) (q : ℕ) (s' : State) → p < n → Turned n ws ws' p (turn (tokens_in ws n) p s) q s' → Runs n ws p s us → Runs n ws' q s' us
  runs_more ws' q s' h t r = go r.0 r.1 r.2
    where
      go : (most : ℕ) → n ≤ p + most → run most (tokens_in ws n) p s ≡ us → Runs n ws' q s' us
      go zero a e = absurd (omega arith)
      go (suc most) a e = (
        most,
        omega (arith, t.later),
        cc (t.left.tokens, t.next_is, t.state_is, run_more most (tokens_in ws n) p s (omega (arith, length-tokens ws 0 n)), e),
      )
