-- What a turn and the whole run keep of every list.
-- get_or-set_either      a place after a store holds the stored token or what it held
-- keep_turn, keep_run, keep_sanitized   a property that a store of None, Placeholder or Ellipsis keeps is kept
-- known-turn           every kind stays one of the 84
-- length-turn, length-sanitized   a list stays as long
-- formed_sanitized     a list stays well formed
-- accepted_formed, formed_accepted   the first malformed place is the end exactly where every token is well formed
-- accepted_sanitized   an accepted list stays accepted
-- accepted_known       its kinds are of the 84
-- Assumes nothing.
use mathlib.Core.Path.{◌≡◌, refl, sym, ap, ◌∙◌, subst}
use mathlib.Core.Bool.{Bool, true, false, cond, not}
use mathlib.Core.Logic.{◌⊎◌, inl, inr, ⊎_elim}
use mathlib.Core.List.{List, [], ◌∷◌}
use Prim.Native.Nat.{ℕ, zero, suc, ◌+◌, ◌≤◌, ◌<◌, ◌-◌}
use native.Mathlib.Omega.{arith}
use native.Mathlib.Decide.{ℕ_discrete, dec_lt}
use lib.ListN.{length, get_or, set, length-set, get_or-eq_default}
use lib.Seq.{get_or-set_same, get_or-set_other, set_out}
use lib.Dec.{eqb, ltb}
use Rattle.tokens.specs.Kinds as kind
use Rattle.tokens.specs.Slots.{bare}
use Rattle.tokens.specs.Formed.{well_formed, carries_offsets, malformed, first_place}
use Rattle.tokens.specs.declared.slot.Slot.{Slot}
use Rattle.tokens.proofs.Places.{place_none}
use Rattle.tokens.proofs.Forms.{formed_kind}
use Rattle.sanitizer.specs.declared.arms.State.{State}
use Rattle.sanitizer.specs.declared.arms.State.TheVariants.{Default}
use Rattle.sanitizer.specs.declared.arms.Does.{Does}
use Rattle.sanitizer.specs.declared.arms.Does.TheVariants.{Stay, Go, Replace, ReplaceUnlessDotted, ReplaceToClose, CollapseRows, RemoveComment}
use Rattle.sanitizer.specs.Arms.{arm_of, does_of}
use Rattle.sanitizer.specs.Scans.{kind_at, kind_before, close_at, rows_at}
use Rattle.sanitizer.specs.Run.{dotted, turn, turn_by, run, sanitized, blank, Known}

pub get_or-set_either : (l : List Slot) (i : ℕ) (a : Slot) (j : ℕ) (d : Slot) → (get_or (set l i a) j d ≡ a) ⊎ (get_or (set l i a) j d ≡ get_or l j d)
get_or-set_either l i a j d = go (ℕ_discrete j i) (dec_lt i (length l))
  where
    go : Dec (j ≡ i) → Dec (i < length l) → (get_or (set l i a) j d ≡ a) ⊎ (get_or (set l i a) j d ≡ get_or l j d)
    go (yes e) (yes h) = inl (ap (λ (m : ℕ). get_or (set l i a) m d) e ∙ get_or-set_same l i a d h)
    go (yes e) (no h) = inr (ap (λ (m : List Slot). get_or m j d) (set_out l i a (omega arith)))
    go (no ne) h = inr (get_or-set_other l i j a d ne)

-- a kind that the sanitiser puts
abbrev pub Put : ℕ → Type 0
Put k = (k ≡ kind.None) ⊎ ((k ≡ kind.Placeholder) ⊎ (k ≡ kind.Ellipsis))

-- ---- any property
module _ (Q : List Slot → Type 0) (q : (ts : List Slot) (i k : ℕ) → Put k → Q ts → Q (set ts i (bare k))) where
  none : (ts : List Slot) (i : ℕ) → Q ts → Q (set ts i (bare kind.None))
  none ts i h = q ts i kind.None (inl refl) h

  one : (ts : List Slot) (i : ℕ) → Q ts → Q (set ts i (bare kind.Placeholder))
  one ts i h = q ts i kind.Placeholder (inr (inl refl)) h

  keep_blank : (n p : ℕ) (ts : List Slot) → Q ts → Q (blank p n ts)
  unfolding blank
  keep_blank zero p ts h = h
  keep_blank (suc n) p ts h = keep_blank n (suc p) (set ts p (bare kind.None)) (none ts p h)

  keep_cond : (b : Bool) (ts us : List Slot) → Q ts → Q us → Q (cond b ts us)
  keep_cond true ts us x y = x
  keep_cond false ts us x y = y

  keep_by : (d : Does) (ts : List Slot) (p : ℕ) (s : State) → Q ts → Q (turn_by d ts p s).left
  unfolding turn_by
  keep_by Stay ts p s h = h
  keep_by (Go s') ts p s h = h
  keep_by Replace ts p s h = one ts p h
  keep_by ReplaceUnlessDotted ts p s h = keep_cond (dotted ts p) ts (set ts p (bare kind.Placeholder)) h (one ts p h)
  keep_by ReplaceToClose ts p s h =
      keep_blank (close_at ts (p + 1) - (p + 1)) (p + 1) (set ts p (bare kind.Placeholder)) (one ts p h)
  keep_by CollapseRows ts p s h =
      keep_blank (rows_at true (p + 1) ts (p + 1) - (p + 1)) (p + 1) (set ts p (bare kind.Ellipsis)) (q ts p kind.Ellipsis (inr (inr refl)) h)
  keep_by RemoveComment ts p s h =
      let removed = set ts p (bare kind.None) in
      keep_cond (eqb (kind_before ts p) kind.Space) (set removed (p - 1) (bare kind.None)) removed (none removed (p - 1) (none ts p h)) (none ts p h)

  pub keep_turn : (ts : List Slot) (p : ℕ) (s : State) → Q ts → Q (turn ts p s).left
  unfolding turn
  keep_turn ts p s h = keep_by (does_of (arm_of s (kind_at ts p))) ts p s h

  pub keep_run : (most : ℕ) (ts : List Slot) (p : ℕ) (s : State) → Q ts → Q (run most ts p s)
  unfolding run
  keep_run zero ts p s h = h
  keep_run (suc most) ts p s h =
      keep_cond (ltb p (length ts)) (run most (turn ts p s).left (turn ts p s).next (turn ts p s).state) ts
      (keep_run most (turn ts p s).left (turn ts p s).next (turn ts p s).state (keep_turn ts p s h)) h

  pub keep_sanitized : (ts : List Slot) → Q ts → Q (sanitized ts)
  unfolding sanitized
  keep_sanitized ts h = keep_run (length ts) ts 0 Default h

-- ---- the kinds
put_known : (k : ℕ) → Put k → k ≤ kind.Unknown
put_known k (inl e) = omega arith
put_known k (inr (inl e)) = omega arith
put_known k (inr (inr e)) = omega arith

known-set : (ts : List Slot) (i k : ℕ) → Put k → Known ts → Known (set ts i (bare k))
known-set ts i k z h j =
    ⊎_elim (λ e. subst (λ (t : Slot). t.kind ≤ kind.Unknown) (sym e) (put_known k z))
    (λ e. subst (λ (t : Slot). t.kind ≤ kind.Unknown) (sym e) (h j)) (get_or-set_either ts i (bare k) j (bare kind.None))

pub known-turn : (ts : List Slot) (p : ℕ) (s : State) → Known ts → Known (turn ts p s).left
known-turn = keep_turn Known known-set

-- ---- the length
length-kept : (n : ℕ) (us : List Slot) (i k : ℕ) → Put k → length us ≡ n → length (set us i (bare k)) ≡ n
length-kept n us i k z h = length-set us i (bare k) ∙ h

pub length-turn : (ts : List Slot) (p : ℕ) (s : State) → length (turn ts p s).left ≡ length ts
length-turn ts p s = keep_turn (λ (us : List Slot). length us ≡ length ts) (length-kept (length ts)) ts p s refl

pub length-sanitized : (ts : List Slot) → length (sanitized ts) ≡ length ts
length-sanitized ts = keep_sanitized (λ (us : List Slot). length us ≡ length ts) (length-kept (length ts)) ts refl

-- ---- the form
-- every token well formed
abbrev pub AllFormed : List Slot → Type 0
AllFormed ts = (i : ℕ) → well_formed (get_or ts i (bare kind.None)) ≡ true

put_formed : (k : ℕ) → Put k → well_formed (bare k) ≡ true
unfolding well_formed carries_offsets
put_formed k (inl e) = rw e
put_formed k (inr (inl e)) = rw e
put_formed k (inr (inr e)) = rw e

pub formed_sanitized : (ts : List Slot) → AllFormed ts → AllFormed (sanitized ts)
formed_sanitized =
    keep_sanitized AllFormed
    (λ us i k z h j. ⊎_elim (λ e. ap well_formed e ∙ put_formed k z) (λ e. ap well_formed e ∙ h j) (get_or-set_either us i (bare k) j (bare kind.None)))

-- ---- accepted lists
-- a list is accepted when the first malformed place is its end
abbrev pub Accepted : List Slot → Type 0
Accepted ts = first_place malformed ts ≡ length ts

formed_of : (b : Bool) → not b ≡ false → b ≡ true
formed_of true e = refl
formed_of false e = sym e

pub accepted_formed : (ts : List Slot) → Accepted ts → AllFormed ts
accepted_formed ts h i = go (dec_lt i (length ts))
  where
    go : Dec (i < length ts) → well_formed (get_or ts i (bare kind.None)) ≡ true
    go (yes l) = formed_of (well_formed (get_or ts i (bare kind.None))) (place_none malformed ts (bare kind.None) h i l)
    go (no l) = ap well_formed (get_or-eq_default ts (bare kind.None) {n = i} (omega arith)) ∙ put_formed kind.None (inl refl)

pub formed_accepted : (ts : List Slot) → AllFormed ts → Accepted ts
unfolding first_place
formed_accepted [] h = refl
formed_accepted (t ∷ ts) h =
    ap (λ (b : Bool). cond (not b) 0 (suc (first_place malformed ts))) (h 0) ∙ ap suc (formed_accepted ts (λ i. h (suc i)))

pub accepted_sanitized : (ts : List Slot) → Accepted ts → Accepted (sanitized ts)
accepted_sanitized ts h = formed_accepted (sanitized ts) (formed_sanitized ts (accepted_formed ts h))

pub accepted_known : (ts : List Slot) → Accepted ts → Known ts
accepted_known ts h i = formed_kind (get_or ts i (bare kind.None)) (accepted_formed ts h i)
