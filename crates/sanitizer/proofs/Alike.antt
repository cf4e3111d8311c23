-- Kinds decide: lists with equal kinds are changed at the same places to the same bare tokens.
-- SameAt, Alike            what two changed lists have in common, at a place and everywhere
-- alike_set                a store of a bare token in both
-- alike_turn               one turn of each
-- alike_run                all turns of each
-- same_kinds_same_changes  the law, of the sanitised lists
-- same_kinds_same_count    and of their exposed counts
-- Assumes nothing.
use mathlib.Core.Path.{◌≡◌, refl, sym, ap, ◌∙◌, subst}
use mathlib.Core.Bool.{Bool, true, false, cond, ◌||◌}
use mathlib.Core.Logic.{◌⊎◌, inl, inr, ⊎_elim}
use mathlib.Core.List.{List, [], ◌∷◌}
use Prim.Native.Nat.{ℕ, zero, suc, ◌+◌, ◌<◌, ◌-◌}
use native.Mathlib.Omega.{arith}
use native.Mathlib.Decide.{ℕ_discrete, dec_lt}
use lib.ListN.{length, get_or, set, drop, length-map, get_or-map}
use lib.Seq.{get_or-set_same, get_or-set_other, set_out}
use lib.Dec.{eqb, ltb}
use Rattle.tokens.specs.Kinds as kind
use Rattle.tokens.specs.Slots.{bare, kinds}
use Rattle.tokens.specs.declared.slot.Slot.{Slot}
use Rattle.sanitizer.specs.declared.arms.State.{State}
use Rattle.sanitizer.specs.declared.arms.State.TheVariants.{Default}
use Rattle.sanitizer.specs.declared.arms.Does.{Does}
use Rattle.sanitizer.specs.declared.arms.Does.TheVariants.{Stay, Go, Replace, ReplaceUnlessDotted, ReplaceToClose, CollapseRows, RemoveComment}
use Rattle.sanitizer.specs.Arms.{arm_of, does_of}
use Rattle.sanitizer.specs.Scans.{kind_at, kind_before, close_from, rows_from, close_at, rows_at}
use Rattle.sanitizer.specs.Run.{dotted, one_for, Step, turn, turn_by, run, sanitized, blank}
use Rattle.sanitizer.specs.Exposed.{exposed, is_exposed}
use Rattle.sanitizer.proofs.Scanning.{kind_of}

-- place i is unchanged in both lists, or the same bare token in both
abbrev pub SameAt : List Slot → List Slot → List Slot → List Slot → ℕ → Type 0
SameAt ts us ts' us' i =
    ((get_or ts' i (bare kind.None) ≡ get_or ts i (bare kind.None)) × (get_or us' i (bare kind.None) ≡ get_or us i (bare kind.None)))
    ⊎ ((k : ℕ) × (get_or ts' i (bare kind.None) ≡ bare k) × (get_or us' i (bare kind.None) ≡ bare k))

-- the lists ts and us were changed to ts' and us' at the same places to the same bare tokens
pub record Alike (ts us ts' us' : List Slot) : Type 0 where
  pub same_kinds : kinds ts' ≡ kinds us'
  pub same_at : (i : ℕ) → SameAt ts us ts' us' i

-- ---- what equal kinds make equal
kinds-set : (ts : List Slot) (i : ℕ) (t : Slot) → kinds (set ts i t) ≡ set (kinds ts) i t.kind
kinds-set [] i t = refl
kinds-set (x ∷ ts) zero t = refl
kinds-set (x ∷ ts) (suc i) t = ap (λ (r : List ℕ). x.kind ∷ r) (kinds-set ts i t)

module _ (ts us : List Slot) (e : kinds ts ≡ kinds us) where
  pub length_same : length ts ≡ length us
  length_same = sym (length-map ts kind_of) ∙ ap length e ∙ length-map us kind_of

  kind_same : (p : ℕ) → kind_at ts p ≡ kind_at us p
  kind_same p =
      sym (get_or-map kind_of ts p (bare kind.None)) ∙ ap (λ (ks : List ℕ). get_or ks p kind.None) e ∙ get_or-map kind_of us p (bare kind.None)

  before_same : (p : ℕ) → kind_before ts p ≡ kind_before us p
  before_same zero = refl
  before_same (suc p) = kind_same p

  dotted_same : (p : ℕ) → dotted ts p ≡ dotted us p
  dotted_same p =
      ap (λ (k : ℕ). eqb k kind.Dot || eqb (kind_at ts (p + 1)) kind.Dot) (before_same p)
      ∙ ap (λ (k : ℕ). eqb (kind_before us p) kind.Dot || eqb k kind.Dot) (kind_same (p + 1))

  close_same : (p : ℕ) → close_at ts p ≡ close_at us p
  close_same p = ap (λ (ks : List ℕ). close_from p (drop p ks)) e

  rows_same : (p : ℕ) → rows_at true p ts p ≡ rows_at true p us p
  rows_same p = ap (λ (ks : List ℕ). rows_from true p p (drop p ks)) e

-- ---- changes to both
module _ (ts us : List Slot) where
  pub alike_set : (ts' us' : List Slot) (i k : ℕ) → Alike ts us ts' us' → Alike ts us (set ts' i (bare k)) (set us' i (bare k))
  alike_set ts' us' i k h = record {
    same_kinds = kinds-set ts' i (bare k) ∙ ap (λ (ks : List ℕ). set ks i k) h.same_kinds ∙ sym (kinds-set us' i (bare k));
    same_at = λ j. go j (ℕ_discrete j i) (dec_lt i (length ts'));
  }
    where
      le : length ts' ≡ length us'
      le = length_same ts' us' h.same_kinds

      here : (j : ℕ) (xs : List Slot) → j ≡ i → i < length xs → get_or (set xs i (bare k)) j (bare kind.None) ≡ bare k
      here j xs e l = ap (λ (m : ℕ). get_or (set xs i (bare k)) m (bare kind.None)) e ∙ get_or-set_same xs i (bare k) (bare kind.None) l

      go : (j : ℕ) → Dec (j ≡ i) → Dec (i < length ts') → SameAt ts us (set ts' i (bare k)) (set us' i (bare k)) j
      go j (yes e) (yes l) = inr (k, here j ts' e l, here j us' e (omega (arith, le)))
      go j (yes e) (no l) =
          subst (λ (xs : List Slot). SameAt ts us xs (set us' i (bare k)) j) (sym (set_out ts' i (bare k) (omega arith)))
          (subst (λ (xs : List Slot). SameAt ts us ts' xs j) (sym (set_out us' i (bare k) (omega (arith, le)))) (h.same_at j))
      go j (no ne) l =
          ⊎_elim (λ w. inl (get_or-set_other ts' i j (bare k) (bare kind.None) ne ∙ w.0, get_or-set_other us' i j (bare k) (bare kind.None) ne ∙ w.1))
          (λ w. inr (w.0, get_or-set_other ts' i j (bare k) (bare kind.None) ne ∙ w.1, get_or-set_other us' i j (bare k) (bare kind.None) ne ∙ w.2))
          (h.same_at j)

  alike_blank : (n p : ℕ) (ts' us' : List Slot) → Alike ts us ts' us' → Alike ts us (blank p n ts') (blank p n us')
  unfolding blank
  alike_blank zero p ts' us' h = h
  alike_blank (suc n) p ts' us' h =
      alike_blank n (suc p) (set ts' p (bare kind.None)) (set us' p (bare kind.None)) (alike_set ts' us' p kind.None h)

  alike_one : (k p e e' : ℕ) (ts' us' : List Slot) → e ≡ e' → Alike ts us ts' us' → Alike ts us (one_for k ts' p e) (one_for k us' p e')
  alike_one k p e e' ts' us' q h =
      subst (λ (m : ℕ). Alike ts us (one_for k ts' p e) (one_for k us' p m)) q
      (alike_blank (e - (p + 1)) (p + 1) (set ts' p (bare k)) (set us' p (bare k)) (alike_set ts' us' p k h))

  alike_cond : (b c : Bool) → b ≡ c → (x y x' y' : List Slot) → Alike ts us x x' → Alike ts us y y' → Alike ts us (cond b x y) (cond c x' y')
  alike_cond true c e x y x' y' h g = subst (λ (d : Bool). Alike ts us x (cond d x' y')) e h
  alike_cond false c e x y x' y' h g = subst (λ (d : Bool). Alike ts us y (cond d x' y')) e g

  -- ---- one turn of each
  pub record AlikeStep (x y : Step) : Type 0 where
    pub lists : Alike ts us x.left y.left
    pub nexts : x.next ≡ y.next
    pub states : x.state ≡ y.state

  alike_by : (d : Does) (ts' us' : List Slot) (p : ℕ) (s : State) → Alike ts us ts' us' → AlikeStep (turn_by d ts' p s) (turn_by d us' p s)
  unfolding turn_by
  alike_by Stay ts' us' p s h = record { lists = h; nexts = refl; states = refl }
  alike_by (Go s') ts' us' p s h = record { lists = h; nexts = refl; states = refl }
  alike_by Replace ts' us' p s h = record { lists = alike_set ts' us' p kind.Placeholder h; nexts = refl; states = refl }
  alike_by ReplaceUnlessDotted ts' us' p s h = record {
    lists = alike_cond (dotted ts' p) (dotted us' p) (dotted_same ts' us' h.same_kinds p) ts' (set ts' p (bare kind.Placeholder)) us' (set us' p (bare kind.Placeholder)) h (alike_set ts' us' p kind.Placeholder h);
    nexts = refl;
    states = refl;
  }
  alike_by ReplaceToClose ts' us' p s h =
      let e : close_at ts' (p + 1) ≡ close_at us' (p + 1) = close_same ts' us' h.same_kinds (p + 1) in
      record { lists = alike_one kind.Placeholder p (close_at ts' (p + 1)) (close_at us' (p + 1)) ts' us' e h; nexts = e; states = refl }
  alike_by CollapseRows ts' us' p s h =
      let e : rows_at true (p + 1) ts' (p + 1) ≡ rows_at true (p + 1) us' (p + 1) = rows_same ts' us' h.same_kinds (p + 1) in
      record {
        lists = alike_one kind.Ellipsis p (rows_at true (p + 1) ts' (p + 1)) (rows_at true (p + 1) us' (p + 1)) ts' us' e h;
        nexts = ap (λ (m : ℕ). m + 1) e;
        states = refl;
      }
  alike_by RemoveComment ts' us' p s h =
      let one = alike_set ts' us' p kind.None h in
      let ts'' = set ts' p (bare kind.None) in
      let us'' = set us' p (bare kind.None) in
      record {
        lists = alike_cond (eqb (kind_before ts' p) kind.Space) (eqb (kind_before us' p) kind.Space) (ap (λ (k : ℕ). eqb k kind.Space) (before_same ts' us' h.same_kinds p)) (set ts'' (p - 1) (bare kind.None)) ts'' (set us'' (p - 1) (bare kind.None)) us'' (alike_set ts'' us'' (p - 1) kind.None one) one;
        nexts = refl;
        states = refl;
      }

  pub alike_turn : (ts' us' : List Slot) (p : ℕ) (s : State) → Alike ts us ts' us' → AlikeStep (turn ts' p s) (turn us' p s)
  unfolding turn
  alike_turn ts' us' p s h =
      subst (λ (k : ℕ). AlikeStep (turn_by (does_of (arm_of s (kind_at ts' p))) ts' p s) (turn_by (does_of (arm_of s k)) us' p s))
      (kind_same ts' us' h.same_kinds p) (alike_by (does_of (arm_of s (kind_at ts' p))) ts' us' p s h)

  -- ---- all turns of each
  pub alike_run : (most : ℕ) (ts' us' : List Slot) (p : ℕ) (s : State) → Alike ts us ts' us' → Alike ts us (run most ts' p s) (run most us' p s)
  unfolding run
  alike_run zero ts' us' p s h = h
  alike_run (suc most) ts' us' p s h =
      let t = turn ts' p s in
      let u = turn us' p s in
      let a = alike_turn ts' us' p s h in
      alike_cond (ltb p (length ts')) (ltb p (length us')) (ap (ltb p) (length_same ts' us' h.same_kinds))
      (run most t.left t.next t.state) ts' (run most u.left u.next u.state) us'
      (subst (λ (q : ℕ). Alike ts us (run most t.left t.next t.state) (run most u.left q u.state)) a.nexts
      (subst (λ (z : State). Alike ts us (run most t.left t.next t.state) (run most u.left t.next z)) a.states
      (alike_run most t.left u.left t.next t.state a.lists)))
      h

-- ---- the laws
pub same_kinds_same_changes : (ts us : List Slot) → kinds ts ≡ kinds us → Alike ts us (sanitized ts) (sanitized us)
unfolding sanitized
same_kinds_same_changes ts us e =
    subst (λ (n : ℕ). Alike ts us (run (length ts) ts 0 Default) (run n us 0 Default)) (length_same ts us e)
    (alike_run ts us (length ts) ts us 0 Default (record { same_kinds = e; same_at = λ i. inl (refl, refl) }))

-- the kinds of a list alone give its exposed count
exposed-kinds : List ℕ → ℕ
exposed-kinds [] = 0
exposed-kinds (k ∷ ks) = cond (is_exposed k) (suc (exposed-kinds ks)) (exposed-kinds ks)

exposed_is : (ts : List Slot) → exposed ts ≡ exposed-kinds (kinds ts)
unfolding exposed exposed-kinds
exposed_is [] = refl
exposed_is (t ∷ ts) = ap (λ (n : ℕ). cond (is_exposed t.kind) (suc n) n) (exposed_is ts)

pub same_kinds_same_count : (ts us : List Slot) → kinds ts ≡ kinds us → exposed (sanitized ts) ≡ exposed (sanitized us)
same_kinds_same_count ts us e =
    exposed_is (sanitized ts) ∙ ap exposed-kinds (same_kinds_same_changes ts us e).same_kinds ∙ sym (exposed_is (sanitized us))
