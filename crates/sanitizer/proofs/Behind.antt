-- What stands in front of the place before the first turn does not matter: turns behind a front do as they do without it.
-- kinds-append             the kinds of two lists joined
-- behind_turn, behind_run  one turn, and all turns, from any place but the first of what stands behind the front
-- Assumes nothing.
use mathlib.Core.Path.{◌≡◌, refl, sym, ap, ◌∙◌, subst}
use mathlib.Core.Bool.{Bool, true, false, cond, ◌||◌}
use mathlib.Core.List.{List, [], ◌∷◌, ◌++◌}
use Prim.Native.Nat.{ℕ, zero, suc, ◌+◌, ◌<◌, ◌-◌}
use native.Mathlib.Nat.{suc-add, add-suc, zero-add}
use native.Mathlib.Omega.{arith}
use native.Mathlib.Decide.{dec_lt}
use lib.ListN.{length, set, drop, length-append, length-map}
use lib.Seq.{get_or-append-add, drop-append-add}
use lib.Dec.{eqb, ltb}
use borrow.Author.Tests.{lt-ltb, le-ltb}
use Rattle.tokens.specs.Kinds as kind
use Rattle.tokens.specs.Slots.{bare, kinds}
use Rattle.tokens.specs.declared.slot.Slot.{Slot}
use Rattle.sanitizer.specs.declared.arms.State.{State}
use Rattle.sanitizer.specs.declared.arms.Does.{Does}
use Rattle.sanitizer.specs.declared.arms.Does.TheVariants.{Stay, Go, Replace, ReplaceUnlessDotted, ReplaceToClose, CollapseRows, RemoveComment}
use Rattle.sanitizer.specs.Arms.{arm_of, does_of}
use Rattle.sanitizer.specs.Scans.{kind_at, kind_before, is_close, is_gap, close_from, rows_from, close_at, rows_at}
use Rattle.sanitizer.specs.Run.{dotted, one_for, Step, turn, turn_by, run, blank}
use Rattle.sanitizer.proofs.Scanning.{kind_of, row_ways}
use Rattle.sanitizer.proofs.Unread.{next_later}

-- ---- the scans, n places further on
close_shift : (n : ℕ) (ks : List ℕ) (p : ℕ) → close_from (n + p) ks ≡ n + close_from p ks
unfolding close_from
close_shift n [] p = refl
close_shift n (k ∷ ks) p = go (is_close k) (ap (λ (m : ℕ). close_from m ks) (sym (add-suc n p)) ∙ close_shift n ks (suc p))
  where
    go : (b : Bool) → close_from (suc (n + p)) ks ≡ n + close_from (suc p) ks → cond b (n + p) (close_from (suc (n + p)) ks) ≡ n + cond b p (close_from (suc p) ks)
    go true h = refl
    go false h = h

ways_shift : (n e x' y' z' : ℕ) (c d i l : Bool) {x y z : ℕ} → x ≡ n + x' → y ≡ n + y' → z ≡ n + z' → row_ways c d i l x y z (n + e) ≡ n + row_ways c d i l x' y' z' e
ways_shift n e x' y' z' true d i l a b c = a
ways_shift n e x' y' z' false true i l a b c = b
ways_shift n e x' y' z' false false true l a b c = b
ways_shift n e x' y' z' false false false true a b c = c
ways_shift n e x' y' z' false false false false a b c = refl

rows_shift : (n : ℕ) (ks : List ℕ) (b : Bool) (e p : ℕ) → rows_from b (n + e) (n + p) ks ≡ n + rows_from b e p ks
unfolding rows_from
rows_shift n [] b e p = refl
rows_shift n (k ∷ ks) b e p =
    ways_shift n e _ _ _ (eqb k kind.ParentheseClose) (eqb k kind.ParentheseOpen) b (is_gap k)
    (ap (λ (m : ℕ). rows_from false m m ks) (sym (add-suc n p)) ∙ rows_shift n ks false (suc p) (suc p))
    (ap (λ (m : ℕ). rows_from true m m ks) (sym (add-suc n p)) ∙ rows_shift n ks true (suc p) (suc p))
    (ap (λ (m : ℕ). rows_from false (n + e) m ks) (sym (add-suc n p)) ∙ rows_shift n ks false e (suc p))

-- ---- a list behind a front
pub kinds-append : (front rest : List Slot) → kinds (front ++ rest) ≡ kinds front ++ kinds rest
kinds-append [] rest = refl
kinds-append (x ∷ front) rest = ap (λ (r : List ℕ). x.kind ∷ r) (kinds-append front rest)

set_shift : (P R : List Slot) (i : ℕ) (a : Slot) → set (P ++ R) (length P + i) a ≡ P ++ set R i a
set_shift [] R i a = rw (zero-add i)
set_shift (x ∷ P) R i a = rw (suc-add (length P) i) (ap (λ (r : List Slot). x ∷ r) (set_shift P R i a))

ltb_shift : (n a b : ℕ) → ltb (n + a) (n + b) ≡ ltb a b
ltb_shift n a b = go (dec_lt a b)
  where
    go : Dec (a < b) → ltb (n + a) (n + b) ≡ ltb a b
    go (yes h) = lt-ltb (n + a) (n + b) (omega arith) ∙ sym (lt-ltb a b h)
    go (no h) = le-ltb (n + a) (n + b) (omega arith) ∙ sym (le-ltb a b (omega arith))

module _ (P : List Slot) where
  blank_shift : (m i : ℕ) (R : List Slot) → blank (length P + i) m (P ++ R) ≡ P ++ blank i m R
  unfolding blank
  blank_shift zero i R = refl
  blank_shift (suc m) i R =
      ap (λ (us : List Slot). blank (suc (length P + i)) m us) (set_shift P R i (bare kind.None))
      ∙ ap (λ (q : ℕ). blank q m (P ++ set R i (bare kind.None))) (sym (add-suc (length P) i)) ∙ blank_shift m (suc i) (set R i (bare kind.None))

  one_shift : (k i e : ℕ) (R : List Slot) → one_for k (P ++ R) (length P + i) (length P + e) ≡ P ++ one_for k R i e
  one_shift k i e R =
      let a : length P + i + 1 ≡ length P + (i + 1) = omega arith in
      let d : length P + e - (length P + i + 1) ≡ e - (i + 1) = omega arith in
      ap (λ (m : ℕ). blank (length P + i + 1) m (set (P ++ R) (length P + i) (bare k))) d
      ∙ ap (λ (us : List Slot). blank (length P + i + 1) (e - (i + 1)) us) (set_shift P R i (bare k))
      ∙ ap (λ (q : ℕ). blank q (e - (i + 1)) (P ++ set R i (bare k))) a ∙ blank_shift (e - (i + 1)) (i + 1) (set R i (bare k))

  kind_shift : (R : List Slot) (i : ℕ) → kind_at (P ++ R) (length P + i) ≡ kind_at R i
  kind_shift R i = ap kind_of (get_or-append-add P R i (bare kind.None))

  before_shift : (R : List Slot) (i : ℕ) → 0 < i → kind_before (P ++ R) (length P + i) ≡ kind_before R i
  before_shift R zero h = absurd (omega arith)
  before_shift R (suc i) h = rw (add-suc (length P) i) (kind_shift R i)

  drop_shift : (R : List Slot) (i : ℕ) → drop (length P + i) (kinds (P ++ R)) ≡ drop i (kinds R)
  drop_shift R i =
      ap (λ (m : ℕ). drop (m + i) (kinds (P ++ R))) (sym (length-map P kind_of))
      ∙ ap (λ (ks : List ℕ). drop (length (kinds P) + i) ks) (kinds-append P R) ∙ drop-append-add (kinds P) (kinds R) i

  close_at_shift : (R : List Slot) (i : ℕ) → close_at (P ++ R) (length P + i) ≡ length P + close_at R i
  close_at_shift R i = ap (close_from (length P + i)) (drop_shift R i) ∙ close_shift (length P) (drop i (kinds R)) i

  rows_at_shift : (R : List Slot) (i : ℕ) → rows_at true (length P + i) (P ++ R) (length P + i) ≡ length P + rows_at true i R i
  rows_at_shift R i =
      ap (rows_from true (length P + i) (length P + i)) (drop_shift R i) ∙ rows_shift (length P) (drop i (kinds R)) true i i

  -- ---- the turns
  -- a step behind the front, and the same step without it
  pub record Shifted (x y : Step) : Type 0 where
    pub lists : x.left ≡ P ++ y.left
    pub nexts : x.next ≡ length P + y.next
    pub states : x.state ≡ y.state

  cond_shift : (b c : Bool) → b ≡ c → (x y x' y' : List Slot) → x ≡ P ++ x' → y ≡ P ++ y' → cond b x y ≡ P ++ cond c x' y'
  cond_shift true c e x y x' y' h g = subst (λ (d : Bool). x ≡ P ++ cond d x' y') e h
  cond_shift false c e x y x' y' h g = subst (λ (d : Bool). y ≡ P ++ cond d x' y') e g

  shift_by : (d : Does) (R : List Slot) (i : ℕ) (s : State) → 0 < i → Shifted (turn_by d (P ++ R) (length P + i) s) (turn_by d R i s)
  unfolding turn_by
  shift_by Stay R i s h = record { lists = refl; nexts = omega arith; states = refl }
  shift_by (Go s') R i s h = record { lists = refl; nexts = omega arith; states = refl }
  shift_by Replace R i s h = record { lists = set_shift P R i (bare kind.Placeholder); nexts = omega arith; states = refl }
  shift_by ReplaceUnlessDotted R i s h =
      let a : length P + i + 1 ≡ length P + (i + 1) = omega arith in
      let k : kind_at (P ++ R) (length P + i + 1) ≡ kind_at R (i + 1) = ap (kind_at (P ++ R)) a ∙ kind_shift R (i + 1) in
      let d : dotted (P ++ R) (length P + i) ≡ dotted R i =
      ap (λ (x : ℕ). eqb x kind.Dot || eqb (kind_at (P ++ R) (length P + i + 1)) kind.Dot) (before_shift R i h)
      ∙ ap (λ (x : ℕ). eqb (kind_before R i) kind.Dot || eqb x kind.Dot) k in
      record {
        lists = cond_shift (dotted (P ++ R) (length P + i)) (dotted R i) d (P ++ R) (set (P ++ R) (length P + i) (bare kind.Placeholder)) R (set R i (bare kind.Placeholder)) refl (set_shift P R i (bare kind.Placeholder));
        nexts = a;
        states = refl;
      }
  shift_by ReplaceToClose R i s h =
      let a : length P + i + 1 ≡ length P + (i + 1) = omega arith in
      let e : close_at (P ++ R) (length P + i + 1) ≡ length P + close_at R (i + 1) = ap (close_at (P ++ R)) a ∙ close_at_shift R (i + 1) in
      record {
        lists = ap (one_for kind.Placeholder (P ++ R) (length P + i)) e ∙ one_shift kind.Placeholder i (close_at R (i + 1)) R;
        nexts = e;
        states = refl;
      }
  shift_by CollapseRows R i s h =
      let a : length P + i + 1 ≡ length P + (i + 1) = omega arith in
      let e : rows_at true (length P + i + 1) (P ++ R) (length P + i + 1) ≡ length P + rows_at true (i + 1) R (i + 1) =
      ap (λ (m : ℕ). rows_at true m (P ++ R) m) a ∙ rows_at_shift R (i + 1) in
      record {
        lists = ap (one_for kind.Ellipsis (P ++ R) (length P + i)) e ∙ one_shift kind.Ellipsis i (rows_at true (i + 1) R (i + 1)) R;
        nexts = omega arith;
        states = refl;
      }
  shift_by RemoveComment R i s h =
      let a : length P + i - 1 ≡ length P + (i - 1) = omega arith in
      let X = set (P ++ R) (length P + i) (bare kind.None) in
      let Y = set R i (bare kind.None) in
      let one : X ≡ P ++ Y = set_shift P R i (bare kind.None) in
      let two : set X (length P + i - 1) (bare kind.None) ≡ P ++ set Y (i - 1) (bare kind.None) =
      ap (λ (us : List Slot). set us (length P + i - 1) (bare kind.None)) one ∙ ap (λ (q : ℕ). set (P ++ Y) q (bare kind.None)) a
      ∙ set_shift P Y (i - 1) (bare kind.None) in
      record {
        lists = cond_shift (eqb (kind_before (P ++ R) (length P + i)) kind.Space) (eqb (kind_before R i) kind.Space) (ap (λ (x : ℕ). eqb x kind.Space) (before_shift R i h)) (set X (length P + i - 1) (bare kind.None)) X (set Y (i - 1) (bare kind.None)) Y two one;
        nexts = omega arith;
        states = refl;
      }

  pub behind_turn : (R : List Slot) (i : ℕ) (s : State) → 0 < i → Shifted (turn (P ++ R) (length P + i) s) (turn R i s)
  unfolding turn
  behind_turn R i s h =
      subst (λ (k : ℕ). Shifted (turn_by (does_of (arm_of s k)) (P ++ R) (length P + i) s) (turn_by (does_of (arm_of s (kind_at R i))) R i s)) (sym (kind_shift R i))
      (shift_by (does_of (arm_of s (kind_at R i))) R i s h)

  pub behind_run : (most : ℕ) (R : List Slot) (i : ℕ) (s : State) → 0 < i → run most (P ++ R) (length P + i) s ≡ P ++ run most R i s
  unfolding run
  behind_run zero R i s h = refl
  behind_run (suc most) R i s h =
      let x = turn (P ++ R) (length P + i) s in
      let y = turn R i s in
      let t : Shifted x y = behind_turn R i s h in
      cond_shift (ltb (length P + i) (length (P ++ R))) (ltb i (length R)) (ap (ltb (length P + i)) (length-append P R) ∙ ltb_shift (length P) i (length R))
      (run most x.left x.next x.state) (P ++ R) (run most y.left y.next y.state) R
      (ap (λ (us : List Slot). run most us x.next x.state) t.lists
      ∙ ap (λ (q : ℕ). run most (P ++ y.left) q x.state) t.nexts
      ∙ ap (λ (z : State). run most (P ++ y.left) (length P + y.next) z) t.states
      ∙ behind_run most y.left y.next y.state (omega (arith, next_later R i s)))
      refl
