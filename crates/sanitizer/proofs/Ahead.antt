-- What stands behind the place that the turns arrive at does not matter: lists alike up to a place, that place included, are run alike up to it.
-- The token at the place is no comma and no space, which a collapse might pass on its way to a later bracket.
-- Fronted                     two steps with the same front, next place and state
-- ahead_turn, ahead_after     one turn, and n turns, that arrive at the place or before
-- ahead_sanitized             the two sanitised lists, as runs on from the place
-- Assumes nothing.
use mathlib.Core.Path.{◌≡◌, refl, sym, ap, ◌∙◌, subst}
use mathlib.Core.Bool.{Bool, true, false, cond, ◌||◌, true≢false}
use mathlib.Core.List.{List, [], ◌∷◌, ◌++◌}
use Prim.Native.Nat.{ℕ, zero, suc, ◌+◌, ◌≤◌, ◌<◌, ◌-◌}
use native.Mathlib.Omega.{arith}
use native.Mathlib.Decide.{dec_lt}
use lib.ListN.{length, get_or, set, drop, length-append, length-map, length-set, length-drop, get_or-append}
use lib.Seq.{get_or-append_seam, set-append_left, drop-append-le}
use lib.Dec.{eqb}
use Rattle.tokens.specs.Kinds as kind
use Rattle.tokens.specs.Slots.{bare, kinds}
use Rattle.tokens.specs.declared.slot.Slot.{Slot}
use Rattle.sanitizer.specs.declared.arms.State.{State}
use Rattle.sanitizer.specs.declared.arms.State.TheVariants.{Default}
use Rattle.sanitizer.specs.declared.arms.Does.{Does}
use Rattle.sanitizer.specs.declared.arms.Does.TheVariants.{Stay, Go, Replace, ReplaceUnlessDotted, ReplaceToClose, CollapseRows, RemoveComment}
use Rattle.sanitizer.specs.Arms.{arm_of, does_of}
use Rattle.sanitizer.specs.Scans.{kind_at, kind_before, is_close, is_gap, close_from, rows_from, close_at, rows_at}
use Rattle.sanitizer.specs.Run.{dotted, one_for, Step, turn, turn_by, run, sanitized, blank}
use Rattle.sanitizer.proofs.Scanning.{kind_of, close_ge, rows_ge, row_ways}
use Rattle.sanitizer.proofs.Unread.{next_later}
use Rattle.sanitizer.proofs.Behind.{kinds-append}
use Rattle.sanitizer.proofs.Stepping.{after, after_ge, sanitized_after}

-- ---- a scan that ends at the place of k or before does not see what follows k
close_front : (K L L' : List ℕ) (k p : ℕ) → close_from p (K ++ k ∷ L) ≤ p + length K → close_from p (K ++ k ∷ L') ≡ close_from p (K ++ k ∷ L)
unfolding close_from
close_front [] L L' k p h = go (is_close k) (close_ge L (suc p)) h
  where
    go : (b : Bool) → suc p ≤ close_from (suc p) L → cond b p (close_from (suc p) L) ≤ p + 0 → cond b p (close_from (suc p) L') ≡ cond b p (close_from (suc p) L)
    go true g h' = refl
    go false g h' = absurd (omega arith)
close_front (x ∷ K) L L' k p h = go (is_close x) h (λ g. close_front K L L' k (suc p) g)
  where
    go : (b : Bool) → cond b p (close_from (suc p) (K ++ k ∷ L)) ≤ p + suc (length K)
        → (close_from (suc p) (K ++ k ∷ L) ≤ suc p + length K → close_from (suc p) (K ++ k ∷ L') ≡ close_from (suc p) (K ++ k ∷ L))
        → cond b p (close_from (suc p) (K ++ k ∷ L')) ≡ cond b p (close_from (suc p) (K ++ k ∷ L))
    go true h' r = refl
    go false h' r = r (omega arith)

-- the ways of the last token, where only the end is near enough
ways_last : (c d i l : Bool) (p e x y z x' y' z' : ℕ) → l ≡ false → p < x → p < y → row_ways c d i l x y z e ≤ p → row_ways c d i l x' y' z' e ≡ row_ways c d i l x y z e
ways_last true d i l p e x y z x' y' z' n a b h = absurd (omega arith)
ways_last false true i l p e x y z x' y' z' n a b h = absurd (omega arith)
ways_last false false true l p e x y z x' y' z' n a b h = absurd (omega arith)
ways_last false false false true p e x y z x' y' z' n a b h = absurd (true≢false n)
ways_last false false false false p e x y z x' y' z' n a b h = refl

ways_same : (c d i l : Bool) (m e x y z x' y' z' : ℕ) → row_ways c d i l x y z e ≤ m → (x ≤ m → x' ≡ x) → (y ≤ m → y' ≡ y) → (z ≤ m → z' ≡ z) → row_ways c d i l x' y' z' e ≡ row_ways c d i l x y z e
ways_same true d i l m e x y z x' y' z' h a b c = a h
ways_same false true i l m e x y z x' y' z' h a b c = b h
ways_same false false true l m e x y z x' y' z' h a b c = b h
ways_same false false false true m e x y z x' y' z' h a b c = c h
ways_same false false false false m e x y z x' y' z' h a b c = refl

rows_front : (K L L' : List ℕ) (k : ℕ) → is_gap k ≡ false → (b : Bool) (e p : ℕ) → rows_from b e p (K ++ k ∷ L) ≤ p + length K → rows_from b e p (K ++ k ∷ L') ≡ rows_from b e p (K ++ k ∷ L)
unfolding rows_from
rows_front [] L L' k n b e p h =
    let x = rows_ge L false (suc p) (suc p) (omega arith) in
    let y = rows_ge L true (suc p) (suc p) (omega arith) in
    ways_last (eqb k kind.ParentheseClose) (eqb k kind.ParentheseOpen) b (is_gap k) p e _ _ _ _ _ _ n (omega arith) (omega arith) (omega arith)
rows_front (w ∷ K) L L' k n b e p h =
    ways_same (eqb w kind.ParentheseClose) (eqb w kind.ParentheseOpen) b (is_gap w) (p + suc (length K)) e _ _ _ _ _ _ h
    (λ g. rows_front K L L' k n false (suc p) (suc p) (omega arith)) (λ g. rows_front K L L' k n true (suc p) (suc p) (omega arith))
    (λ g. rows_front K L L' k n false e (suc p) (omega arith))

-- ---- blanking in front
blank-front : (n p : ℕ) (A Y : List Slot) → p + n ≤ length A → blank p n (A ++ Y) ≡ blank p n A ++ Y
unfolding blank
blank-front zero p A Y h = refl
blank-front (suc n) p A Y h =
    ap (λ (us : List Slot). blank (suc p) n us) (set-append_left A Y p (bare kind.None) (omega arith))
    ∙ blank-front n (suc p) (set A p (bare kind.None)) Y (omega (arith, length-set A p (bare kind.None)))

length-blank : (n p : ℕ) (A : List Slot) → length (blank p n A) ≡ length A
unfolding blank
length-blank zero p A = refl
length-blank (suc n) p A = length-blank n (suc p) (set A p (bare kind.None)) ∙ length-set A p (bare kind.None)

one_front : (k p e : ℕ) (A Y : List Slot) → p < length A → e ≤ length A → p + 1 ≤ e → one_for k (A ++ Y) p e ≡ one_for k A p e ++ Y
one_front k p e A Y h l g =
    ap (λ (us : List Slot). blank (p + 1) (e - (p + 1)) us) (set-append_left A Y p (bare k) h)
    ∙ blank-front (e - (p + 1)) (p + 1) (set A p (bare k)) Y (omega (arith, length-set A p (bare k)))

length_one : (k p e : ℕ) (A : List Slot) → length (one_for k A p e) ≡ length A
length_one k p e A = length-blank (e - (p + 1)) (p + 1) (set A p (bare k)) ∙ length-set A p (bare k)

module _ (v : Slot) (Y Y' : List Slot) where
  -- both steps leave the same front, and go to the same place and state
  pub record Fronted (A : List Slot) (x y : Step) : Type 0 where
    pub front : List Slot
    pub one : x.left ≡ front ++ v ∷ Y
    pub two : y.left ≡ front ++ v ∷ Y'
    pub long : length front ≡ length A
    pub nexts : y.next ≡ x.next
    pub states : y.state ≡ x.state

  fronted_by : (A F : List Slot) (x y : Step) {x' y' : Step} → x ≡ x' → y ≡ y' → length F ≡ length A → Fronted F x' y' → Fronted A x y
  fronted_by A F x y e f l r = record {
    front = r.front;
    one = ap (λ (w : Step). w.left) e ∙ r.one;
    two = ap (λ (w : Step). w.left) f ∙ r.two;
    long = r.long ∙ l;
    nexts = ap (λ (w : Step). w.next) f ∙ r.nexts ∙ sym (ap (λ (w : Step). w.next) e);
    states = ap (λ (w : Step). w.state) f ∙ r.states ∙ sym (ap (λ (w : Step). w.state) e);
  }

  -- ---- what a turn looks at
  look : (A : List Slot) (i : ℕ) → i ≤ length A → kind_at (A ++ v ∷ Y') i ≡ kind_at (A ++ v ∷ Y) i
  look A i h = go (dec_lt i (length A))
    where
      go : Dec (i < length A) → kind_at (A ++ v ∷ Y') i ≡ kind_at (A ++ v ∷ Y) i
      go (yes l) = ap kind_of (get_or-append A (v ∷ Y') (bare kind.None) i l ∙ sym (get_or-append A (v ∷ Y) (bare kind.None) i l))
      go (no l) =
          let e : i ≡ length A = omega arith in
          ap kind_of
          (ap (λ (m : ℕ). get_or (A ++ v ∷ Y') m (bare kind.None)) e ∙ get_or-append_seam A v Y' (bare kind.None)
          ∙ sym (get_or-append_seam A v Y (bare kind.None)) ∙ ap (λ (m : ℕ). get_or (A ++ v ∷ Y) m (bare kind.None)) (sym e))

  look_before : (A : List Slot) (i : ℕ) → i ≤ length A → kind_before (A ++ v ∷ Y') i ≡ kind_before (A ++ v ∷ Y) i
  look_before A zero h = refl
  look_before A (suc i) h = look A i (omega arith)

  drop-front : (A Z : List Slot) (i : ℕ) → i ≤ length A → drop i (kinds (A ++ v ∷ Z)) ≡ drop i (kinds A) ++ v.kind ∷ kinds Z
  drop-front A Z i h = ap (drop i) (kinds-append A (v ∷ Z)) ∙ drop-append-le i (kinds A) (kinds (v ∷ Z)) (omega (arith, length-map A kind_of))

  close_same : (A : List Slot) (i : ℕ) → i ≤ length A → close_at (A ++ v ∷ Y) i ≤ length A → close_at (A ++ v ∷ Y') i ≡ close_at (A ++ v ∷ Y) i
  close_same A i l h =
      let e = ap (close_from i) (drop-front A Y i l) in
      ap (close_from i) (drop-front A Y' i l)
      ∙ close_front (drop i (kinds A)) (kinds Y) (kinds Y') v.kind i (omega (arith, length-drop i (kinds A), length-map A kind_of)) ∙ sym e

  rows_same : is_gap v.kind ≡ false → (A : List Slot) (i : ℕ) → i ≤ length A → rows_at true i (A ++ v ∷ Y) i ≤ length A → rows_at true i (A ++ v ∷ Y') i ≡ rows_at true i (A ++ v ∷ Y) i
  rows_same n A i l h =
      let e = ap (rows_from true i i) (drop-front A Y i l) in
      ap (rows_from true i i) (drop-front A Y' i l)
      ∙ rows_front (drop i (kinds A)) (kinds Y) (kinds Y') v.kind n true i i (omega (arith, length-drop i (kinds A), length-map A kind_of))
      ∙ sym e

  cond-front : (b c : Bool) → c ≡ b → (x y x' y' F G : List Slot) → x ≡ F ++ v ∷ Y → y ≡ G ++ v ∷ Y → x' ≡ F ++ v ∷ Y' → y' ≡ G ++ v ∷ Y'
      → (cond b x y ≡ cond b F G ++ v ∷ Y) × (cond c x' y' ≡ cond b F G ++ v ∷ Y')
  cond-front true c e x y x' y' F G p q r s = (p, subst (λ (d : Bool). cond d x' y' ≡ F ++ v ∷ Y') (sym e) r)
  cond-front false c e x y x' y' F G p q r s = (q, subst (λ (d : Bool). cond d x' y' ≡ G ++ v ∷ Y') (sym e) s)

  length-cond : (b : Bool) (F G : List Slot) (n : ℕ) → length F ≡ n → length G ≡ n → length (cond b F G) ≡ n
  length-cond true F G n p q = p
  length-cond false F G n p q = q

  -- ---- one turn
  front_by : is_gap v.kind ≡ false → (d : Does) (A : List Slot) (p : ℕ) (s : State) → p < length A → (turn_by d (A ++ v ∷ Y) p s).next ≤ length A → Fronted A (turn_by d (A ++ v ∷ Y) p s) (turn_by d (A ++ v ∷ Y') p s)
  unfolding turn_by
  front_by n Stay A p s h l = record { front = A; one = refl; two = refl; long = refl; nexts = refl; states = refl }
  front_by n (Go s') A p s h l = record { front = A; one = refl; two = refl; long = refl; nexts = refl; states = refl }
  front_by n Replace A p s h l =
      let put = bare kind.Placeholder in
      record {
        front = set A p put;
        one = set-append_left A (v ∷ Y) p put h;
        two = set-append_left A (v ∷ Y') p put h;
        long = length-set A p put;
        nexts = refl;
        states = refl;
      }
  front_by n ReplaceUnlessDotted A p s h l =
      let put = bare kind.Placeholder in
      let X = A ++ v ∷ Y in
      let X' = A ++ v ∷ Y' in
      let d : dotted X' p ≡ dotted X p =
      ap (λ (x : ℕ). eqb x kind.Dot || eqb (kind_at X' (p + 1)) kind.Dot) (look_before A p (omega arith))
      ∙ ap (λ (x : ℕ). eqb (kind_before X p) kind.Dot || eqb x kind.Dot) (look A (p + 1) (omega arith)) in
      let c = cond-front (dotted X p) (dotted X' p) d X (set X p put) X' (set X' p put) A (set A p put) refl (set-append_left A (v ∷ Y) p put h) refl (set-append_left A (v ∷ Y') p put h) in
      record {
        front = cond (dotted X p) A (set A p put);
        one = c.0;
        two = c.1;
        long = length-cond (dotted X p) A (set A p put) (length A) refl (length-set A p put);
        nexts = refl;
        states = refl;
      }
  front_by n ReplaceToClose A p s h l =
      let e = close_at (A ++ v ∷ Y) (p + 1) in
      let e' : close_at (A ++ v ∷ Y') (p + 1) ≡ e = close_same A (p + 1) (omega arith) l in
      let g : p + 1 ≤ e = close_ge (drop (p + 1) (kinds (A ++ v ∷ Y))) (p + 1) in
      record {
        front = one_for kind.Placeholder A p e;
        one = one_front kind.Placeholder p e A (v ∷ Y) h l g;
        two = ap (one_for kind.Placeholder (A ++ v ∷ Y') p) e' ∙ one_front kind.Placeholder p e A (v ∷ Y') h l g;
        long = length_one kind.Placeholder p e A;
        nexts = e';
        states = refl;
      }
  front_by n CollapseRows A p s h l =
      let e = rows_at true (p + 1) (A ++ v ∷ Y) (p + 1) in
      let m : e ≤ length A = omega arith in
      let e' : rows_at true (p + 1) (A ++ v ∷ Y') (p + 1) ≡ e = rows_same n A (p + 1) (omega arith) m in
      let g : p + 1 ≤ e = rows_ge (drop (p + 1) (kinds (A ++ v ∷ Y))) true (p + 1) (p + 1) (omega arith) in
      record {
        front = one_for kind.Ellipsis A p e;
        one = one_front kind.Ellipsis p e A (v ∷ Y) h m g;
        two = ap (one_for kind.Ellipsis (A ++ v ∷ Y') p) e' ∙ one_front kind.Ellipsis p e A (v ∷ Y') h m g;
        long = length_one kind.Ellipsis p e A;
        nexts = ap (λ (x : ℕ). x + 1) e';
        states = refl;
      }
  front_by n RemoveComment A p s h l =
      let none = bare kind.None in
      let B = set A p none in
      let b = eqb (kind_before (A ++ v ∷ Y) p) kind.Space in
      let first : (Z : List Slot) → set (A ++ v ∷ Z) p none ≡ B ++ v ∷ Z = λ Z. set-append_left A (v ∷ Z) p none h in
      let both : (Z : List Slot) → set (set (A ++ v ∷ Z) p none) (p - 1) none ≡ set B (p - 1) none ++ v ∷ Z =
      λ Z. ap (λ (us : List Slot). set us (p - 1) none) (first Z) ∙ set-append_left B (v ∷ Z) (p - 1) none (omega (arith, length-set A p none)) in
      let c = cond-front b (eqb (kind_before (A ++ v ∷ Y') p) kind.Space) (ap (λ (x : ℕ). eqb x kind.Space) (look_before A p (omega arith))) (set (set (A ++ v ∷ Y) p none) (p - 1) none) (set (A ++ v ∷ Y) p none) (set (set (A ++ v ∷ Y') p none) (p - 1) none) (set (A ++ v ∷ Y') p none) (set B (p - 1) none) B (both Y) (first Y) (both Y') (first Y') in
      record {
        front = cond b (set B (p - 1) none) B;
        one = c.0;
        two = c.1;
        long = length-cond b (set B (p - 1) none) B (length A) (length-set B (p - 1) none ∙ length-set A p none) (length-set A p none);
        nexts = refl;
        states = refl;
      }

  module _ (n : is_gap v.kind ≡ false) where
    pub ahead_turn : (A : List Slot) (p : ℕ) (s : State) → p < length A → (turn (A ++ v ∷ Y) p s).next ≤ length A → Fronted A (turn (A ++ v ∷ Y) p s) (turn (A ++ v ∷ Y') p s)
    unfolding turn
    ahead_turn A p s h l =
        subst (λ (k : ℕ). Fronted A (turn_by (does_of (arm_of s (kind_at (A ++ v ∷ Y) p))) (A ++ v ∷ Y) p s) (turn_by (does_of (arm_of s k)) (A ++ v ∷ Y') p s))
        (sym (look A p (omega arith))) (front_by n (does_of (arm_of s (kind_at (A ++ v ∷ Y) p))) A p s h l)

    -- ---- all turns up to the place
    -- m more turns after a step that both took
    ahead_on : (m : ℕ) (A : List Slot) (x y : Step) → (after m x.left x.next x.state).next ≤ length A → Fronted A x y
        → ((F : List Slot) → (after m (F ++ v ∷ Y) x.next x.state).next ≤ length F → Fronted F (after m (F ++ v ∷ Y) x.next x.state) (after m (F ++ v ∷ Y') x.next x.state))
        → Fronted A (after m x.left x.next x.state) (after m y.left y.next y.state)
    ahead_on m A x y l t more =
        let e : after m x.left x.next x.state ≡ after m (t.front ++ v ∷ Y) x.next x.state =
        ap (λ (us : List Slot). after m us x.next x.state) t.one in
        let f : after m y.left y.next y.state ≡ after m (t.front ++ v ∷ Y') x.next x.state =
        ap (λ (us : List Slot). after m us y.next y.state) t.two ∙ ap (λ (q : ℕ). after m (t.front ++ v ∷ Y') q y.state) t.nexts
        ∙ ap (λ (z : State). after m (t.front ++ v ∷ Y') x.next z) t.states in
        fronted_by A t.front (after m x.left x.next x.state) (after m y.left y.next y.state) e f t.long
        (more t.front (omega (arith, t.long, ap (λ (w : Step). w.next) e)))

    pub ahead_after : (m : ℕ) (A : List Slot) (p : ℕ) (s : State) → (after m (A ++ v ∷ Y) p s).next ≤ length A → Fronted A (after m (A ++ v ∷ Y) p s) (after m (A ++ v ∷ Y') p s)
    unfolding after
    ahead_after zero A p s l = record { front = A; one = refl; two = refl; long = refl; nexts = refl; states = refl }
    ahead_after (suc m) A p s l =
        let x = turn (A ++ v ∷ Y) p s in
        let near : x.next ≤ length A = omega (arith, after_ge m x.left x.next x.state) in
        ahead_on m A x (turn (A ++ v ∷ Y') p s) l (ahead_turn A p s (omega (arith, next_later (A ++ v ∷ Y) p s)) near)
        (λ F g. ahead_after m F x.next x.state g)

    -- the two lists, where m turns arrive at the place of v
    pub ahead_sanitized : (m : ℕ) (A : List Slot) → (after m (A ++ v ∷ Y) 0 Default).next ≡ length A
        → (B : List Slot) × (z : State) × (length B ≡ length A)
        × (sanitized (A ++ v ∷ Y) ≡ run (length (v ∷ Y)) (B ++ v ∷ Y) (length A) z) × (sanitized (A ++ v ∷ Y') ≡ run (length (v ∷ Y')) (B ++ v ∷ Y') (length A) z)
    ahead_sanitized m A e =
        let x = after m (A ++ v ∷ Y) 0 Default in
        let y = after m (A ++ v ∷ Y') 0 Default in
        let t = ahead_after m A 0 Default (omega arith) in
        let f : y.next ≡ length A = t.nexts ∙ e in (
          t.front,
          x.state,
          t.long,
          sanitized_after m (length (v ∷ Y)) (A ++ v ∷ Y) (omega (arith, length-append A (v ∷ Y))) (omega (arith, length-append A (v ∷ Y)))
              ∙ ap (λ (us : List Slot). run (length (v ∷ Y)) us x.next x.state) t.one ∙ ap (λ (q : ℕ). run (length (v ∷ Y)) (t.front ++ v ∷ Y) q x.state) e,
          sanitized_after m (length (v ∷ Y')) (A ++ v ∷ Y') (omega (arith, length-append A (v ∷ Y'))) (omega (arith, length-append A (v ∷ Y')))
              ∙ ap (λ (us : List Slot). run (length (v ∷ Y')) us y.next y.state) t.two ∙ ap (λ (q : ℕ). run (length (v ∷ Y')) (t.front ++ v ∷ Y') q y.state) f
              ∙ ap (λ (z : State). run (length (v ∷ Y')) (t.front ++ v ∷ Y') (length A) z) t.states,
        )
