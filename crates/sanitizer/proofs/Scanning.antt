-- The definitions of Scans.antt one token at a time: a premise for each test, which `omega arith` finds at a need.
-- kind_tokens                        the kind at a place is the one in its slot
-- before_is, kind_past               the kind before a place, and past the end
-- dotted_before, _after              whether a Dot stands beside a place
-- drop-kinds, drop_end               the kinds from a place on
-- close_end, _here, _past, _on       the scan to the close
-- rows_end, _close, _open            the scan of the rows, inside and outside
-- rows_inside                        inside
-- rows_comma, _space, _stop          outside
-- row_ways                            the cases of the rows' scan
-- close_ge, rows_ge                  a scan's answer is at its place or later
-- Assumes nothing.
use mathlib.Core.Path.{◌≡◌, refl, ap, sym, ◌∙◌}
use mathlib.Core.Bool.{Bool, true, false, cond, ◌||◌}
use mathlib.Core.List.{List, [], ◌∷◌}
use Prim.Native.Nat.{ℕ, zero, suc, ◌+◌, ◌≤◌, ◌<◌, ◌-◌}
use native.Mathlib.Omega.{arith}
use native.Mathlib.Numerals.{add-one}
use lib.Dec.{eqb}
use lib.ListN.{length, drop, length-map, get_or-map, drop_of_length-le, get_or-eq_default}
use lib.Seq.{drop-cons}
use borrow.Author.Tests.{eq-eqb, ne_eqb}
use Rattle.tokens.specs.Kinds as kind
use Rattle.tokens.specs.Slots.{bare, slot_at, tokens_in, kinds}
use Rattle.tokens.specs.declared.slot.Slot.{Slot}
use Rattle.tokens.proofs.Storing.{get_or-tokens}
use Rattle.sanitizer.specs.Scans.{kind_at, kind_before, is_close, is_gap, close_from, rows_from, close_at, rows_at}
use Rattle.sanitizer.specs.Run.{dotted}

abbrev pub kind_of : Slot → ℕ
kind_of t = t.kind

-- ---- one kind
pub kind_tokens : (ws : List ℕ) (n p : ℕ) → p < n → kind_at (tokens_in ws n) p ≡ (slot_at ws p).kind
kind_tokens ws n p h = ap kind_of (get_or-tokens ws n p (bare kind.None) h)

module _ (ts : List Slot) (p : ℕ) where
  pub before_is : 0 < p → kind_before ts p ≡ kind_at ts (p - 1)
  before_is h = go p h
    where
      go : (q : ℕ) → 0 < q → kind_before ts q ≡ kind_at ts (q - 1)
      go zero l = absurd (omega arith)
      go (suc q) l = ap (kind_at ts) (omega arith)

  pub before_first : p ≡ 0 → kind_before ts p ≡ kind.None
  before_first e = rw e

  pub kind_past : length ts ≤ p → kind_at ts p ≡ kind.None
  kind_past h = ap kind_of (get_or-eq_default ts (bare kind.None) {n = p} h)

  -- ---- a Dot beside a place
  pub dotted_before : {before : Bool} → before ≡ eqb (kind_before ts p) kind.Dot → before ≡ true → before ≡ dotted ts p
  dotted_before b e = e ∙ sym (ap (λ (x : Bool). x || eqb (kind_at ts (p + 1)) kind.Dot) (sym b ∙ e))

  pub dotted_after : {before : Bool} → before ≡ eqb (kind_before ts p) kind.Dot → before ≡ false → dotted ts p ≡ eqb (kind_at ts (p + 1)) kind.Dot
  dotted_after b e = ap (λ (x : Bool). x || eqb (kind_at ts (p + 1)) kind.Dot) (sym b ∙ e)

  -- ---- the kinds from a place on
  pub drop-kinds : p < length ts → drop p (kinds ts) ≡ kind_at ts p ∷ drop (suc p) (kinds ts)
  drop-kinds h =
      drop-cons (kinds ts) p kind.None (omega (arith, length-map ts kind_of))
      ∙ ap (λ (x : ℕ). x ∷ drop (suc p) (kinds ts)) (get_or-map kind_of ts p (bare kind.None))

  pub drop_end : length ts ≤ p → drop p (kinds ts) ≡ []
  drop_end h = drop_of_length-le (kinds ts) {i = p} (omega (arith, length-map ts kind_of))

  -- ---- to the close
  pub close_end : length ts ≤ p → close_at ts p ≡ p
  unfolding close_from
  close_end h = rw (drop_end h)

  pub close_here : p < length ts → is_close (kind_at ts p) ≡ true → close_at ts p ≡ p
  unfolding close_from
  close_here h e = rw (drop-kinds h, e)

  pub close_past : p < length ts → is_close (kind_at ts p) ≡ false → close_at ts p ≡ close_at ts (p + 1)
  unfolding close_from
  close_past h e = rw (drop-kinds h, e, add-one p)

  pub close_on : p < length ts → (kind_at ts p ≡ kind.ParentheseClose → ⊥) → (kind_at ts p ≡ kind.SquareBracketClose → ⊥) → close_at ts p ≡ close_at ts (p + 1)
  unfolding close_from
  close_on h n m =
      rw (drop-kinds h, ne_eqb (kind_at ts p) kind.ParentheseClose n, ne_eqb (kind_at ts p) kind.SquareBracketClose m, add-one p)

  -- ---- the rows
  module _ (inside : Bool) (e : ℕ) where
    pub rows_end : length ts ≤ p → rows_at inside e ts p ≡ e
    unfolding rows_from
    rows_end h = rw (drop_end h)

    pub rows_close : p < length ts → kind_at ts p ≡ kind.ParentheseClose → rows_at inside e ts p ≡ rows_at false (p + 1) ts (p + 1)
    unfolding rows_from
    rows_close h k = rw (drop-kinds h, eq-eqb (kind_at ts p) kind.ParentheseClose k, add-one p)

    pub rows_open : p < length ts → kind_at ts p ≡ kind.ParentheseOpen → rows_at inside e ts p ≡ rows_at true (p + 1) ts (p + 1)
    unfolding rows_from
    rows_open h k =
        rw (drop-kinds h, ne_eqb (kind_at ts p) kind.ParentheseClose (omega arith), eq-eqb (kind_at ts p) kind.ParentheseOpen k, add-one p)

  module _ (e : ℕ) where
    pub rows_inside : p < length ts → (kind_at ts p ≡ kind.ParentheseClose → ⊥) → rows_at true e ts p ≡ rows_at true (p + 1) ts (p + 1)
    unfolding rows_from
    rows_inside h n = rw (drop-kinds h, ne_eqb (kind_at ts p) kind.ParentheseClose n, add-one p) (same (eqb (kind_at ts p) kind.ParentheseOpen) _)
      where
        same : (b : Bool) (x : ℕ) → cond b x x ≡ x
        same true x = refl
        same false x = refl

    pub rows_comma : p < length ts → kind_at ts p ≡ kind.Comma → rows_at false e ts p ≡ rows_at false e ts (p + 1)
    unfolding rows_from
    rows_comma h k = rw (drop-kinds h, k, add-one p)

    pub rows_space : p < length ts → kind_at ts p ≡ kind.Space → rows_at false e ts p ≡ rows_at false e ts (p + 1)
    unfolding rows_from
    rows_space h k = rw (drop-kinds h, k, add-one p)

    pub rows_stop : p < length ts → (kind_at ts p ≡ kind.ParentheseClose → ⊥) → (kind_at ts p ≡ kind.ParentheseOpen → ⊥) → (kind_at ts p ≡ kind.Comma → ⊥) → (kind_at ts p ≡ kind.Space → ⊥) → rows_at false e ts p ≡ e
    unfolding rows_from
    rows_stop h a b c d =
        rw (
          drop-kinds h,
          ne_eqb (kind_at ts p) kind.ParentheseClose a,
          ne_eqb (kind_at ts p) kind.ParentheseOpen b,
          ne_eqb (kind_at ts p) kind.Comma c,
          ne_eqb (kind_at ts p) kind.Space d,
        )

-- ---- where a scan ends
pub close_ge : (ks : List ℕ) (p : ℕ) → p ≤ close_from p ks
unfolding close_from
close_ge [] p = omega arith
close_ge (k ∷ ks) p = go (is_close k) (close_ge ks (suc p))
  where
    go : (b : Bool) → suc p ≤ close_from (suc p) ks → p ≤ cond b p (close_from (suc p) ks)
    go true h = omega arith
    go false h = omega arith

-- the four ways of a row's token: a close, an open, inside, between rows; else the end
abbrev pub row_ways : Bool → Bool → Bool → Bool → ℕ → ℕ → ℕ → ℕ → ℕ
row_ways closes opens inside gap x y z e = cond closes x (cond opens y (cond inside y (cond gap z e)))

ways_ge : (c d i l : Bool) {m x y z e : ℕ} → m ≤ x → m ≤ y → m ≤ z → m ≤ e → m ≤ row_ways c d i l x y z e
ways_ge true d i l a b c h = a
ways_ge false true i l a b c h = b
ways_ge false false true l a b c h = b
ways_ge false false false true a b c h = c
ways_ge false false false false a b c h = h

pub rows_ge : (ks : List ℕ) (b : Bool) (e p : ℕ) → e ≤ p → e ≤ rows_from b e p ks
unfolding rows_from
rows_ge [] b e p h = omega arith
rows_ge (k ∷ ks) b e p h =
    let x = rows_ge ks false (suc p) (suc p) (omega arith) in
    let y = rows_ge ks true (suc p) (suc p) (omega arith) in
    ways_ge (eqb k kind.ParentheseClose) (eqb k kind.ParentheseOpen) b (is_gap k) (omega arith) (omega arith)
    (rows_ge ks false e (suc p) (omega arith)) (omega arith)
