-- Reading is local: what is read before a character does not depend on what follows it, where the tokens end before it; and a quoted text may
-- hold any other content under which its closing quote is still the first that closes. For any ways to read.
-- scan_local, one_local   a scan, a token that ends before the character q
-- Walk, walk, skips       the pieces read before q, and how the reading stands at q
-- walk_local              they are the same whatever follows q
-- walk_reads              the pieces are the walk's and then those from q on
-- quoted_pieces           a closed quoted text is one piece, its content, and then the pieces after it
-- any_content             two texts alike but for the content: the same pieces, but for that one's text
-- Assumes nothing.
use mathlib.Core.Path.{◌≡◌, refl, sym, ap, ◌∙◌}
use mathlib.Core.Bool.{Bool, true, false, cond, not}
use mathlib.Core.List.{List, [], ◌∷◌, ◌++◌}
use Prim.Native.Nat.{ℕ, zero, suc, ◌-◌, ◌≤◌, ◌<◌}
use native.Mathlib.Nat.{le_of_suc-le-suc}
use native.Mathlib.Numerals.{add-one}
use native.Mathlib.Decide.{dec_le}
use native.Mathlib.Omega.{arith}
use lib.Dec.{eqb}
use lib.ListN.{length, take, drop, length-drop}
use lib.Seq.{take-append-le, take-append_seam, drop-append-le, drop-append_seam}
use Rattle.tokens.specs.Kinds as kind
use Rattle.scans.specs.declared.goes.Stop.TheVariants as stop
use Rattle.words.specs.declared.guess.Sort.TheVariants as sort
use Rattle.tokens.specs.Named as named
use Rattle.tokens.specs.declared.kind.Kind.{Kind}
use Rattle.lexer.specs.declared.rule.State.{State}
use Rattle.lexer.specs.declared.rule.Rule.{Rule}
use Rattle.lexer.specs.declared.rule.Rule.TheVariants.{Quoted, Line, Block, Single, Numbered, Run, Charset, Word, Number, Unknown}
use Rattle.scans.specs.Ways.{Ways}
use Rattle.scans.specs.Scans.{scan, span, quote_len, closes, escapes, ended, then, in_line, in_run, goes_on}
use Rattle.words.specs.Known.{known_kind}
use Rattle.lexer.specs.Rules.{Carried, nothing, slice, scalar, Out, halt, took, known, one_more, head_is, state_after, rule_of, quoted, line, block, numbered, run, charset, word, number, by_rule, read_one}
use Rattle.lexer.proofs.Pieces.{Piece, piece, piece_of, on_pieces, pieces, Bounded, one_bounded}

-- ---- scans
off_base : (b : Bool) (n n' : ℕ) → cond b 0 (suc n) ≤ 0 → cond b 0 (suc n') ≡ cond b 0 (suc n)
off_base true n n' h = refl
off_base false n n' h = absurd (omega arith)

off_step : (b : Bool) (n n' m : ℕ) → cond b 0 (suc n) ≤ suc m → (n ≤ m → n' ≡ n) → cond b 0 (suc n') ≡ cond b 0 (suc n)
off_step true n n' m h e = refl
off_step false n n' m h e = ap suc (e (le_of_suc-le-suc h))

module _ (q : ℕ) (T T' : List ℕ) where
  pub scan_local : {S : Type 0} (stops : S → ℕ → Bool) (after : S → ℕ → S) (s : S) (P : List ℕ)
      → scan stops after s (P ++ q ∷ T) ≤ length P → scan stops after s (P ++ q ∷ T') ≡ scan stops after s (P ++ q ∷ T)
  unfolding scan
  scan_local stops after s [] h = off_base (stops s q) (scan stops after (after s q) T) (scan stops after (after s q) T') h
  scan_local stops after s (x ∷ P) h =
      off_step (stops s x) (scan stops after (after s x) (P ++ q ∷ T)) (scan stops after (after s x) (P ++ q ∷ T')) (length P) h (scan_local stops after (after s x) P)

  span_local : (p : ℕ → Bool) (P : List ℕ) → span p (P ++ q ∷ T) ≤ length P → span p (P ++ q ∷ T') ≡ span p (P ++ q ∷ T)
  unfolding span
  span_local p P h = scan_local {S = Unit {0}} (λ _ c. not (p c)) (λ seen _. seen) tt P h

  head_local : (p : ℕ → Bool) (P : List ℕ) → head_is p (P ++ q ∷ T') ≡ head_is p (P ++ q ∷ T)
  head_local p [] = refl
  head_local p (x ∷ P) = refl

  take_local : (n : ℕ) (P : List ℕ) → n ≤ length P → take n (P ++ q ∷ T') ≡ take n (P ++ q ∷ T)
  take_local n P h = take-append-le n P (q ∷ T') h ∙ sym (take-append-le n P (q ∷ T) h)

  more_local : (n : ℕ) (P : List ℕ) → n ≤ length P → one_more (drop n (P ++ q ∷ T')) ≡ one_more (drop n (P ++ q ∷ T))
  more_local zero [] h = refl
  more_local zero (x ∷ P) h = refl
  more_local (suc n) [] h = absurd (omega arith)
  more_local (suc n) (x ∷ P) h = more_local n P (le_of_suc-le-suc h)

  -- ---- one token, of at most as many characters after its first as stand before q
  abbrev Short : ℕ → Out → Type 0
  Short m halt = ⊥
  Short m (took k x n) = n ≤ m

  known_short : (m k n : ℕ) (x : Carried) (j : ℕ) → Short m (known k n (took j x n)) → n ≤ m
  known_short m k n x j h = go (eqb k kind.None) h
    where
      go : (b : Bool) → Short m (cond b (took j x n) (took k nothing n)) → n ≤ m
      go true i = i
      go false i = i

  halt_short : (m k n : ℕ) → Short m (known k n halt) → n ≤ m
  halt_short m k n h = go (eqb k kind.None) h
    where
      go : (b : Bool) → Short m (cond b halt (took k nothing n)) → n ≤ m
      go true i = absurd i
      go false i = i

  module _ (w : Ways) (star : Bool) (st : State) (c : ℕ) (P : List ℕ) where
    abbrev cs : List ℕ
    cs = P ++ q ∷ T

    abbrev cs' : List ℕ
    cs' = P ++ q ∷ T'

    choice_local : rule_of w st c cs' ≡ rule_of w st c cs
    unfolding rule_of
    choice_local = rw (head_local (λ d. eqb d 62) P, head_local (λ d. eqb d 45) P, head_local (λ d. eqb d 42) P, head_local w.numeric P)

    rule_local : (r : Rule) → Short (length P) (by_rule r w star c cs) → by_rule r w star c cs' ≡ by_rule r w star c cs
    unfolding by_rule quoted line block numbered run charset word number
    rule_local (Quoted k) h =
        let n = quote_len c cs in
        let i : n ≤ length P = omega arith in
        rw (scan_local (closes c) escapes false P i, more_local n P i)
    rule_local Line h = rw (span_local in_line P h)
    rule_local Block h = rw (scan_local ended then (record { star = false; closed = star }) P h)
    rule_local (Single k) h = refl
    rule_local Numbered h = rw (span_local (goes_on w stop.Numerics) P h)
    rule_local Run h =
        let n = span in_run cs in
        let i : n ≤ length P = halt_short (length P) (known_kind sort.Runs (take (suc n) (c ∷ cs))) n h in
        rw (span_local in_run P i, take_local n P i)
    rule_local Charset h = rw (span_local (goes_on w stop.Charset) P h)
    rule_local Word h =
        let n = span (goes_on w stop.Word) cs in
        let i : n ≤ length P = known_short (length P) (known_kind sort.Words (take (suc n) (c ∷ cs))) n (slice 0 (suc n)) kind.Other h in
        rw (span_local (goes_on w stop.Word) P i, take_local n P i)
    rule_local Number h =
        let n = span (goes_on w stop.Number) cs in
        let i : n ≤ length P = known_short (length P) (known_kind sort.Zeros (take (suc n) (c ∷ cs))) n (slice 0 (suc n)) kind.Numeric h in
        rw (span_local (goes_on w stop.Number) P i, take_local n P i)
    rule_local Unknown h = refl

    pub one_local : Short (length P) (read_one w star st c cs) → read_one w star st c cs' ≡ read_one w star st c cs
    unfolding read_one
    one_local h = rw choice_local (rule_local (rule_of w st c cs) h)

    -- its piece
    piece_local : (k : ℕ) (x : Carried) (n : ℕ) → n ≤ length P → Bounded (took k x n) → piece_of (c ∷ cs') k x ≡ piece_of (c ∷ cs) k x
    piece_local k nothing n h b = refl
    piece_local k (slice m e) n h b = ap (piece k) (part m)
      where
        part : (m : ℕ) → take (e - m) (drop m (c ∷ cs')) ≡ take (e - m) (drop m (c ∷ cs))
        part zero = parts e (omega arith)
          where
            parts : (i : ℕ) → i ≤ suc (length P) → take (i - 0) (c ∷ cs') ≡ take (i - 0) (c ∷ cs)
            parts zero l = refl
            parts (suc i) l = let z : suc i - 0 ≡ suc i = omega arith in rw z (ap (λ (r : List ℕ). c ∷ r) (take_local i P (omega arith)))
        part (suc m) = rest (dec_le m (length P))
          where
            rest : Dec (m ≤ length P) → take (e - suc m) (drop m cs') ≡ take (e - suc m) (drop m cs)
            rest (yes l) = rw (drop-append-le m P (q ∷ T') l, drop-append-le m P (q ∷ T) l) (take_local (e - suc m) (drop m P) (omega (arith, length-drop m P)))
            rest (no l) = let z : e - suc m ≡ 0 = omega arith in rw z
    piece_local k (scalar d) n h b = refl

-- ---- the reading of the characters before q: its pieces, and how it stands at q
pub data Walk : Type 0 where
  stuck : Walk
  stands : List Piece → ℕ → Bool → State → Walk

abbrev pub push : Piece → Walk → Walk
push p stuck = stuck
push p (stands ps k b st) = stands (p ∷ ps) k b st

abbrev pub on_walk : Out → List ℕ → (ℕ → ℕ → Walk) → Walk
on_walk halt cs f = stuck
on_walk (took k x n) cs f = push (piece_of cs k x) (f k n)

-- the characters P, where T follows them
unfoldable pub walk : Ways → List ℕ → ℕ → Bool → State → List ℕ → Walk
walk w T skip b st [] = stands [] skip b st
walk w T zero b st (c ∷ P) = on_walk (read_one w b st c (P ++ T)) (c ∷ P ++ T) (λ k n. walk w T n (eqb c 42) (state_after k st) P)
walk w T (suc skip) b st (c ∷ P) = walk w T skip (eqb c 42) st P

-- 0 where a token starts at q: none before it reaches further
unfoldable pub skips : Walk → ℕ
skips stuck = 1
skips (stands ps k b st) = k

skips_push : (p : Piece) (x : Walk) → skips (push p x) ≡ skips x
unfolding skips
skips_push p stuck = refl
skips_push p (stands ps k b st) = refl

walk_long : (w : Ways) (T P : List ℕ) (k : ℕ) (b : Bool) (st : State) → length P < k → skips (walk w T k b st P) ≡ 0 → ⊥
unfolding walk skips
walk_long w T [] k b st h e = omega arith
walk_long w T (c ∷ P) zero b st h e = omega arith
walk_long w T (c ∷ P) (suc k) b st h e = walk_long w T P k (eqb c 42) st (le_of_suc-le-suc h) e

module _ (w : Ways) (q : ℕ) (T T' : List ℕ) where
  -- one token of the walk, alike in both
  step_local : (c : ℕ) (P : List ℕ) (b : Bool) (st : State) (o : Out) → read_one w b st c (P ++ q ∷ T) ≡ o
      → ((k n : ℕ) → skips (walk w (q ∷ T) n (eqb c 42) (state_after k st) P) ≡ 0 → walk w (q ∷ T') n (eqb c 42) (state_after k st) P ≡ walk w (q ∷ T) n (eqb c 42) (state_after k st) P)
      → skips (on_walk o (c ∷ P ++ q ∷ T) (λ k n. walk w (q ∷ T) n (eqb c 42) (state_after k st) P)) ≡ 0
      → on_walk (read_one w b st c (P ++ q ∷ T')) (c ∷ P ++ q ∷ T') (λ k n. walk w (q ∷ T') n (eqb c 42) (state_after k st) P)
      ≡ on_walk o (c ∷ P ++ q ∷ T) (λ k n. walk w (q ∷ T) n (eqb c 42) (state_after k st) P)
  step_local c P b st halt e ih z = absurd (unfold skips in (omega arith))
  step_local c P b st (took k x n) e ih z = from (dec_le n (length P))
    where
      zero_skips : skips (walk w (q ∷ T) n (eqb c 42) (state_after k st) P) ≡ 0
      zero_skips = sym (skips_push (piece_of (c ∷ P ++ q ∷ T) k x) (walk w (q ∷ T) n (eqb c 42) (state_after k st) P)) ∙ z

      from : Dec (n ≤ length P)
          → on_walk (read_one w b st c (P ++ q ∷ T')) (c ∷ P ++ q ∷ T') (λ k n. walk w (q ∷ T') n (eqb c 42) (state_after k st) P)
          ≡ push (piece_of (c ∷ P ++ q ∷ T) k x) (walk w (q ∷ T) n (eqb c 42) (state_after k st) P)
      from (yes h) =
          let s : Short q T T' (length P) (read_one w b st c (P ++ q ∷ T)) = rw e h in
          let r : read_one w b st c (P ++ q ∷ T') ≡ took k x n = one_local q T T' w b st c P s ∙ e in
          let i : Bounded (took k x n) = rw e at (one_bounded w b st c (P ++ q ∷ T)) in
          rw (r, piece_local q T T' w b st c P k x n h i, ih k n zero_skips)
      from (no h) = absurd (walk_long w (q ∷ T) P n (eqb c 42) (state_after k st) (omega arith) zero_skips)

  pub walk_local : (P : List ℕ) (k : ℕ) (b : Bool) (st : State) → skips (walk w (q ∷ T) k b st P) ≡ 0 → walk w (q ∷ T') k b st P ≡ walk w (q ∷ T) k b st P
  unfolding walk
  walk_local [] k b st e = refl
  walk_local (c ∷ P) zero b st e =
      step_local c P b st (read_one w b st c (P ++ q ∷ T)) refl (λ k n z. walk_local P n (eqb c 42) (state_after k st) z) e
  walk_local (c ∷ P) (suc k) b st e = walk_local P k (eqb c 42) st e

-- the pieces are the walk's, and then those from q on
abbrev pub Reads : Ways → Walk → List ℕ → List Piece → Type 0
Reads w stuck T r = Unit {0}
Reads w (stands ps k b st) T r = r ≡ ps ++ pieces w k b st T

push_reads : (w : Ways) (p : Piece) (x : Walk) (T : List ℕ) (r : List Piece) → Reads w x T r → Reads w (push p x) T (p ∷ r)
push_reads w p stuck T r e = tt
push_reads w p (stands ps k b st) T r e = ap (λ (l : List Piece). p ∷ l) e

on_reads : (w : Ways) (o : Out) (cs T : List ℕ) (f : ℕ → ℕ → Walk) (g : ℕ → ℕ → List Piece) → ((k n : ℕ) → Reads w (f k n) T (g k n)) → Reads w (on_walk o cs f) T (on_pieces o cs g)
on_reads w halt cs T f g h = tt
on_reads w (took k x n) cs T f g h = push_reads w (piece_of cs k x) (f k n) T (g k n) (h k n)

pub walk_reads : (w : Ways) (T P : List ℕ) (k : ℕ) (b : Bool) (st : State) → Reads w (walk w T k b st P) T (pieces w k b st (P ++ T))
unfolding walk pieces
walk_reads w T [] k b st = refl
walk_reads w T (c ∷ P) zero b st = on_reads w (read_one w b st c (P ++ T)) (c ∷ P ++ T) T _ _ (λ k n. walk_reads w T P n (eqb c 42) (state_after k st))
walk_reads w T (c ∷ P) (suc k) b st = walk_reads w T P k (eqb c 42) st

-- ---- quoted texts
over : (w : Ways) (xs : List ℕ) (c : ℕ) (ys : List ℕ) (b : Bool) (st : State) → pieces w (suc (length xs)) b st (xs ++ c ∷ ys) ≡ pieces w 0 (eqb c 42) st ys
unfolding pieces
over w [] c ys b st = refl
over w (x ∷ xs) c ys b st = over w xs c ys (eqb x 42) st

module _ (w : Ways) (kind : Kind) (q : ℕ) (isQuote : (st : State) (cs : List ℕ) → rule_of w st q cs ≡ Quoted kind) (rs : List ℕ) where
  abbrev pub k : ℕ
  k = named.number kind

  pub quoted_pieces : (xs : List ℕ) → quote_len q (xs ++ q ∷ rs) ≡ length xs → (b : Bool) (st : State)
      → pieces w 0 b st (q ∷ xs ++ q ∷ rs) ≡ piece k xs ∷ pieces w 0 (eqb q 42) (state_after k st) rs
  unfolding pieces read_one by_rule quoted
  quoted_pieces xs e b st =
      let d : suc (length xs) - 1 ≡ length xs = omega arith in
      rw (isQuote st (xs ++ q ∷ rs), e, drop-append_seam xs (q ∷ rs), add-one, d, take-append_seam xs (q ∷ rs))
      (ap (λ (r : List Piece). piece k xs ∷ r) (over w xs q rs (eqb q 42) (state_after k st)))

  -- the pieces of two texts alike but for the content of a quoted text
  pub record Alike (xs ys : List ℕ) (r r' : List Piece) : Type 0 where
    pub before : List Piece
    pub after : List Piece
    pub one : r ≡ before ++ piece k xs ∷ after
    pub other : r' ≡ before ++ piece k ys ∷ after

  pub any_content : (xs ys : List ℕ) → quote_len q (xs ++ q ∷ rs) ≡ length xs → quote_len q (ys ++ q ∷ rs) ≡ length ys
      → (P : List ℕ) (b : Bool) (st : State) → skips (walk w (q ∷ xs ++ q ∷ rs) 0 b st P) ≡ 0
      → Alike xs ys (pieces w 0 b st (P ++ (q ∷ xs ++ q ∷ rs))) (pieces w 0 b st (P ++ (q ∷ ys ++ q ∷ rs)))
  any_content xs ys e f P b st z =
      from (walk w (q ∷ xs ++ q ∷ rs) 0 b st P) (walk_reads w (q ∷ xs ++ q ∷ rs) P 0 b st) z
      (rw (walk_local w q (xs ++ q ∷ rs) (ys ++ q ∷ rs) P 0 b st z) at (walk_reads w (q ∷ ys ++ q ∷ rs) P 0 b st))
    where
      from : (x : Walk) → Reads w x (q ∷ xs ++ q ∷ rs) (pieces w 0 b st (P ++ (q ∷ xs ++ q ∷ rs))) → skips x ≡ 0
          → Reads w x (q ∷ ys ++ q ∷ rs) (pieces w 0 b st (P ++ (q ∷ ys ++ q ∷ rs)))
          → Alike xs ys (pieces w 0 b st (P ++ (q ∷ xs ++ q ∷ rs))) (pieces w 0 b st (P ++ (q ∷ ys ++ q ∷ rs)))
      from stuck r s t = absurd (unfold skips in (omega arith))
      from (stands ps j c u) r s t =
          let i : j ≡ 0 = unfold skips in s in
          record {
            before = ps;
            after = pieces w 0 (eqb q 42) (state_after k u) rs;
            one = r ∙ rw (i, quoted_pieces xs e c u);
            other = t ∙ rw (i, quoted_pieces ys f c u);
          }
