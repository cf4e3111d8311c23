-- Where a quoted token was read: its offsets tell the place of its quote, and that the reading stood there. For any ways to read.
-- quoted_slice     what is read of a quoted kind is a slice from after its first character
-- Stood, stood     the characters before a token of a quoted kind, and how the reading stood there
-- same_front       two cuts of the same characters with the same bytes before and in the first character are one cut
-- Assumes nothing.
use mathlib.Core.Path.{◌≡◌, refl, sym, ap, subst, ◌∙◌}
use mathlib.Core.Bool.{Bool, true, false, cond, not, false≢true}
use mathlib.Core.List.{List, [], ◌∷◌, ◌++◌}
use Prim.Native.Nat.{ℕ, zero, suc, ◌+◌, ◌≤◌}
use native.Mathlib.Omega.{arith}
use native.Mathlib.Nat.{add-zero}
use lib.Dec.{eqb, leb, ltb}
use lib.ListN.{length, get_or, take, drop, length-append}
use borrow.Author.Tests.{leb-true}
use Rattle.chars.specs.Utf8.{width, encode, encode_all, is_scalar, all_scalars}
use Rattle.chars.proofs.Bytes.{and_l, and_r}
use Rattle.tokens.specs.Kinds as kind
use Rattle.tokens.specs.Slots.{bare}
use Rattle.tokens.specs.Formed.{carries_offsets}
use Rattle.tokens.specs.declared.slot.Slot.{Slot}
use Rattle.tokens.proofs.Forms.{carries_in}
use Rattle.lexer.specs.declared.rule.State.{State}
use Rattle.lexer.specs.declared.rule.Rule.{Rule}
use Rattle.lexer.specs.declared.rule.Rule.TheVariants.{Quoted, Line, Block, Single, Numbered, Run, Charset, Word, Number, Unknown}
use Rattle.scans.specs.Ways.{Ways}
use Rattle.scans.specs.declared.goes.Stop.TheVariants as stop
use Rattle.words.specs.declared.guess.Sort.TheVariants as sort
use Rattle.scans.specs.Scans.{bytes, span, in_run, goes_on}
use Rattle.words.specs.Known.{known_kind}
use Rattle.lexer.specs.Rules.{Carried, nothing, slice, scalar, Out, halt, took, sliced, state_after, rule_of, quoted, line, block, numbered, run, charset, word, number, by_rule, read_one}
use Rattle.lexer.specs.Read.{slot_of, Reading, tokens, onward, go}
use Rattle.chars.proofs.Scalars.{clash}
use Rattle.scans.proofs.Characters.{encode-length}
use Rattle.lexer.proofs.Formed.{fits, Fits, one_fits, plain_not, unknown-not}
use Rattle.lexer.proofs.Pieces.{Piece, piece_of}
use Rattle.lexer.proofs.Local.{stands, push, on_walk, walk}
use Rattle.sql_lexer.proofs.Same.{at}

-- a quoted kind carries offsets
pub quoted_carries : (k : ℕ) → kind.is_quoted k ≡ true → carries_offsets k ≡ true
unfolding kind.is_quoted
quoted_carries k e =
    let l : kind.Backticked ≤ k = leb-true kind.Backticked k (and_l (leb kind.Backticked k) (leb k kind.SingleQuoted) e) in
    let h : k ≤ kind.SingleQuoted = leb-true k kind.SingleQuoted (and_r (leb kind.Backticked k) (leb k kind.SingleQuoted) e) in
    carries_in k (omega arith) (omega arith)

-- a slice from after the first character
abbrev pub FromOne : Carried → Type 0
FromOne nothing = ⊥
FromOne (slice m n) = m ≡ 1
FromOne (scalar c) = ⊥

-- an output's kind, and where its slice starts
kind_out : Out → ℕ
kind_out halt = kind.None
kind_out (took k x n) = k

from_out : Out → ℕ
from_out (took k (slice m e) n) = m
from_out (took k nothing n) = 0
from_out (took k (scalar c) n) = 0
from_out halt = 0

module _ (k : ℕ) (quote : kind.is_quoted k ≡ true) (m e n : ℕ) where
  -- another kind is not the quoted one
  other : (o : Out) → kind.is_quoted (kind_out o) ≡ false → o ≡ took k (slice m e) n → m ≡ 1
  unfolding kind_out
  other o f g = let z : kind_out o ≡ k = ap kind_out g in let y : false ≡ true = sym f ∙ ap kind.is_quoted z ∙ quote in absurd (false≢true y)

  -- nor is a token that carries nothing
  bare-or : (b : Bool) (k' n' : ℕ) (o : Out) → kind.is_quoted (kind_out o) ≡ false → cond b o (took k' nothing n') ≡ took k (slice m e) n → m ≡ 1
  bare-or true k' n' o f g = other o f g
  bare-or false k' n' o f g = clash (cc)

  from_rule : (r : Rule) (w : Ways) (b : Bool) (c : ℕ) (cs : List ℕ) → by_rule r w b c cs ≡ took k (slice m e) n → m ≡ 1
  unfolding by_rule quoted line block numbered run charset word number kind_out from_out kind.is_quoted
  from_rule (Quoted k') w b c cs g = sym (ap from_out g)
  from_rule Line w b c cs g = other _ refl g
  from_rule Block w b c cs g = other _ refl g
  from_rule (Single k') w b c cs g = clash (cc)
  from_rule Numbered w b c cs g = other _ refl g
  from_rule Run w b c cs g =
      let n' = span in_run cs in
      let k' = known_kind sort.Runs (take (suc n') (c ∷ cs)) in
      bare-or (eqb k' kind.None) k' n' halt refl g
  from_rule Charset w b c cs g = other _ refl g
  from_rule Word w b c cs g =
      let n' = span (goes_on w stop.Word) cs in
      let k' = known_kind sort.Words (take (suc n') (c ∷ cs)) in
      bare-or (eqb k' kind.None) k' n' (sliced kind.Other n') refl g
  from_rule Number w b c cs g =
      let n' = span (goes_on w stop.Number) cs in
      let k' = known_kind sort.Zeros (take (suc n') (c ∷ cs)) in
      bare-or (eqb k' kind.None) k' n' (sliced kind.Numeric n') refl g
  from_rule Unknown w b c cs g = other _ refl g

pub quoted_slice : (w : Ways) (b : Bool) (st : State) (c : ℕ) (cs : List ℕ) (k : ℕ) (x : Carried) (n : ℕ) → is_scalar c ≡ true
    → read_one w b st c cs ≡ took k x n → kind.is_quoted k ≡ true → FromOne x
unfolding read_one
quoted_slice w b st c cs k x n s g q = from x g (subst Fits g (one_fits w b st c cs s))
  where
    carries : carries_offsets k ≡ true
    carries = quoted_carries k q

    from : (x : Carried) → by_rule (rule_of w st c cs) w b c cs ≡ took k x n → fits k x ≡ true → FromOne x
    from nothing g f = let y : not true ≡ true = ap not (sym carries) ∙ plain_not k f in absurd (false≢true y)
    from (slice m e) g f = from_rule k q m e n (rule_of w st c cs) w b c cs g
    from (scalar d) g f = clash (unknown-not k d f carries)

-- the token of place i was read where the characters `before` had been, in a state and after a character that the walk tells
pub record Stood (w : Ways) (cs : List ℕ) (skip from : ℕ) (b : Bool) (st : State) (i : ℕ) (t : Slot) : Type 0 where
  pub before : List ℕ
  pub c : ℕ
  pub after : List ℕ
  pub passed : List Piece
  pub star : Bool
  pub state : State
  pub all : cs ≡ before ++ c ∷ after
  pub walked : walk w (c ∷ after) skip b st before ≡ stands passed 0 star state
  pub place : length passed ≡ i
  pub kind : ℕ
  pub carried : Carried
  pub taken : ℕ
  pub scalar : is_scalar c ≡ true
  pub read : read_one w star state c after ≡ took kind carried taken
  pub token : t ≡ slot_of (from + length (encode_all before)) (c ∷ after) kind carried

-- it is of a quoted kind
abbrev Asked : Reading → ℕ → Type 0
Asked r i = kind.is_quoted (at (tokens r) i).kind ≡ true

no_token : kind.is_quoted (bare kind.None).kind ≡ true → ⊥
unfolding kind.is_quoted
no_token e = false≢true e

further : (c : ℕ) (l : List ℕ) (from : ℕ) → from + width c + length (encode_all l) ≡ from + length (encode c ++ encode_all l)
further c l from = omega (arith, length-append (encode c) (encode_all l), encode-length c)

module _ (w : Ways) where
  -- one more character before it, in the middle of a token
  stood_over : (c : ℕ) (cs : List ℕ) (skip from : ℕ) (b : Bool) (st : State) (i : ℕ) (t : Slot) → Stood w cs skip (from + width c) (eqb c 42) st i t
      → Stood w (c ∷ cs) (suc skip) from b st i t
  unfolding walk encode_all
  stood_over c cs skip from b st i t s = record {
    before = c ∷ s.before;
    c = s.c;
    after = s.after;
    passed = s.passed;
    star = s.star;
    state = s.state;
    all = ap (λ (l : List ℕ). c ∷ l) s.all;
    walked = s.walked;
    place = s.place;
    kind = s.kind;
    carried = s.carried;
    taken = s.taken;
    scalar = s.scalar;
    read = s.read;
    token = s.token ∙ ap (λ (o : ℕ). slot_of o (s.c ∷ s.after) s.kind s.carried) (further c s.before from);
  }

  -- one more character before it, where a token starts
  stood_next : (c : ℕ) (cs : List ℕ) (from : ℕ) (b : Bool) (st : State) (i : ℕ) (t : Slot) (k : ℕ) (x : Carried) (n : ℕ) → read_one w b st c cs ≡ took k x n
      → Stood w cs n (from + width c) (eqb c 42) (state_after k st) i t → Stood w (c ∷ cs) 0 from b st (suc i) t
  unfolding walk encode_all
  stood_next c cs from b st i t k x n e s =
      let rest : List ℕ = s.before ++ s.c ∷ s.after in
      let p : Piece = piece_of (c ∷ rest) k x in
      let r : read_one w b st c rest ≡ took k x n = ap (read_one w b st c) (sym s.all) ∙ e in
      record {
        before = c ∷ s.before;
        c = s.c;
        after = s.after;
        passed = p ∷ s.passed;
        star = s.star;
        state = s.state;
        all = ap (λ (l : List ℕ). c ∷ l) s.all;
        walked =
            ap (λ (o : Out). on_walk o (c ∷ rest) (λ k n. walk w (s.c ∷ s.after) n (eqb c 42) (state_after k st) s.before)) r
            ∙ ap (push p) s.walked;
        place = ap suc s.place;
        kind = s.kind;
        carried = s.carried;
        taken = s.taken;
        scalar = s.scalar;
        read = s.read;
        token = s.token ∙ ap (λ (o : ℕ). slot_of o (s.c ∷ s.after) s.kind s.carried) (further c s.before from);
      }

  module _ (c : ℕ) (cs : List ℕ) (from : ℕ) (b : Bool) (st : State) (good : is_scalar c ≡ true) where
    -- what is read after a token at c
    abbrev on : ℕ → ℕ → Reading
    on k n = go w n (from + width c) (eqb c 42) (state_after k st) cs

    stood_on : ((k n i : ℕ) → Asked (on k n) i → Stood w cs n (from + width c) (eqb c 42) (state_after k st) i (at (tokens (on k n)) i))
        → (o : Out) → read_one w b st c cs ≡ o → (i : ℕ) → Asked (onward o from (c ∷ cs) on) i
        → Stood w (c ∷ cs) 0 from b st i (at (tokens (onward o from (c ∷ cs) on)) i)
    unfolding walk encode_all
    stood_on ih halt e i q = absurd (no_token q)
    stood_on ih (took k x n) e zero q = record {
      before = [];
      c = c;
      after = cs;
      passed = [];
      star = b;
      state = st;
      all = refl;
      walked = refl;
      place = refl;
      kind = k;
      carried = x;
      taken = n;
      scalar = good;
      read = e;
      token = ap (λ (o : ℕ). slot_of o (c ∷ cs) k x) (sym (add-zero from));
    }
    stood_on ih (took k x n) e (suc i) q = stood_next c cs from b st i (at (tokens (on k n)) i) k x n e (ih k n i q)

  pub stood : (cs : List ℕ) (skip from : ℕ) (b : Bool) (st : State) (i : ℕ) → all_scalars cs ≡ true → Asked (go w skip from b st cs) i
      → Stood w cs skip from b st i (at (tokens (go w skip from b st cs)) i)
  unfolding go all_scalars
  stood [] skip from b st i s q = absurd (no_token q)
  stood (c ∷ cs) zero from b st i s q =
      let t : all_scalars cs ≡ true = and_r (is_scalar c) (all_scalars cs) s in
      stood_on c cs from b st (and_l (is_scalar c) (all_scalars cs) s) (λ k n j p. stood cs n (from + width c) (eqb c 42) (state_after k st) j t p) (read_one w b st c cs) refl i q
  stood (c ∷ cs) (suc skip) from b st i s q =
      stood_over c cs skip from b st i _ (stood cs skip (from + width c) (eqb c 42) st i (and_r (is_scalar c) (all_scalars cs) s) q)

-- ---- one cut
width_some : (c : ℕ) → 1 ≤ width c
unfolding width
width_some c = go (ltb c 0x80) (ltb c 0x800) (ltb c 0x10000)
  where
    go : (x y z : Bool) → 1 ≤ cond x 1 (cond y 2 (cond z 3 4))
    go true y z = omega arith
    go false true z = omega arith
    go false false true = omega arith
    go false false false = omega arith

pub record OneCut (before : List ℕ) (c : ℕ) (after before' : List ℕ) (c' : ℕ) (after' : List ℕ) : Type 0 where
  pub front : before ≡ before'
  pub char : c ≡ c'
  pub back : after ≡ after'

pub same_front : (xs : List ℕ) (c : ℕ) (us ys : List ℕ) (d : ℕ) (bs : List ℕ) → xs ++ c ∷ us ≡ ys ++ d ∷ bs
    → length (encode_all xs) + width c ≡ length (encode_all ys) + width d → OneCut xs c us ys d bs
unfolding encode_all
same_front [] c us [] d bs e h = record { front = refl; char = ap (λ (l : List ℕ). get_or l 0 0) e; back = ap (drop 1) e }
same_front [] c us (y ∷ ys) d bs e h =
    let z : c ≡ y = ap (λ (l : List ℕ). get_or l 0 0) e in
    absurd (omega (arith, ap width z, length-append (encode y) (encode_all ys), encode-length y, width_some d))
same_front (x ∷ xs) c us [] d bs e h =
    let z : x ≡ d = ap (λ (l : List ℕ). get_or l 0 0) e in
    absurd (omega (arith, ap width z, length-append (encode x) (encode_all xs), encode-length x, width_some c))
same_front (x ∷ xs) c us (y ∷ ys) d bs e h =
    let z : x ≡ y = ap (λ (l : List ℕ). get_or l 0 0) e in
    let k : length (encode_all xs) + width c ≡ length (encode_all ys) + width d =
    omega (arith, ap width z, length-append (encode x) (encode_all xs), encode-length x, length-append (encode y) (encode_all ys), encode-length y) in
    let r = same_front xs c us ys d bs (ap (drop 1) e) k in
    record { front = ap (λ (l : List ℕ). x ∷ l) r.front ∙ ap (λ (a : ℕ). a ∷ ys) z; char = r.char; back = r.back }

-- as many characters as take the bytes of those before q are those before q
pub count_of : (n : ℕ) (cs : List ℕ) (q : ℕ) (rest : List ℕ) → bytes n (cs ++ q ∷ rest) ≡ length (encode_all cs) → n ≡ length cs
unfolding encode_all
count_of zero [] q rest e = refl
count_of (suc n) [] q rest e = absurd (omega (arith, width_some q))
count_of zero (c ∷ cs) q rest e = absurd (omega (arith, length-append (encode c) (encode_all cs), encode-length c, width_some c))
count_of (suc n) (c ∷ cs) q rest e = ap suc (count_of n cs q rest (omega (arith, length-append (encode c) (encode_all cs), encode-length c)))
