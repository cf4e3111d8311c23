-- One turn of the reading loop: the step that was read, and the reading before and after it.
-- go_at, go_start   the reading from an offset on; from 0 on it is the reading of the text
-- go_end           where the text has ended so has the reading
-- Turn, turn       a token was read: the reading is that token and the reading after it
-- turn_stop        none was read: the reading stops
-- Walking          the loop's invariant: start, one more token, end
-- tokens_few       no more tokens than bytes
-- Assumes nothing.
use mathlib.Core.Path.{◌≡◌, refl, sym, ap, ◌∙◌}
use mathlib.Core.Bool.{Bool, true, false, cond}
use mathlib.Core.List.{List, [], ◌∷◌, ◌++◌}
use Rattle.std.specs.Prelude.{Option, Some, None}
use Prim.Native.Nat.{ℕ, zero, suc, ◌+◌, ◌-◌, ◌≤◌, ◌<◌}
use native.Mathlib.Nat.{add-zero, add_assoc}
use native.Mathlib.Decide.{dec_lt}
use native.Mathlib.Numerals.{add-one}
use native.Mathlib.Omega.{arith}
use lib.Dec.{eqb, ltb}
use lib.ListN.{length, take, drop, get_or, length-drop}
use lib.Seq.{drop-cons, drop-drop, take-suc, take_all, take-take, length-take-le}
use borrow.Author.Tests.{lt-ltb, le-ltb}
use Rattle.chars.specs.Utf8.{chars, width}
use Rattle.chars.specs.Steps.{offset}
use Rattle.chars.specs.declared.offset.Offset.{Offset}
use Rattle.chars.proofs.Stepping.{Stepped}
use Rattle.chars.proofs.Scalars.{clash}
use Rattle.tokens.specs.declared.slot.Slot.{Slot}
use Rattle.tokens.specs.Kinds as kind
use Rattle.tokens.specs.Slots.{bare, room, stored, laid}
use Rattle.tokens.proofs.Storing.{laid_none, laid_more, length-stored}
use Rattle.lexer.specs.declared.read.Taken.{Taken}
use Rattle.lexer.specs.declared.rule.State.{State}
use Rattle.lexer.specs.declared.rule.State.TheVariants.{Default}
use Rattle.scans.specs.Ways.{Ways}
use Rattle.scans.specs.Scans.{bytes, reach}
use Rattle.lexer.specs.Rules.{Carried, nothing, slice, scalar, Out, halt, took, read_one, state_after}
use Rattle.scans.specs.Whole.{star_before, Whole, Readable}
use Rattle.lexer.specs.Read.{slot_of, Reading, stopped, next, tokens, stop_at, onward, go, reading, step_of, read_by, kept, taken}
use Rattle.scans.proofs.Characters.{View, here, past, view, Here, stands, readable_here, star_step}
use Rattle.scans.proofs.Reaching.{chars_end, whole-reach}
use Rattle.lexer.proofs.Steps.{read_at}

module _ (w : Ways) where
  -- the clauses of `go`
  go_nil : (k at : ℕ) (b : Bool) (st : State) → go w k at b st [] ≡ stopped at
  unfolding go
  go_nil k at b st = refl

  go-zero : (at : ℕ) (b : Bool) (st : State) (c : ℕ) (cs : List ℕ)
      → go w 0 at b st (c ∷ cs) ≡ onward (read_one w b st c cs) at (c ∷ cs) (λ k n. go w n (at + width c) (eqb c 42) (state_after k st) cs)
  unfolding go
  go-zero at b st c cs = refl

  go-suc : (k at : ℕ) (b : Bool) (st : State) (c : ℕ) (cs : List ℕ) → go w (suc k) at b st (c ∷ cs) ≡ go w k (at + width c) (eqb c 42) st cs
  unfolding go
  go-suc k at b st c cs = refl

  -- the reading of the text t from the offset at on
  unfoldable pub go_at : List ℕ → ℕ → State → Reading
  go_at t at st = go w 0 at (star_before t at) st (chars (drop at t))

  pub go_start : (t : List ℕ) → go_at t 0 Default ≡ reading w t
  unfolding go_at reading star_before
  go_start t = refl

  pub go_end : (t : List ℕ) (at : ℕ) (st : State) → length t ≤ at → go_at t at st ≡ stopped at
  unfolding go_at
  go_end t at st h = rw (chars_end t at h, go_nil)

  -- to pass over k characters is to read on after them
  go_skip : (k : ℕ) (t : List ℕ) (at : ℕ) (st : State) → go w k at (star_before t at) st (chars (drop at t)) ≡ go_at t (at + bytes k (chars (drop at t))) st
  go_skip zero t at st = rw add-zero (unfold go_at in refl)
  go_skip (suc k) t at st = skip (view t at) (λ b. go_skip k t b st)
    where
      skip : View t at → ((b : ℕ) → go w k b (star_before t b) st (chars (drop b t)) ≡ go_at t (b + bytes k (chars (drop b t))) st)
          → go w (suc k) at (star_before t at) st (chars (drop at t)) ≡ go_at t (at + bytes (suc k) (chars (drop at t))) st
      skip (here s nx p e) ih = rw (p.reads, go-suc, ← star_step t at s nx e p.wide, ← add_assoc, ← p.wide) (ih nx)
      skip (past e) ih = rw (e, go_nil, add-zero) (unfold go_at in (rw (e, go_nil)))

  onward_ext : (o : Out) (at : ℕ) (cs : List ℕ) (f g : ℕ → ℕ → Reading) → ((k n : ℕ) → f k n ≡ g k n) → onward o at cs f ≡ onward o at cs g
  onward_ext halt at cs f g h = refl
  onward_ext (took k x n) at cs f g h = ap (next (slot_of at cs k x)) (h k n)

  module _ (t : List ℕ) (at : ℕ) (st : State) where
    -- one token, and on after it
    go_step : (c nx : ℕ) → Stepped t at c nx → star_before t nx ≡ eqb c 42
        → go_at t at st
        ≡ onward (read_one w (star_before t at) st c (chars (drop nx t))) at (c ∷ chars (drop nx t)) (λ k n. go_at t (at + (width c + bytes n (chars (drop nx t)))) (state_after k st))
    go_step c nx p e =
        let one : go_at t at st ≡ go w 0 at (star_before t at) st (c ∷ chars (drop nx t)) = (unfold go_at in (rw p.reads)) in
        one ∙ go-zero at (star_before t at) st c (chars (drop nx t))
        ∙ onward_ext (read_one w (star_before t at) st c (chars (drop nx t))) at (c ∷ chars (drop nx t)) _ _
        (λ k n. rw (← e, ← add_assoc, ← p.wide) (go_skip n t nx (state_after k st)))

    pub record Turn (slot : Slot) (after : ℕ) : Type 0 where
      pub reads : go_at t at st ≡ next slot (go_at t after (state_after slot.kind st))
      pub further : at < after
      pub whole : Whole t after

    kind_of_lem : (cs : List ℕ) (k : ℕ) (x : Carried) → (slot_of at cs k x).kind ≡ k
    kind_of_lem cs k nothing = refl
    kind_of_lem cs k (slice m n) = refl
    kind_of_lem cs k (scalar c) = refl

    -- what a token that was read is, and where it ends
    slot_in : Slot → Option Taken → Slot
    slot_in d None = d
    slot_in d (Some t) = t.slot

    end_in : Offset → Option Taken → Offset
    end_in d None = d
    end_in d (Some t) = t.next

    turn_at : (r : Readable t at) (c nx : ℕ) → Stepped t at c nx → star_before t nx ≡ eqb c 42 → Whole t nx → (o : Out)
        → read_one w (star_before t at) st c (chars (drop nx t)) ≡ o → (slot : Slot) (after : Offset) → taken slot after ≡ step_of at (c ∷ chars (drop nx t)) o → Turn slot after.0
    unfolding slot_in end_in
    turn_at r c nx p e v halt q slot after z = clash (cc)
    turn_at r c nx p e v (took k x n) q slot after z =
        let cs = chars (drop nx t) in
        let s : slot ≡ slot_of at (c ∷ cs) k x = ap (slot_in slot) z in
        let a : after ≡ offset (at + (width c + bytes n cs)) = ap (end_in after) z in
        let b : after.0 ≡ at + (width c + bytes n cs) = ap (λ (o : Offset). o.0) a in
        let i : after.0 ≡ nx + bytes n cs = omega (arith, p.wide) in
        let j : slot.kind ≡ k = ap (λ (u : Slot). u.kind) s ∙ kind_of_lem (c ∷ cs) k x in
        record {
          reads =
              go_step c nx p e ∙ ap (λ (o : Out). onward o at (c ∷ cs) (λ k n. go_at t (at + (width c + bytes n cs)) (state_after k st))) q ∙ (cc);
          further = omega (arith, p.on);
          whole = rw i (unfold reach in (whole-reach (λ l. n) t nx v));
        }

    pub turn : Readable t at → (slot : Slot) (after : Offset) → taken slot after ≡ read_by (read_one w (star_before t at) st) t at → Turn slot after.0
    turn r slot after z = from (readable_here t at r)
      where
        from : Here t at → Turn slot after.0
        from (stands c nx p e v) =
            turn_at r c nx p (star_step t at c nx e p.wide) v (read_one w (star_before t at) st c (chars (drop nx t))) refl slot after
            (z ∙ read_at t at c nx p (read_one w (star_before t at) st))

    stop_at_lem : (c nx : ℕ) → Stepped t at c nx → star_before t nx ≡ eqb c 42 → (o : Out) → read_one w (star_before t at) st c (chars (drop nx t)) ≡ o
        → None ≡ step_of at (c ∷ chars (drop nx t)) o → go_at t at st ≡ stopped at
    stop_at_lem c nx p e halt q z = go_step c nx p e ∙ rw q
    stop_at_lem c nx p e (took k x n) q z = clash (cc)

    pub turn_stop : Readable t at → None ≡ read_by (read_one w (star_before t at) st) t at → go_at t at st ≡ stopped at
    turn_stop r z = from (readable_here t at r)
      where
        from : Here t at → go_at t at st ≡ stopped at
        from (stands c nx p e v) =
            stop_at_lem c nx p (star_step t at c nx e p.wide) (read_one w (star_before t at) st c (chars (drop nx t))) refl
            (z ∙ read_at t at c nx p (read_one w (star_before t at) st))

-- ---- the loop
-- n tokens were read up to the offset at, and those whose place is below upto were stored
pub record Walking (w : Ways) (t ws₀ : List ℕ) (upto : ℕ) (ws : List ℕ) (at n : ℕ) (st : State) : Type 0 where
  pub whole : Whole t at
  pub few : n ≤ at
  pub left : drop n (tokens (reading w t)) ≡ tokens (go_at w t at st)
  pub there : n ≤ length (tokens (reading w t))
  pub stop : stop_at (go_at w t at st) ≡ stop_at (reading w t)
  pub slots : ws ≡ laid (take upto (take n (tokens (reading w t)))) ws₀
  pub long : length ws ≡ length ws₀

pub kept-length : (ws : List ℕ) (upto n : ℕ) (slot : Slot) → length (kept ws upto n slot) ≡ length ws
kept-length ws upto n slot = go (ltb n upto)
  where
    go : (b : Bool) → length (cond b (stored ws n slot) ws) ≡ length ws
    go true = length-stored ws n slot
    go false = refl

take_none : {A : Type 0} (k : ℕ) (l : List A) → take k (take 0 l) ≡ []
take_none zero l = refl
take_none (suc k) l = refl

pub walking_start : (w : Ways) (t ws : List ℕ) (upto : ℕ) → Whole t 0 → Walking w t ws upto ws 0 0 Default
walking_start w t ws upto v = record {
  whole = v;
  few = omega arith;
  left = ap tokens (sym (go_start w t));
  there = omega arith;
  stop = ap stop_at (go_start w t);
  slots = sym (ap (λ (ts : List Slot). laid ts ws) (take_none upto (tokens (reading w t))) ∙ laid_none ws);
  long = refl;
}

module _ (w : Ways) (t ws₀ : List ℕ) (upto : ℕ) (ws : List ℕ) (at n : ℕ) (st : State) (v : Walking w t ws₀ upto ws at n st) where
  abbrev all : List Slot
  all = tokens (reading w t)

  module _ (slot : Slot) (after : ℕ) (u : Turn w t at st slot after) (fits : upto ≤ room ws₀) where
    -- the token is the next of all
    is_next : drop n all ≡ slot ∷ tokens (go_at w t after (state_after slot.kind st))
    is_next = v.left ∙ ap tokens u.reads

    here_more : n < length all
    here_more = omega (arith, length-drop n all, ap length is_next)

    one_more_lem : take (n + 1) all ≡ take n all ++ (slot ∷ [])
    one_more_lem =
        let g : get_or all n (bare kind.None) ∷ drop (suc n) all ≡ slot ∷ tokens (go_at w t after (state_after slot.kind st)) = sym (drop-cons all n (bare kind.None) here_more) ∙ is_next in
        let h : get_or all n (bare kind.None) ≡ slot = cc in
        rw (add-one n) (take-suc all n (bare kind.None) here_more ∙ ap (λ (x : Slot). take n all ++ (x ∷ [])) h)

    kept_is : kept ws upto n slot ≡ laid (take upto (take (n + 1) all)) ws₀
    kept_is = go (dec_lt n upto)
      where
        go : Dec (n < upto) → kept ws upto n slot ≡ laid (take upto (take (n + 1) all)) ws₀
        go (yes h) =
            let l : length (take n all) ≡ n = length-take-le n all v.there in
            let m : take upto (take n all) ≡ take n all = take_all upto (take n all) (omega arith) in
            let k : length (take (n + 1) all) ≡ n + 1 = length-take-le (n + 1) all (omega (arith, here_more)) in
            let o : take upto (take (n + 1) all) ≡ take (n + 1) all = take_all upto (take (n + 1) all) (omega arith) in
            let z : ws ≡ laid (take n all) ws₀ = v.slots ∙ ap (λ (ts : List Slot). laid ts ws₀) m in
            rw (lt-ltb n upto h, o, one_more_lem)
            (ap (λ (x : List ℕ). stored x n slot) z ∙ ap (λ (i : ℕ). stored (laid (take n all) ws₀) i slot) (sym l) ∙ laid_more (take n all) slot ws₀ (omega arith))
        go (no h) =
            let i : upto ≤ n = omega arith in
            let j : upto ≤ n + 1 = omega arith in
            rw (le-ltb n upto i) (v.slots ∙ ap (λ (ts : List Slot). laid ts ws₀) (take-take upto n all i ∙ sym (take-take upto (n + 1) all j)))

    pub walking_more : length (kept ws upto n slot) ≡ length ws → Walking w t ws₀ upto (kept ws upto n slot) after (n + 1) (state_after slot.kind st)
    walking_more e = record {
      whole = u.whole;
      few = omega (arith, u.further, v.few);
      left =
          let d : drop (n + 1) all ≡ drop 1 (drop n all) = sym (drop-drop 1 n all) in
          d ∙ ap (drop 1) is_next;
      there = omega (arith, here_more);
      stop = sym (ap stop_at u.reads) ∙ v.stop;
      slots = kept_is;
      long = e ∙ v.long;
    }

  -- the reading has stopped here: all tokens were read
  module _ (e : go_at w t at st ≡ stopped at) where
    pub all_read : n ≡ length all
    all_read =
        let z : length (drop n all) ≡ 0 = ap length (v.left ∙ ap tokens e) in
        omega (arith, length-drop n all, v.there)

    pub stop_here : at ≡ stop_at (reading w t)
    stop_here = sym (ap stop_at e) ∙ v.stop

    pub all_laid : ws ≡ laid (take upto all) ws₀
    all_laid = v.slots ∙ ap (λ (ts : List Slot). laid (take upto ts) ws₀) (take_all n all (omega (arith, all_read)))

-- ---- no more tokens than characters, and no more of those than bytes
onward_few : (o : Out) (at m : ℕ) (cs : List ℕ) (f : ℕ → ℕ → Reading) → ((k n : ℕ) → length (tokens (f k n)) ≤ m) → length (tokens (onward o at cs f)) ≤ suc m
onward_few halt at m cs f h = omega arith
onward_few (took k x n) at m cs f h = omega (arith, h k n)

go_few : (w : Ways) (cs : List ℕ) (k at : ℕ) (b : Bool) (st : State) → length (tokens (go w k at b st cs)) ≤ length cs
unfolding go
go_few w [] k at b st = omega arith
go_few w (c ∷ cs) zero at b st =
    onward_few (read_one w b st c cs) at (length cs) (c ∷ cs) (λ k n. go w n (at + width c) (eqb c 42) (state_after k st) cs)
    (λ k n. go_few w cs n (at + width c) (eqb c 42) (state_after k st))
go_few w (c ∷ cs) (suc k) at b st = omega (arith, go_few w cs k (at + width c) (eqb c 42) st)

chars_few : (n : ℕ) (t : List ℕ) (at : ℕ) → length t - at ≤ n → length (chars (drop at t)) ≤ n
chars_few zero t at h = rw (chars_end t at (omega arith)) (omega arith)
chars_few (suc n) t at h = from (view t at) (chars_few n t)
  where
    from : View t at → ((b : ℕ) → length t - b ≤ n → length (chars (drop b t)) ≤ n) → length (chars (drop at t)) ≤ suc n
    from (past e) ih = rw e (omega arith)
    from (here s nx p e) ih = rw p.reads (omega (arith, ih nx (omega (arith, p.on, p.inside))))

pub tokens_few : (w : Ways) (t : List ℕ) → length (tokens (reading w t)) ≤ length t
unfolding reading
tokens_few w t = omega (arith, go_few w (chars t) 0 0 false Default, chars_few (length t) t 0 (omega arith))
