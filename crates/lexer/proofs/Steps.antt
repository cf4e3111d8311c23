-- What each rule reads, as the token and the offset after it that the code answers.
-- read_at                    what a rule reads at the character that stands there
-- line_read, block_read, numbered_read, charset_read, single_read, unknown_read   rules 2 to 6, 8 and 11
-- quoted_closed, _open       rule 1
-- run-known, _halt, word-known, _other, number-known, _plain   rules 7, 9 and 10
-- Lead, lead_is              a character that passes a test stands at the offset
-- number_dash, number_same   where the scan of a number starts
-- Assumes nothing.
use mathlib.Core.Path.{◌≡◌, refl, sym, ap, ◌∙◌}
use mathlib.Core.Bool.{Bool, true, false, cond, not}
use mathlib.Core.List.{List, [], ◌∷◌}
use Rattle.std.specs.Prelude.{None}
use Prim.Native.Nat.{ℕ, zero, suc, ◌+◌, ◌-◌, ◌≤◌, ◌<◌}
use native.Mathlib.Nat.{add_assoc, add-zero, zero-add, suc-add}
use native.Mathlib.Omega.{arith}
use lib.Dec.{eqb}
use lib.ListN.{length, get_or, take, drop}
use borrow.Author.Tests.{eq-eqb, ne_eqb, eqb-true}
use Rattle.chars.specs.Utf8.{chars, width}
use Rattle.chars.specs.Steps.{offset}
use Rattle.chars.specs.declared.offset.Offset.{Offset}
use Rattle.chars.proofs.Bytes.{and_r, width_1}
use Rattle.chars.proofs.Stepping.{Stepped}
use Rattle.chars.proofs.Scalars.{clash}
use Rattle.tokens.specs.Kinds as kind
use Rattle.tokens.specs.Slots.{bare}
use Rattle.tokens.specs.Answers.{limit}
use Rattle.scans.specs.declared.goes.Stop.TheVariants as stop
use Rattle.words.specs.declared.guess.Sort.{Sort}
use Rattle.words.specs.declared.guess.Sort.TheVariants.{Words, Runs, Zeros}
use Rattle.scans.specs.Ways.{pinned}
use Rattle.scans.specs.Scans.{scan, span, bytes, reach, closes, escapes, quote_len, block_len, in_line, in_run, goes_on}
use Rattle.words.specs.Known.{known_kind}
use Rattle.lexer.specs.Rules.{Out, halt, took, nothing, slice, sliced, known, one_more, quoted, line, block, numbered, run, charset, word, number, unknown, starts_word, starts_number}
use Rattle.scans.specs.Whole.{Whole}
use Rattle.lexer.specs.Read.{part_of, step_of, read_by, Ascii, Leads, NumberFrom, taken}
use Rattle.scans.proofs.Characters.{Here, stands, readable_here, stepped_ascii, whole-ascii, lead_low, low_lead}
use Rattle.scans.proofs.Reaching.{reach_rest, reach_in, reach-le, whole-reach, span_on, chars_end}
use Rattle.scans.proofs.Classes.{word_alnum, charset_letter, number-numeric}
use Rattle.lexer.proofs.Spelling.{known_bytes}

-- ---- at a character
module _ (t : List ℕ) (at c next : ℕ) (p : Stepped t at c next) where
  abbrev rest : List ℕ
  rest = chars (drop next t)

  pub read_at : (f : ℕ → List ℕ → Out) → read_by f t at ≡ step_of at (c ∷ rest) (f c rest)
  unfolding read_by
  read_at f = rw p.reads

  first_at : at + (width c + 0) ≡ next
  first_at = omega (arith, p.wide)

  module _ (g : List ℕ → ℕ) where
    end_at : at + (width c + bytes (g rest) rest) ≡ reach g t next
    unfolding reach
    end_at = omega (arith, p.wide)

    sliced-step : (k : ℕ) → step_of at (c ∷ rest) (sliced k (g rest)) ≡ taken (part_of k at (reach g t next)) (offset (reach g t next))
    sliced-step k = rw (add-zero, end_at)

    inner_step : (k : ℕ) → step_of at (c ∷ rest) (took k (slice 1 (suc (g rest))) (g rest)) ≡ taken (part_of k next (reach g t next)) (offset (reach g t next))
    inner_step k = rw (first_at, end_at)

    plain_step : (k : ℕ) → step_of at (c ∷ rest) (took k nothing (g rest)) ≡ taken (bare k) (offset (reach g t next))
    plain_step k = rw end_at

    -- the text that is looked up
    text_is : (sort : Sort) → Whole t at → known_kind sort (take (suc (g rest)) (c ∷ rest)) ≡ known_kind sort (take (reach g t next - at) (drop at t))
    text_is sort w =
        let e : bytes (suc (g rest)) (chars (drop at t)) ≡ reach g t next - at = ap (bytes (suc (g rest))) p.reads ∙ omega (arith, end_at) in
        ap (λ (l : List ℕ). known_kind sort (take (suc (g rest)) l)) (sym p.reads) ∙ known_bytes sort t at (suc (g rest)) w
        ∙ ap (λ (n : ℕ). known_kind sort (take n (drop at t))) e

    module _ (e : Offset) (d : e ≡ offset (reach g t next)) (sort : Sort) (w : Whole t at) (k : ℕ) (l : k ≡ known_kind sort (take (e.0 - at) (drop at t))) where
      kind_is : known_kind sort (take (suc (g rest)) (c ∷ rest)) ≡ k
      kind_is = text_is sort w ∙ sym (l ∙ ap (λ (o : Offset). known_kind sort (take (o.0 - at) (drop at t))) d)

      pub known_step : (other : Out) → (k ≡ kind.None → ⊥) → taken (bare k) e ≡ step_of at (c ∷ rest) (known (known_kind sort (take (suc (g rest)) (c ∷ rest))) (g rest) other)
      known_step other n = sym (rw (kind_is, ne_eqb k kind.None n, d) (plain_step k))

      pub other_step : (other : Out) → k ≡ kind.None → step_of at (c ∷ rest) other ≡ step_of at (c ∷ rest) (known (known_kind sort (take (suc (g rest)) (c ∷ rest))) (g rest) other)
      other_step other n = sym (rw (kind_is, eq-eqb k kind.None n))

-- ---- at an ASCII character
module _ (t : List ℕ) (at : ℕ) (a : Ascii t at) where
  abbrev c : ℕ
  c = get_or t at 0

  here : Stepped t at c (at + 1)
  here = stepped_ascii t at a.readable.here a.low

  pub after_whole : Whole t (at + 1)
  after_whole = whole-ascii t at a.readable.rest a.readable.here a.low

  pub at_small : at ≤ limit
  at_small = omega (arith, a.readable.here, a.readable.rest.small)

  pub after_small : at + 1 ≤ limit
  after_small = omega (arith, a.readable.here, a.readable.rest.small)

  module _ (g : List ℕ → ℕ) (e : Offset) (d : e ≡ offset (reach g t (at + 1))) where
    pub end_in : e.0 ≤ length t
    end_in = rw d (reach_in g t (at + 1) after_whole.inside)

    pub end_small : e.0 ≤ limit
    end_small = omega (arith, end_in, after_whole.small)

    pub end_after : at ≤ e.0
    end_after = rw d (omega (arith, reach-le g t (at + 1)))

    slice_read : (k : ℕ) (f : ℕ → List ℕ → Out) → f c (chars (drop (at + 1) t)) ≡ sliced k (g (chars (drop (at + 1) t))) → taken (part_of k at e.0) e ≡ read_by f t at
    slice_read k f q = rw d (sym (read_at t at c (at + 1) here f ∙ ap (step_of at (c ∷ chars (drop (at + 1) t))) q ∙ sliced-step t at c (at + 1) here g k))

  pub line_read : (e : Offset) → e ≡ offset (reach (span in_line) t (at + 1)) → taken (part_of kind.Comment at e.0) e ≡ read_by (λ c cs. line cs) t at
  line_read e d = slice_read (span in_line) e d kind.Comment (λ c cs. line cs) (unfold line in refl)

  pub block_read : (star : Bool) (e : Offset) → e ≡ offset (reach (block_len star) t (at + 1)) → taken (part_of kind.Comment at e.0) e ≡ read_by (λ c cs. block star cs) t at
  block_read star e d = slice_read (block_len star) e d kind.Comment (λ c cs. block star cs) (unfold block in refl)

  pub numbered_read : (e : Offset) → e ≡ offset (reach (span (goes_on pinned stop.Numerics)) t (at + 1))
      → taken (part_of kind.NumberedPlaceholder at e.0) e ≡ read_by (λ c cs. numbered pinned cs) t at
  numbered_read e d = slice_read (span (goes_on pinned stop.Numerics)) e d kind.NumberedPlaceholder (λ c cs. numbered pinned cs) (unfold numbered in refl)

  pub charset_read : (e : Offset) → e ≡ offset (reach (span (goes_on pinned stop.Charset)) t (at + 1))
      → taken (part_of kind.Charset (at + 1) e.0) e ≡ read_by (λ c cs. charset pinned cs) t at
  unfolding charset
  charset_read e d =
      rw d (sym (read_at t at c (at + 1) here (λ c cs. charset pinned cs) ∙ inner_step t at c (at + 1) here (span (goes_on pinned stop.Charset)) kind.Charset))

  pub single_read : (k : ℕ) → taken (bare k) (offset (at + 1)) ≡ read_by (λ c cs. took k nothing 0) t at
  single_read k = sym (read_at t at c (at + 1) here (λ c cs. took k nothing 0) ∙ rw (first_at t at c (at + 1) here))

  module _ (e : Offset) (d : e ≡ offset (reach (span in_run) t (at + 1))) (k : ℕ) (l : k ≡ known_kind Runs (take (e.0 - at) (drop at t))) where
    pub run-known : (k ≡ kind.None → ⊥) → taken (bare k) e ≡ read_by run t at
    unfolding run
    run-known n = known_step t at c (at + 1) here (span in_run) e d Runs a.readable.rest k l halt n ∙ sym (read_at t at c (at + 1) here run)

    pub run_halt : k ≡ kind.None → None ≡ read_by run t at
    unfolding run
    run_halt n = other_step t at c (at + 1) here (span in_run) e d Runs a.readable.rest k l halt n ∙ sym (read_at t at c (at + 1) here run)

-- ---- rule 1
bytes-add : (n m : ℕ) (cs : List ℕ) → bytes (n + m) cs ≡ bytes n cs + bytes m (drop n cs)
bytes-add zero m cs = rw (zero-add, zero-add)
bytes-add (suc n) m [] = rw (suc-add, zero-add) (none m)
  where
    none : (m : ℕ) → 0 ≡ bytes m []
    none zero = refl
    none (suc m) = refl
bytes-add (suc n) m (c ∷ cs) = rw (suc-add, bytes-add n m cs, ← add_assoc)

-- what stands where the scan stopped is the quote
quote_stop : (q : ℕ) (odd : Bool) (cs : List ℕ) (x : ℕ) (xs : List ℕ) → drop (scan (closes q) escapes odd cs) cs ≡ x ∷ xs → x ≡ q
unfolding scan
quote_stop q odd [] x xs e = clash (cc)
quote_stop q odd (c ∷ cs) x xs e = go (closes q odd c) refl e (quote_stop q (escapes odd c) cs x xs)
  where
    go : (b : Bool) → closes q odd c ≡ b → drop (cond b 0 (suc (scan (closes q) escapes (escapes odd c) cs))) (c ∷ cs) ≡ x ∷ xs
        → (drop (scan (closes q) escapes (escapes odd c) cs) cs ≡ x ∷ xs → x ≡ q) → x ≡ q
    go true p r ih = let z : x ≡ c = cc in z ∙ eqb-true c q (and_r (not odd) (eqb c q) p)
    go false p r ih = ih r

module _ (t : List ℕ) (at : ℕ) (a : Ascii t at) (k : ℕ) (e : Offset) (d : e ≡ offset (reach (quote_len (get_or t at 0)) t (at + 1))) where
  abbrev q : ℕ
  q = get_or t at 0

  abbrev cs : List ℕ
  cs = chars (drop (at + 1) t)

  end_is : e.0 ≡ reach (quote_len q) t (at + 1)
  end_is = ap (λ (o : Offset). o.0) d

  left : chars (drop e.0 t) ≡ drop (quote_len q cs) cs
  left = ap (λ (n : ℕ). chars (drop n t)) end_is ∙ reach_rest (quote_len q) t (at + 1)

  past : at + (width q + bytes (quote_len q cs + one_more (drop (quote_len q cs) cs)) cs) ≡ e.0 + bytes (one_more (chars (drop e.0 t))) (chars (drop e.0 t))
  past =
      ap (λ (n : ℕ). at + (width q + n)) (bytes-add (quote_len q cs) (one_more (drop (quote_len q cs) cs)) cs)
      ∙ rw (← left) (omega (arith, end_is, end_at t at q (at + 1) (here t at a) (quote_len q)))

  quoted_is : read_by (quoted k) t at ≡ taken (part_of k (at + 1) e.0) (offset (e.0 + bytes (one_more (chars (drop e.0 t))) (chars (drop e.0 t))))
  unfolding quoted
  quoted_is =
      read_at t at q (at + 1) (here t at a) (quoted k)
      ∙ rw (past, first_at t at q (at + 1) (here t at a), end_at t at q (at + 1) (here t at a) (quote_len q), ← end_is)

  pub quoted_closed : e.0 < length t → taken (part_of k (at + 1) e.0) (offset (e.0 + 1)) ≡ read_by (quoted k) t at
  quoted_closed h = sym (quoted_is ∙ ap (λ (n : ℕ). taken (part_of k (at + 1) e.0) (offset (e.0 + n))) (one (readable_here t e.0 (record { here = h; rest = rw end_is (whole-reach (quote_len q) t (at + 1) (after_whole t at a)) }))))
    where
      one : Here t e.0 → bytes (one_more (chars (drop e.0 t))) (chars (drop e.0 t)) ≡ 1
      one (stands s next p i v) =
          let z : s ≡ q = quote_stop q false cs s (chars (drop next t)) (sym left ∙ p.reads) in
          rw (p.reads, z) (omega (arith, width_1 q a.low))

  pub quoted_open : length t ≤ e.0 → taken (part_of k (at + 1) e.0) e ≡ read_by (quoted k) t at
  quoted_open h = sym (quoted_is ∙ rw (chars_end t e.0 h, add-zero))

-- ---- rules 9 and 10
pub data Lead (p : ℕ → Bool) (t : List ℕ) (at : ℕ) : Type 0 where
  led : (s next : ℕ) → Stepped t at s next → p s ≡ true → (get_or t at 0 ≡ 45 → s ≡ 45) → (s ≡ 45 → get_or t at 0 ≡ 45) → Lead p t at

pub lead_is : (p : ℕ → Bool) (t : List ℕ) (at : ℕ) → Leads p t at → Lead p t at
lead_is p t at l = from (readable_here t at l.readable)
  where
    from : Here t at → Lead p t at
    from (stands s next q e v) =
        led s next q (rw q.reads at l.leads) (λ z. lead_low t at s next e (omega arith) ∙ z) (λ z. low_lead t at s next e (omega arith) ∙ z)

module _ (t : List ℕ) (at : ℕ) (w : Whole t at) where
  pub here_small : at ≤ limit
  here_small = omega (arith, w.inside, w.small)

  module _ (g : List ℕ → ℕ) (e : Offset) (d : e ≡ offset (reach g t at)) where
    pub far_in : e.0 ≤ length t
    far_in = rw d (reach_in g t at w.inside)

    pub far_after : at ≤ e.0
    far_after = rw d (reach-le g t at)

    pub far_small : e.0 ≤ limit
    far_small = omega (arith, far_in, w.small)

word_goes : (c : ℕ) → pinned.alphabetic c ≡ true → goes_on pinned stop.Word c ≡ true
word_goes c e = word_alnum c (charset_letter c e)

module _ (t : List ℕ) (at : ℕ) (l : Leads (starts_word pinned) t at) (e : Offset) (d : e ≡ offset (reach (span (goes_on pinned stop.Word)) t at))
    (k : ℕ) (i : k ≡ known_kind Words (take (e.0 - at) (drop at t))) where
  abbrev inside : List ℕ → ℕ
  inside = span (goes_on pinned stop.Word)

  pub word-known : (k ≡ kind.None → ⊥) → taken (bare k) e ≡ read_by (word pinned) t at
  unfolding word
  word-known n = from (lead_is (starts_word pinned) t at l)
    where
      from : Lead (starts_word pinned) t at → taken (bare k) e ≡ read_by (word pinned) t at
      from (led s next p q a b) =
          known_step t at s next p inside e (d ∙ ap offset (span_on (goes_on pinned stop.Word) t at s next p (word_goes s q))) Words l.readable.rest k i _ n
          ∙ sym (read_at t at s next p (word pinned))

  pub word_other : k ≡ kind.None → taken (part_of kind.Other at e.0) e ≡ read_by (word pinned) t at
  unfolding word
  word_other n = from (lead_is (starts_word pinned) t at l)
    where
      from : Lead (starts_word pinned) t at → taken (part_of kind.Other at e.0) e ≡ read_by (word pinned) t at
      from (led s next p q a b) =
          let f = d ∙ ap offset (span_on (goes_on pinned stop.Word) t at s next p (word_goes s q)) in
          rw f (sym (sliced-step t at s next p inside kind.Other)) ∙ other_step t at s next p inside e f Words l.readable.rest k i _ n
          ∙ sym (read_at t at s next p (word pinned))

-- the scan of a number starts after its first character, or at it where it is numeric
module _ (t : List ℕ) (at : ℕ) (l : Leads (starts_number pinned) t at) where
  abbrev digits : List ℕ → ℕ
  digits = span (goes_on pinned stop.Number)

  from_next : (s next : ℕ) → Stepped t at s next → at + bytes (suc (digits (drop 1 (chars (drop at t))))) (chars (drop at t)) ≡ reach digits t next
  from_next s next p = rw p.reads (end_at t at s next p digits)

  pub number_dash : get_or t at 0 ≡ 45 → NumberFrom t at (at + 1)
  number_dash h =
      let p = stepped_ascii t at l.readable.here (omega arith) in
      record { same = sym (from_next (get_or t at 0) (at + 1) p) }

  pub number_same : (get_or t at 0 ≡ 45 → ⊥) → NumberFrom t at at
  number_same h = from (lead_is (starts_number pinned) t at l)
    where
      from : Lead (starts_number pinned) t at → NumberFrom t at at
      from (led s next p q a b) =
          let n : pinned.numeric s ≡ true = rw (ne_eqb s 45 (λ z. h (b z))) at q in
          record { same = span_on (goes_on pinned stop.Number) t at s next p (number-numeric s n) ∙ sym (from_next s next p) }

  module _ (from : ℕ) (f : NumberFrom t at from) (e : Offset) (d : e ≡ offset (reach digits t from)) where
    end_next : (s next : ℕ) → Stepped t at s next → e ≡ offset (reach digits t next)
    end_next s next p = d ∙ ap offset (f.same ∙ from_next s next p)

    pub number_bounds : (at ≤ e.0) × (e.0 ≤ length t)
    number_bounds = go (lead_is (starts_number pinned) t at l)
      where
        go : Lead (starts_number pinned) t at → (at ≤ e.0) × (e.0 ≤ length t)
        go (led s next p q a b) = rw (end_next s next p) (omega (arith, p.on, reach-le digits t next), reach_in digits t next p.inside)

    module _ (k : ℕ) (i : k ≡ known_kind Zeros (take (e.0 - at) (drop at t))) where
      pub number-known : (k ≡ kind.None → ⊥) → taken (bare k) e ≡ read_by (number pinned) t at
      unfolding number
      number-known n = go (lead_is (starts_number pinned) t at l)
        where
          go : Lead (starts_number pinned) t at → taken (bare k) e ≡ read_by (number pinned) t at
          go (led s next p q a b) =
              known_step t at s next p digits e (end_next s next p) Zeros l.readable.rest k i _ n ∙ sym (read_at t at s next p (number pinned))

      pub number_plain : k ≡ kind.None → taken (part_of kind.Numeric at e.0) e ≡ read_by (number pinned) t at
      unfolding number
      number_plain n = go (lead_is (starts_number pinned) t at l)
        where
          go : Lead (starts_number pinned) t at → taken (part_of kind.Numeric at e.0) e ≡ read_by (number pinned) t at
          go (led s next p q a b) =
              rw (end_next s next p) (sym (sliced-step t at s next p digits kind.Numeric))
              ∙ other_step t at s next p digits e (end_next s next p) Zeros l.readable.rest k i _ n ∙ sym (read_at t at s next p (number pinned))

-- ---- rule 11
pub unknown_read : (t : List ℕ) (at s next : ℕ) → Stepped t at s next → taken (part_of kind.Unknown s 0) (offset next) ≡ read_by (λ c cs. unknown c) t at
unknown_read t at s next p = sym (read_at t at s next p (λ c cs. unknown c) ∙ rw (first_at t at s next p))

pub none_read : (f : ℕ → List ℕ → Out) (t : List ℕ) (at : ℕ) → chars (drop at t) ≡ [] → None ≡ read_by f t at
unfolding read_by
none_read f t at e = rw e
