-- The marks: which characters they are, what a table of them finds, and that a mark is read as the rules have it.
-- charted        a table whose entries, one after the other, have the kinds of a definition, finds them at each number
-- each_mark      a character is one of the twelve marks, or none
-- mark_high      nothing above ASCII is a mark
-- mark_small, mark_state   a mark's kind is a small number, after which the state is as it was
-- mark_rule, mark_read     the rules choose the mark, whatever follows it and whatever was read before, and read it
-- Assumes nothing.
use mathlib.Core.Path.{◌≡◌, refl, sym, ap, ◌∙◌}
use mathlib.Core.Bool.{Bool, true, false, ◌&&◌}
use mathlib.Core.List.{List, [], ◌∷◌}
use Rattle.std.specs.Prelude.{Option, None, Some}
use Prim.Native.Nat.{ℕ, zero, suc, ◌+◌, ◌≤◌, ◌<◌}
use Prim.Native.Char.{code}
use native.Mathlib.Decide.{dec_lt}
use native.Mathlib.Omega.{arith}
use native.Mathlib.Nat.{add-zero}
use lib.Dec.{eqb, leb}
use lib.ListN.{get_or, drop, length}
use borrow.Author.Tests.{ne_eqb, eqb-true, eqb-false, leb-true}
use Rattle.chars.proofs.Bytes.{and_l, and_r}
use Rattle.chars.specs.Utf8.{chars}
use Rattle.chars.specs.Steps.{offset}
use Rattle.tokens.specs.Kinds as kind
use Rattle.tokens.specs.Named as named
use Rattle.tokens.specs.Named.{Finds}
use Rattle.tokens.specs.declared.kind.Kind.{Kind}
use Rattle.tokens.specs.declared.kind.Kind.TheVariants as the
use Rattle.tokens.specs.Slots.{bare}
use Rattle.lexer.specs.declared.rule.State.{State}
use Rattle.lexer.specs.declared.rule.Rule.TheVariants.{Single}
use Rattle.scans.specs.Ways.{Ways}
use Rattle.scans.specs.Whole.{Readable}
use Rattle.lexer.specs.Rules.{nothing, took, rule_of, by_rule, read_one, state_after}
use Rattle.lexer.specs.Marks.{mark_of}
use Rattle.lexer.specs.Read.{step_of, read_by, Ascii, taken}
use Rattle.scans.proofs.Characters.{stepped_ascii}
use Rattle.lexer.proofs.Steps.{read_at, single_read}

-- ---- a table of kinds
-- whether an entry has the kind of a number: none, where that is None
abbrev has_kind : ℕ → Option Kind → Bool
has_kind n None = eqb n kind.None
has_kind n (Some k) = eqb (named.number k) n && leb 1 n

-- whether the entries have the kinds that f has from k on
abbrev pub charts : (ℕ → ℕ) → ℕ → List (Option Kind) → Bool
charts f k [] = true
charts f k (o ∷ os) = has_kind (f k) o && charts f (suc k) os

kind_found : (n : ℕ) (o : Option Kind) → has_kind n o ≡ true → Finds n o
kind_found n None e = eqb-true n kind.None e
kind_found n (Some k) e = (eqb-true (named.number k) n (and_l (eqb (named.number k) n) (leb 1 n) e), leb-true 1 n (and_r (eqb (named.number k) n) (leb 1 n) e))

found_from : (f : ℕ → ℕ) (k : ℕ) (table : List (Option Kind)) → charts f k table ≡ true → (j : ℕ) → j < length table → Finds (f (k + j)) (get_or table j None)
found_from f k [] e j h = absurd (omega arith)
found_from f k (o ∷ os) e zero h = rw (add-zero k) (kind_found (f k) o (and_l (has_kind (f k) o) (charts f (suc k) os) e))
found_from f k (o ∷ os) e (suc j) h =
    let shift : k + suc j ≡ suc k + j = omega arith in
    rw shift (found_from f (suc k) os (and_r (has_kind (f k) o) (charts f (suc k) os) e) j (omega arith))

pub charted : (f : ℕ → ℕ) (table : List (Option Kind)) → charts f 0 table ≡ true → (c : ℕ) → c < length table → Finds (f c) (get_or table c None)
charted f table e c h = let start : 0 + c ≡ c = omega arith in rw start at (found_from f 0 table e c h)

-- ---- which characters are marks
-- a number is this one, or it is not
step : (c k : ℕ) (P : ℕ → Type 0) → P k → ((c ≡ k → ⊥) → P c) → P c
step c k P p f = go (eqb c k) refl
  where
    go : (b : Bool) → eqb c k ≡ b → P c
    go true e = rw (eqb-true c k e) p
    go false e = f (eqb-false c k e)

-- none of the twelve is no mark
mark_none : (c : ℕ) → (c ≡ code " " → ⊥) → (c ≡ code "\n" → ⊥) → (c ≡ code "\r" → ⊥) → (c ≡ code "." → ⊥) → (c ≡ code "," → ⊥) → (c ≡ code "(" → ⊥) → (c ≡ code ")" → ⊥) → (c ≡ code "[" → ⊥) → (c ≡ code "]" → ⊥) → (c ≡ code ":" → ⊥) → (c ≡ code ";" → ⊥) → (c ≡ code "?" → ⊥) → mark_of c ≡ kind.None
unfolding mark_of
mark_none c n0 n1 n2 n3 n4 n5 n6 n7 n8 n9 n10 n11 =
    rw (ne_eqb c (code " ") n0, ne_eqb c (code "\n") n1, ne_eqb c (code "\r") n2, ne_eqb c (code ".") n3, ne_eqb c (code ",") n4, ne_eqb c (code "(") n5, ne_eqb c (code ")") n6, ne_eqb c (code "[") n7, ne_eqb c (code "]") n8, ne_eqb c (code ":") n9, ne_eqb c (code ";") n10, ne_eqb c (code "?") n11)

-- a character is one of the twelve, or no mark
each_mark : (c : ℕ) (P : ℕ → Type 0) → P (code " ") → P (code "\n") → P (code "\r") → P (code ".") → P (code ",") → P (code "(") → P (code ")") → P (code "[") → P (code "]") → P (code ":") → P (code ";") → P (code "?") → (mark_of c ≡ kind.None → P c) → P c
each_mark c P p0 p1 p2 p3 p4 p5 p6 p7 p8 p9 p10 p11 f =
    step c (code " ") P p0 (λ n0.
    (step c (code "\n") P p1 (λ n1.
    (step c (code "\r") P p2 (λ n2.
    (step c (code ".") P p3 (λ n3.
    (step c (code ",") P p4 (λ n4.
    (step c (code "(") P p5 (λ n5.
    (step c (code ")") P p6 (λ n6.
    (step c (code "[") P p7 (λ n7.
    (step c (code "]") P p8 (λ n8.
    (step c (code ":") P p9 (λ n9.
    (step c (code ";") P p10 (λ n10.
    (step c (code "?") P p11 (λ n11.
    f (mark_none c n0 n1 n2 n3 n4 n5 n6 n7 n8 n9 n10 n11))))))))))))))))))))))))

pub mark_high : (c : ℕ) → 0x80 ≤ c → mark_of c ≡ kind.None
mark_high c h = mark_none c (omega arith) (omega arith) (omega arith) (omega arith) (omega arith) (omega arith) (omega arith) (omega arith) (omega arith) (omega arith) (omega arith) (omega arith)

pub mark_small : (c : ℕ) → mark_of c ≤ kind.Placeholder
unfolding mark_of
mark_small c =
    each_mark c (λ d. mark_of d ≤ kind.Placeholder) (omega arith) (omega arith) (omega arith) (omega arith) (omega arith) (omega arith) (omega arith) (omega arith) (omega arith) (omega arith) (omega arith) (omega arith)
    (λ e. omega (arith, e))

pub mark_state : (c : ℕ) (state : State) → state_after (mark_of c) state ≡ state
mark_state c state = rw (ne_eqb (mark_of c) kind.Select (λ e. omega (arith, mark_small c)), ne_eqb (mark_of c) kind.From (λ e. omega (arith, mark_small c)))

pub mark_ascii : (t : List ℕ) (at : ℕ) → Readable t at → (mark_of (get_or t at 0) ≡ kind.None → ⊥) → Ascii t at
mark_ascii t at r n = go (dec_lt (get_or t at 0) 0x80)
  where
    go : Dec (get_or t at 0 < 0x80) → Ascii t at
    go (yes h) = record { readable = r; low = h }
    go (no h) = absurd (n (mark_high (get_or t at 0) (omega arith)))

-- ---- what the rules choose
module _ (w : Ways) (state : State) where
  pub mark_rule : (c : ℕ) (cs : List ℕ) → (mark_of c ≡ kind.None → ⊥) → (k : Kind) × (rule_of w state c cs ≡ Single k) × (named.number k ≡ mark_of c)
  unfolding mark_of rule_of
  mark_rule c cs h =
      each_mark c (λ d. (k : Kind) × (rule_of w state d cs ≡ Single k) × (named.number k ≡ mark_of d))
      (the.Space, refl, refl)
      (the.Newline, refl, refl)
      (the.Newline, refl, refl)
      (the.Dot, refl, refl)
      (the.Comma, refl, refl)
      (the.ParentheseOpen, refl, refl)
      (the.ParentheseClose, refl, refl)
      (the.SquareBracketOpen, refl, refl)
      (the.SquareBracketClose, refl, refl)
      (the.Colon, refl, refl)
      (the.Semicolon, refl, refl)
      (the.Placeholder, refl, refl)
      (λ e. absurd (h e))

  mark_out : (star : Bool) (c : ℕ) (cs : List ℕ) → (mark_of c ≡ kind.None → ⊥) → read_one w star state c cs ≡ took (mark_of c) nothing 0
  unfolding read_one by_rule
  mark_out star c cs n = let m = mark_rule c cs n in rw m.1 (ap (λ (k : ℕ). took k nothing 0) m.2)

  pub mark_read : (star : Bool) (t : List ℕ) (at : ℕ) → Readable t at → (mark_of (get_or t at 0) ≡ kind.None → ⊥)
      → taken (bare (mark_of (get_or t at 0))) (offset (at + 1)) ≡ read_by (read_one w star state) t at
  mark_read star t at r n =
      let a = mark_ascii t at r n in
      let c = get_or t at 0 in
      let k = mark_of c in
      let cs = chars (drop (at + 1) t) in
      let p = stepped_ascii t at a.readable.here a.low in
      single_read t at a k ∙ read_at t at c (at + 1) p (λ c cs. took k nothing 0) ∙ ap (step_of at (c ∷ cs)) (sym (mark_out star c cs n))
      ∙ sym (read_at t at c (at + 1) p (read_one w star state))
