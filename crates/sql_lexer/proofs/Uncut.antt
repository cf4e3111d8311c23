-- A reading cuts no character, and what is left of it when it is sanitised does not: writing it is never refused with 6. For any ways to read.
-- lead_not        the first byte of an encoded character is no following byte
-- not-inside      so no offset between two characters falls inside one
-- reading_uncut   no token of a reading cuts a character
-- sanitised_uncut nor does one of a reading that was sanitised
-- uncut_fine      refusal 6 is not given
-- Assumes nothing.
use mathlib.Core.Path.{◌≡◌, refl, sym, ap, ◌∙◌}
use mathlib.Core.Bool.{Bool, true, false, not, and-false}
use mathlib.Core.Logic.{inl, inr, ⊎_elim}
use mathlib.Core.List.{List, [], ◌∷◌, ◌++◌}
use mathlib.Core.Option.{none}
use Prim.Native.Nat.{ℕ, zero, suc, ◌+◌, ◌/◌, ◌≤◌}
use native.Mathlib.Nat.{add-zero}
use native.Mathlib.Omega.{arith}
use lib.Dec.{eqb, leb, ltb}
use lib.ListN.{length, get_or, drop}
use lib.Seq.{drop-drop, get_or-drop}
use borrow.Author.Tests.{lt-leb, ltb-true, le-ltb}
use Rattle.chars.specs.Utf8.{chars, width, encode, encode_all, is_scalar, all_scalars, follows, first_bad}
use Rattle.chars.proofs.Bytes.{and_l, and_r}
use Rattle.chars.proofs.Whole.{whole}
use Rattle.chars.proofs.Rfc.{chars_scalars}
use Rattle.chars.proofs.Scalars.{clash}
use Rattle.tokens.specs.Kinds as kind
use Rattle.tokens.specs.Slots.{bare}
use Rattle.tokens.specs.Checks.{fine}
use Rattle.tokens.specs.Formed.{carries_offsets, first_place}
use Rattle.tokens.specs.declared.slot.Slot.{Slot}
use Rattle.scans.specs.Ways.{Ways}
use Rattle.scans.specs.Scans.{bytes}
use Rattle.lexer.specs.declared.rule.State.{State}
use Rattle.lexer.specs.declared.rule.State.TheVariants.{Default}
use Rattle.lexer.specs.Rules.{Carried, nothing, slice, scalar, Out, halt, took, state_after, read_one}
use Rattle.lexer.specs.Read.{slot_of, Reading, tokens, onward, go, reading}
use Rattle.lexer.proofs.Formed.{fits, Fits, one_fits, plain_not, unknown-not}
use Rattle.lexer.proofs.Pieces.{Stands, stands_on, drop-bytes}
use Rattle.sanitizer.specs.Run.{sanitized}
use Rattle.sanitizer.proofs.Keeping.{Put}
use Rattle.writer.specs.Written.{inside, cuts}
use Rattle.writer.specs.Promise.{check_cuts}
use Rattle.writer.proofs.Cutting.{cuts_kind}
use Rattle.sql_lexer.proofs.Same.{at, put_or_kept}

high_not : (b : ℕ) → 0xC0 ≤ b → follows b ≡ false
unfolding follows
high_not b h = rw (le-ltb b 0xC0 h) (and-false (leb 0x80 b))

lead_not : (c : ℕ) (rest : List ℕ) → follows (get_or (encode c ++ rest) 0 0) ≡ false
unfolding encode
lead_not c rest = go (ltb c 0x80) (ltb c 0x800) (ltb c 0x10000) refl refl refl
  where
    go : (p q r : Bool) → ltb c 0x80 ≡ p → ltb c 0x800 ≡ q → ltb c 0x10000 ≡ r → follows (get_or (encode c ++ rest) 0 0) ≡ false
    go true q r p1 p2 p3 = simp p1 (unfold follows in rw (lt-leb 0x80 c (ltb-true c 0x80 p1)))
    go false true r p1 p2 p3 = simp (p1, p2) (high_not (0xC0 + c / 64) (omega arith))
    go false false true p1 p2 p3 = simp (p1, p2, p3) (high_not (0xE0 + c / 4096) (omega arith))
    go false false false p1 p2 p3 = simp (p1, p2, p3) (high_not (0xF0 + c / 262144) (omega arith))

front-not : (cs : List ℕ) → follows (get_or (encode_all cs) 0 0) ≡ false
unfolding encode_all
front-not [] = unfold follows in refl
front-not (c ∷ cs) = lead_not c (encode_all cs)

not-inside : (t : List ℕ) (o : ℕ) (cs : List ℕ) → Stands t o cs → (m : ℕ) → inside t (o + bytes m cs) ≡ false
unfolding inside
not-inside t o cs v m =
    let here : drop (o + bytes m cs) t ≡ encode_all (drop m cs) = sym (drop-drop (bytes m cs) o t) ∙ ap (drop (bytes m cs)) v.are ∙ drop-bytes m cs in
    ap (λ (n : ℕ). follows (get_or t n 0)) (sym (add-zero (o + bytes m cs)))
    ∙ ap follows (sym (get_or-drop (o + bytes m cs) t 0 0) ∙ ap (λ (l : List ℕ). get_or l 0 0) here)
    ∙ front-not (drop m cs)

-- ---- a token
not_of : (b : Bool) → not b ≡ true → b ≡ false
not_of true e = clash (cc)
not_of false e = refl

never : (b : Bool) → (b ≡ true → ◌≡◌ {A = ℕ} 0 1) → b ≡ false
never true f = clash (f refl)
never false f = refl

neither : (t : List ℕ) (s : Slot) → inside t s.first ≡ false → inside t s.second ≡ false → cuts t s ≡ false
unfolding cuts
neither t s e f = rw (e, f) (simp and-false)

slot_uncut : (t : List ℕ) (o : ℕ) (cs : List ℕ) (k : ℕ) (x : Carried) → Stands t o cs → fits k x ≡ true → cuts t (slot_of o cs k x) ≡ false
slot_uncut t o cs k nothing v f = cuts_kind t (bare k) (not_of (carries_offsets k) (plain_not k f))
slot_uncut t o cs k (slice m n) v f = neither t (slot_of o cs k (slice m n)) (not-inside t o cs v m) (not-inside t o cs v n)
slot_uncut t o cs k (scalar c) v f = cuts_kind t (slot_of o cs k (scalar c)) (never (carries_offsets k) (unknown-not k c f))

-- ---- a reading
-- no token of a list cuts a character of the text
abbrev pub Uncut : List ℕ → List Slot → Type 0
Uncut t ts = (i : ℕ) → cuts t (at ts i) ≡ false

bare_uncut : (t : List ℕ) (k : ℕ) → carries_offsets k ≡ false → cuts t (bare k) ≡ false
bare_uncut t k e = cuts_kind t (bare k) e

none_uncut : (t : List ℕ) → Uncut t []
unfolding carries_offsets
none_uncut t i = bare_uncut t kind.None refl

more_uncut : (t : List ℕ) (s : Slot) (ss : List Slot) → cuts t s ≡ false → Uncut t ss → Uncut t (s ∷ ss)
more_uncut t s ss e h zero = e
more_uncut t s ss e h (suc i) = h i

onward_uncut : (t : List ℕ) (out : Out) (o : ℕ) (cs : List ℕ) (f : ℕ → ℕ → Reading) → Stands t o cs → Fits out
    → ((k n : ℕ) → Uncut t (tokens (f k n))) → Uncut t (tokens (onward out o cs f))
onward_uncut t halt o cs f v p h = none_uncut t
onward_uncut t (took k x n) o cs f v p h = more_uncut t (slot_of o cs k x) (tokens (f k n)) (slot_uncut t o cs k x v p) (h k n)

go_uncut : (w : Ways) (t : List ℕ) (cs : List ℕ) (skip o : ℕ) (b : Bool) (st : State) → Stands t o cs → all_scalars cs ≡ true → Uncut t (tokens (go w skip o b st cs))
unfolding go all_scalars
go_uncut w t [] skip o b st v e = none_uncut t
go_uncut w t (c ∷ cs) zero o b st v e =
    onward_uncut t (read_one w b st c cs) o (c ∷ cs) _ v (one_fits w b st c cs (and_l (is_scalar c) (all_scalars cs) e))
    (λ k n. go_uncut w t cs n (o + width c) (eqb c 42) (state_after k st) (stands_on t o c cs v) (and_r (is_scalar c) (all_scalars cs) e))
go_uncut w t (c ∷ cs) (suc skip) o b st v e = go_uncut w t cs skip (o + width c) (eqb c 42) st (stands_on t o c cs v) (and_r (is_scalar c) (all_scalars cs) e)

pub reading_uncut : (w : Ways) (t : List ℕ) → first_bad t ≡ none → Uncut t (tokens (reading w t))
unfolding reading
reading_uncut w t e = go_uncut w t (chars t) 0 0 false Default (record { inside = omega arith; are = sym (whole t e) }) (chars_scalars t)

-- ---- sanitised
put_uncut : (t : List ℕ) (k : ℕ) → Put k → cuts t (bare k) ≡ false
unfolding carries_offsets
put_uncut t k (inl e) = bare_uncut t k (rw e)
put_uncut t k (inr (inl e)) = bare_uncut t k (rw e)
put_uncut t k (inr (inr e)) = bare_uncut t k (rw e)

pub sanitised_uncut : (t : List ℕ) (ts : List Slot) → Uncut t ts → Uncut t (sanitized ts)
sanitised_uncut t ts h i =
    ⊎_elim (λ e. ap (cuts t) e ∙ h i) (λ z. ap (cuts t) z.2 ∙ put_uncut t z.0 z.1) (put_or_kept ts i)

uncut_place : (t : List ℕ) (ts : List Slot) → Uncut t ts → first_place (cuts t) ts ≡ length ts
unfolding first_place
uncut_place t [] h = refl
uncut_place t (s ∷ ss) h = rw (h 0) (ap suc (uncut_place t ss (λ i. h (suc i))))

pub uncut_fine : (t : List ℕ) (ts : List Slot) → Uncut t ts → check_cuts t ts ≡ fine
unfolding check_cuts
uncut_fine t ts h = rw (uncut_place t ts h, le-ltb (length ts) (length ts) (omega arith))
