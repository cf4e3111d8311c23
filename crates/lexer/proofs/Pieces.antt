-- A reading as pieces, each a kind and the characters that it carries: what is read, without the offsets. For any ways to read.
-- Piece, pieces     the pieces of characters
-- kinds_pieces      the kinds of a reading are those of its pieces, so they do not depend on offsets
-- Bounded, one_bounded   a slice lies within the characters of its token
-- drop-bytes        past the bytes of characters the characters after them are left
-- Spells, Each      a token spells a piece over a text; each of a list
-- Stands, stands_on a text from an offset on is certain characters; and so behind the first of them
-- reading_spells    each token of a reading spells its piece: the text that it carries is that of the piece
-- Assumes nothing.
use mathlib.Core.Path.{◌≡◌, refl, sym, ap, ◌∙◌}
use mathlib.Core.Bool.{Bool, true, false, cond, not}
use mathlib.Core.List.{List, [], ◌∷◌, ◌++◌, map}
use Prim.Native.Nat.{ℕ, zero, suc, ◌+◌, ◌-◌, ◌≤◌}
use native.Mathlib.Nat.{add_assoc, zero-add}
use native.Mathlib.Omega.{arith}
use lib.Dec.{eqb}
use lib.ListN.{length, take, drop, length-drop, length-append}
use lib.Seq.{drop-drop, drop-append-add, drop-append_seam, take-append-add}
use mathlib.Core.Option.{none}
use Rattle.chars.specs.Utf8.{chars, width, encode, encode_all, is_scalar, all_scalars, first_bad}
use Rattle.chars.proofs.Bytes.{and_l, and_r}
use Rattle.chars.proofs.Whole.{whole}
use Rattle.tokens.specs.Kinds as kind
use Rattle.tokens.specs.Formed.{carries_offsets}
use Rattle.tokens.specs.Slots.{kinds}
use Rattle.tokens.specs.Content.{content}
use Rattle.tokens.specs.declared.slot.Slot.{Slot}
use Rattle.tokens.proofs.Parts.{content-within}
use Rattle.scans.specs.declared.goes.Stop.TheVariants as stop
use Rattle.words.specs.declared.guess.Sort.TheVariants as sort
use Rattle.lexer.specs.declared.rule.State.{State}
use Rattle.lexer.specs.declared.rule.State.TheVariants.{Default}
use Rattle.lexer.specs.declared.rule.Rule.{Rule}
use Rattle.lexer.specs.declared.rule.Rule.TheVariants.{Quoted, Line, Block, Single, Numbered, Run, Charset, Word, Number, Unknown}
use Rattle.scans.specs.Ways.{Ways}
use Rattle.scans.specs.Scans.{bytes, span, in_run, goes_on}
use Rattle.words.specs.Known.{known_kind}
use Rattle.lexer.specs.Rules.{Carried, nothing, slice, scalar, Out, halt, took, sliced, known, state_after, rule_of, quoted, line, block, numbered, run, charset, word, number, by_rule, read_one}
use Rattle.lexer.specs.Read.{slot_of, Reading, tokens, onward, go, reading}
use Rattle.scans.proofs.Characters.{encode-length}
use Rattle.chars.proofs.Rfc.{chars_scalars}
use Rattle.chars.proofs.Scalars.{clash}
use Rattle.lexer.proofs.Formed.{fits, Fits, one_fits, plain_not, plain_known, unknown-not, carries_known}

pub record Piece : Type 0 where
  pub kind : ℕ
  pub text : List ℕ

abbrev pub piece : ℕ → List ℕ → Piece
piece k cs = record { kind = k; text = cs }

abbrev pub piece_of : List ℕ → ℕ → Carried → Piece
piece_of cs k nothing = piece k []
piece_of cs k (slice m n) = piece k (take (n - m) (drop m cs))
piece_of cs k (scalar c) = piece k (c ∷ [])

abbrev pub on_pieces : Out → List ℕ → (ℕ → ℕ → List Piece) → List Piece
on_pieces halt cs f = []
on_pieces (took k x n) cs f = piece_of cs k x ∷ f k n

-- the pieces of characters: as `go` reads them
unfoldable pub pieces : Ways → ℕ → Bool → State → List ℕ → List Piece
pieces w skip star st [] = []
pieces w zero star st (c ∷ cs) = on_pieces (read_one w star st c cs) (c ∷ cs) (λ k n. pieces w n (eqb c 42) (state_after k st) cs)
pieces w (suc skip) star st (c ∷ cs) = pieces w skip (eqb c 42) st cs

abbrev pub piece_kinds : List Piece → List ℕ
piece_kinds ps = map (λ (p : Piece). p.kind) ps

-- ---- kinds do not depend on offsets
kind_of_lem : (at : ℕ) (cs : List ℕ) (k : ℕ) (x : Carried) → (slot_of at cs k x).kind ≡ (piece_of cs k x).kind
kind_of_lem at cs k nothing = refl
kind_of_lem at cs k (slice m n) = refl
kind_of_lem at cs k (scalar c) = refl

onward-kinds : (o : Out) (at : ℕ) (cs : List ℕ) (f : ℕ → ℕ → Reading) (g : ℕ → ℕ → List Piece) → ((k n : ℕ) → kinds (tokens (f k n)) ≡ piece_kinds (g k n))
    → kinds (tokens (onward o at cs f)) ≡ piece_kinds (on_pieces o cs g)
onward-kinds halt at cs f g h = refl
onward-kinds (took k x n) at cs f g h = rw (kind_of_lem at cs k x, h k n)

pub kinds_pieces : (w : Ways) (cs : List ℕ) (skip at : ℕ) (b : Bool) (st : State) → kinds (tokens (go w skip at b st cs)) ≡ piece_kinds (pieces w skip b st cs)
unfolding go pieces
kinds_pieces w [] skip at b st = refl
kinds_pieces w (c ∷ cs) zero at b st =
    onward-kinds (read_one w b st c cs) at (c ∷ cs) _ _ (λ k n. kinds_pieces w cs n (at + width c) (eqb c 42) (state_after k st))
kinds_pieces w (c ∷ cs) (suc skip) at b st = kinds_pieces w cs skip (at + width c) (eqb c 42) st

-- ---- a slice lies within the characters of its token
abbrev pub Bounded : Out → Type 0
Bounded halt = Unit {0}
Bounded (took k nothing n) = Unit {0}
Bounded (took k (slice m e) n) = (m ≤ e) × (e ≤ suc n)
Bounded (took k (scalar c) n) = Unit {0}

known_bounded : (k n : ℕ) (other : Out) → Bounded other → Bounded (known k n other)
known_bounded k n other h = go (eqb k 0)
  where
    go : (b : Bool) → Bounded (cond b other (took k nothing n))
    go true = h
    go false = tt

whole_bounded : (k n : ℕ) → Bounded (took k (slice 0 (suc n)) n)
whole_bounded k n = (omega arith, omega arith)

rule_bounded : (r : Rule) (w : Ways) (star : Bool) (c : ℕ) (cs : List ℕ) → Bounded (by_rule r w star c cs)
unfolding by_rule quoted line block numbered run charset word number
rule_bounded (Quoted k) w star c cs = (omega arith, omega arith)
rule_bounded Line w star c cs = (omega arith, omega arith)
rule_bounded Block w star c cs = (omega arith, omega arith)
rule_bounded (Single k) w star c cs = tt
rule_bounded Numbered w star c cs = (omega arith, omega arith)
rule_bounded Run w star c cs = let n = span in_run cs in known_bounded (known_kind sort.Runs (take (suc n) (c ∷ cs))) n halt tt
rule_bounded Charset w star c cs = (omega arith, omega arith)
rule_bounded Word w star c cs =
    let n = span (goes_on w stop.Word) cs in known_bounded (known_kind sort.Words (take (suc n) (c ∷ cs))) n (sliced kind.Other n) (whole_bounded kind.Other n)
rule_bounded Number w star c cs =
    let n = span (goes_on w stop.Number) cs in known_bounded (known_kind sort.Zeros (take (suc n) (c ∷ cs))) n (sliced kind.Numeric n) (whole_bounded kind.Numeric n)
rule_bounded Unknown w star c cs = tt

pub one_bounded : (w : Ways) (star : Bool) (st : State) (c : ℕ) (cs : List ℕ) → Bounded (read_one w star st c cs)
unfolding read_one
one_bounded w star st c cs = rule_bounded (rule_of w st c cs) w star c cs

-- ---- characters and their bytes
take-bytes : (n : ℕ) (cs : List ℕ) → take (bytes n cs) (encode_all cs) ≡ encode_all (take n cs)
unfolding encode_all
take-bytes zero cs = refl
take-bytes (suc n) [] = refl
take-bytes (suc n) (c ∷ cs) = rw (← encode-length c) (take-append-add (encode c) (encode_all cs) (bytes n cs) ∙ ap (λ (l : List ℕ). encode c ++ l) (take-bytes n cs))

pub drop-bytes : (n : ℕ) (cs : List ℕ) → drop (bytes n cs) (encode_all cs) ≡ encode_all (drop n cs)
unfolding encode_all
drop-bytes zero cs = refl
drop-bytes (suc n) [] = refl
drop-bytes (suc n) (c ∷ cs) = rw (← encode-length c) (drop-append-add (encode c) (encode_all cs) (bytes n cs) ∙ drop-bytes n cs)

bytes_split : (m n : ℕ) (cs : List ℕ) → m ≤ n → bytes n cs ≡ bytes m cs + bytes (n - m) (drop m cs)
bytes_split zero n cs h = let e : n - 0 ≡ n = omega arith in rw (e, zero-add)
bytes_split (suc m) zero cs h = absurd (omega arith)
bytes_split (suc m) (suc n) [] h = none (suc n - suc m)
  where
    none : (k : ℕ) → 0 ≡ 0 + bytes k []
    none zero = refl
    none (suc k) = refl
bytes_split (suc m) (suc n) (c ∷ cs) h =
    let e : suc n - suc m ≡ n - m = omega arith in
    rw (e, bytes_split m n cs (omega arith), ← add_assoc)

bytes_long : (n : ℕ) (cs : List ℕ) → bytes n cs ≤ length (encode_all cs)
unfolding encode_all
bytes_long zero cs = omega arith
bytes_long (suc n) [] = omega arith
bytes_long (suc n) (c ∷ cs) = rw length-append (omega (arith, encode-length c, bytes_long n cs))

-- ---- a token spells a piece over the text t: one that carries offsets has its text there, an Unknown has its character
pub record Spells (t : List ℕ) (slot : Slot) (p : Piece) : Type 0 where
  pub same : slot.kind ≡ p.kind
  pub text : carries_offsets slot.kind ≡ true → content t slot.first slot.second ≡ encode_all p.text
  pub char : slot.kind ≡ kind.Unknown → slot.first ∷ [] ≡ p.text

abbrev pub Each : List ℕ → List Slot → List Piece → Type 0
Each t [] [] = Unit {0}
Each t [] (p ∷ ps) = ⊥
Each t (s ∷ ss) [] = ⊥
Each t (s ∷ ss) (p ∷ ps) = Spells t s p × Each t ss ps

-- the text t from the offset at on is the characters cs
pub record Stands (t : List ℕ) (at : ℕ) (cs : List ℕ) : Type 0 where
  pub inside : at ≤ length t
  pub are : drop at t ≡ encode_all cs

slice_text : (t : List ℕ) (at : ℕ) (cs : List ℕ) → Stands t at cs → (m n : ℕ) → m ≤ n → content t (at + bytes m cs) (at + bytes n cs) ≡ encode_all (take (n - m) (drop m cs))
slice_text t at cs v m n h =
    let e : bytes n cs ≡ bytes m cs + bytes (n - m) (drop m cs) = bytes_split m n cs h in
    let l : length t - at ≡ length (encode_all cs) = sym (length-drop at t) ∙ ap length v.are in
    let d : at + bytes n cs - (at + bytes m cs) ≡ bytes (n - m) (drop m cs) = omega arith in
    content-within t (at + bytes m cs) (at + bytes n cs) (omega arith) (omega (arith, bytes_long n cs, v.inside))
    ∙ rw (d, ← drop-drop, v.are, drop-bytes m cs) (take-bytes (n - m) (drop m cs))

slot_spells : (t : List ℕ) (at : ℕ) (cs : List ℕ) (k : ℕ) (x : Carried) (n : ℕ) → Stands t at cs → fits k x ≡ true → Bounded (took k x n) → Spells t (slot_of at cs k x) (piece_of cs k x)
slot_spells t at cs k nothing n v f b = record {
  same = refl;
  text = λ e. clash (let z : not true ≡ true = rw e at (plain_not k f) in cc);
  char = λ e. absurd (plain_known k f e);
}
slot_spells t at cs k (slice m e) n v f b = record {
  same = refl;
  text = λ _. slice_text t at cs v m e b.0;
  char = λ z. clash (carries_known k f z);
}
slot_spells t at cs k (scalar c) n v f b = record {
  same = refl;
  text = λ e. clash (unknown-not k c f e);
  char = λ _. refl;
}

onward_spells : (t : List ℕ) (o : Out) (at : ℕ) (cs : List ℕ) (f : ℕ → ℕ → Reading) (g : ℕ → ℕ → List Piece) → Stands t at cs → Fits o → Bounded o
    → ((k n : ℕ) → Each t (tokens (f k n)) (g k n)) → Each t (tokens (onward o at cs f)) (on_pieces o cs g)
onward_spells t halt at cs f g v p b h = tt
onward_spells t (took k x n) at cs f g v p b h = (slot_spells t at cs k x n v p b, h k n)

pub stands_on : (t : List ℕ) (at c : ℕ) (cs : List ℕ) → Stands t at (c ∷ cs) → Stands t (at + width c) cs
unfolding encode_all
stands_on t at c cs v =
    let l : length t - at ≡ length (encode c ++ encode_all cs) = sym (length-drop at t) ∙ ap length v.are in
    record {
      inside = omega (arith, v.inside, length-append (encode c) (encode_all cs), encode-length c);
      are = sym (drop-drop (width c) at t) ∙ rw (v.are, ← encode-length c) (drop-append_seam (encode c) (encode_all cs));
    }

go_spells : (w : Ways) (t : List ℕ) (cs : List ℕ) (skip at : ℕ) (b : Bool) (st : State) → Stands t at cs → all_scalars cs ≡ true
    → Each t (tokens (go w skip at b st cs)) (pieces w skip b st cs)
unfolding go pieces all_scalars
go_spells w t [] skip at b st v e = tt
go_spells w t (c ∷ cs) zero at b st v e =
    onward_spells t (read_one w b st c cs) at (c ∷ cs) _ _ v (one_fits w b st c cs (and_l (is_scalar c) (all_scalars cs) e)) (one_bounded w b st c cs)
    (λ k n. go_spells w t cs n (at + width c) (eqb c 42) (state_after k st) (stands_on t at c cs v) (and_r (is_scalar c) (all_scalars cs) e))
go_spells w t (c ∷ cs) (suc skip) at b st v e = go_spells w t cs skip (at + width c) (eqb c 42) st (stands_on t at c cs v) (and_r (is_scalar c) (all_scalars cs) e)

-- the tokens of a valid text spell the pieces of its characters
pub reading_spells : (w : Ways) (t : List ℕ) → first_bad t ≡ none → Each t (tokens (reading w t)) (pieces w 0 false Default (chars t))
unfolding reading
reading_spells w t e = go_spells w t (chars t) 0 0 false Default (record { inside = omega arith; are = sym (whole t e) }) (chars_scalars t)
