-- Every token that is read is well formed, for any ways to read.
-- plain_not, _known, unknown-not, carries_known   a kind that carries nothing, and Unknown, carry no offsets
-- fits, Fits, one_fits   what a rule reads carries what its kind may carry
-- all_formed          each token of a reading is well formed, so the first malformed place is the length
-- Assumes nothing.
use mathlib.Core.Path.{◌≡◌, refl}
use mathlib.Core.Bool.{Bool, true, false, cond, not, ◌&&◌, ◌||◌}
use mathlib.Core.List.{List, [], ◌∷◌}
use Prim.Native.Nat.{ℕ, zero, suc, ◌+◌, ◌<◌}
use native.Mathlib.Omega.{arith}
use lib.Dec.{eqb, ltb}
use lib.ListN.{length}
use borrow.Author.Tests.{eqb-true, ne_eqb, ltb-true, not-true, lt-ltb}
use Rattle.chars.specs.Utf8.{chars, width, is_scalar, all_scalars}
use Rattle.chars.proofs.Bytes.{and_l, and_r}
use Rattle.chars.proofs.Rfc.{chars_scalars}
use Rattle.tokens.specs.Kinds as kind
use Rattle.tokens.specs.Named as named
use Rattle.tokens.specs.Texts.{Row}
use Rattle.tokens.specs.Formed.{carries_offsets, well_formed, malformed, first_place}
use Rattle.tokens.specs.declared.slot.Slot.{Slot}
use Rattle.words.specs.declared.guess.Sort.{Sort}
use Rattle.words.specs.declared.guess.Sort.TheVariants.{Words, Runs, Zeros}
use Rattle.lexer.specs.declared.rule.State.{State}
use Rattle.lexer.specs.declared.rule.State.TheVariants.{Default, PastSelect, PastFrom}
use Rattle.lexer.specs.declared.rule.Rule.{Rule}
use Rattle.lexer.specs.declared.rule.Rule.TheVariants.{Quoted, Line, Block, Single, Numbered, Run, Charset, Word, Number, Unknown}
use Rattle.scans.specs.Ways.{Ways}
use Rattle.words.specs.Known.{equal, find, words, runs, zeros, rows_of, known_kind}
use Rattle.lexer.specs.Rules.{Carried, nothing, slice, scalar, Out, halt, took, known, head_is, star_kind, state_after, rule_of, quoted, line, block, numbered, run, charset, word, number, by_rule, read_one}
use Rattle.lexer.specs.Read.{slot_of, Reading, tokens, onward, go, reading}

-- a kind that carries nothing
unfoldable pub plain : ℕ → Bool
plain k = ltb k kind.Unknown && not (carries_offsets k)

abbrev pub fits : ℕ → Carried → Bool
fits k nothing = plain k
fits k (slice m n) = carries_offsets k
fits k (scalar c) = eqb k kind.Unknown && is_scalar c

pub plain_not : (k : ℕ) → plain k ≡ true → not (carries_offsets k) ≡ true
unfolding plain
plain_not k e = and_r (ltb k kind.Unknown) (not (carries_offsets k)) e

pub plain_known : (k : ℕ) → plain k ≡ true → k ≡ kind.Unknown → ⊥
unfolding plain
plain_known k e z = omega (arith, ltb-true k kind.Unknown (and_l (ltb k kind.Unknown) (not (carries_offsets k)) e))

pub unknown-not : (k c : ℕ) → fits k (scalar c) ≡ true → carries_offsets k ≡ true → ◌≡◌ {A = ℕ} 0 1
unfolding carries_offsets
unknown-not k c f e =
    let z : k ≡ kind.Unknown = eqb-true k kind.Unknown (and_l (eqb k kind.Unknown) (is_scalar c) f) in
    let y : false ≡ true = rw z at e in
    cc

pub carries_known : (k : ℕ) → carries_offsets k ≡ true → k ≡ kind.Unknown → ◌≡◌ {A = ℕ} 0 1
unfolding carries_offsets
carries_known k e z = let y : false ≡ true = rw z at e in cc

formed : (at : ℕ) (cs : List ℕ) (k : ℕ) (x : Carried) → fits k x ≡ true → well_formed (slot_of at cs k x) ≡ true
unfolding well_formed plain
formed at cs k nothing e =
    let h : k < kind.Unknown = ltb-true k kind.Unknown (and_l (ltb k kind.Unknown) (not (carries_offsets k)) e) in
    let n : carries_offsets k ≡ false = not-true (carries_offsets k) (and_r (ltb k kind.Unknown) (not (carries_offsets k)) e) in
    simp (n, ne_eqb k kind.Unknown (λ z. omega arith), lt-ltb k kind.Unknown h)
formed at cs k (slice m n) e = simp e
formed at cs k (scalar c) e =
    let z : k ≡ kind.Unknown = eqb-true k kind.Unknown (and_l (eqb k kind.Unknown) (is_scalar c) e) in
    let s : is_scalar c ≡ true = and_r (eqb k kind.Unknown) (is_scalar c) e in
    rw (z, s) (unfold carries_offsets in refl)

-- ---- what a rule reads
abbrev pub Fits : Out → Type 0
Fits halt = Unit {0}
Fits (took k x n) = fits k x ≡ true

fits_cond : (b : Bool) (x y : Out) → Fits x → Fits y → Fits (cond b x y)
fits_cond true x y p q = p
fits_cond false x y p q = q

abbrev plain_rows : List Row → Bool
plain_rows [] = true
plain_rows (r ∷ rs) = plain r.kind && plain_rows rs

find_plain : (rs : List Row) (w : List ℕ) → plain_rows rs ≡ true → plain (find rs w) ≡ true
find_plain [] w e = unfold plain carries_offsets in refl
find_plain (r ∷ rs) w e = go (equal w r.text) (find_plain rs w (and_r (plain r.kind) (plain_rows rs) e))
  where
    go : (b : Bool) → plain (find rs w) ≡ true → plain (cond b r.kind (find rs w)) ≡ true
    go true ih = and_l (plain r.kind) (plain_rows rs) e
    go false ih = ih

known_plain : (sort : Sort) (w : List ℕ) → plain (known_kind sort w) ≡ true
unfolding known_kind rows_of
known_plain Words w = find_plain words _ (unfold words plain carries_offsets in refl)
known_plain Runs w = find_plain runs _ (unfold runs plain carries_offsets in refl)
known_plain Zeros w = find_plain zeros _ (unfold zeros plain carries_offsets in refl)

known_fits : (k n : ℕ) (other : Out) → plain k ≡ true → Fits other → Fits (known k n other)
known_fits k n other p q = fits_cond (eqb k kind.None) other (took k nothing n) q p

-- the kinds that a rule knows
abbrev kind_of : Rule → Bool
kind_of (Quoted k) = carries_offsets (named.number k)
kind_of Line = true
kind_of Block = true
kind_of (Single k) = plain (named.number k)
kind_of Numbered = true
kind_of Run = true
kind_of Charset = true
kind_of Word = true
kind_of Number = true
kind_of Unknown = true

star_plain : (st : State) → plain (named.number (star_kind st)) ≡ true
unfolding plain carries_offsets
star_plain Default = refl
star_plain PastSelect = refl
star_plain PastFrom = refl

kind_cond : (b : Bool) (x y : Rule) → kind_of x ≡ true → kind_of y ≡ true → kind_of (cond b x y) ≡ true
kind_cond true x y p q = p
kind_cond false x y p q = q

kind_fits : (w : Ways) (st : State) (c : ℕ) (cs : List ℕ) → kind_of (rule_of w st c cs) ≡ true
unfolding rule_of plain carries_offsets
kind_fits w st c cs =
    kind_cond (eqb c 96) _ _ refl
    (kind_cond (eqb c 39) _ _ refl
    (kind_cond (eqb c 34) _ _ refl
    (kind_cond (eqb c 35 && not (head_is (λ d. eqb d 62) cs)) _ _ refl
    (kind_cond (eqb c 45 && head_is (λ d. eqb d 45) cs) _ _ refl
    (kind_cond (eqb c 47 && head_is (λ d. eqb d 42) cs) _ _ refl
    (kind_cond (eqb c 32) _ _ refl
    (kind_cond (eqb c 10) _ _ refl
    (kind_cond (eqb c 13) _ _ refl
    (kind_cond (eqb c 46) _ _ refl
    (kind_cond (eqb c 44) _ _ refl
    (kind_cond (eqb c 40) _ _ refl
    (kind_cond (eqb c 41) _ _ refl
    (kind_cond (eqb c 91) _ _ refl
    (kind_cond (eqb c 93) _ _ refl
    (kind_cond (eqb c 58) _ _ refl
    (kind_cond (eqb c 59) _ _ refl
    (kind_cond (eqb c 63) _ _ refl
    (kind_cond (eqb c 36) _ _ refl
    (kind_cond (eqb c 42) _ _ (star_plain st)
    (kind_cond (eqb c 47) _ _ refl
    (kind_cond (eqb c 37) _ _ refl
    (kind_cond (eqb c 43) _ _ refl
    (kind_cond (eqb c 45 && not (head_is w.numeric cs)) _ _ refl
    (kind_cond (eqb c 61) _ _ refl
    (kind_cond (eqb c 33) _ _ refl
    (kind_cond (eqb c 62) _ _ refl
    (kind_cond (eqb c 60) _ _ refl
    (kind_cond (eqb c 38) _ _ refl
    (kind_cond (eqb c 124) _ _ refl
    (kind_cond (eqb c 35) _ _ refl
    (kind_cond (eqb c 95) _ _ refl
    (kind_cond (w.alphabetic c) _ _ refl (kind_cond (eqb c 45 || w.numeric c) _ _ refl refl)))))))))))))))))))))))))))))))))

rule_fits : (r : Rule) → kind_of r ≡ true → (w : Ways) (star : Bool) (c : ℕ) (cs : List ℕ) → is_scalar c ≡ true → Fits (by_rule r w star c cs)
unfolding by_rule quoted line block numbered run charset word number
rule_fits (Quoted k) e w star c cs s = e
rule_fits Line e w star c cs s = unfold carries_offsets in refl
rule_fits Block e w star c cs s = unfold carries_offsets in refl
rule_fits (Single k) e w star c cs s = e
rule_fits Numbered e w star c cs s = unfold carries_offsets in refl
rule_fits Run e w star c cs s = known_fits _ _ halt (known_plain Runs _) tt
rule_fits Charset e w star c cs s = unfold carries_offsets in refl
rule_fits Word e w star c cs s = known_fits _ _ _ (known_plain Words _) (unfold carries_offsets in refl)
rule_fits Number e w star c cs s = known_fits _ _ _ (known_plain Zeros _) (unfold carries_offsets in refl)
rule_fits Unknown e w star c cs s = s

pub one_fits : (w : Ways) (star : Bool) (st : State) (c : ℕ) (cs : List ℕ) → is_scalar c ≡ true → Fits (read_one w star st c cs)
unfolding read_one
one_fits w star st c cs s = rule_fits (rule_of w st c cs) (kind_fits w st c cs) w star c cs s

-- ---- a whole reading
malformed_none : (t : Slot) (ts : List Slot) → well_formed t ≡ true → first_place malformed ts ≡ length ts → first_place malformed (t ∷ ts) ≡ suc (length ts)
unfolding first_place
malformed_none t ts e f = rw (e, f)

onward_formed : (o : Out) (at : ℕ) (cs : List ℕ) (f : ℕ → ℕ → Reading) → Fits o
    → ((k n : ℕ) → first_place malformed (tokens (f k n)) ≡ length (tokens (f k n))) → first_place malformed (tokens (onward o at cs f)) ≡ length (tokens (onward o at cs f))
onward_formed halt at cs f p h = unfold first_place in refl
onward_formed (took k x n) at cs f p h = malformed_none (slot_of at cs k x) (tokens (f k n)) (formed at cs k x p) (h k n)

go_formed : (w : Ways) (cs : List ℕ) (k at : ℕ) (b : Bool) (st : State) → all_scalars cs ≡ true → first_place malformed (tokens (go w k at b st cs)) ≡ length (tokens (go w k at b st cs))
unfolding go all_scalars
go_formed w [] k at b st e = unfold first_place in refl
go_formed w (c ∷ cs) zero at b st e =
    onward_formed (read_one w b st c cs) at (c ∷ cs) (λ k n. go w n (at + width c) (eqb c 42) (state_after k st) cs) (one_fits w b st c cs (and_l (is_scalar c) (all_scalars cs) e))
    (λ k n. go_formed w cs n (at + width c) (eqb c 42) (state_after k st) (and_r (is_scalar c) (all_scalars cs) e))
go_formed w (c ∷ cs) (suc k) at b st e = go_formed w cs k (at + width c) (eqb c 42) st (and_r (is_scalar c) (all_scalars cs) e)

pub all_formed : (w : Ways) (t : List ℕ) → first_place malformed (tokens (reading w t)) ≡ length (tokens (reading w t))
unfolding reading
all_formed w t = go_formed w (chars t) 0 0 false Default (chars_scalars t)
