-- Which rule reads: the definition's choice by facts of numbers, and what the choice tells of the character.
-- rule_late      a character that no rule up to 8 takes
-- rule_digit, _capital, _small, _wide   such characters
-- rule_hash, _dash, _slash   where look-ahead decides
-- Tells, rule_tells   a rule up to 8 has an ASCII character, a word an alphabetic, a number a numeric or `-`
-- stands_is      the look-ahead by a byte is the look-ahead by a character
-- Assumes nothing.
use mathlib.Core.Path.{◌≡◌, refl, sym, ◌∙◌}
use mathlib.Core.Bool.{Bool, true, false, cond, not, ◌&&◌, ◌||◌}
use mathlib.Core.List.{List}
use Prim.Native.Nat.{ℕ, ◌≤◌, ◌<◌}
use native.Mathlib.Decide.{dec_lt}
use native.Mathlib.Omega.{arith}
use lib.Dec.{eqb}
use lib.ListN.{length, get_or, drop}
use borrow.Author.Tests.{ne_eqb, eqb-true}
use Rattle.chars.specs.Utf8.{chars}
use Rattle.chars.specs.Class.{numeric}
use Rattle.chars.proofs.Bytes.{and_l}
use Rattle.tokens.specs.declared.kind.Kind.TheVariants as the
use Rattle.lexer.specs.declared.rule.State.{State}
use Rattle.lexer.specs.declared.rule.Rule.{Rule}
use Rattle.lexer.specs.declared.rule.Rule.TheVariants.{Quoted, Line, Block, Single, Numbered, Run, Charset, Word, Number, Unknown}
use Rattle.scans.specs.Ways.{Ways, pinned}
use Rattle.lexer.specs.Rules.{head_is, others, rule_of, at_hash, at_dash, at_slash}
use Rattle.scans.specs.Whole.{Whole}
use Rattle.scans.proofs.Characters.{Here, stands, readable_here, lead_low, lead_high}
use Rattle.scans.proofs.Reaching.{chars_end}
use Rattle.scans.proofs.Classes.{numeric_in, numeric_out, capital_in, small_in, alphabetic_out}

module _ (w : Ways) (state : State) (c : ℕ) (cs : List ℕ) where
  pub rule_late : (c ≡ 96 → ⊥)
      → (c ≡ 39 → ⊥)
      → (c ≡ 34 → ⊥)
      → (c ≡ 35 → ⊥)
      → (c ≡ 45 → ⊥)
      → (c ≡ 47 → ⊥)
      → (c ≡ 32 → ⊥)
      → (c ≡ 10 → ⊥)
      → (c ≡ 13 → ⊥)
      → (c ≡ 46 → ⊥)
      → (c ≡ 44 → ⊥)
      → (c ≡ 40 → ⊥)
      → (c ≡ 41 → ⊥)
      → (c ≡ 91 → ⊥)
      → (c ≡ 93 → ⊥)
      → (c ≡ 58 → ⊥)
      → (c ≡ 59 → ⊥)
      → (c ≡ 63 → ⊥)
      → (c ≡ 36 → ⊥)
      → (c ≡ 42 → ⊥)
      → (c ≡ 37 → ⊥)
      → (c ≡ 43 → ⊥)
      → (c ≡ 61 → ⊥)
      → (c ≡ 33 → ⊥)
      → (c ≡ 62 → ⊥)
      → (c ≡ 60 → ⊥)
      → (c ≡ 38 → ⊥)
      → (c ≡ 124 → ⊥)
      → (c ≡ 95 → ⊥)
      → rule_of w state c cs ≡ others w c
  unfolding rule_of
  rule_late n0 n1 n2 n3 n4 n5 n6 n7 n8 n9 n10 n11 n12 n13 n14 n15 n16 n17 n18 n19 n20 n21 n22 n23 n24 n25 n26 n27 n28 =
      rw (ne_eqb c 96 n0, ne_eqb c 39 n1, ne_eqb c 34 n2, ne_eqb c 35 n3, ne_eqb c 45 n4, ne_eqb c 47 n5, ne_eqb c 32 n6, ne_eqb c 10 n7, ne_eqb c 13 n8, ne_eqb c 46 n9, ne_eqb c 44 n10, ne_eqb c 40 n11, ne_eqb c 41 n12, ne_eqb c 91 n13, ne_eqb c 93 n14, ne_eqb c 58 n15, ne_eqb c 59 n16, ne_eqb c 63 n17, ne_eqb c 36 n18, ne_eqb c 42 n19, ne_eqb c 37 n20, ne_eqb c 43 n21, ne_eqb c 61 n22, ne_eqb c 33 n23, ne_eqb c 62 n24, ne_eqb c 60 n25, ne_eqb c 38 n26, ne_eqb c 124 n27, ne_eqb c 95 n28)

  pub rule_wide : 0x80 ≤ c → rule_of w state c cs ≡ others w c
  rule_wide h = rule_late (omega arith) (omega arith) (omega arith) (omega arith) (omega arith) (omega arith) (omega arith) (omega arith) (omega arith) (omega arith) (omega arith) (omega arith) (omega arith) (omega arith) (omega arith) (omega arith) (omega arith) (omega arith) (omega arith) (omega arith) (omega arith) (omega arith) (omega arith) (omega arith) (omega arith) (omega arith) (omega arith) (omega arith) (omega arith)

  pub rule_capital : 0x41 ≤ c → c ≤ 0x5A → rule_of w state c cs ≡ others w c
  rule_capital h k = rule_late (omega arith) (omega arith) (omega arith) (omega arith) (omega arith) (omega arith) (omega arith) (omega arith) (omega arith) (omega arith) (omega arith) (omega arith) (omega arith) (omega arith) (omega arith) (omega arith) (omega arith) (omega arith) (omega arith) (omega arith) (omega arith) (omega arith) (omega arith) (omega arith) (omega arith) (omega arith) (omega arith) (omega arith) (omega arith)

  pub rule_small : 0x61 ≤ c → c ≤ 0x7A → rule_of w state c cs ≡ others w c
  rule_small h k = rule_late (omega arith) (omega arith) (omega arith) (omega arith) (omega arith) (omega arith) (omega arith) (omega arith) (omega arith) (omega arith) (omega arith) (omega arith) (omega arith) (omega arith) (omega arith) (omega arith) (omega arith) (omega arith) (omega arith) (omega arith) (omega arith) (omega arith) (omega arith) (omega arith) (omega arith) (omega arith) (omega arith) (omega arith) (omega arith)

  pub rule_digit : 0x30 ≤ c → c ≤ 0x39 → rule_of w state c cs ≡ others w c
  rule_digit h k = rule_late (omega arith) (omega arith) (omega arith) (omega arith) (omega arith) (omega arith) (omega arith) (omega arith) (omega arith) (omega arith) (omega arith) (omega arith) (omega arith) (omega arith) (omega arith) (omega arith) (omega arith) (omega arith) (omega arith) (omega arith) (omega arith) (omega arith) (omega arith) (omega arith) (omega arith) (omega arith) (omega arith) (omega arith) (omega arith)

  -- ---- what the choice tells
  abbrev pub Tells : Rule → Type 0
  Tells (Quoted k) = c < 0x80
  Tells Line = c < 0x80
  Tells Block = c < 0x80
  Tells (Single k) = c < 0x80
  Tells Numbered = c < 0x80
  Tells Run = c < 0x80
  Tells Charset = c < 0x80
  Tells Word = w.alphabetic c ≡ true
  Tells Number = (eqb c 45 || w.numeric c) ≡ true
  Tells Unknown = Unit {0}

  tells_cond : (b : Bool) (x y : Rule) → (b ≡ true → Tells x) → Tells y → Tells (cond b x y)
  tells_cond true x y f t = f refl
  tells_cond false x y f t = t

  low : (k : ℕ) → k < 0x80 → eqb c k ≡ true → c < 0x80
  low k h e = omega (arith, eqb-true c k e)

  pub rule_tells : Tells (rule_of w state c cs)
  unfolding rule_of
  rule_tells =
      tells_cond (eqb c 96) _ _ (low 96 (omega arith))
      (tells_cond (eqb c 39) _ _ (low 39 (omega arith))
      (tells_cond (eqb c 34) _ _ (low 34 (omega arith))
      (tells_cond (eqb c 35 && not (head_is (λ d. eqb d 62) cs)) _ _ (λ e. low 35 (omega arith) (and_l (eqb c 35) (not (head_is (λ d. eqb d 62) cs)) e))
      (tells_cond (eqb c 45 && head_is (λ d. eqb d 45) cs) _ _ (λ e. low 45 (omega arith) (and_l (eqb c 45) (head_is (λ d. eqb d 45) cs) e))
      (tells_cond (eqb c 47 && head_is (λ d. eqb d 42) cs) _ _ (λ e. low 47 (omega arith) (and_l (eqb c 47) (head_is (λ d. eqb d 42) cs) e))
      (tells_cond (eqb c 32) _ _ (low 32 (omega arith))
      (tells_cond (eqb c 10) _ _ (low 10 (omega arith))
      (tells_cond (eqb c 13) _ _ (low 13 (omega arith))
      (tells_cond (eqb c 46) _ _ (low 46 (omega arith))
      (tells_cond (eqb c 44) _ _ (low 44 (omega arith))
      (tells_cond (eqb c 40) _ _ (low 40 (omega arith))
      (tells_cond (eqb c 41) _ _ (low 41 (omega arith))
      (tells_cond (eqb c 91) _ _ (low 91 (omega arith))
      (tells_cond (eqb c 93) _ _ (low 93 (omega arith))
      (tells_cond (eqb c 58) _ _ (low 58 (omega arith))
      (tells_cond (eqb c 59) _ _ (low 59 (omega arith))
      (tells_cond (eqb c 63) _ _ (low 63 (omega arith))
      (tells_cond (eqb c 36) _ _ (low 36 (omega arith))
      (tells_cond (eqb c 42) _ _ (low 42 (omega arith))
      (tells_cond (eqb c 47) _ _ (low 47 (omega arith))
      (tells_cond (eqb c 37) _ _ (low 37 (omega arith))
      (tells_cond (eqb c 43) _ _ (low 43 (omega arith))
      (tells_cond (eqb c 45 && not (head_is w.numeric cs)) _ _ (λ e. low 45 (omega arith) (and_l (eqb c 45) (not (head_is w.numeric cs)) e))
      (tells_cond (eqb c 61) _ _ (low 61 (omega arith))
      (tells_cond (eqb c 33) _ _ (low 33 (omega arith))
      (tells_cond (eqb c 62) _ _ (low 62 (omega arith))
      (tells_cond (eqb c 60) _ _ (low 60 (omega arith))
      (tells_cond (eqb c 38) _ _ (low 38 (omega arith))
      (tells_cond (eqb c 124) _ _ (low 124 (omega arith))
      (tells_cond (eqb c 35) _ _ (low 35 (omega arith))
      (tells_cond (eqb c 95) _ _ (low 95 (omega arith))
      (tells_cond (w.alphabetic c) _ _ (λ e. e) (tells_cond (eqb c 45 || w.numeric c) _ _ (λ e. e) tt)))))))))))))))))))))))))))))))))

-- the characters that no rule up to 8 takes, by class
module _ (state : State) (c : ℕ) (cs : List ℕ) where
  others-word : pinned.alphabetic c ≡ true → others pinned c ≡ Word
  others-word e = rw e

  others-number : pinned.alphabetic c ≡ false → pinned.numeric c ≡ true → (c ≡ 45 → ⊥) → others pinned c ≡ Number
  others-number e f n = rw (e, ne_eqb c 45 n, f)

  pub word_capital : 0x41 ≤ c → c ≤ 0x5A → Word ≡ rule_of pinned state c cs
  word_capital l h = sym (rule_capital pinned state c cs l h ∙ others-word (capital_in c l h))

  pub word_small : 0x61 ≤ c → c ≤ 0x7A → Word ≡ rule_of pinned state c cs
  word_small l h = sym (rule_small pinned state c cs l h ∙ others-word (small_in c l h))

  pub number_digit : 0x30 ≤ c → c ≤ 0x39 → Number ≡ rule_of pinned state c cs
  number_digit l h =
      sym (rule_digit pinned state c cs l h ∙ others-number (alphabetic_out c (omega arith) (λ p q. omega arith) (λ p q. omega arith)) (numeric_in c l h) (λ e. omega arith))

  pub unknown-ascii : c < 0x80 → (0x30 ≤ c → c ≤ 0x39 → ⊥) → (0x41 ≤ c → c ≤ 0x5A → ⊥) → (0x61 ≤ c → c ≤ 0x7A → ⊥) → (c ≡ 45 → ⊥)
      → rule_of pinned state c cs ≡ others pinned c → Unknown ≡ rule_of pinned state c cs
  unknown-ascii h d a b n e = sym (e ∙ rw (alphabetic_out c h a b, ne_eqb c 45 n, numeric_out c h d))

-- where look-ahead decides
module _ (state : State) (cs : List ℕ) where
  pub rule_hash : at_hash cs ≡ rule_of pinned state 35 cs
  unfolding rule_of
  rule_hash = go (head_is (λ d. eqb d 62) cs)
    where
      go : (b : Bool) → cond b Run Line ≡ cond (not b) Line Run
      go true = refl
      go false = refl

  pub rule_dash : at_dash pinned cs ≡ rule_of pinned state 45 cs
  unfolding rule_of
  rule_dash = rw (alphabetic_out 45 (omega arith) (λ p q. omega arith) (λ p q. omega arith)) (go (head_is (λ d. eqb d 45) cs) (head_is numeric cs))
    where
      go : (a b : Bool) → cond a Line (cond b Number (Single the.Minus)) ≡ cond a Line (cond (not b) (Single the.Minus) Number)
      go true b = refl
      go false true = refl
      go false false = refl

  pub rule_slash : at_slash cs ≡ rule_of pinned state 47 cs
  unfolding rule_of
  rule_slash = refl

-- ---- look-ahead
pub stands_is : (t : List ℕ) (at b : ℕ) → Whole t at → b < 0x80 → at < length t → eqb (get_or t at 0) b ≡ head_is (λ d. eqb d b) (chars (drop at t))
stands_is t at b w l h = from (readable_here t at (record { here = h; rest = w })) (dec_lt (get_or t at 0) 0x80)
  where
    from : Here t at → Dec (get_or t at 0 < 0x80) → eqb (get_or t at 0) b ≡ head_is (λ d. eqb d b) (chars (drop at t))
    from (stands s next p e v) (yes k) = rw (p.reads, lead_low t at s next e k)
    from (stands s next p e v) (no k) =
        let i : 0x80 ≤ get_or t at 0 = omega arith in
        rw (p.reads, ne_eqb (get_or t at 0) b (λ q. omega arith), ne_eqb s b (λ q. omega (arith, lead_high t at s next e i)))

pub stands_end : (t : List ℕ) (at : ℕ) (p : ℕ → Bool) → length t ≤ at → head_is p (chars (drop at t)) ≡ false
stands_end t at p h = rw (chars_end t at h)
