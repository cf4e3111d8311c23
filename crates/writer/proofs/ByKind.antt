-- The text of a token by its kind.
-- text_quoted, _marked, _unknown, _fixed, _low   token_text by the tests of the kind
-- text_scalar       the same of Unknown, by its number alone
-- quoted_in, quoted_out   the kinds that have quotes, and those that have none
-- text_bare         Other has no mark
-- text_slice        the text of a kind that has no mark and no quotes is its slice
-- quote_one         a quote has one byte
-- unquoted          a kind that carries no offsets has no quotes
-- mark_small        the mark of a kind that carries offsets has one byte or none
-- carried_room      a token's text has room for its mark and its slice
-- below_or          one number is below another, or not
-- content_small, token_small   how long a slice and a token's text can be
-- formed_scalar     a well-formed Unknown holds at most U+10FFFF
-- Assumes nothing.
use mathlib.Core.Path.{◌≡◌, refl, sym, ap, ◌∙◌}
use mathlib.Core.Logic.{◌⊎◌, inl, inr, ⊎_elim}
use mathlib.Core.Bool.{Bool, true, false, cond, false≢true, and-false}
use mathlib.Core.List.{List, [], ◌++◌}
use Prim.Native.Nat.{ℕ, ◌+◌, ◌≤◌, ◌<◌}
use native.Mathlib.Omega.{arith}
use lib.Dec.{eqb, ltb, leb}
use lib.ListN.{length, length-append, length-take, length-drop}
use borrow.Author.Tests.{eq-eqb, ne_eqb, ltb-true, ltb-false, lt-leb, le-leb, leb-true, eqb-true, eqb-false}
use Rattle.chars.specs.Utf8.{is_scalar, encode}
use Rattle.chars.proofs.Bytes.{and_l, and_r, scalar_beyond}
use Rattle.chars.proofs.Whole.{encode_1, encode_2, encode_3, encode_4}
use Rattle.tokens.specs.declared.slot.Slot.{Slot}
use Rattle.tokens.specs.Kinds as kind
use Rattle.tokens.specs.Formed.{carries_offsets, well_formed}
use Rattle.tokens.specs.Content.{content}
use Rattle.tokens.specs.Texts.{texts, text_of}
use Rattle.tokens.proofs.Forms.{formed_unknown, carries_in, carries_low}
use Rattle.tokens.proofs.Parts.{content-within, content_back, content_beyond}
use Rattle.tokens.proofs.Rows.{text_small, text_none}
use Rattle.writer.specs.Written.{slice_of, token_text}

module _ (text : List ℕ) (t : Slot) where
  pub text_quoted : kind.is_quoted t.kind ≡ true → token_text text t ≡ text_of t.kind ++ slice_of text t ++ text_of t.kind
  unfolding token_text
  text_quoted q = simp q

  pub text_marked : kind.is_quoted t.kind ≡ false → carries_offsets t.kind ≡ true → token_text text t ≡ text_of t.kind ++ slice_of text t
  unfolding token_text
  text_marked q c = simp (q, c)

  pub text_unknown : kind.is_quoted t.kind ≡ false → carries_offsets t.kind ≡ false → t.kind ≡ kind.Unknown → token_text text t ≡ encode t.first
  unfolding token_text
  text_unknown q c e = simp (q, c, eq-eqb t.kind kind.Unknown e)

  pub text_slice : (carries_offsets t.kind ≡ true) × (kind.is_quoted t.kind ≡ false) × (text_of t.kind ≡ []) → token_text text t ≡ slice_of text t
  text_slice h = text_marked h.1 h.0 ∙ ap (λ (m : List ℕ). m ++ slice_of text t) h.2

  pub text_scalar : t.kind ≡ kind.Unknown → token_text text t ≡ encode t.first
  unfolding kind.is_quoted carries_offsets
  text_scalar e = text_unknown (ap kind.is_quoted e) (ap carries_offsets e) e

  pub text_fixed : kind.is_quoted t.kind ≡ false → carries_offsets t.kind ≡ false → (t.kind ≡ kind.Unknown → ⊥) → token_text text t ≡ text_of t.kind
  unfolding token_text
  text_fixed q c n = simp (q, c, ne_eqb t.kind kind.Unknown n)

  pub text_low : t.kind < kind.Other → token_text text t ≡ text_of t.kind
  unfolding kind.is_quoted
  text_low h = text_fixed (simp (lt-leb kind.Backticked t.kind (omega arith))) (carries_low t.kind (omega arith) (omega arith)) (omega arith)

-- ---- quotes
pub below_or : (a b : ℕ) → (a < b) ⊎ (b ≤ a)
below_or a b = go (ltb a b) refl
  where
    go : (t : Bool) → ltb a b ≡ t → (a < b) ⊎ (b ≤ a)
    go true e = inl (ltb-true a b e)
    go false e = inr (ltb-false a b e)

quoted_bounds : (k : ℕ) → kind.is_quoted k ≡ true → (kind.Backticked ≤ k) × (k ≤ kind.SingleQuoted)
unfolding kind.is_quoted
quoted_bounds k e = (
  leb-true kind.Backticked k (and_l (leb kind.Backticked k) (leb k kind.SingleQuoted) e),
  leb-true k kind.SingleQuoted (and_r (leb kind.Backticked k) (leb k kind.SingleQuoted) e),
)

pub quoted_in : (k : ℕ) → kind.Backticked ≤ k → k ≤ kind.SingleQuoted → kind.is_quoted k ≡ true
unfolding kind.is_quoted
quoted_in k l h = simp (le-leb kind.Backticked k l, le-leb k kind.SingleQuoted h)

-- below them, or past them
pub quoted_out : (k : ℕ) → (k < kind.Backticked) ⊎ (kind.SingleQuoted < k) → kind.is_quoted k ≡ false
unfolding kind.is_quoted
quoted_out k (inl h) = simp (lt-leb kind.Backticked k h)
quoted_out k (inr h) = simp (lt-leb k kind.SingleQuoted h, and-false)

-- Other has no mark
pub text_bare : (k : ℕ) → k ≡ kind.Other → text_of k ≡ []
unfolding text_of texts
text_bare k e = ap text_of e

pub unquoted : (k : ℕ) → carries_offsets k ≡ false → kind.is_quoted k ≡ false
unquoted k e = go (kind.is_quoted k) refl
  where
    go : (b : Bool) → kind.is_quoted k ≡ b → kind.is_quoted k ≡ false
    go false q = q
    go true q = let h = quoted_bounds k q in absurd (false≢true (sym e ∙ carries_in k (omega arith) (omega arith)))

pub quote_one : (k : ℕ) → kind.is_quoted k ≡ true → length (text_of k) ≡ 1
unfolding text_of texts
quote_one k e = go (quoted_bounds k e) (below_or k kind.DoubleQuoted) (below_or k kind.SingleQuoted)
  where
    go : (kind.Backticked ≤ k) × (k ≤ kind.SingleQuoted) → (k < kind.DoubleQuoted) ⊎ (kind.DoubleQuoted ≤ k) → (k < kind.SingleQuoted) ⊎ (kind.SingleQuoted ≤ k) → length (text_of k) ≡ 1
    go h (inl a) b = let e : k ≡ kind.Backticked = omega arith in ap (λ (j : ℕ). length (text_of j)) e
    go h (inr a) (inl b) = let e : k ≡ kind.DoubleQuoted = omega arith in ap (λ (j : ℕ). length (text_of j)) e
    go h (inr a) (inr b) = let e : k ≡ kind.SingleQuoted = omega arith in ap (λ (j : ℕ). length (text_of j)) e

pub mark_small : (k : ℕ) → carries_offsets k ≡ true → length (text_of k) ≤ 1
unfolding text_of texts
mark_small k e = go (below_or k kind.Charset) (below_or kind.SingleQuoted k)
  where
    go : (k < kind.Charset) ⊎ (kind.Charset ≤ k) → (kind.SingleQuoted < k) ⊎ (k ≤ kind.SingleQuoted) → length (text_of k) ≤ 1
    go (inl a) b = other (eqb k kind.Other) refl
      where
        other : (t : Bool) → eqb k kind.Other ≡ t → length (text_of k) ≤ 1
        other true o = let j = eqb-true k kind.Other o in rw j (omega arith)
        other false o = absurd (false≢true (sym (carries_low k (eqb-false k kind.Other o) a) ∙ e))
    go (inr a) (inl b) = rw (text_none k b) (omega arith)
    go (inr a) (inr b) = charset (below_or k kind.Backticked)
      where
        charset : (k < kind.Backticked) ⊎ (kind.Backticked ≤ k) → length (text_of k) ≤ 1
        charset (inl h) = let j : k ≡ kind.Charset = omega arith in rw j (omega arith)
        charset (inr h) = omega (arith, quote_one k (quoted_in k h b))

-- ---- how long
pub content_small : (text : List ℕ) (a b : ℕ) → length (content text a b) ≤ length text
content_small text a b =
    ⊎_elim (λ h. rw (content_back text a b h) (omega arith))
    (λ h. ⊎_elim (λ g. rw (content_beyond text a b g) (omega arith))
    (λ g. rw (content-within text a b h g) (simp (length-take, length-drop) (omega arith)))
    (below_or (length text) b))
    (below_or b a)

encode_small : (c : ℕ) → length (encode c) ≤ 4
encode_small c =
    ⊎_elim (λ h. rw (encode_1 c h) (omega arith))
    (λ h. ⊎_elim (λ g. rw (encode_2 c h g) (omega arith))
    (λ g. ⊎_elim (λ f. rw (encode_3 c g f) (omega arith)) (λ f. rw (encode_4 c f) (omega arith)) (below_or c 0x10000))
    (below_or c 0x800))
    (below_or c 0x80)

pub token_small : (text : List ℕ) (t : Slot) → length (token_text text t) ≤ length text + 18
unfolding token_text
token_small text t = go (kind.is_quoted t.kind) (carries_offsets t.kind) (eqb t.kind kind.Unknown)
  where
    mark : length (text_of t.kind) ≤ 9
    mark = text_small t.kind

    part : length (slice_of text t) ≤ length text
    part = content_small text t.first t.second

    go : (a b c : Bool)
        → length (cond a (text_of t.kind ++ slice_of text t ++ text_of t.kind) (cond b (text_of t.kind ++ slice_of text t) (cond c (encode t.first) (text_of t.kind)))) ≤ length text + 18
    go true b c = simp length-append (omega (arith, mark, part))
    go false true c = simp length-append (omega (arith, mark, part))
    go false false true = omega (arith, encode_small t.first)
    go false false false = omega (arith, mark)

pub carried_room : (text : List ℕ) (t : Slot) → carries_offsets t.kind ≡ true → length (text_of t.kind) + length (slice_of text t) ≤ length (token_text text t)
unfolding token_text
carried_room text t e = rw e (go (kind.is_quoted t.kind))
  where
    go : (a : Bool)
        → length (text_of t.kind) + length (slice_of text t) ≤ length (cond a (text_of t.kind ++ slice_of text t ++ text_of t.kind) (text_of t.kind ++ slice_of text t))
    go true = simp length-append (omega arith)
    go false = simp length-append (omega arith)

pub formed_scalar : (t : Slot) → well_formed t ≡ true → t.kind ≡ kind.Unknown → t.first < 0x110000
formed_scalar t e k = go (below_or t.first 0x110000)
  where
    is : is_scalar t.first ≡ true
    is = and_l (is_scalar t.first) (eqb t.second 0) (sym (formed_unknown t k) ∙ e)

    go : (t.first < 0x110000) ⊎ (0x110000 ≤ t.first) → t.first < 0x110000
    go (inl h) = h
    go (inr h) = absurd (false≢true (sym (scalar_beyond t.first (omega arith)) ∙ is))
