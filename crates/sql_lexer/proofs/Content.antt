-- The content of a closed quoted token: two statements alike but for it have the same kinds, and every other token has the same text.
-- spell_text      two tokens that spell one piece, each over its own statement, are written the same
-- texts-at        the same of a place of two readings whose pieces are the same there
-- Closed, closed  what the offsets of a quoted token tell: the reading stood at its quote, and its content ends at the first that closes
-- Apart, apart    the two readings, place for place
-- Assumes nothing.
use mathlib.Core.Path.{◌≡◌, refl, sym, ap, subst, ◌∙◌}
use mathlib.Core.Bool.{Bool, true, false, cond}
use mathlib.Core.List.{List, [], ◌∷◌, ◌++◌}
use mathlib.Core.Option.{none}
use Prim.Native.Nat.{ℕ, zero, suc, ◌+◌, ◌<◌}
use native.Mathlib.Omega.{arith}
use native.Mathlib.Decide.{dec_lt}
use native.Mathlib.Nat.{le_of_suc-le-suc}
use lib.Dec.{eqb}
use lib.ListN.{length, get_or, get_or-eq_default}
use borrow.Author.Tests.{eqb-true}
use Rattle.chars.specs.Utf8.{chars, width, encode, encode_all, all_scalars, first_bad}
use Rattle.chars.proofs.Bytes.{width_1}
use Rattle.chars.proofs.Rfc.{chars_scalars}
use Rattle.tokens.specs.Kinds as kind
use Rattle.tokens.specs.declared.slot.Slot.{Slot}
use Rattle.tokens.specs.Slots.{bare, kinds}
use Rattle.tokens.specs.Formed.{carries_offsets}
use Rattle.tokens.specs.Texts.{text_of}
use Rattle.lexer.specs.declared.rule.State.{State}
use Rattle.lexer.specs.declared.rule.State.TheVariants.{Default}
use Rattle.tokens.specs.Named.{number as number_of}
use Rattle.tokens.specs.declared.kind.Kind.{Kind}
use Rattle.lexer.specs.declared.rule.Rule.TheVariants.{Quoted}
use Rattle.scans.specs.Ways.{Ways}
use Rattle.scans.specs.Scans.{bytes, quote_len}
use Rattle.lexer.specs.Rules.{Carried, nothing, slice, scalar, Out, halt, took, rule_of, state_after, quoted, by_rule, read_one}
use Rattle.lexer.specs.Read.{slot_of, part_of, tokens, reading, go}
use Rattle.lexer.proofs.Pieces.{Piece, piece, pieces, piece_kinds, kinds_pieces, Spells, Each, reading_spells}
use Rattle.lexer.proofs.Local.{Walk, stands, walk, skips, walk_local, Reads, walk_reads, quoted_pieces}
use Rattle.sanitizer.proofs.Alike.{length_same}
use Rattle.writer.specs.Written.{slice_of, token_text}
use Rattle.sql_lexer.proofs.Same.{at, bare_text}
use Rattle.sql_lexer.proofs.Splits.{chars_cut}
use Rattle.sql_lexer.proofs.Standing.{FromOne, quoted_carries, quoted_slice, stood, OneCut, same_front, count_of}

-- ---- the text of a piece
-- the text of a kind, with a slice and a character for those that have one
abbrev text_by : ℕ → List ℕ → List ℕ → List ℕ
text_by k part char =
    cond (kind.is_quoted k) (text_of k ++ part ++ text_of k)
    (cond (carries_offsets k) (text_of k ++ part) (cond (eqb k kind.Unknown) char (text_of k)))

by_same : (k : ℕ) (a b c d : List ℕ) → (carries_offsets k ≡ true → a ≡ b) → (k ≡ kind.Unknown → c ≡ d) → text_by k a c ≡ text_by k b d
by_same k a b c d p q = go (kind.is_quoted k) (carries_offsets k) (eqb k kind.Unknown) refl refl refl
  where
    go : (x y z : Bool) → kind.is_quoted k ≡ x → carries_offsets k ≡ y → eqb k kind.Unknown ≡ z
        → cond x (text_of k ++ a ++ text_of k) (cond y (text_of k ++ a) (cond z c (text_of k))) ≡ cond x (text_of k ++ b ++ text_of k) (cond y (text_of k ++ b) (cond z d (text_of k)))
    go true y z e f g = ap (λ (l : List ℕ). text_of k ++ l ++ text_of k) (p (quoted_carries k e))
    go false true z e f g = ap (λ (l : List ℕ). text_of k ++ l) (p f)
    go false false true e f g = q (eqb-true k kind.Unknown g)
    go false false false e f g = refl

module _ (x y : List ℕ) where
  pub spell_text : (t u : Slot) (p : Piece) → Spells x t p → Spells y u p → token_text x t ≡ token_text y u
  unfolding token_text
  spell_text t u p s r =
      ap (λ (k : ℕ). text_by k (slice_of x t) (encode t.first)) (s.same ∙ sym r.same)
      ∙ by_same u.kind (slice_of x t) (slice_of y u) (encode t.first) (encode u.first)
      (λ c. s.text (subst (λ (k : ℕ). carries_offsets k ≡ true) (r.same ∙ sym s.same) c) ∙ sym (r.text c))
      (λ c. ap encode (ap (λ (l : List ℕ). get_or l 0 0) (s.char (s.same ∙ sym r.same ∙ c) ∙ sym (r.char c))))

-- the piece of place j
abbrev pub piece_at : List Piece → ℕ → Piece
piece_at ps j = get_or ps j (piece kind.None [])

each_at : (x : List ℕ) (ts : List Slot) (ps : List Piece) → Each x ts ps → (j : ℕ) → j < length ts → Spells x (at ts j) (piece_at ps j)
each_at x [] ps e j h = absurd (omega arith)
each_at x (t ∷ ts) [] e j h = absurd e
each_at x (t ∷ ts) (p ∷ ps) e zero h = e.0
each_at x (t ∷ ts) (p ∷ ps) e (suc j) h = each_at x ts ps e.1 j (le_of_suc-le-suc h)

pub texts-at : (x y : List ℕ) (ts us : List Slot) (ps qs : List Piece) → Each x ts ps → Each y us qs → length ts ≡ length us
    → (j : ℕ) → piece_at ps j ≡ piece_at qs j → token_text x (at ts j) ≡ token_text y (at us j)
texts-at x y ts us ps qs e f l j g = from (dec_lt j (length ts))
  where
    from : Dec (j < length ts) → token_text x (at ts j) ≡ token_text y (at us j)
    from (yes h) =
        spell_text x y (at ts j) (at us j) (piece_at ps j) (each_at x ts ps e j h)
        (subst (λ (p : Piece). Spells y (at us j) p) (sym g) (each_at y us qs f j (omega arith)))
    from (no h) =
        ap (token_text x) (get_or-eq_default ts (bare kind.None) {n = j} (omega arith))
        ∙ bare_text x y kind.None
        ∙ ap (token_text y) (sym (get_or-eq_default us (bare kind.None) {n = j} (omega arith)))

-- ---- what a quoted token's offsets tell
slot_kind : (o : ℕ) (cs : List ℕ) (k : ℕ) (x : Carried) → (slot_of o cs k x).kind ≡ k
slot_kind o cs k nothing = refl
slot_kind o cs k (slice m n) = refl
slot_kind o cs k (scalar c) = refl

slot_first : (o c : ℕ) (cs : List ℕ) (k : ℕ) (x : Carried) → FromOne x → (slot_of o (c ∷ cs) k x).first ≡ o + width c
slot_first o c cs k nothing e = absurd e
slot_first o c cs k (slice m n) e = ap (λ (i : ℕ). o + bytes i (c ∷ cs)) e ∙ omega arith
slot_first o c cs k (scalar d) e = absurd e

carried_of : Out → Carried
carried_of halt = nothing
carried_of (took k x n) = x

-- the reading stood at the quote, after as many tokens as the place says, and the quote after the content is the first that closes
pub record Closed (w : Ways) (q : ℕ) (front inside back : List ℕ) (i : ℕ) : Type 0 where
  pub passed : List Piece
  pub star : Bool
  pub state : State
  pub walked : walk w (q ∷ inside ++ q ∷ back) 0 false Default front ≡ stands passed 0 star state
  pub place : length passed ≡ i
  pub ends : quote_len q (inside ++ q ∷ back) ≡ length inside

module _ (w : Ways) (q : ℕ) (named : Kind) (isQuote : (st : State) (cs : List ℕ) → rule_of w st q cs ≡ Quoted named) (low : q < 0x80) (quoted-kind : kind.is_quoted (number_of named) ≡ true) where
  abbrev k : ℕ
  k = number_of named

  pub closed : (cs front inside back : List ℕ) → cs ≡ front ++ q ∷ (inside ++ q ∷ back) → all_scalars cs ≡ true → (i : ℕ)
      → at (tokens (go w 0 0 false Default cs)) i ≡ part_of k (length (encode_all front) + 1) (length (encode_all front) + 1 + length (encode_all inside))
      → Closed w q front inside back i
  unfolding read_one by_rule quoted carried_of
  closed cs front inside back all good i e =
      let rest : List ℕ = inside ++ q ∷ back in
      let s = stood w cs 0 0 false Default i good (ap (λ (t : Slot). kind.is_quoted t.kind) e ∙ quoted-kind) in
      let o : ℕ = 0 + length (encode_all s.before) in
      let t : slot_of o (s.c ∷ s.after) s.kind s.carried ≡ part_of k (length (encode_all front) + 1) (length (encode_all front) + 1 + length (encode_all inside)) =
      sym s.token ∙ e in
      let same : s.kind ≡ k = sym (slot_kind o (s.c ∷ s.after) s.kind s.carried) ∙ ap (λ (u : Slot). u.kind) t in
      let one : FromOne s.carried =
      quoted_slice w s.star s.state s.c s.after s.kind s.carried s.taken s.scalar s.read (ap kind.is_quoted same ∙ quoted-kind) in
      let start : o + width s.c ≡ length (encode_all front) + 1 =
      sym (slot_first o s.c s.after s.kind s.carried one) ∙ ap (λ (u : Slot). u.first) t in
      let cut : OneCut s.before s.c s.after front q rest =
      same_front s.before s.c s.after front q rest (sym s.all ∙ all) (omega (arith, start, width_1 q low)) in
      let there : s.c ∷ s.after ≡ q ∷ rest = ap (λ (c : ℕ). c ∷ s.after) cut.char ∙ ap (λ (l : List ℕ). q ∷ l) cut.back in
      let n : ℕ = quote_len q rest in
      let read : read_one w s.star s.state q rest ≡ took s.kind s.carried s.taken =
      ap (λ (c : ℕ). read_one w s.star s.state c rest) (sym cut.char) ∙ ap (read_one w s.star s.state s.c) (sym cut.back) ∙ s.read in
      let carried : s.carried ≡ slice 1 (suc n) =
      sym (ap carried_of read) ∙ ap (λ r. carried_of (by_rule r w s.star q rest)) (isQuote s.state rest) in
      let second : o + bytes (suc n) (s.c ∷ s.after) ≡ length (encode_all front) + 1 + length (encode_all inside) =
      sym (ap (λ (x : Carried). (slot_of o (s.c ∷ s.after) s.kind x).second) carried) ∙ ap (λ (u : Slot). u.second) t in
      let over : bytes n s.after ≡ length (encode_all inside) = omega (arith, second, start) in
      record {
        passed = s.passed;
        star = s.star;
        state = s.state;
        walked =
            ap (λ (l : List ℕ). walk w l 0 false Default front) (sym there) ∙ ap (walk w (s.c ∷ s.after) 0 false Default) (sym cut.front) ∙ s.walked;
        place = s.place;
        ends = count_of n inside q back (ap (bytes n) (sym cut.back) ∙ over);
      }

-- ---- lists of pieces that differ in one text
module _ (k : ℕ) (c d : List ℕ) (rest : List Piece) where
  kinds_apart : (ps : List Piece) → piece_kinds (ps ++ piece k c ∷ rest) ≡ piece_kinds (ps ++ piece k d ∷ rest)
  kinds_apart [] = refl
  kinds_apart (p ∷ ps) = ap (λ (l : List ℕ). p.kind ∷ l) (kinds_apart ps)

  at_apart : (ps : List Piece) (j : ℕ) → (j ≡ length ps → ⊥) → piece_at (ps ++ piece k c ∷ rest) j ≡ piece_at (ps ++ piece k d ∷ rest) j
  at_apart [] zero h = absurd (h refl)
  at_apart [] (suc j) h = refl
  at_apart (p ∷ ps) zero h = refl
  at_apart (p ∷ ps) (suc j) h = at_apart ps j (λ e. h (ap suc e))

-- the same kinds, and the same text at every place but one
pub record Apart (w : Ways) (x y : List ℕ) (i : ℕ) : Type 0 where
  pub same_kinds : kinds (tokens (reading w x)) ≡ kinds (tokens (reading w y))
  pub same_texts : (j : ℕ) → (j ≡ i → ⊥) → token_text x (at (tokens (reading w x)) j) ≡ token_text y (at (tokens (reading w y)) j)

module _ (w : Ways) (q : ℕ) (named : Kind) (isQuote : (st : State) (cs : List ℕ) → rule_of w st q cs ≡ Quoted named) (low : q < 0x80) (quoted-kind : kind.is_quoted (number_of named) ≡ true) where
  abbrev kn : ℕ
  kn = number_of named

  -- the pieces of a text whose quoted token is read where the walk stands
  pieces_closed : (cs front inside back : List ℕ) → cs ≡ front ++ q ∷ (inside ++ q ∷ back) → (ps : List Piece) (b : Bool) (st : State)
      → walk w (q ∷ inside ++ q ∷ back) 0 false Default front ≡ stands ps 0 b st → quote_len q (inside ++ q ∷ back) ≡ length inside
      → pieces w 0 false Default cs ≡ ps ++ piece kn inside ∷ pieces w 0 (eqb q 42) (state_after kn st) back
  pieces_closed cs front inside back all ps b st e f =
      let rest : List ℕ = q ∷ (inside ++ q ∷ back) in
      ap (pieces w 0 false Default) all
      ∙ subst (λ (v : Walk). Reads w v rest (pieces w 0 false Default (front ++ rest))) e (walk_reads w rest front 0 false Default)
      ∙ ap (λ (l : List Piece). ps ++ l) (quoted_pieces w named q isQuote back inside f b st)

  -- the characters of a valid text with a quoted part
  parts : (pre c post : List ℕ) → first_bad (pre ++ q ∷ (c ++ q ∷ post)) ≡ none → chars (pre ++ q ∷ (c ++ q ∷ post)) ≡ chars pre ++ q ∷ (chars c ++ q ∷ chars post)
  parts pre c post v =
      let r = chars_cut pre q (c ++ q ∷ post) low v in
      r.all ∙ ap (λ (l : List ℕ). chars pre ++ q ∷ l) (chars_cut c q post low r.valid).all

  pub apart : (pre c d post : List ℕ) → first_bad (pre ++ q ∷ (c ++ q ∷ post)) ≡ none → first_bad (pre ++ q ∷ (d ++ q ∷ post)) ≡ none → (i : ℕ)
      → at (tokens (reading w (pre ++ q ∷ (c ++ q ∷ post)))) i ≡ part_of kn (length pre + 1) (length pre + 1 + length c)
      → quote_len q (chars (d ++ q ∷ post)) ≡ length (chars d) → Apart w (pre ++ q ∷ (c ++ q ∷ post)) (pre ++ q ∷ (d ++ q ∷ post)) i
  unfolding reading skips
  apart pre c d post vx vy i e f =
      let x : List ℕ = pre ++ q ∷ (c ++ q ∷ post) in
      let y : List ℕ = pre ++ q ∷ (d ++ q ∷ post) in
      let cut = chars_cut pre q (c ++ q ∷ post) low vx in
      let cutx = chars_cut c q post low cut.valid in
      let cuty = chars_cut d q post low (chars_cut pre q (d ++ q ∷ post) low vy).valid in
      let here : at (tokens (go w 0 0 false Default (chars x))) i
      ≡ part_of kn (length (encode_all (chars pre)) + 1) (length (encode_all (chars pre)) + 1 + length (encode_all (chars c))) =
      e ∙ ap (λ (m : ℕ). part_of kn (m + 1) (m + 1 + length c)) (ap length (sym cut.front)) ∙ ap (λ (m : ℕ). part_of kn (length (encode_all (chars pre)) + 1) (length (encode_all (chars pre)) + 1 + m)) (ap length (sym cutx.front)) in
      let z = closed w q named isQuote low quoted-kind (chars x) (chars pre) (chars c) (chars post) (parts pre c post vx) (chars_scalars x) i here in
      let walked : walk w (q ∷ (chars d ++ q ∷ chars post)) 0 false Default (chars pre) ≡ stands z.passed 0 z.star z.state =
      walk_local w q (chars c ++ q ∷ chars post) (chars d ++ q ∷ chars post) (chars pre) 0 false Default (ap skips z.walked) ∙ z.walked in
      let rest : List Piece = pieces w 0 (eqb q 42) (state_after kn z.state) (chars post) in
      let px : pieces w 0 false Default (chars x) ≡ z.passed ++ piece kn (chars c) ∷ rest =
      pieces_closed (chars x) (chars pre) (chars c) (chars post) (parts pre c post vx) z.passed z.star z.state z.walked z.ends in
      let py : pieces w 0 false Default (chars y) ≡ z.passed ++ piece kn (chars d) ∷ rest =
      pieces_closed (chars y) (chars pre) (chars d) (chars post) (parts pre d post vy) z.passed z.star z.state walked (ap (quote_len q) (sym cuty.all) ∙ f) in
      let ks : kinds (tokens (reading w x)) ≡ kinds (tokens (reading w y)) =
      kinds_pieces w (chars x) 0 0 false Default ∙ ap piece_kinds px ∙ kinds_apart kn (chars c) (chars d) rest z.passed ∙ ap piece_kinds (sym py)
      ∙ sym (kinds_pieces w (chars y) 0 0 false Default) in
      record {
        same_kinds = ks;
        same_texts = λ j h.
            texts-at x y (tokens (reading w x)) (tokens (reading w y)) (pieces w 0 false Default (chars x)) (pieces w 0 false Default (chars y))
            (reading_spells w x vx) (reading_spells w y vy) (length_same (tokens (reading w x)) (tokens (reading w y)) ks) j
            (ap (λ (ps : List Piece). piece_at ps j) px ∙ at_apart kn (chars c) (chars d) rest z.passed j (λ g. h (g ∙ z.place)) ∙ ap (λ (ps : List Piece). piece_at ps j) (sym py));
      }
