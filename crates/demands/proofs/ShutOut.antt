-- The wrong versions that document 01 names, "How much a promise says": each is shut out.
-- always_refuses    a version that always refuses: the empty statement, with no room at all, is answered
-- fixed_shape       one fixed shape for all
-- changes_nothing   a sanitiser that changes nothing
-- first_only        one that replaces only the first value
-- invented_exposed, invented_tokens, invented_length   an invented exposed count or room
-- Assumes nothing.
use Rattle.std.specs.Prelude.{Ok, Err}
use mathlib.Core.Path.{◌≡◌, refl, sym, ap, ◌∙◌}
use mathlib.Core.List.{List, [], ◌∷◌}
use mathlib.Core.Logic.{inl, inr}
use Prim.Native.Nat.{ℕ}
use native.Mathlib.Omega.{arith}
use lib.ListN.{length, get_or}
use Rattle.chars.specs.Utf8.{front, joined, ranged, follows, is_scalar, chars_from, chars, bad_from, first_bad, encode, encode_all, width}
use Rattle.chars.specs.Table as table
use Rattle.chars.specs.Pairs.{alphabetic_pairs, numeric_pairs}
use Rattle.chars.specs.Class.{alphabetic, numeric}
use Rattle.chars.proofs.Scalars.{clash}
use Rattle.tokens.specs.Kinds as kind
use Rattle.tokens.specs.declared.slot.Slot.{Slot}
use Rattle.tokens.specs.declared.refusal.Refusal.{Refusal}
use Rattle.tokens.specs.declared.refusal.Refusal.TheVariants.{TextTooLong, NotUtf8, NoRoomTokens, BadCount, BadToken, CutChar, NoRoomOut}
use Rattle.tokens.specs.Formed.{carries_offsets}
use Rattle.tokens.specs.Content.{within, content}
use Rattle.tokens.specs.Answers.{done, refusal}
use Rattle.tokens.specs.Slots.{tokens_in}
use Rattle.tokens.specs.Texts.{ascii, texts, text_of}
use Rattle.scans.specs.Ways.{pinned}
use Rattle.scans.specs.Scans.{scan, span, in_line, in_run, in_charset, in_word, in_number, goes_on}
use Rattle.words.specs.Known.{words, runs, zeros, rows_of, known_kind}
use Rattle.lexer.specs.Rules.{rule_of, quoted, line, block, numbered, run, charset, word, number, by_rule, read_one}
use Rattle.lexer.specs.Read.{go, reading, part_of}
use Rattle.sanitizer.specs.Arms.{rules, arm_of, does_of}
use Rattle.sanitizer.specs.Scans.{close_from, rows_from}
use Rattle.sanitizer.specs.Run as sanitizer
use Rattle.sanitizer.specs.Run.{sanitized, turn, turn_by, blank}
use Rattle.sanitizer.specs.Exposed.{exposed}
use Rattle.sanitizer.specs.Promise.{Sanitizes}
use Rattle.lexer.specs.Lexes.{Lexes}
use Rattle.writer.specs.Written.{token_text, written}
use Rattle.sql_lexer.specs.Promise.{sanitized_tokens, shape, figures, SanitizesString}
use Rattle.demands.specs.Terms.{tokens_of}
use Rattle.demands.specs.Tables.{Refuses, Clear, lex_table, string_table}
use Rattle.demands.proofs.Demand1.{lex_follows, sanitize_follows, string_follows}
use Rattle.demands.proofs.Rows.{Outcome, rows_right}

not_done : (r : Refusal) (ns : List ℕ) → refusal r ≡ done ns → ⊥
not_done (TextTooLong n) ns e = clash (cc)
not_done (NotUtf8 at) ns e = clash (cc)
not_done (NoRoomTokens n) ns e = clash (cc)
not_done (BadCount n) ns e = clash (cc)
not_done (BadToken p) ns e = clash (cc)
not_done (CutChar p) ns e = clash (cc)
not_done (NoRoomOut n) ns e = clash (cc)

empty_clear : Clear (string_table [] [] [])
unfolding first_bad bad_from shape written sanitized_tokens reading go chars chars_from sanitized sanitizer.run
empty_clear = ((λ d h. omega (arith, h.0)), ((λ d h. clash (cc)), ((λ d h. omega (arith, h.0)), ((λ d h. omega (arith, h.0)), tt))))

pub always_refuses : {r : Refusal} {ws out : List ℕ} → SanitizesString [] [] [] (Err r) ws out → ⊥
always_refuses {r} {ws} {out} p = not_done r (figures pinned []) ((string_follows p).done_when empty_clear)

-- two rows of document 01's table have two shapes
pub fixed_shape : (s : List ℕ) → ((text : List ℕ) → shape pinned text ≡ s) → ⊥
fixed_shape s h =
    let one : shape pinned (ascii "a =< 1") ≡ ascii "a <= ?" = ap (λ (l : List Outcome). (get_or l 1 ([], [])).0) rows_right in
    let two : shape pinned (ascii "a ! b") ≡ ascii "a " = ap (λ (l : List Outcome). (get_or l 2 ([], [])).0) rows_right in
    let z : ascii "a <= ?" ≡ ascii "a " = sym one ∙ h (ascii "a =< 1") ∙ sym (h (ascii "a ! b")) ∙ two in
    let y : ◌≡◌ {A = ℕ} 6 2 = ap length z in
    omega arith

pub changes_nothing : ((ts : List Slot) → sanitized ts ≡ ts) → ⊥
unfolding sanitized sanitizer.run turn turn_by close_from rows_from blank rules arm_of does_of kind.is_operator kind.is_keyword kind.is_indicator
changes_nothing h =
    let y : kind.Placeholder ≡ kind.Numeric = ap (λ (ts : List Slot). (get_or ts 1 (part_of kind.None 0 0)).kind) (h (part_of kind.Equal 0 0 ∷ part_of kind.Numeric 0 1 ∷ [])) in
    omega arith

pub first_only : shape pinned (ascii "a = 1 AND b = 2") ≡ ascii "a = ? AND b = 2" → ⊥
unfolding chars chars_from front joined ranged follows is_scalar width encode encode_all table.within alphabetic_pairs numeric_pairs alphabetic numeric
    text_of texts scan span in_line in_run in_charset in_word in_number goes_on words runs zeros rows_of known_kind
    rule_of quoted line block numbered run charset word number by_rule read_one go reading
    sanitized sanitizer.run turn turn_by close_from rows_from blank rules arm_of does_of kind.is_operator kind.is_keyword kind.is_indicator
    kind.is_quoted carries_offsets within content token_text written sanitized_tokens shape
first_only e = let y : ◌≡◌ {A = ℕ} 63 50 = ap (λ (l : List ℕ). get_or l 14 0) e in omega arith

-- a count is a count of the definitions, a room needed is a length
pub invented_exposed : {ws left : List ℕ} {n e : ℕ} → Sanitizes ws n (Ok e) left → e ≡ exposed (sanitized (tokens_in ws n))
invented_exposed {ws} {left} {n} {e} p = ap (λ (ns : List ℕ). get_or ns 0 0) ((sanitize_follows p).done_only (e ∷ []) refl).1

pub invented_tokens : {text ws left : List ℕ} {d : ℕ} → Lexes text ws (Err (NoRoomTokens d)) left → d ≡ length (tokens_of text)
invented_tokens {text} {ws} {left} {d} p = from ((lex_follows p).refused_only 3 d refl)
  where
    from : Refuses (lex_table text ws) 3 d → d ≡ length (tokens_of text)
    from (inl r) = absurd (omega (arith, r.0))
    from (inr (_, inl r)) = absurd (omega (arith, r.0))
    from (inr (_, inr (_, inl r))) = r.1.1
    from (inr (_, inr (_, inr (_, r)))) = absurd r

pub invented_length : {text ws out left left' : List ℕ} {d : ℕ} → SanitizesString text ws out (Err (NoRoomOut d)) left left' → d ≡ length (shape pinned text)
invented_length {text} {ws} {out} {left} {left'} {d} p = from ((string_follows p).refused_only 7 d refl)
  where
    from : Refuses (string_table text ws out) 7 d → d ≡ length (shape pinned text)
    from (inl r) = absurd (omega (arith, r.0))
    from (inr (_, inl r)) = absurd (omega (arith, r.0))
    from (inr (_, inr (_, inl r))) = absurd (omega (arith, r.0))
    from (inr (_, inr (_, inr (_, inl r)))) = r.1.1
    from (inr (_, inr (_, inr (_, inr (_, r))))) = absurd r
