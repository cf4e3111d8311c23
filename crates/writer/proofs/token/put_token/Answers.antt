-- `writer::token::put_token` meets its contract: one law for each test of the kind. Assumes nothing.
use mathlib.Core.Path.{◌≡◌, sym, ap, ◌∙◌}
use mathlib.Core.Bool.{true, false}
use native.Mathlib.Omega.{arith}
use lib.ListN.{length}
use Rattle.tokens.specs.Kinds.{is_quoted}
use Rattle.tokens.specs.Formed.{carries_offsets}
use Rattle.tokens.specs.Texts.{text_of}
use Rattle.tokens.proofs.Rows.{text_mark}
use Rattle.writer.specs.Written.{slice_of}
use Rattle.writer.proofs.Puts.{three_length, grown_as, grown_then}
use Rattle.writer.proofs.ByKind.{text_quoted, text_marked, text_slice, text_scalar, text_fixed, text_low, formed_scalar, unquoted, quote_one, mark_small, carried_room}
use Rattle.writer.proofs.token.put_token.Goals as goal

-- the mark, and the slice behind it
pub push_mark-requires-then-carries_offsets : goal.push_mark-requires-then-carries_offsets
push_mark-requires-then-carries_offsets c =
    let x = c.args in
    let e = sym c.carries_offsets.ensures ∙ c.if-carries_offsets.true in
    omega (arith, ap length c.fixed_text-mark.ensures, mark_small x.slot.kind e, carried_room x.text.now x.slot e)

pub push_slice-requires-then-carries_offsets : goal.push_slice-requires-then-carries_offsets
push_slice-requires-then-carries_offsets c =
    let x = c.args in
    omega (arith, c.push_mark-then-carries_offsets.ensures.put.next, c.push_mark-then-carries_offsets.ensures.long, ap length c.fixed_text-mark.ensures, ap length c.slice_of-then-carries_offsets.ensures, carried_room x.text.now x.slot (sym c.carries_offsets.ensures ∙ c.if-carries_offsets.true))

-- the mark that closes it: one byte
pub push_mark-requires-then-is_quoted : goal.push_mark-requires-then-is_quoted
push_mark-requires-then-is_quoted c =
    let x = c.args in
    let q : is_quoted x.slot.kind ≡ true = sym c.is_quoted.ensures ∙ c.if-is_quoted.true in
    omega (arith, c.push_mark-then-carries_offsets.ensures.put.next, c.push_mark-then-carries_offsets.ensures.long, c.push_slice-then-carries_offsets.ensures.put.next, c.push_slice-then-carries_offsets.ensures.long, ap length c.fixed_text-mark.ensures, ap length c.slice_of-then-carries_offsets.ensures, quote_one x.slot.kind q, ap length (text_quoted x.text.now x.slot q), three_length (text_of x.slot.kind) (slice_of x.text.now x.slot) (text_of x.slot.kind))

pub returns-then-is_quoted : goal.returns-then-is_quoted
returns-then-is_quoted c =
    let x = c.args in
    let q : is_quoted x.slot.kind ≡ true = sym c.is_quoted.ensures ∙ c.if-is_quoted.true in
    let mark = sym c.fixed_text-mark.ensures in
    grown_as (text_quoted x.text.now x.slot q)
    (grown_then (omega arith)
    (grown_then (omega arith) (grown_as mark c.push_mark-then-carries_offsets.ensures) (grown_as (sym c.slice_of-then-carries_offsets.ensures) c.push_slice-then-carries_offsets.ensures))
    (grown_as mark c.push_mark-then-is_quoted.ensures))

pub returns-else-is_quoted : goal.returns-else-is_quoted
returns-else-is_quoted c =
    let x = c.args in
    let law = text_marked x.text.now x.slot (sym c.is_quoted.ensures ∙ c.if-is_quoted.false) (sym c.carries_offsets.ensures ∙ c.if-carries_offsets.true) in
    grown_as law (grown_then (omega arith) (grown_as (sym c.fixed_text-mark.ensures) c.push_mark-then-carries_offsets.ensures) (grown_as (sym c.slice_of-then-carries_offsets.ensures) c.push_slice-then-carries_offsets.ensures))

pub push_char-requires : goal.push_char-requires
push_char-requires c =
    let x = c.args in
    let law = text_scalar x.text.now x.slot c.if-slot-eq-UNKNOWN.true in
    (formed_scalar x.slot c.requires.0 c.if-slot-eq-UNKNOWN.true, omega (arith, ap length law))

pub returns-then-slot-eq-UNKNOWN : goal.returns-then-slot-eq-UNKNOWN
returns-then-slot-eq-UNKNOWN c = let x = c.args in grown_as (text_scalar x.text.now x.slot c.if-slot-eq-UNKNOWN.true) c.push_char.ensures

-- no other kind is left that is well formed; its text would be the fixed one
pub push-requires-else-carries_offsets : goal.push-requires-else-carries_offsets
push-requires-else-carries_offsets c =
    let x = c.args in
    let n = sym c.carries_offsets.ensures ∙ c.if-carries_offsets.false in
    omega (arith, ap length (text_fixed x.text.now x.slot (unquoted x.slot.kind n) n c.if-slot-eq-UNKNOWN.false), ap length c.fixed_text-else-carries_offsets.ensures)

pub returns-else-carries_offsets : goal.returns-else-carries_offsets
returns-else-carries_offsets c =
    let x = c.args in
    let n = sym c.carries_offsets.ensures ∙ c.if-carries_offsets.false in
    grown_as (text_fixed x.text.now x.slot (unquoted x.slot.kind n) n c.if-slot-eq-UNKNOWN.false ∙ sym c.fixed_text-else-carries_offsets.ensures) c.push-else-carries_offsets.ensures

pub push-requires : goal.push-requires
push-requires c = let x = c.args in omega (arith, ap length (text_low x.text.now x.slot (omega arith)), ap length c.fixed_text-then-slot-lt-OTHER.ensures)

pub returns-then-slot-lt-OTHER : goal.returns-then-slot-lt-OTHER
returns-then-slot-lt-OTHER c = let x = c.args in grown_as (text_low x.text.now x.slot (omega arith) ∙ sym c.fixed_text-then-slot-lt-OTHER.ensures) c.push.ensures

-- None, and the marks before Ellipsis
pub push_mark-requires : goal.push_mark-requires
push_mark-requires c =
    let x = c.args in
    omega (arith, ap length (text_low x.text.now x.slot (omega arith)), ap length c.fixed_text.ensures, text_mark x.slot.kind (omega arith))

pub returns-then-slot-lt-ELLIPSIS : goal.returns-then-slot-lt-ELLIPSIS
returns-then-slot-lt-ELLIPSIS c = let x = c.args in grown_as (text_low x.text.now x.slot (omega arith) ∙ sym c.fixed_text.ensures) c.push_mark.ensures

pub push_slice-requires : goal.push_slice-requires
push_slice-requires c =
    let x = c.args in
    omega (arith, ap length c.slice_of.ensures, ap length (text_slice x.text.now x.slot (c.is_slice.ensures c.if-is_slice.true)))

pub returns-then-is_slice : goal.returns-then-is_slice
returns-then-is_slice c =
    let x = c.args in
    grown_as (text_slice x.text.now x.slot (c.is_slice.ensures c.if-is_slice.true) ∙ sym c.slice_of.ensures) c.push_slice.ensures
