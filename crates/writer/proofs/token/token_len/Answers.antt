-- `writer::token::token_len` meets its contract: each answer is the length of the definition's text. Assumes nothing.
use mathlib.Core.Bool.{true, false}
use mathlib.Core.Path.{◌≡◌, sym, ap, ◌∙◌}
use native.Mathlib.Omega.{arith}
use lib.ListN.{length, length-append}
use Rattle.tokens.specs.Kinds.{is_quoted}
use Rattle.chars.proofs.Rfc.{width-encode}
use Rattle.tokens.proofs.Rows.{text_small}
use Rattle.writer.proofs.ByKind.{text_quoted, text_marked, text_slice, text_scalar, text_fixed, text_low, content_small, unquoted}
use Rattle.writer.proofs.token.token_len.Goals as goal

pub overflow_add-result : goal.overflow_add-result
overflow_add-result c =
    let x = c.args in
    omega (arith, ap length c.fixed_text-mark.ensures, text_small x.slot.kind, ap length c.slice_of-slice.ensures, content_small x.text.now x.slot.first x.slot.second)

pub overflow_add-result-then-is_quoted : goal.overflow_add-result-then-is_quoted
overflow_add-result-then-is_quoted c =
    let x = c.args in
    omega (arith, ap length c.fixed_text-mark.ensures, text_small x.slot.kind, ap length c.slice_of-slice.ensures, content_small x.text.now x.slot.first x.slot.second)

pub overflow_add-result-else-is_quoted : goal.overflow_add-result-else-is_quoted
overflow_add-result-else-is_quoted c =
    let x = c.args in
    omega (arith, ap length c.fixed_text-mark.ensures, text_small x.slot.kind, ap length c.slice_of-slice.ensures, content_small x.text.now x.slot.first x.slot.second)

pub returns-then-is_quoted : goal.returns-then-is_quoted
returns-then-is_quoted c =
    let x = c.args in
    let q : is_quoted x.slot.kind ≡ true = sym c.is_quoted.ensures ∙ c.if-is_quoted.true in
    rw (text_quoted x.text.now x.slot q) (simp length-append (omega (arith, ap length c.fixed_text-mark.ensures, ap length c.slice_of-slice.ensures)))

pub returns-else-is_quoted : goal.returns-else-is_quoted
returns-else-is_quoted c =
    let x = c.args in
    rw (text_marked x.text.now x.slot (sym c.is_quoted.ensures ∙ c.if-is_quoted.false) (sym c.carries_offsets.ensures ∙ c.if-carries_offsets.true))
    (simp length-append (omega (arith, ap length c.fixed_text-mark.ensures, ap length c.slice_of-slice.ensures)))

pub returns-then-slot-eq-UNKNOWN : goal.returns-then-slot-eq-UNKNOWN
returns-then-slot-eq-UNKNOWN c =
    let x = c.args in
    rw (text_scalar x.text.now x.slot c.if-slot-eq-UNKNOWN.true) (c.width_of.ensures ∙ width-encode x.slot.first)

pub returns : goal.returns
returns c =
    let x = c.args in
    let n = sym c.carries_offsets.ensures ∙ c.if-carries_offsets.false in
    rw (text_fixed x.text.now x.slot (unquoted x.slot.kind n) n c.if-slot-eq-UNKNOWN.false) (ap length c.fixed_text-2.ensures)

pub returns-then-slot-lt-OTHER : goal.returns-then-slot-lt-OTHER
returns-then-slot-lt-OTHER c = let x = c.args in rw (text_low x.text.now x.slot (omega arith)) (ap length c.fixed_text.ensures)

pub returns-then-is_slice : goal.returns-then-is_slice
returns-then-is_slice c =
    let x = c.args in
    ap length (c.slice_of.ensures ∙ sym (text_slice x.text.now x.slot (c.is_slice.ensures c.if-is_slice.true)))
