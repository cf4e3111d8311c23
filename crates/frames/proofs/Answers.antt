-- The cases of a line's answer, and its frame.
-- too_long                            check_line of a line over the limit
-- line_passes                         it finds nothing: the line is short and each character hexadecimal
-- shown_output                        a refusal's frame has no shape, and the output is as it was
-- figures_are                         where the one call is done, its numbers are the figures
-- shaped_frame, refused_text          the frame of a statement
-- fine-line, bad_line_lem                 the frame of a line
-- shown_fits, shown_back              the shape at the front of the output
-- Assumes nothing.
use mathlib.Core.Path.{◌≡◌, refl, sym, ap, subst, ◌∙◌}
use mathlib.Core.Bool.{Bool, true, false, cond}
use mathlib.Core.List.{List, [], ◌∷◌, ◌++◌}
use Prim.Native.Nat.{ℕ, ◌/◌, ◌%◌, ◌≤◌, ◌<◌}
use native.Mathlib.Nat.{zero-add}
use native.Mathlib.Omega.{arith}
use lib.Dec.{eqb, ltb}
use lib.ListN.{length, get_or, take, drop, length-append}
use lib.Seq.{take-append_seam, take_at}
use borrow.Author.Tests.{lt-ltb, ltb-false}
use Rattle.chars.proofs.Scalars.{clash}
use Rattle.tokens.specs.Answers.{Answer, done, refused, refusal}
use Rattle.tokens.specs.Checks.{◌then◌, fine, afterwards}
use Rattle.tokens.specs.Slots.{room}
use Rattle.tokens.specs.declared.refusal.Refusal.{Refusal}
use Rattle.scans.specs.Ways.{pinned}
use Rattle.lexer.specs.Lexes.{lex_answer}
use Rattle.writer.specs.Written.{onto}
use Rattle.writer.specs.Promise.{check_out, Put}
use Rattle.sql_lexer.specs.Promise.{shape, figures, string_answer, string_slots, string_out, SanitizesString, paper}
use Rattle.sql_lexer.specs.declared.Figures.{Figures}
use Rattle.std.specs.Prelude.{Result, Ok, Err}
use Rattle.frames.specs.declared.Frame.{Frame}
use Rattle.frames.specs.Hex.{first_not_hex, hex_bytes}
use Rattle.frames.specs.Frames.{line_limit, bad_line, check_line, line_answer, Shown, read_status, framed, frame_of, in_numbers, shown_over, FramesText, FramesLine}
use Rattle.frames.proofs.Reading.{hex_le}

module _ (line : List ℕ) where
  pub too_long : line_limit < length line → check_line line ≡ bad_line line_limit
  unfolding check_line
  too_long h = simp (lt-ltb line_limit (length line) h)

  pub line_passes : fine ≡ check_line line → (length line ≤ line_limit) × (first_not_hex line ≡ length line)
  unfolding check_line
  line_passes e = go (ltb line_limit (length line)) (ltb (first_not_hex line) (length line)) refl refl e
    where
      go : (a b : Bool) → ltb line_limit (length line) ≡ a → ltb (first_not_hex line) (length line) ≡ b
          → fine ≡ cond a (bad_line line_limit) (cond b (bad_line (first_not_hex line)) (cond (eqb (length line % 2) 1) (bad_line (length line)) fine))
          → (length line ≤ line_limit) × (first_not_hex line ≡ length line)
      go true b p q f = clash (cc)
      go false true p q f = clash (cc)
      go false false p q f =
          let l : length line ≤ first_not_hex line = ltb-false (first_not_hex line) (length line) q in
          (ltb-false line_limit (length line) p, omega (arith, hex_le line))

pub shown_output : (text out : List ℕ) (a : Answer) → afterwards a (onto (shape pinned text) out) out ≡ onto (framed text a).shape out
shown_output text out (done ns) = refl
shown_output text out (refused k d) = refl

pub figures_are : (text : List ℕ) (slots out : ℕ) (ns : List ℕ) → done ns ≡ string_answer pinned text slots out → ns ≡ figures pinned text
unfolding string_answer
figures_are text slots out ns e = go (lex_answer pinned text slots) (check_out (length (shape pinned text)) out) e
  where
    go : (a b : Answer) → done ns ≡ (a then b then done (figures pinned text)) → ns ≡ figures pinned text
    go (done x) (done y) f = cc
    go (done x) (refused k d) f = clash (cc)
    go (refused k d) b f = clash (cc)

module _ (text ws out : List ℕ) (ew : length ws ≡ 12288) (eo : length out ≡ 16384) where
  -- the rooms of the program
  rooms : string_answer pinned text (room ws) (length out) ≡ string_answer pinned text 4096 16384
  rooms = ap (λ (n : ℕ). string_answer pinned text (n / 3) (length out)) ew ∙ ap (string_answer pinned text 4096) eo

  -- the output, in terms of the frame
  output : {out' : List ℕ} → out' ≡ string_out pinned text (room ws) out → out' ≡ onto (framed text (string_answer pinned text 4096 16384)).shape out
  unfolding string_out
  output e = e ∙ shown_output text out (string_answer pinned text (room ws) (length out)) ∙ ap (λ (a : Answer). onto (framed text a).shape out) rooms

  pub shaped_frame : {f : Figures} {s : (Result Figures Refusal)} {ws' out' : List ℕ} (status : ℕ) → status ≡ read_status f.stop.0 (length text) → s ≡ Ok f → SanitizesString text ws out s ws' out'
      → FramesText text ws out (record { status = status; number = f.stop.0; length = f.length }) ws' out'
  unfolding figures
  shaped_frame {f} {s} status e is p =
      let told : done (f.tokens ∷ f.stop.0 ∷ f.exposed ∷ f.length ∷ []) ≡ string_answer pinned text (room ws) (length out) = sym (ap paper is) ∙ p.answer in
      let long : f.length ≡ length (shape pinned text) = ap (λ (ns : List ℕ). get_or ns 3 0) (figures_are text (room ws) (length out) _ told) in
      record {
        answer =
            ap (λ (s : ℕ). record { status = s; number = f.stop.0; length = f.length }) e
            ∙ ap (λ (n : ℕ). record { status = read_status f.stop.0 (length text); number = f.stop.0; length = n }) long
            ∙ ap (λ (a : Answer). in_numbers (framed text a)) (told ∙ rooms);
        output = output p.buffers.1;
        slots = p.buffers.0;
      }

  pub refused_text : {why : Refusal} {s : (Result Figures Refusal)} {ws' out' : List ℕ} {r : Frame} → r ≡ in_numbers (framed text (refusal why)) → s ≡ Err why → SanitizesString text ws out s ws' out'
      → FramesText text ws out r ws' out'
  refused_text e is p = record {
    answer = e ∙ ap (λ (a : Answer). in_numbers (framed text a)) (sym (ap paper is) ∙ p.answer ∙ rooms);
    output = output p.buffers.1;
    slots = p.buffers.0;
  }

module _ (line text ws out : List ℕ) where
  pub fine-line : {n : ℕ} {r : Frame} {text' ws' out' : List ℕ} → fine ≡ check_line line → Put text 0 (hex_bytes line) n text' → FramesText (take n text') ws out r ws' out'
      → FramesLine line text ws out r text' ws' out'
  unfolding frame_of line_answer
  fine-line {n} {r} {text'} {ws'} {out'} e p q =
      let over : text' ≡ onto (hex_bytes line) text = p.left ∙ ap (λ (k : ℕ). hex_bytes line ++ drop k text) (zero-add (length (hex_bytes line))) in
      let front : take n text' ≡ hex_bytes line =
      ap (take n) over ∙ take_at (hex_bytes line) (drop (length (hex_bytes line)) text) n (sym (p.next ∙ zero-add (length (hex_bytes line)))) in
      let f : FramesText (hex_bytes line) ws out r ws' out' = subst (λ (t : List ℕ). FramesText t ws out r ws' out') front q in
      let next : Answer = string_answer pinned (hex_bytes line) 4096 16384 in
      record {
        answer = f.answer ∙ ap (λ (a : Answer). in_numbers (framed (hex_bytes line) (a then next))) e;
        left = record {
          output = f.output ∙ ap (λ (a : Answer). onto (framed (hex_bytes line) (a then next)).shape out) e;
          statement = over ∙ ap (λ (a : Answer). afterwards a (onto (hex_bytes line) text) text) e;
          slots = f.slots ∙ ap (λ (a : Answer). afterwards a (string_slots pinned (hex_bytes line) ws) ws) e;
        };
      }

  pub bad_line_lem : {d : ℕ} {r : Frame} → bad_line d ≡ check_line line → r ≡ in_numbers (framed (hex_bytes line) (bad_line d)) → FramesLine line text ws out r text ws out
  unfolding frame_of line_answer
  bad_line_lem e g =
      let next : Answer = string_answer pinned (hex_bytes line) 4096 16384 in
      record {
        answer = g ∙ ap (λ (a : Answer). in_numbers (framed (hex_bytes line) (a then next))) e;
        left = record {
          output = ap (λ (a : Answer). onto (framed (hex_bytes line) (a then next)).shape out) e;
          statement = ap (λ (a : Answer). afterwards a (onto (hex_bytes line) text) text) e;
          slots = ap (λ (a : Answer). afterwards a (string_slots pinned (hex_bytes line) ws) ws) e;
        };
      }

module _ (s out : List ℕ) {out' : List ℕ} (e : out' ≡ onto s out) where
  pub shown_fits : length s ≤ length out'
  shown_fits = omega (arith, ap length e ∙ length-append s (drop (length s) out))

pub shown_back : (f : Shown) (r : Frame) (out : List ℕ) {out' : List ℕ} → r ≡ in_numbers f → out' ≡ onto f.shape out → shown_over r out' ≡ f
shown_back f r out {out'} e g =
    ap (λ (x : Frame). shown_over x out') e
    ∙ ap (λ (l : List ℕ). record { status = f.status; number = f.number; shape = take (length f.shape) l }) g
    ∙ ap (λ (l : List ℕ). record { status = f.status; number = f.number; shape = l }) (take-append_seam f.shape (drop (length f.shape) out))
