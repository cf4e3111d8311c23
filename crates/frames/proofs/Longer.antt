-- A line over the limit has one frame, whatever it holds and however long it is.
-- longer        its frame
-- frame_cut     so a reader may keep one character more than the limit and drop the rest
-- Assumes nothing.
use mathlib.Core.Path.{◌≡◌, refl, sym, ap, ◌∙◌}
use mathlib.Core.Bool.{Bool, true, false}
use mathlib.Core.List.{List, []}
use Prim.Native.Nat.{ℕ, suc, ◌≤◌, ◌<◌}
use native.Mathlib.Omega.{arith}
use lib.Dec.{ltb}
use lib.ListN.{length, take}
use lib.Seq.{take_all, length-take-le}
use borrow.Author.Tests.{ltb-true, ltb-false}
use Rattle.tokens.specs.Answers.{Answer}
use Rattle.tokens.specs.Checks.{◌then◌}
use Rattle.scans.specs.Ways.{pinned}
use Rattle.sql_lexer.specs.Promise.{string_answer}
use Rattle.frames.specs.Hex.{hex_bytes}
use Rattle.frames.specs.Frames.{line_limit, line_answer, framed, frame_of}
use Rattle.frames.proofs.Answers.{too_long}

pub longer : (line : List ℕ) → line_limit < length line → frame_of line ≡ record { status = 24; number = line_limit; shape = [] }
unfolding frame_of line_answer
longer line h = ap (λ (a : Answer). framed (hex_bytes line) (a then string_answer pinned (hex_bytes line) 4096 16384)) (too_long line h)

pub frame_cut : (line : List ℕ) → frame_of (take (suc line_limit) line) ≡ frame_of line
frame_cut line = go (ltb line_limit (length line)) (λ e. ltb-true line_limit (length line) e) (λ e. ltb-false line_limit (length line) e)
  where
    go : (b : Bool) → (b ≡ true → line_limit < length line) → (b ≡ false → length line ≤ line_limit) → frame_of (take (suc line_limit) line) ≡ frame_of line
    go true long short =
        let h : line_limit < length line = long refl in
        longer (take (suc line_limit) line) (omega (arith, length-take-le (suc line_limit) line (omega arith))) ∙ sym (longer line h)
    go false long short = let h : length line ≤ line_limit = short refl in ap frame_of (take_all (suc line_limit) line (omega arith))
