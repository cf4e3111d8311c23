-- The frame of a line (document 01, "The program"). Assumes nothing.
use Rattle.std.specs.Prelude.{◌≡◌, cond, Result, Ok, Err, List, [], ◌∷◌, ◌++◌, ℕ, ◌+◌, ◌/◌, ◌%◌, ◌≤◌, eqb, ltb, length, get_or, take}
use Prim.Native.Char.{code}
use Rattle.tokens.specs.Answers.{Answer, done, refused}
use Rattle.tokens.specs.Checks.{◌then◌, fine, afterwards}
use Rattle.scans.specs.Ways.{pinned}
use Rattle.writer.specs.Written.{onto}
use Rattle.writer.specs.Promise.{Put}
use Rattle.sql_lexer.specs.Promise.{shape, string_answer, string_slots}
use Rattle.frames.specs.Hex.{first_not_hex, hex_bytes, hex_text}
use Rattle.frames.specs.declared.line.BadLine.{BadLine}
use Rattle.frames.specs.declared.Frame.{Frame}
use Rattle.frames.specs.declared.Work.{Work}

-- the most characters of a line
abbrev pub line_limit : ℕ
line_limit = 16384

-- 8: the line is no statement in hexadecimal; see check_line
abbrev pub bad_line : ℕ → Answer
bad_line d = refused 8 d

-- 8: the limit, for a longer line; else the place of the first non-hex character; else, for an odd count, the line's length
unfoldable pub check_line : List ℕ → Answer
check_line line =
    cond (ltb line_limit (length line)) (bad_line line_limit)
    (cond (ltb (first_not_hex line) (length line)) (bad_line (first_not_hex line))
    (cond (eqb (length line % 2) 1) (bad_line (length line)) fine))

-- the code's answer to it
abbrev pub checked : Result (Unit {0}) BadLine → Answer
checked (Ok _) = fine
checked (Err b) = bad_line b.0

-- the answer to a line: refusal 8, or the one call's to its bytes, with room for 4,096 tokens and 16,384 bytes of output
unfoldable pub line_answer : List ℕ → Answer
line_answer line = check_line line then string_answer pinned (hex_bytes line) 4096 16384

-- a frame: the status byte, the stop offset or the detail, and the shape
pub record Shown : Type 0 where
  pub status : ℕ
  pub number : ℕ
  pub shape : List ℕ

-- 0 where the statement was read whole, 1 where the reading stopped short
abbrev pub read_status : ℕ → ℕ → ℕ
read_status stop length = cond (eqb stop length) 0 1

-- the frame of an answer to a statement; the stop offset is the second of the one call's figures
abbrev pub framed : List ℕ → Answer → Shown
framed text (done ns) =
    record { status = read_status (get_or ns 1 0) (length text); number = get_or ns 1 0; shape = shape pinned text }
framed text (refused k d) = record { status = 16 + k; number = d; shape = [] }

-- the frame of a line
unfoldable pub frame_of : List ℕ → Shown
frame_of line = framed (hex_bytes line) (line_answer line)

-- what the code answers of a frame: the shape by its length
abbrev pub in_numbers : Shown → Frame
in_numbers f = record { status = f.status; number = f.number; length = length f.shape }

-- and back, with the output that holds the shape at its front
abbrev pub shown_over : Frame → List ℕ → Shown
shown_over r out = record { status = r.status; number = r.number; shape = take r.length out }

-- what a line leaves in the lent buffers: its shape over the front of the output; and, where it is one in hexadecimal, the statement over
-- the front of the text, and its sanitised tokens in the slots
pub record Leaves (line text ws out text' ws' out' : List ℕ) : Type 0 where
  pub output : out' ≡ onto (frame_of line).shape out
  pub statement : text' ≡ afterwards (check_line line) (onto (hex_bytes line) text) text
  pub slots : ws' ≡ afterwards (check_line line) (string_slots pinned (hex_bytes line) ws) ws

-- what is lent is lent still: the same three buffers
pub record SameBuffers (before after : Work) : Type 0 where
  pub text : after.text.ghost_name ≡ before.text.ghost_name
  pub slots : after.slots.ghost_name ≡ before.slots.ghost_name
  pub out : after.out.ghost_name ≡ before.out.ghost_name

-- the answer to a line, and what it leaves
pub record FramesLine (line text ws out : List ℕ) (r : Frame) (text' ws' out' : List ℕ) : Type 0 where
  pub answer : r ≡ in_numbers (frame_of line)
  pub left : Leaves line text ws out text' ws' out'

-- the answer to a statement, and what it leaves in the output and in the slots
pub record FramesText (text ws out : List ℕ) (r : Frame) (ws' out' : List ℕ) : Type 0 where
  pub answer : r ≡ in_numbers (framed text (string_answer pinned text 4096 16384))
  pub output : out' ≡ onto (framed text (string_answer pinned text 4096 16384)).shape out
  pub slots : ws' ≡ string_slots pinned text ws

-- a number as four bytes, the highest first
unfoldable pub big_endian : ℕ → List ℕ
big_endian n = n / 16777216 % 256 ∷ n / 65536 % 256 ∷ n / 256 % 256 ∷ n % 256 ∷ []

-- the status byte and the number
abbrev pub head : Shown → List ℕ
head f = f.status ∷ big_endian f.number

-- a frame as the line that is printed
unfoldable pub printed : Shown → List ℕ
printed f = hex_text (head f) ++ hex_text f.shape ++ (code "\n" ∷ [])

-- the most bytes of a printed frame: status, number, 16,384 bytes of shape, LF
abbrev pub longest : ℕ
longest = 2 + 8 + 32768 + 1

-- a line's frame is printed behind the first `at` bytes of the page, is no longer than the longest, and is the last that the first r bytes hold
pub record Prints (line page : List ℕ) (at r : ℕ) (page' : List ℕ) : Type 0 where
  pub put : Put page at (printed (frame_of line)) r page'
  pub within : r ≤ at + longest
  pub front : take r page' ≡ take at page ++ printed (frame_of line)
