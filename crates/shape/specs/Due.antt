-- What the program prints (document 01, "The program"): one frame a line, a line ended by LF or the end of input. Assumes nothing.
use Rattle.std.specs.Prelude.{ℕ, Bool, cond, List, [], ◌∷◌, ◌++◌, ◌==◌}
use Prim.Native.Char.{code}
use Rattle.frames.specs.Frames.{frame_of, printed}

-- the end of input ends a line that has begun; no line begins there
abbrev pub at_end : List ℕ → List ℕ
at_end [] = []
at_end (c ∷ cs) = printed (frame_of (c ∷ cs))

-- where no more is read: the input has ended, or a read failed, and then nothing is printed of a line that is not finished
abbrev pub at_stop : Bool → List ℕ → List ℕ
at_stop ended line = cond ended (at_end line) []

-- what is due for the rest of the input, where a line has begun with the characters `line`
unfoldable pub due : Bool → List ℕ → List ℕ → List ℕ
due ended line [] = at_stop ended line
due ended line (c ∷ cs) = cond (c == (code "\n")) (printed (frame_of line) ++ due ended [] cs) (due ended (line ++ (c ∷ [])) cs)

-- what is printed of the whole input; where a read failed, of what came before it
abbrev pub output : Bool → List ℕ → List ℕ
output ended input = due ended [] input
