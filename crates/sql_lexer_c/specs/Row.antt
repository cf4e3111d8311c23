-- An answer of the paper as one row of numbers. Assumes nothing.
use Rattle.std.specs.Prelude.{List, ℕ, get_or}
use Rattle.tokens.specs.Answers.{Answer, done, refused}
use Rattle.sql_lexer_c.specs.declared.HayAnswer.{HayAnswer}

-- a refusal's number and detail
abbrev pub refused_row : ℕ → ℕ → HayAnswer
refused_row k d = record { refusal = k; detail = d; tokens = 0; stop = 0; exposed = 0; length = 0 }

-- an answer in numbers: `row` places those of a call that is done
abbrev pub in_numbers : (List ℕ → HayAnswer) → Answer → HayAnswer
in_numbers row (done ns) = row ns
in_numbers row (refused k d) = refused_row k d

-- reading answers the token count and the stop offset
abbrev pub of_reading : List ℕ → HayAnswer
of_reading ns = record { refusal = 0; detail = 0; tokens = get_or ns 0 0; stop = get_or ns 1 0; exposed = 0; length = 0 }

-- sanitising answers the exposed count
abbrev pub of_sanitising : List ℕ → HayAnswer
of_sanitising ns = record { refusal = 0; detail = 0; tokens = 0; stop = 0; exposed = get_or ns 0 0; length = 0 }

-- writing answers the text's length
abbrev pub of_writing : List ℕ → HayAnswer
of_writing ns = record { refusal = 0; detail = 0; tokens = 0; stop = 0; exposed = 0; length = get_or ns 0 0 }

-- the one call answers the token count, the stop offset, the exposed count and the shape's length
abbrev pub of_shaping : List ℕ → HayAnswer
of_shaping ns = record { refusal = 0; detail = 0; tokens = get_or ns 0 0; stop = get_or ns 1 0; exposed = get_or ns 2 0; length = get_or ns 3 0 }
