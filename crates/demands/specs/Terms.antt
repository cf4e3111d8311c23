-- The words of demand 3, as definitions. Assumes nothing.
use Rattle.std.specs.Prelude.{◌≡◌, List, [], ◌∷◌, ◌++◌, ◌⊎◌, ℕ, ◌≤◌, length, get_or, take}
use Rattle.std.proofs.Math.Option.{none}
use Prim.Native.Char.{code}
use Rattle.chars.specs.Utf8.{chars, first_bad}
use Rattle.tokens.specs.Kinds as kind
use Rattle.tokens.specs.declared.slot.Slot.{Slot}
use Rattle.tokens.specs.Slots.{bare}
use Rattle.tokens.specs.Slots as slots
use Rattle.tokens.specs.Answers.{Answer, done, refused, limit}
use Rattle.scans.specs.Ways.{pinned}
use Rattle.scans.specs.Scans.{quote_len}
use Rattle.lexer.specs.Read.{tokens, reading}
use Rattle.sql_lexer.specs.Promise.{sanitized_tokens}
use Rattle.writer.specs.Written.{token_text}

-- neither too long nor invalid
pub record Fit (text : List ℕ) : Type 0 where
  pub short : length text ≤ limit
  pub valid : first_bad text ≡ none

-- the tokens of a statement's reading
abbrev pub tokens_of : List ℕ → List Slot
tokens_of text = tokens (reading pinned text)

-- the same, sanitised
abbrev pub sanitized_of : List ℕ → List Slot
sanitized_of text = sanitized_tokens pinned text

-- the token of place i
abbrev pub at : List Slot → ℕ → Slot
at ts i = get_or ts i (bare kind.None)

-- place i survives: the sanitiser leaves its token; else it is blanked or replaced
abbrev pub Survives : List ℕ → ℕ → Type 0
Survives text i = at (sanitized_of text) i ≡ at (tokens_of text) i

-- the text that the token of place i carries: what the writer writes for it; an Unknown's character is its text
abbrev pub text_at : List ℕ → ℕ → List ℕ
text_at text i = token_text text (at (tokens_of text) i)

-- the same kinds place for place, and surviving tokens that carry the same text
pub record Alike (x y : List ℕ) : Type 0 where
  pub kinds : slots.kinds (tokens_of x) ≡ slots.kinds (tokens_of y)
  pub texts : (i : ℕ) → Survives x i → text_at x i ≡ text_at y i

-- what the one call answers, but for the stop offset: the token count, the exposed count and the shape's length, or the refusal; of reading,
-- the token count or the refusal
abbrev pub but_stop : Answer → Answer
but_stop (done ns) = done (get_or ns 0 0 ∷ get_or ns 2 0 ∷ get_or ns 3 0 ∷ [])
but_stop (refused k d) = refused k d

-- the shape that the one call leaves at the front of the output
abbrev pub shape_in : Answer → List ℕ → List ℕ
shape_in (done ns) out = take (get_or ns 3 0) out
shape_in (refused k d) out = []

-- the text that writing leaves at the front of the output
abbrev pub text_in : Answer → List ℕ → List ℕ
text_in (done ns) out = take (get_or ns 0 0) out
text_in (refused k d) out = []

-- the three quotes and the kinds of their tokens
abbrev pub Quote : ℕ → ℕ → Type 0
Quote q k =
    ((q ≡ code "`") × (k ≡ kind.Backticked))
    ⊎ (((q ≡ code "'") × (k ≡ kind.SingleQuoted)) ⊎ ((q ≡ code "\"") × (k ≡ kind.DoubleQuoted)))

-- the quote q after the content d, with `post` behind it, is the first that closes it
abbrev pub Closes : ℕ → List ℕ → List ℕ → Type 0
Closes q d post = quote_len q (chars (d ++ q ∷ post)) ≡ length (chars d)
