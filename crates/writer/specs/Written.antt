-- The text of a token and of a token list (document 01, "writer.rs"), and which slices cut a character. Assumes nothing.
use Rattle.std.specs.Prelude.{Bool, cond, ◌&&◌, ◌||◌, List, [], ◌∷◌, ◌++◌, ℕ, eqb, get_or, length, drop}
use Rattle.chars.specs.Utf8.{follows, encode}
use Rattle.tokens.specs.declared.slot.Slot.{Slot}
use Rattle.tokens.specs.Kinds as kind
use Rattle.tokens.specs.Formed.{carries_offsets}
use Rattle.tokens.specs.Content.{within, content}
use Rattle.tokens.specs.Texts.{text_of}

-- the part of the statement that a token's offsets name
abbrev pub slice_of : List ℕ → Slot → List ℕ
slice_of text t = content text t.first t.second

-- quoted kinds get both quotes, Charset its mark, other slices are as they stand; Unknown is its character in UTF-8; the rest are fixed
unfoldable pub token_text : List ℕ → Slot → List ℕ
token_text text t =
    cond (kind.is_quoted t.kind) (text_of t.kind ++ slice_of text t ++ text_of t.kind)
    (cond (carries_offsets t.kind) (text_of t.kind ++ slice_of text t)
    (cond (eqb t.kind kind.Unknown) (encode t.first) (text_of t.kind)))

-- the text of a token list
unfoldable pub written : List ℕ → List Slot → List ℕ
written text [] = []
written text (t ∷ ts) = token_text text t ++ written text ts

-- an offset that falls inside a character: a following byte stands there
unfoldable pub inside : List ℕ → ℕ → Bool
inside text at = follows (get_or text at 0)

-- a slice within the text that starts or ends inside a character, an empty one too
unfoldable pub cuts : List ℕ → Slot → Bool
cuts text t =
    carries_offsets t.kind && (within text t.first t.second && (inside text t.first || inside text t.second))

-- a text laid over the front of a buffer
abbrev pub onto : List ℕ → List ℕ → List ℕ
onto w out = w ++ drop (length w) out
