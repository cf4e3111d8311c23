-- Worked examples, by computation. Assumes nothing.
use mathlib.Core.Path.{◌≡◌, refl}
use mathlib.Core.List.{[], ◌∷◌}
use Rattle.tokens.specs.Content.{within, content, begins}
use Rattle.tokens.specs.Kinds as kind
use Rattle.tokens.specs.Texts.{ascii, texts, text_of}

-- EqualOrLessThan is written `<=`
equal_or_less : text_of kind.EqualOrLessThan ≡ ascii "<="
unfolding text_of texts
equal_or_less = refl

-- a newline is one line feed
newline : text_of kind.Newline ≡ 10 ∷ []
unfolding text_of texts
newline = refl

-- the quote of DoubleQuoted
double : text_of kind.DoubleQuoted ≡ 34 ∷ []
unfolding text_of texts
double = refl

-- of `abcd`: from 1 up to 3 it is `bc`, one byte from where the text begins; 3 before 1, or an end at 5, gives nothing, at the text's beginning
parts :
    content (ascii "abcd") 1 3 ∷ content (ascii "abcd") 4 4 ∷ content (ascii "abcd") 3 1 ∷ content (ascii "abcd") 1 5 ∷ []
    ≡ ascii "bc" ∷ [] ∷ [] ∷ [] ∷ []
unfolding content within
parts = refl

beginnings :
    begins (ascii "abcd") 1 3 ∷ begins (ascii "abcd") 4 4 ∷ begins (ascii "abcd") 3 1 ∷ begins (ascii "abcd") 1 5 ∷ []
    ≡ 1 ∷ 4 ∷ 0 ∷ 0 ∷ []
unfolding begins within
beginnings = refl
