-- The known texts and the texts that their kinds are written as (tokens/specs/Texts.antt), held together by computation.
-- words-written   a word is read as what its kind is written as, ASCII case ignored
-- zeros-written   so is the beginning of a number
-- runs-written    so is a run, but for `=<`, which is written `<=`
-- Assumes nothing.
use mathlib.Core.Path.{◌≡◌, refl}
use mathlib.Core.Bool.{cond}
use mathlib.Core.List.{List, [], ◌∷◌, map}
use Prim.Native.Nat.{ℕ}
use Rattle.tokens.specs.Kinds as kind
use Rattle.tokens.specs.Texts.{Row, text_of, texts}
use Rattle.words.specs.Known.{lower, equal, words, runs, zeros}

-- the kinds of the rows whose text is another than the kind's, in lower case
abbrev written_otherwise : List Row → List ℕ
written_otherwise [] = []
written_otherwise (r ∷ rs) = cond (equal (map lower (text_of r.kind)) r.text) (written_otherwise rs) (r.kind ∷ written_otherwise rs)

pub words-written : written_otherwise words ≡ []
unfolding words text_of texts
words-written = refl

pub zeros-written : written_otherwise zeros ≡ []
unfolding zeros text_of texts
zeros-written = refl

pub runs-written : written_otherwise runs ≡ kind.EqualOrLessThan ∷ []
unfolding runs text_of texts
runs-written = refl
