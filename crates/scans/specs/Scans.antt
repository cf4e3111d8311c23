-- Scanning characters, as the Rust's `scan_until` does, and the bytes that they take. Assumes nothing.
use Rattle.std.specs.Prelude.{ℕ, zero, suc, ◌+◌, Bool, false, cond, not, ◌&&◌, ◌||◌, List, [], ◌∷◌, eqb, drop}
use Prim.Native.Char.{code}
use Rattle.chars.specs.Utf8.{chars, width}
use Rattle.scans.specs.declared.goes.Stop.{Stop}
use Rattle.scans.specs.declared.goes.Stop.TheVariants.{Numerics, Charset, Word, Number}
use Rattle.scans.specs.Ways.{Ways}

-- how many characters a scan goes over: it stops before the first at which `stops` says so of what was seen before it
unfoldable pub scan : {S : Type 0} → (S → ℕ → Bool) → (S → ℕ → S) → S → List ℕ → ℕ
scan stops after seen [] = 0
scan stops after seen (c ∷ cs) = cond (stops seen c) 0 (suc (scan stops after (after seen c) cs))

-- the same for a scan that keeps nothing in mind: how many characters at the front pass the test
unfoldable pub span : (ℕ → Bool) → List ℕ → ℕ
span passes cs = scan {S = Unit {0}} (λ _ c. not (passes c)) (λ seen _. seen) tt cs

-- the bytes that the first n characters take
abbrev pub bytes : ℕ → List ℕ → ℕ
bytes zero cs = 0
bytes (suc n) [] = 0
bytes (suc n) (c ∷ cs) = width c + bytes n cs

-- the offset after as many characters, from the offset at on, as f says of them
unfoldable pub reach : (List ℕ → ℕ) → List ℕ → ℕ → ℕ
reach f text at = let cs = chars (drop at text) in at + bytes (f cs) cs

-- ---- the stop rules
-- rule 1: a quote closes after an even run of backslashes; what is kept in mind is whether the run is odd
abbrev pub closes : ℕ → Bool → ℕ → Bool
closes quote odd c = not odd && eqb c quote

-- and whether it is odd after the character c
abbrev pub escapes : Bool → ℕ → Bool
escapes odd c = not odd && eqb c (code "\\")

-- the characters before the quote that closes, or all
abbrev pub quote_len : ℕ → List ℕ → ℕ
quote_len quote cs = scan (closes quote) escapes false cs

-- rule 2: a line goes on up to \n or \r
unfoldable pub in_line : ℕ → Bool
in_line c = not (eqb c (code "\n") || eqb c (code "\r"))

-- rule 3: what the characters before say: the last is `*`; the last two are `*` and `/`
pub record Before : Type 0 where
  pub star : Bool
  pub closed : Bool

-- a comment has ended where they are `*` and `/`
abbrev pub ended : Before → ℕ → Bool
ended before c = before.closed

-- what they say after the character c
abbrev pub then : Before → ℕ → Before
then before c = record { star = eqb c (code "*"); closed = before.star && eqb c (code "/") }

-- the characters of a comment after its `/`; star says that a `*` stands before that
abbrev pub block_len : Bool → List ℕ → ℕ
block_len star cs = scan ended then (record { star = false; closed = star }) cs

-- rule 7: what a run takes
unfoldable pub in_run : ℕ → Bool
in_run c = eqb c (code "=") || (eqb c (code "!") || (eqb c (code ">") || eqb c (code "<")))

-- rule 8: what a charset takes
unfoldable pub in_charset : Ways → ℕ → Bool
in_charset w c = w.alphabetic c || w.numeric c

-- rule 9: what a word takes
unfoldable pub in_word : Ways → ℕ → Bool
in_word w c = eqb c (code "_") || (eqb c (code "-") || (w.alphabetic c || w.numeric c))

-- rule 10: what a number takes
unfoldable pub in_number : Ways → ℕ → Bool
in_number w c =
    eqb c (code ".")
    || (eqb c (code "x") || (eqb c (code "X") || (eqb c (code "b") || (eqb c (code "B") || w.numeric c))))

-- the stop rules that ask for a class of characters, by name; rule 5 takes numerics
unfoldable pub goes_on : Ways → Stop → ℕ → Bool
goes_on w Numerics c = w.numeric c
goes_on w Charset c = in_charset w c
goes_on w Word c = in_word w c
goes_on w Number c = in_number w c
