-- Turns of the scan for the quote that closes (rule 1), over bytes and with no odd run of backslashes before.
-- end             where it ends, from an offset on
-- over, closed    the end of the text; the quote
-- plain           a byte that is neither the quote nor a backslash
-- end_first       up to the first quote or backslash
-- first_last, first_escaped, first_past   and over the backslash: at the end of the text; with the byte after it; either
-- ended           the definition
-- Assumes nothing.
use mathlib.Core.Path.{◌≡◌, refl, sym, ap, ◌∙◌}
use mathlib.Core.Bool.{Bool, true, false}
use mathlib.Core.List.{List}
use Prim.Native.Nat.{ℕ, ◌+◌, min, ◌≤◌, ◌<◌}
use native.Mathlib.Decide.{dec_lt}
use native.Mathlib.Omega.{arith}
use borrow.Author.Tests.{eq-eqb, ne_eqb}
use lib.ListN.{length, drop, get_or}
use Rattle.scans.specs.Scans.{scan, closes, escapes, reach, quote_len}
use Rattle.chars.specs.Steps.{offset}
use Rattle.scans.specs.Next.{FirstOf}
use Rattle.scans.specs.Whole.{Whole}
use Rattle.scans.proofs.Nones.{neither, second}
use Rattle.scans.proofs.ByteScans.{byte_reach, byte_on, byte_off, byte_end, byte_first, quote_passes}

abbrev pub end : List ℕ → ℕ → ℕ → ℕ
end t quote at = at + quote_len quote (drop at t)

module _ (t : List ℕ) (quote at : ℕ) where
  pub over : length t ≤ at → end t quote at ≡ at
  over l = byte_end (closes quote) escapes t at false l

  pub end_first : (to : ℕ) → FirstOf quote 92 t at to → end t quote at ≡ end t quote to
  end_first to f = byte_first (closes quote) escapes t false quote 92 (neither quote 92) at to f

  module _ (h : at < length t) where
    pub closed : get_or t at 0 ≡ quote → end t quote at ≡ at
    closed e = byte_off (closes quote) escapes t at false h (eq-eqb (get_or t at 0) quote e)

    module _ (n : get_or t at 0 ≡ quote → ⊥) where
      on : end t quote at ≡ at + 1 + scan (closes quote) escapes (escapes false (get_or t at 0)) (drop (at + 1) t)
      on = byte_on (closes quote) escapes t at false h (ne_eqb (get_or t at 0) quote n)

      pub plain : (get_or t at 0 ≡ 92 → ⊥) → end t quote at ≡ end t quote (at + 1)
      plain m = on ∙ ap (λ (o : Bool). at + 1 + scan (closes quote) escapes o (drop (at + 1) t)) (ne_eqb (get_or t at 0) 92 m)

      module _ (e : get_or t at 0 ≡ 92) where
        slash : end t quote at ≡ at + 1 + scan (closes quote) escapes true (drop (at + 1) t)
        slash = on ∙ ap (λ (o : Bool). at + 1 + scan (closes quote) escapes o (drop (at + 1) t)) (eq-eqb (get_or t at 0) 92 e)

        last : length t ≤ at + 1 → end t quote at ≡ at + 1
        last l = slash ∙ byte_end (closes quote) escapes t (at + 1) true l

        escaped : at + 1 < length t → end t quote at ≡ end t quote (at + 1 + 1)
        escaped l = slash ∙ byte_on (closes quote) escapes t (at + 1) true l refl

module _ (t : List ℕ) (quote at to : ℕ) (f : FirstOf quote 92 t at to) (h : to < length t) (n : get_or t to 0 ≡ quote → ⊥) where
  is_slash : get_or t to 0 ≡ 92
  is_slash = second quote 92 (get_or t to 0) (f.found h) n

  pub first_last : length t ≤ to + 1 → end t quote at ≡ end t quote (to + 1)
  first_last l = end_first t quote at to f ∙ last t quote to h n is_slash l ∙ sym (over t quote (to + 1) l)

  pub first_escaped : to + 1 < length t → end t quote at ≡ end t quote (to + 1 + 1)
  first_escaped l = end_first t quote at to f ∙ escaped t quote to h n is_slash l

  -- as the code goes on: over the backslash and the byte after it, or to the end of the text
  pub first_past : (m : ℕ) → m ≡ min (length t) (to + 2) → end t quote at ≡ end t quote m
  first_past m e = go (dec_lt (to + 1) (length t))
    where
      go : Dec (to + 1 < length t) → end t quote at ≡ end t quote m
      go (yes l) = let d : m ≡ to + 1 + 1 = omega (arith, e) in rw d (first_escaped l)
      go (no l) = let d : m ≡ to + 1 = omega (arith, e, h) in rw d (first_last (omega arith))

-- the scan over bytes ends where the definition has it
pub ended : (t : List ℕ) (quote from at to : ℕ) → Whole t from → quote < 0x80 → end t quote from ≡ end t quote at → end t quote at ≡ to
    → offset to ≡ offset (reach (quote_len quote) t from)
ended t quote from at to w q i e = ap offset (sym (sym (byte_reach (closes quote) escapes (quote_passes quote q) t from false w) ∙ i ∙ e))
