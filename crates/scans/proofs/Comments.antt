-- Turns of the scan for the end of a comment (rule 3), over bytes.
-- seen, end            what the scan has seen; where it ends, from an offset on, after a `*` or not
-- goes_on_lem, out, closes   after a `*`: no `/`; the end of the text; a `/`
-- skip, star           up to the first `*`, and over it
-- opened, stopped      the definition, where a `*` stands before, and where none does
-- Assumes nothing.
use mathlib.Core.Path.{◌≡◌, refl, sym, ap, ◌∙◌}
use mathlib.Core.Bool.{Bool, true, false, or_self}
use mathlib.Core.List.{List, [], ◌∷◌}
use Prim.Native.Nat.{ℕ, ◌+◌, ◌≤◌, ◌<◌}
use native.Mathlib.Nat.{add-zero}
use native.Mathlib.Decide.{dec_lt}
use native.Mathlib.Omega.{arith}
use borrow.Author.Tests.{eq-eqb, ne_eqb}
use lib.Dec.{eqb}
use lib.ListN.{length, drop, get_or}
use Rattle.chars.specs.Utf8.{chars}
use Rattle.chars.specs.Steps.{offset}
use Rattle.scans.specs.Scans.{Before, scan, bytes, ended, then, reach, block_len}
use Rattle.scans.specs.Next.{is_of, FirstOf}
use Rattle.scans.specs.Whole.{Whole}
use Rattle.scans.proofs.Nones.{neither}
use Rattle.scans.proofs.ByteScans.{byte_reach, byte_on, byte_off, byte_end, byte_first, block_passes}

abbrev pub seen : Bool → Bool → Before
seen star closed = record { star = star; closed = closed }

-- where the scan over bytes ends, from the offset at on, after a `*` or not
abbrev pub end : List ℕ → Bool → ℕ → ℕ
end t star at = at + scan ended then (seen star false) (drop at t)

-- what stands at the offset at, after a `*`: no `/`, or the end of the text; a `/`
module _ (t : List ℕ) (at : ℕ) where
  pub goes_on_lem : at < length t → (get_or t at 0 ≡ 47 → ⊥) → end t true at ≡ end t false at
  goes_on_lem h n =
      byte_on ended then t at (seen true false) h refl
      ∙ ap (λ (z : Bool). at + 1 + scan ended then (seen (eqb (get_or t at 0) 42) z) (drop (at + 1) t)) (ne_eqb (get_or t at 0) 47 n)
      ∙ sym (byte_on ended then t at (seen false false) h refl)

  pub out : (star closed : Bool) → length t ≤ at → at + scan ended then (seen star closed) (drop at t) ≡ at
  out star closed l = byte_end ended then t at (seen star closed) l

  pub closes : at < length t → get_or t at 0 ≡ 47 → end t true at ≡ at + 1
  closes h e =
      byte_on ended then t at (seen true false) h refl
      ∙ ap (λ (z : Bool). at + 1 + scan ended then (seen (eqb (get_or t at 0) 42) z) (drop (at + 1) t)) (eq-eqb (get_or t at 0) 47 e)
      ∙ go (dec_lt (at + 1) (length t))
    where
      go : Dec (at + 1 < length t) → at + 1 + scan ended then (seen (eqb (get_or t at 0) 42) true) (drop (at + 1) t) ≡ at + 1
      go (yes l) = byte_off ended then t (at + 1) (seen (eqb (get_or t at 0) 42) true) l refl
      go (no l) = byte_end ended then t (at + 1) (seen (eqb (get_or t at 0) 42) true) (omega arith)

-- up to the first `*`, and over it
module _ (t : List ℕ) (at to : ℕ) (f : FirstOf 42 42 t at to) where
  pub skip : end t false at ≡ end t false to
  skip = byte_first ended then t (seen false false) 42 42 (λ c e. (refl, ap (λ (z : Bool). seen z false) (neither 42 42 c e).0)) at to f

  pub star : to < length t → end t false at ≡ end t true (to + 1)
  unfolding is_of
  star h =
      skip
      ∙ byte_on ended then t to (seen false false) h refl
      ∙ ap (λ (z : Bool). to + 1 + scan ended then (seen z false) (drop (to + 1) t)) (sym (or_self (eqb (get_or t to 0) 42)) ∙ f.found h)

-- a `*` before: the comment is over
pub opened : (t : List ℕ) (from : ℕ) → reach (block_len true) t from ≡ from
unfolding reach scan
opened t from = go (chars (drop from t))
  where
    go : (cs : List ℕ) → from + bytes (block_len true cs) cs ≡ from
    go [] = add-zero from
    go (c ∷ cs) = add-zero from

-- the scan over bytes ends where the definition has it
pub stopped : (t : List ℕ) (starred : Bool) (from at to : ℕ) → Whole t from → starred ≡ false → end t false from ≡ end t false at → end t false at ≡ to
    → offset to ≡ offset (reach (block_len starred) t from)
stopped t starred from at to w b i e =
    ap offset (sym (sym (byte_reach ended then block_passes t from (seen false false) w) ∙ i ∙ e)
    ∙ ap (λ (b : Bool). reach (block_len b) t from) (sym b))
