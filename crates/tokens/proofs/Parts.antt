-- The part of a text by facts of numbers.
-- content-within, _back, _beyond   the three cases of `content`
-- length-content                   as long as its offsets say
-- handed_within, _back, _beyond    the three slices that the code hands out
-- Assumes nothing.
use mathlib.Core.Path.{◌≡◌}
use mathlib.Core.Bool.{true, false, and-false}
use mathlib.Core.List.{List, []}
use Prim.Native.Nat.{ℕ, ◌+◌, ◌-◌, ◌≤◌, ◌<◌}
use native.Mathlib.Omega.{arith}
use lib.ListN.{length, take, drop, length-take, length-drop}
use denote.Ref.{Bor}
use borrow.Author.Tests.{le-leb, lt-leb}
use Rattle.tokens.specs.Content.{within, content, begins, HandsOut}

module _ (text : List ℕ) (start end : ℕ) where
  inside : start ≤ end → end ≤ length text → within text start end ≡ true
  unfolding within
  inside h g = simp (le-leb start end h, le-leb end (length text) g)

  back : end < start → within text start end ≡ false
  unfolding within
  back h = simp (lt-leb start end h)

  beyond : length text < end → within text start end ≡ false
  unfolding within
  beyond h = simp (lt-leb end (length text) h, and-false)

  pub content-within : start ≤ end → end ≤ length text → content text start end ≡ take (end - start) (drop start text)
  unfolding content
  content-within h g = rw (inside h g)

  pub content_back : end < start → content text start end ≡ []
  unfolding content
  content_back h = rw (back h)

  pub content_beyond : length text < end → content text start end ≡ []
  unfolding content
  content_beyond h = rw (beyond h)

  pub length-content : start ≤ end → end ≤ length text → length (content text start end) ≡ end - start
  length-content h g = rw (content-within h g) (simp (length-take, length-drop) (omega arith))

-- the slice of some bytes of a text, so many bytes from where the text points
abbrev slice_at : Bor (List ℕ) → ℕ → List ℕ → Bor (List ℕ)
slice_at text first bytes = record { ref_ptr = (text.ref_ptr.0, first + text.ref_ptr.1); now = bytes }

module _ (text : Bor (List ℕ)) (start end : ℕ) where
  none : within text.now start end ≡ false → HandsOut text start end (slice_at text 0 [])
  unfolding content begins
  none e = record { bytes = rw e; points = rw e }

  pub handed_within : start ≤ end → end ≤ length text.now → HandsOut text start end (slice_at text start (take (end - start) (drop start text.now)))
  unfolding content begins
  handed_within h g = let e = inside text.now start end h g in record { bytes = rw e; points = rw e }

  pub handed_back : end < start → HandsOut text start end (slice_at text 0 [])
  handed_back h = none (back text.now start end h)

  pub handed_beyond : length text.now < end → HandsOut text start end (slice_at text 0 [])
  handed_beyond h = none (beyond text.now start end h)
