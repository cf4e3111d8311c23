-- The part of a statement that a token stands for. Assumes nothing.
use Rattle.std.specs.Prelude.{◌≡◌, Bool, cond, ◌&&◌, List, [], ℕ, ◌+◌, ◌-◌, leb, length, take, drop}
use Rattle.std.specs.Borrow.{Bor}

-- the end is not before the start, and neither is beyond the text
unfoldable pub within : List ℕ → ℕ → ℕ → Bool
within text start end = leb start end && leb end (length text)

-- the bytes from start up to, not including, end; none where they are not within the text
unfoldable pub content : List ℕ → ℕ → ℕ → List ℕ
content text start end = cond (within text start end) (take (end - start) (drop start text)) []

-- where that part begins: at start, and where they are not within the text, at the text's own beginning
unfoldable pub begins : List ℕ → ℕ → ℕ → ℕ
begins text start end = cond (within text start end) start 0

-- a slice that is handed out is that part of the lent text itself: its bytes, and where it points, so many bytes from where the text does
-- (a pointer is a block of memory and an offset in it)
pub record HandsOut (text : Bor (List ℕ)) (start end : ℕ) (part : Bor (List ℕ)) : Type 0 where
  pub bytes : part.now ≡ content text.now start end
  pub points : part.ref_ptr ≡ (text.ref_ptr.0, begins text.now start end + text.ref_ptr.1)
