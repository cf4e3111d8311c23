-- No second frame meets the promise of a line.
-- leaves_one, frames_one, prints_one   two ways to leave the buffers, two answers, two pages that meet the promise are the same
-- frame_unique    the same of the contract of `frame_line`, as the check reads it off the function's clauses
-- print_unique    and of `print_frame`'s; both name every lent buffer that is written in
-- Assumes nothing.
use contract.Lifetimes.{Lfts}
use borrow.Fn.Kinds.{Dens, res_t, ended_of}
use denote.Triple.Clauses.{AtExit}
use mathlib.Core.Path.{◌≡◌, sym, ◌∙◌}
use mathlib.Core.List.{List}
use Prim.Native.Nat.{ℕ}
use Rattle.frames.specs.declared.Frame.{Frame}
use Rattle.frames.specs.declared.Work.{Work}
use Rattle.frames.specs.Frames.{Leaves, FramesLine, Prints, SameBuffers}
use Rattle.frames.proofs.frame_line.Kinds as kinds
use Rattle.frames.proofs.frame_line.Reads as reads
use Rattle.frames.proofs.print_frame.Kinds as print-kinds
use Rattle.frames.proofs.print_frame.Reads as print-reads

module _ {line text ws out : List ℕ} {t₁ w₁ o₁ t₂ w₂ o₂ : List ℕ} where
  pub leaves_one : Leaves line text ws out t₁ w₁ o₁ → Leaves line text ws out t₂ w₂ o₂ → (t₁ ≡ t₂) × (w₁ ≡ w₂) × (o₁ ≡ o₂)
  leaves_one p q = (p.statement ∙ sym q.statement, p.slots ∙ sym q.slots, p.output ∙ sym q.output)

  pub frames_one : {r₁ r₂ : Frame} → FramesLine line text ws out r₁ t₁ w₁ o₁ → FramesLine line text ws out r₂ t₂ w₂ o₂
      → (r₁ ≡ r₂) × (t₁ ≡ t₂) × (w₁ ≡ w₂) × (o₁ ≡ o₂)
  frames_one p q = let l = leaves_one p.left q.left in (p.answer ∙ sym q.answer, l.0, l.1, l.2)

pub prints_one : {line page : List ℕ} {at r₁ r₂ : ℕ} {p₁ p₂ : List ℕ} → Prints line page at r₁ p₁ → Prints line page at r₂ p₂ → (r₁ ≡ r₂) × (p₁ ≡ p₂)
prints_one p q = (p.put.next ∙ sym q.put.next, p.put.left ∙ sym q.put.left)

-- the three buffers are the same, however it ends
same_both : {w v u : Work} → SameBuffers w v → SameBuffers w u → SameBuffers v u
same_both p q = record { text = q.text ∙ sym p.text; slots = q.slots ∙ sym p.slots; out = q.out ∙ sym p.out }

-- for whatever lifetimes and arguments: one result, and one content of what is lent: the text, the slots and the output
pub frame_unique : (κs : Lfts 3) (a : Dens κs kinds.ps) (r₁ r₂ : (res_t kinds.r κs).Denot) (s₁ s₂ : AtExit (ended_of 3 kinds.ps kinds.r) κs)
    → reads.Post κs a r₁ s₁ → reads.Post κs a r₂ s₂
    → ((r₁ ≡ r₂) × (s₁.1.0.now.text.now ≡ s₂.1.0.now.text.now) × (s₁.1.0.now.slots.now ≡ s₂.1.0.now.slots.now) × (s₁.1.0.now.out.now ≡ s₂.1.0.now.out.now))
    × SameBuffers s₁.1.0.now s₂.1.0.now
frame_unique κs a r₁ r₂ s₁ s₂ p q = (frames_one p.0 q.0, same_both p.1 q.1)

-- one count, and one content of what is lent and of the page
pub print_unique : (κs : Lfts 4) (a : Dens κs print-kinds.ps) (r₁ r₂ : (res_t print-kinds.r κs).Denot) (s₁ s₂ : AtExit (ended_of 4 print-kinds.ps print-kinds.r) κs)
    → print-reads.Post κs a r₁ s₁ → print-reads.Post κs a r₂ s₂
    → (r₁ ≡ r₂) × (s₁.1.0.now.text.now ≡ s₂.1.0.now.text.now) × (s₁.1.0.now.slots.now ≡ s₂.1.0.now.slots.now) × (s₁.1.0.now.out.now ≡ s₂.1.0.now.out.now)
    × (s₁.1.1.0.now ≡ s₂.1.1.0.now) × SameBuffers s₁.1.0.now s₂.1.0.now
print_unique κs a r₁ r₂ s₁ s₂ p q =
    let l = leaves_one p.1.0 q.1.0 in
    let f = prints_one p.0 q.0 in
    (f.0, l.0, l.1, l.2, f.1, same_both p.1.1 q.1.1)
