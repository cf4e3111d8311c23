-- `shape::Held::feed` meets its contract. The invariant: the characters passed are taken. Assumes nothing.
use Rattle.std.proofs.Common.{◌≡◌, ℕ, ◌+◌, ◌<◌, List, [], ◌∷◌, ◌++◌, length, get_or, take, sym, ap, ◌∙◌, subst, add-one, take-suc}
use Rattle.shape.specs.Passes.{Passes}
use Rattle.shape.proofs.Passing.{passes_none, passes_more}
use Rattle.shape.proofs.Held.feed.Goals as goal

-- the characters passed, with the next
next : (chunk : List ℕ) (i : ℕ) → i < length chunk → take (i + 1) chunk ≡ take i chunk ++ (get_or chunk i 0 ∷ [])
next chunk i h = ap (λ (k : ℕ). take k chunk) (add-one i) ∙ take-suc chunk i 0 h

pub loop-c-init : goal.loop-c-init
loop-c-init c = passes_none _

pub loop-c-preserved : goal.loop-c-preserved
loop-c-preserved c =
    let l = c.loop-c in
    subst (λ (cs : List ℕ). Passes cs c.args.self.now c.step.new.self) (sym (next c.args.chunk.now l.c-index c.loop-c-test.true))
    (passes_more l.invariant c.make_room.ensures c.step.ensures)
