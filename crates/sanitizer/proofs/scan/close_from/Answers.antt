-- `sanitizer::scan::close_from` meets its contract. The invariant: the scan from here on finds what the whole scan finds. Assumes nothing.
use mathlib.Core.Path.{◌≡◌, sym, ap, ◌∙◌}
use mathlib.Core.Bool.{Bool}
use mathlib.Core.List.{List}
use Prim.Native.Nat.{ℕ, ◌<◌}
use native.Mathlib.Omega.{arith}
use Rattle.tokens.specs.Slots.{slot_at, tokens_in}
use Rattle.tokens.proofs.Storing.{length-tokens}
use Rattle.sanitizer.specs.Scans.{kind_at, is_close}
use Rattle.sanitizer.proofs.Scanning.{kind_tokens, close_end, close_here, close_past}
use Rattle.sanitizer.proofs.scan.close_from.Goals as goal

-- the test is of the token in the slot
tested : (ws : List ℕ) (n p : ℕ) {k : ℕ} {r : Bool} → p < n → k ≡ (slot_at ws p).kind → r ≡ is_close k → is_close (kind_at (tokens_in ws n) p) ≡ r
tested ws n p h k r = sym (r ∙ ap is_close (k ∙ sym (kind_tokens ws n p h)))

pub returns-then-is_close : goal.returns-then-is_close
returns-then-is_close c =
    let a = c.args in
    let ws = a.slots.now in
    let l = length-tokens ws 0 a.count in
    (sym (close_here (tokens_in ws a.count) c.loop-at.at (omega arith) (tested ws a.count c.loop-at.at (omega arith) c.kind_at.ensures c.is_close.ensures ∙ c.if-is_close.true)) ∙ c.loop-at.invariant, omega arith, omega arith)

pub loop-at-preserved : goal.loop-at-preserved
loop-at-preserved c =
    let a = c.args in
    let ws = a.slots.now in
    let l = length-tokens ws 0 a.count in
    sym (close_past (tokens_in ws a.count) c.loop-at.at (omega arith) (tested ws a.count c.loop-at.at (omega arith) c.kind_at.ensures c.is_close.ensures ∙ c.if-is_close.false)) ∙ c.loop-at.invariant

pub returns : goal.returns
returns c =
    let a = c.args in
    let t = tokens_in a.slots.now a.count in
    let l = length-tokens a.slots.now 0 a.count in
    let e : a.count ≡ c.loop-at.at = omega arith in
    (e ∙ sym (close_end t c.loop-at.at (omega arith)) ∙ c.loop-at.invariant, omega arith, omega arith)
