-- `writer::measure` meets its contract. The invariant: the total so far is the length of the text so far. It cannot overflow: 2^20 tokens
-- of little more than 2^20 bytes. Assumes nothing.
use mathlib.Core.Path.{◌≡◌, refl}
use Prim.Native.Nat.{◌+◌, ◌*◌, ◌≤◌}
use native.Mathlib.Omega.{arith}
use lib.ListN.{length}
use Rattle.tokens.specs.Slots.{tokens_from, tokens_in}
use Rattle.writer.specs.Written.{written}
use Rattle.writer.proofs.Lists.{token_limit, total_more}
use Rattle.writer.proofs.measure.Goals as goal

more : (c : goal.After-token_len-total)
    → let x = c.args in
    (c.loop-i.total + c.token_len-total.result ≡ length (written x.text.now (tokens_in x.slots.now (c.loop-i.i + 1))))
    × (c.loop-i.total + c.token_len-total.result ≤ (c.loop-i.i + 1) * token_limit)
more c =
    total_more c.args.text.now c.args.slots.now c.loop-i.i c.requires.0 c.slot_at.ensures c.token_len-total.ensures c.loop-i.invariant.0 c.loop-i.invariant.1

pub loop-i-init : goal.loop-i-init
unfolding written tokens_from
loop-i-init c = (refl, omega arith)

pub overflow_add-total : goal.overflow_add-total
overflow_add-total c = omega (arith, (more c).1)

pub loop-i-preserved : goal.loop-i-preserved
loop-i-preserved c = ((more c).0, (more c).1)
