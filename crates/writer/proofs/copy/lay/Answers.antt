-- `writer::copy::lay` meets its contract. Assumes nothing.
use mathlib.Core.Path.{sym, ap, ◌∙◌}
use mathlib.Core.List.{List}
use Prim.Native.Nat.{ℕ, ◌+◌}
use native.Mathlib.Numerals.{add-one}
use native.Mathlib.Omega.{arith}
use lib.ListN.{get_or, set, length-set}
use lib.Seq.{paste, paste-suc}
use Rattle.writer.proofs.copy.lay.Goals as goal

pub loop-i-preserved : goal.loop-i-preserved
loop-i-preserved c =
    let l = c.loop-i in
    let a = c.args in (
      length-set l.out (a.at + l.i) _ ∙ l.invariant.0,
      ap (λ (o : List ℕ). set o (a.at + l.i) (get_or a.bytes.now l.i 0)) l.invariant.1
          ∙ paste-suc a.out.now a.at a.bytes.now l.i 0 (omega arith) (omega arith)
          ∙ ap (λ (k : ℕ). paste a.out.now a.at a.bytes.now k) (sym (add-one l.i)),
    )
