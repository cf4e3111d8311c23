-- `frames::hex::decode` meets its contract. The invariant: the bytes so far lie over the front, and those that are left follow. Assumes nothing.
use Rattle.std.proofs.Common.{◌≡◌, ℕ, ◌+◌, ◌*◌, ◌<◌, List, [], length, get_or, refl, sym, ap, ◌∙◌, arith}
use Rattle.std.specs.Simd.{first_chunks}
use Rattle.frames.specs.Hex.{hex_value, hex_read}
use Rattle.frames.proofs.Reading.{pair, pair_at, all_hex, read_some, read_is, decode_more, decoded}
use Rattle.frames.proofs.hex.decode.Goals as goal

-- the character j of the pair i, as the code reads it
char : {pairs : List (List ℕ)} (line : List ℕ) (k i j : ℕ) → pairs ≡ first_chunks 2 k line → i < k → j < 2
    → get_or (get_or pairs i []) j 0 ≡ get_or line (i * 2 + j) 0
char line k i j e h g = ap (λ (l : List (List ℕ)). get_or (get_or l i []) j 0) e ∙ pair_at k line i j h g

-- the byte of the two
byte : (line : List ℕ) (i : ℕ) {a b : ℕ} → a ≡ hex_value (get_or line (i * 2 + 0) 0) → b ≡ hex_value (get_or line (i * 2 + 1) 0) → a * 16 + b ≡ pair line (i * 2)
byte line i {a} {b} e f =
    let e' : a ≡ hex_value (get_or line (i * 2) 0) = e ∙ ap (λ (k : ℕ). hex_value (get_or line k 0)) (omega arith) in
    ap (λ (x : ℕ). x * 16 + b) e' ∙ ap (λ (y : ℕ). hex_value (get_or line (i * 2) 0) * 16 + y) f

pub unwrap-requires : goal.unwrap-requires
unwrap-requires c =
    let line = c.args.line.now in
    let e = char line _ c.loop-i.i 0 c.as_chunks.ensures.front (omega arith) (omega arith) in
    rw (c.hex_value.ensures ∙ ap hex_read e ∙ read_some _ (all_hex line c.requires.1 (c.loop-i.i * 2 + 0) (omega arith))) refl

pub unwrap-requires-in-loop-i : goal.unwrap-requires-in-loop-i
unwrap-requires-in-loop-i c =
    let line = c.args.line.now in
    let e = char line _ c.loop-i.i 1 c.as_chunks.ensures.front (omega arith) (omega arith) in
    rw (c.hex_value-in-loop-i.ensures ∙ ap hex_read e ∙ read_some _ (all_hex line c.requires.1 (c.loop-i.i * 2 + 1) (omega arith))) refl

pub loop-i-preserved : goal.loop-i-preserved
loop-i-preserved c =
    let l = c.loop-i in
    let line = c.args.line.now in
    let high = read_is _ (sym c.hex_value.ensures ∙ c.unwrap.ensures) ∙ ap hex_value (char line _ l.i 0 c.as_chunks.ensures.front (omega arith) (omega arith)) in
    let low = read_is _ (sym c.hex_value-in-loop-i.ensures ∙ c.unwrap-in-loop-i.ensures) ∙ ap hex_value (char line _ l.i 1 c.as_chunks.ensures.front (omega arith) (omega arith)) in
    decode_more line c.args.text.now l.text l.i l.invariant.0 l.invariant.1 _ (byte line l.i high low) (omega arith) (omega arith)

pub returns : goal.returns
returns c =
    let l = c.loop-i in
    let e : length c.as_chunks.result.0.now ≡ l.i = omega arith in
    rw e (decoded c.args.line.now c.args.text.now l.text l.i l.invariant.0 l.invariant.1 (omega arith) (omega arith))
