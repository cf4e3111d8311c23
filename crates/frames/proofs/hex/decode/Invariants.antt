-- `frames::hex::decode` meets its contract. The invariant: the bytes so far lie over the front, and those that are left follow. Assumes nothing.
use Rattle.std.proofs.Common.{◌≡◌, ◌++◌, ◌*◌, take, drop}
use Rattle.frames.specs.Hex.{hex_bytes}
use Rattle.frames.proofs.hex.decode.Given as goal

abbrev pub invariant-loop-i : goal.invariant-loop-i
invariant-loop-i l = (hex_bytes l.line ≡ take l.i l.text ++ hex_bytes (drop (l.i * 2) l.line)) × (drop l.i l.text ≡ drop l.i l.initial.text)
