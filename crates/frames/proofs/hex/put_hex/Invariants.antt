-- `frames::hex::put_hex` meets its contract. The invariant: the bytes so far stand as text behind the first `at`. Assumes nothing.
use Rattle.std.proofs.Common.{◌≡◌, ◌+◌, ◌*◌, take}
use Rattle.writer.specs.Promise.{Put}
use Rattle.frames.specs.Hex.{hex_text}
use Rattle.frames.proofs.hex.put_hex.Given as goal

abbrev pub invariant-loop-b : goal.invariant-loop-b
invariant-loop-b l = (l.end ≡ l.at + l.b-index * 2) × Put l.initial.page l.at (hex_text (take l.b-index l.bytes)) l.end l.page
