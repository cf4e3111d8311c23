-- What chars answers, as numbers for C and Rust to read. Assumes nothing.
use Rattle.std.specs.Prelude.{ℕ}
use Rattle.std.proofs.Math.Option.{Option, none, some}
use Rattle.chars.specs.declared.utf8.Step.{Step}
use Rattle.chars.specs.declared.utf8.Step.TheVariants.{Char, Bad, End}
use Rattle.chars_c.specs.declared.HayStep.{HayStep}

-- the offset of the first bad byte, or the text's length
abbrev pub up_to : ℕ → Option ℕ → ℕ
up_to len none = len
up_to len (some at) = at

-- a step by its status: 0 a character, with its scalar value and the offset after it; 1 a byte at which none starts; 2 the end
abbrev pub numbers : Step → HayStep
numbers (Char s next) = record { status = 0; scalar = s; next = next.0 }
numbers Bad = record { status = 1; scalar = 0; next = 0 }
numbers End = record { status = 2; scalar = 0; next = 0 }
