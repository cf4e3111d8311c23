-- `lexer::rule::rule_at` meets its contract: an ASCII character is its byte, and past 0x80 only the classes matter. Assumes nothing.
use mathlib.Core.Path.{◌≡◌, sym, ◌∙◌}
use native.Mathlib.Omega.{arith}
use Prim.Native.Nat.{ℕ, ◌≤◌}
use mathlib.Core.List.{List}
use Rattle.lexer.specs.declared.rule.State.{State}
use lib.ListN.{get_or, drop}
use Rattle.chars.specs.Utf8.{chars}
use Rattle.lexer.specs.declared.rule.Rule.TheVariants.{Unknown}
use Rattle.scans.specs.Ways.{pinned}
use Rattle.lexer.specs.Rules.{others, rule_of}
use Rattle.lexer.specs.Read.{on_chars}
use Rattle.scans.proofs.Characters.{Here, stands, readable_here, whole-ascii, ascii_here, lead_high}
use Rattle.lexer.proofs.Choice.{rule_wide}
use Rattle.lexer.proofs.rule.rule_at.Goals as goal

pub bounds-text-i : goal.bounds-text-i
bounds-text-i c = omega (arith, c.requires.here)

pub overflow_add-i : goal.overflow_add-i
overflow_add-i c = omega (arith, c.requires.here)

pub ascii_rule-requires : goal.ascii_rule-requires
ascii_rule-requires c =
    record { whole = whole-ascii c.args.text.now c.args.at.0 c.requires.rest c.requires.here c.if-b-lt128.true; b_bound = c.if-b-lt128.true }

pub returns-then-b-lt128 : goal.returns-then-b-lt128
returns-then-b-lt128 c =
    rw (ascii_here c.args.text.now c.args.at.0 c.requires.here c.if-b-lt128.true) c.ascii_rule.ensures

-- what the classes say is what the rules say
from : (text : List ℕ) (at : ℕ) (state : State) → Here text at → 0x80 ≤ get_or text at 0
    → on_chars Unknown (λ d ds. others pinned d) (chars (drop at text)) ≡ on_chars Unknown (rule_of pinned state) (chars (drop at text))
from text at state (stands d next p e v) h =
    rw p.reads (sym (rule_wide pinned state d (chars (drop next text)) (lead_high text at d next e h)))

pub returns : goal.returns
returns c =
    c.wide_rule.ensures ∙ from c.args.text.now c.args.at.0 c.args.state (readable_here c.args.text.now c.args.at.0 c.requires) c.if-b-lt128.false
