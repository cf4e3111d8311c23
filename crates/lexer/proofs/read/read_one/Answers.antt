-- `lexer::read::read_one` meets its contract: the reader of the rule that the definition chooses. Assumes nothing.
use mathlib.Core.Path.{◌≡◌, refl, sym, ap, ◌∙◌, subst}
use mathlib.Core.Bool.{Bool, true}
use mathlib.Core.List.{List, ◌∷◌}
use Prim.Native.Nat.{ℕ, ◌<◌}
use native.Mathlib.Omega.{arith}
use lib.ListN.{drop}
use Rattle.chars.specs.Utf8.{chars}
use Rattle.chars.proofs.Stepping.{Stepped}
use Rattle.lexer.specs.declared.rule.Rule.{Rule}
use Rattle.lexer.specs.declared.rule.Rule.TheVariants as rule_is
use Rattle.lexer.specs.declared.rule.State.{State}
use Rattle.scans.specs.Ways.{pinned}
use Rattle.lexer.specs.Rules.{rule_of, by_rule, read_one, starts_word, starts_number}
use Rattle.scans.specs.Whole.{star_before, Readable}
use Rattle.lexer.specs.Read.{on_chars, step_of, read_by, Ascii, Leads}
use Rattle.scans.proofs.Characters.{Here, stands, readable_here, low_lead}
use Rattle.lexer.proofs.Choice.{Tells, rule_tells}
use Rattle.lexer.proofs.Steps.{read_at, single_read}
use Rattle.lexer.proofs.read.read_one.Goals as goal

-- what follows from the rule that was chosen
module _ (text : List ℕ) (at : ℕ) (state : State) (readable : Readable text at) (rule : Rule)
    (told : rule ≡ on_chars rule_is.Unknown (rule_of pinned state) (chars (drop at text))) (r : Rule) (is : rule ≡ r) where
  -- it is the definition's at the character that stands there
  chosen : (c next : ℕ) → Stepped text at c next → rule_of pinned state c (chars (drop next text)) ≡ r
  chosen c next p = sym (rw p.reads at told) ∙ is

  ascii_led : ((c : ℕ) (cs : List ℕ) → Tells pinned state c cs r → c < 0x80) → Ascii text at
  ascii_led f = from (readable_here text at readable)
    where
      from : Here text at → Ascii text at
      from (stands c next p i v) =
          let cs = chars (drop next text) in
          let l : c < 0x80 = f c cs (subst (Tells pinned state c cs) (chosen c next p) (rule_tells pinned state c cs)) in
          record { readable = readable; low = omega (arith, low_lead text at c next i l) }

  class_led : (q : ℕ → Bool) → ((c : ℕ) (cs : List ℕ) → Tells pinned state c cs r → q c ≡ true) → Leads q text at
  class_led q f = from (readable_here text at readable)
    where
      from : Here text at → Leads q text at
      from (stands c next p i v) =
          let cs = chars (drop next text) in
          record { readable = readable; leads = rw p.reads (f c cs (subst (Tells pinned state c cs) (chosen c next p) (rule_tells pinned state c cs))) }

  -- what that rule reads is what is read
  ruled : let star = star_before text at in read_by (by_rule r pinned star) text at ≡ read_by (read_one pinned star state) text at
  ruled = from (readable_here text at readable)
    where
      from : Here text at → let star = star_before text at in read_by (by_rule r pinned star) text at ≡ read_by (read_one pinned star state) text at
      from (stands c next p i v) =
          let star = star_before text at in
          let cs = chars (drop next text) in
          let one : step_of at (c ∷ cs) (by_rule (rule_of pinned state c cs) pinned star c cs) ≡ step_of at (c ∷ cs) (read_one pinned star state c cs) =
          unfold read_one in refl in
          read_at text at c next p (by_rule r pinned star)
          ∙ ap (λ (x : Rule). step_of at (c ∷ cs) (by_rule x pinned star c cs)) (sym (chosen c next p))
          ∙ one ∙ sym (read_at text at c next p (read_one pinned star state))

pub rule_at-requires : goal.rule_at-requires
rule_at-requires c = c.requires

pub read_quoted-requires : goal.read_quoted-requires
read_quoted-requires c = ascii_led c.args.text.now c.args.at.0 c.args.state c.requires c.rule_at.result c.rule_at.ensures _ c.in-Quoted.is (λ d ds h. h)

pub read_line-requires : goal.read_line-requires
read_line-requires c = ascii_led c.args.text.now c.args.at.0 c.args.state c.requires c.rule_at.result c.rule_at.ensures _ c.in-Line.is (λ d ds h. h)

pub read_block-requires : goal.read_block-requires
read_block-requires c = ascii_led c.args.text.now c.args.at.0 c.args.state c.requires c.rule_at.result c.rule_at.ensures _ c.in-Block.is (λ d ds h. h)

pub read_single-requires : goal.read_single-requires
read_single-requires c = omega (arith, c.requires.here, c.requires.rest.small)

pub read_numbered-requires : goal.read_numbered-requires
read_numbered-requires c = ascii_led c.args.text.now c.args.at.0 c.args.state c.requires c.rule_at.result c.rule_at.ensures _ c.in-Numbered.is (λ d ds h. h)

pub read_run-requires : goal.read_run-requires
read_run-requires c =
    ascii_led c.args.text.now c.args.at.0 c.args.state c.requires c.rule_at.result c.rule_at.ensures _ c.in-Run.is (λ d ds h. h)

pub read_charset-requires : goal.read_charset-requires
read_charset-requires c = ascii_led c.args.text.now c.args.at.0 c.args.state c.requires c.rule_at.result c.rule_at.ensures _ c.in-Charset.is (λ d ds h. h)

pub read_word-requires : goal.read_word-requires
read_word-requires c =
    class_led c.args.text.now c.args.at.0 c.args.state c.requires c.rule_at.result c.rule_at.ensures _ c.in-Word.is (starts_word pinned) (λ d ds h. h)

pub read_number-requires : goal.read_number-requires
read_number-requires c =
    class_led c.args.text.now c.args.at.0 c.args.state c.requires c.rule_at.result c.rule_at.ensures _ c.in-Number.is (starts_number pinned) (λ d ds h. h)

pub returns-in-Quoted : goal.returns-in-Quoted
unfolding by_rule
returns-in-Quoted c = c.read_quoted.ensures ∙ ruled c.args.text.now c.args.at.0 c.args.state c.requires c.rule_at.result c.rule_at.ensures _ c.in-Quoted.is

pub returns-in-Line : goal.returns-in-Line
unfolding by_rule
returns-in-Line c = c.read_line.ensures ∙ ruled c.args.text.now c.args.at.0 c.args.state c.requires c.rule_at.result c.rule_at.ensures _ c.in-Line.is

pub returns-in-Block : goal.returns-in-Block
unfolding by_rule
returns-in-Block c = c.read_block.ensures ∙ ruled c.args.text.now c.args.at.0 c.args.state c.requires c.rule_at.result c.rule_at.ensures _ c.in-Block.is

pub returns-in-Single : goal.returns-in-Single
unfolding by_rule
returns-in-Single c =
    c.read_single.ensures ∙ single_read c.args.text.now c.args.at.0 (ascii_led c.args.text.now c.args.at.0 c.args.state c.requires c.rule_at.result c.rule_at.ensures _ c.in-Single.is (λ d ds h. h)) _ ∙ ruled c.args.text.now c.args.at.0 c.args.state c.requires c.rule_at.result c.rule_at.ensures _ c.in-Single.is

pub returns-in-Numbered : goal.returns-in-Numbered
unfolding by_rule
returns-in-Numbered c = c.read_numbered.ensures ∙ ruled c.args.text.now c.args.at.0 c.args.state c.requires c.rule_at.result c.rule_at.ensures _ c.in-Numbered.is

pub returns-in-Run : goal.returns-in-Run
unfolding by_rule
returns-in-Run c = c.read_run.ensures ∙ ruled c.args.text.now c.args.at.0 c.args.state c.requires c.rule_at.result c.rule_at.ensures _ c.in-Run.is

pub returns-in-Charset : goal.returns-in-Charset
unfolding by_rule
returns-in-Charset c = c.read_charset.ensures ∙ ruled c.args.text.now c.args.at.0 c.args.state c.requires c.rule_at.result c.rule_at.ensures _ c.in-Charset.is

pub returns-in-Word : goal.returns-in-Word
unfolding by_rule
returns-in-Word c = c.read_word.ensures ∙ ruled c.args.text.now c.args.at.0 c.args.state c.requires c.rule_at.result c.rule_at.ensures _ c.in-Word.is

pub returns-in-Number : goal.returns-in-Number
unfolding by_rule
returns-in-Number c = c.read_number.ensures ∙ ruled c.args.text.now c.args.at.0 c.args.state c.requires c.rule_at.result c.rule_at.ensures _ c.in-Number.is

pub returns-in-Unknown : goal.returns-in-Unknown
unfolding by_rule
returns-in-Unknown c = c.read_unknown.ensures ∙ ruled c.args.text.now c.args.at.0 c.args.state c.requires c.rule_at.result c.rule_at.ensures _ c.in-Unknown.is
