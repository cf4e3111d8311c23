-- Document 01's five lines and their frames, computed.
-- five_right     each line's frame as it is printed, by the definitions that the contracts cite
-- Assumes nothing.
use mathlib.Core.Path.{◌≡◌, refl}
use mathlib.Core.List.{List, [], ◌∷◌, map}
use Prim.Native.String.{String}
use Rattle.chars.specs.Utf8.{front, joined, ranged, follows, is_scalar, chars_from, chars, bad_from, first_bad, encode, encode_all, width}
use Rattle.chars.specs.Table as table
use Rattle.chars.specs.Pairs.{alphabetic_pairs, numeric_pairs}
use Rattle.chars.specs.Class.{alphabetic, numeric}
use Rattle.tokens.specs.Kinds as kind
use Rattle.tokens.specs.Formed.{carries_offsets}
use Rattle.tokens.specs.Content.{within, content}
use Rattle.tokens.specs.Checks.{check_text}
use Rattle.tokens.specs.Texts.{ascii, texts, text_of}
use Rattle.scans.specs.Scans.{scan, span, in_line, in_run, in_charset, in_word, in_number, goes_on}
use Rattle.words.specs.Known.{words, runs, zeros, rows_of, known_kind}
use Rattle.lexer.specs.Rules.{rule_of, quoted, line, block, numbered, run, charset, word, number, by_rule, read_one}
use Rattle.lexer.specs.Read.{go, reading}
use Rattle.lexer.specs.Lexes.{valid_answer, lex_answer}
use Rattle.sanitizer.specs.Arms.{rules, arm_of, does_of}
use Rattle.sanitizer.specs.Scans.{close_from, rows_from}
use Rattle.sanitizer.specs.Run as sanitizer
use Rattle.sanitizer.specs.Run.{sanitized, turn, turn_by, blank}
use Rattle.sanitizer.specs.Exposed.{exposed}
use Rattle.writer.specs.Written.{token_text, written}
use Rattle.writer.specs.Promise.{check_out}
use Rattle.sql_lexer.specs.Promise.{sanitized_tokens, shape, figures, string_answer}
use Rattle.frames.specs.Hex.{hex_value, first_not_hex, hex_bytes, hex_digit, hex_text}
use Rattle.frames.specs.Frames.{check_line, line_answer, frame_of, big_endian, printed}

-- the lines
abbrev lines : List String
lines = "61203d2031" ∷ "61202162" ∷ "4" ∷ "ff" ∷ "" ∷ []

-- what is printed of them
abbrev frames : List String
frames = "000000000561203d203f\n" ∷ "01000000026120\n" ∷ "1800000001\n" ∷ "1200000000\n" ∷ "0000000000\n" ∷ []

pub five_right : map (λ (l : String). printed (frame_of (ascii l))) lines ≡ map ascii frames
unfolding chars chars_from front joined ranged follows is_scalar width encode encode_all table.within alphabetic_pairs numeric_pairs alphabetic numeric
    first_bad bad_from check_text valid_answer lex_answer check_out string_answer
    text_of texts scan span in_line in_run in_charset in_word in_number goes_on words runs zeros rows_of known_kind
    rule_of quoted line block numbered run charset word number by_rule read_one go reading
    sanitized sanitizer.run turn turn_by close_from rows_from blank rules arm_of does_of kind.is_operator kind.is_keyword kind.is_indicator exposed
    kind.is_quoted carries_offsets within content token_text written sanitized_tokens shape figures
    hex_value first_not_hex hex_bytes hex_digit hex_text check_line line_answer frame_of big_endian printed
five_right = refl
