-- Demand 2: ".. All answers are proved equal to the rules in document 01, and validity to RFC 3629."
-- That the tokens, lists and texts equal the Rust's is shown by running both: docs/COMPARISON.md.
-- lex_rules, sanitize_rules, write_rules, string_rules, content-rules   the contract of each public function, as the checker reads it off its
--                  clauses: the answer and every word of the lent buffers, by the definitions
-- valid_encodes, encodes_valid   a text is valid exactly when it is the encoding of some scalar values
-- bad_breaks, breaks_bad, breaks_once   the offset that refusal 2 gives is the one at which the encoding of scalar values breaks off
-- tables_ruled     the tables of letters and digits meet the rule at each of their pairs
-- Assumes nothing.
use contract.Lifetimes.{Lfts}
use borrow.Fn.Kinds.{Dens, res_t, ended_of}
use denote.Triple.Clauses.{AtExit}
use mathlib.Core.Path.{◌≡◌, sym}
use mathlib.Core.Bool.{true}
use mathlib.Core.List.{List}
use mathlib.Core.Option.{none, some}
use Prim.Native.Nat.{ℕ}
use Rattle.chars.specs.Utf8.{chars, encode_all, all_scalars, first_bad, BreaksAt}
use Rattle.chars.proofs.Whole.{whole}
use Rattle.chars.proofs.Encoded.{encoded_valid}
use Rattle.chars.proofs.Rfc.{chars_scalars}
use Rattle.chars.proofs.Breaks as offset
use Rattle.chars.specs.Pairs.{alphabetic_pairs, numeric_pairs}
use Rattle.chars.specs.Table.{Ruled}
use Rattle.chars.proofs.Rule.{alphabetic_ruled, numeric_ruled}
use Rattle.tokens.specs.Content.{HandsOut}
use Rattle.lexer.specs.Lexes.{Lexes}
use Rattle.sanitizer.specs.Promise.{Sanitizes}
use Rattle.writer.specs.Promise.{Writes}
use Rattle.sql_lexer.specs.Promise.{SanitizesString}
use Rattle.sql_lexer.proofs.lex.Kinds as lex-kinds
use Rattle.sql_lexer.proofs.lex.Reads as lex-reads
use Rattle.sql_lexer.proofs.sanitize.Kinds as sanitize-kinds
use Rattle.sql_lexer.proofs.sanitize.Reads as sanitize-reads
use Rattle.sql_lexer.proofs.write.Kinds as write-kinds
use Rattle.sql_lexer.proofs.write.Reads as write-reads
use Rattle.sql_lexer.proofs.sanitize_string.Kinds as string-kinds
use Rattle.sql_lexer.proofs.sanitize_string.Reads as string-reads
use Rattle.sql_lexer.proofs.buffer_content.Kinds as content-kinds
use Rattle.sql_lexer.proofs.buffer_content.Reads as content-reads

-- `lex(text, slots)`
pub lex_rules : (κs : Lfts 2) (a : Dens κs lex-kinds.ps) (r : (res_t lex-kinds.r κs).Denot) (s : AtExit (ended_of 2 lex-kinds.ps lex-kinds.r) κs)
    → lex-reads.Post κs a r s → Lexes a.0.now a.1.0.now r s.1.0.now
lex_rules κs a r s p = p

-- `sanitize(slots, count)`
pub sanitize_rules : (κs : Lfts 1) (a : Dens κs sanitize-kinds.ps) (r : (res_t sanitize-kinds.r κs).Denot) (s : AtExit (ended_of 1 sanitize-kinds.ps sanitize-kinds.r) κs)
    → sanitize-reads.Post κs a r s → Sanitizes a.0.now a.1.0 r s.0.now
sanitize_rules κs a r s p = p

-- `write(text, slots, count, out)`
pub write_rules : (κs : Lfts 3) (a : Dens κs write-kinds.ps) (r : (res_t write-kinds.r κs).Denot) (s : AtExit (ended_of 3 write-kinds.ps write-kinds.r) κs)
    → write-reads.Post κs a r s → Writes a.0.now a.1.0.now a.1.1.0 a.1.1.1.0.now r s.1.1.1.0.now
write_rules κs a r s p = p

-- `sanitize_string(text, slots, out)`
pub string_rules : (κs : Lfts 3) (a : Dens κs string-kinds.ps) (r : (res_t string-kinds.r κs).Denot) (s : AtExit (ended_of 3 string-kinds.ps string-kinds.r) κs)
    → string-reads.Post κs a r s → SanitizesString a.0.now a.1.0.now a.1.1.0.now r s.1.0.now s.1.1.0.now
string_rules κs a r s p = p

-- `buffer_content(text, start, end)`
pub content-rules : (κs : Lfts 1) (a : Dens κs content-kinds.ps) (r : (res_t content-kinds.r κs).Denot) (s : AtExit (ended_of 1 content-kinds.ps content-kinds.r) κs)
    → content-reads.Post κs a r s → HandsOut a.0 a.1.0.0 a.1.1.0.0 r
content-rules κs a r s p = p

-- ---- validity, RFC 3629
pub valid_encodes : (text : List ℕ) → first_bad text ≡ none → (cs : List ℕ) × (all_scalars cs ≡ true) × (text ≡ encode_all cs)
valid_encodes text e = (chars text, chars_scalars text, sym (whole text e))

pub encodes_valid : (cs : List ℕ) → all_scalars cs ≡ true → first_bad (encode_all cs) ≡ none
encodes_valid cs e = encoded_valid cs e

pub bad_breaks : (text : List ℕ) (at : ℕ) → first_bad text ≡ some at → BreaksAt text at
bad_breaks = offset.bad_breaks

pub breaks_bad : (text : List ℕ) (at : ℕ) → BreaksAt text at → first_bad text ≡ some at
breaks_bad = offset.breaks_bad

pub breaks_once : (text : List ℕ) (at at' : ℕ) → BreaksAt text at → BreaksAt text at' → at ≡ at'
breaks_once = offset.breaks_once

pub tables_ruled : Ruled alphabetic_pairs × Ruled numeric_pairs
tables_ruled = (alphabetic_ruled, numeric_ruled)
