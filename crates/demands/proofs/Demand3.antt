-- Demand 3: "Take two statements, neither too long nor invalid, whose readings by those rules have the same kinds of token place for place,
-- and whose surviving tokens carry the same text, an Unknown's character being its text. With buffers of equal size, the same places are
-- blanked or replaced, and the shape, its length, the token, room and exposed counts and any no-room refusal are the same. In particular, a
-- closed quoted token that the sanitiser blanks or replaces may hold any other content under which its closing quote is still the first
-- that closes it: if neither statement is refused, the shape is the same to the byte."
-- same_places      the same places survive, and the others hold the same token
-- same_shape       the same shape
-- same_call        the one call answers the same, but for the stop offset, and leaves the same shape
-- any_content      the second half: the same shape whatever the content
-- any_content_call the same of the one call
-- Assumes nothing.
use Rattle.std.specs.Prelude.{Result, Ok}
use Rattle.tokens.specs.declared.refusal.Refusal.{Refusal}
use Rattle.tokens.specs.Named.{number as number_of}
use Rattle.tokens.specs.declared.kind.Kind.{Kind}
use Rattle.tokens.specs.declared.kind.Kind.TheVariants as the
use mathlib.Core.Path.{◌≡◌, refl, sym, ap, subst, ◌∙◌}
use mathlib.Core.Bool.{Bool, true, false, cond}
use mathlib.Core.List.{List, [], ◌∷◌, ◌++◌}
use mathlib.Core.Logic.{inl, inr}
use Prim.Native.Nat.{ℕ, ◌+◌, ◌/◌, ◌<◌}
use native.Mathlib.Omega.{arith}
use native.Mathlib.Decide.{ℕ_discrete}
use lib.Dec.{ltb}
use lib.ListN.{length, get_or, take, drop}
use lib.Seq.{take-append_seam}
use Rattle.tokens.specs.Kinds as kind
use Rattle.tokens.specs.Slots.{words_per_slot, room}
use Rattle.tokens.specs.Answers.{Answer, done, no_room_tokens, no_room_out}
use Rattle.tokens.specs.Checks.{◌then◌, afterwards}
use Rattle.tokens.proofs.Checking.{text_within}
use Rattle.lexer.specs.declared.rule.State.{State}
use Rattle.lexer.specs.declared.rule.Rule.TheVariants.{Quoted}
use Rattle.scans.specs.Ways.{pinned}
use Rattle.lexer.specs.Rules.{rule_of}
use Rattle.lexer.specs.Read.{part_of, stop_at, reading}
use Rattle.lexer.specs.Lexes.{valid_answer, lex_answer}
use Rattle.lexer.proofs.Formed.{all_formed}
use Rattle.sanitizer.specs.Exposed.{exposed}
use Rattle.sanitizer.proofs.Alike.{length_same, same_kinds_same_count}
use Rattle.sanitizer.proofs.Keeping.{accepted_formed}
use Rattle.writer.specs.Written.{onto}
use Rattle.writer.specs.Promise.{check_out}
use Rattle.sql_lexer.specs.Promise.{paper, sanitized_tokens, shape, figures, string_answer, string_out, SanitizesString}
use Rattle.sql_lexer.specs.declared.Figures.{Figures}
use Rattle.sql_lexer.proofs.Same.{kept_same, put_same, sanitised_same}
use Rattle.sql_lexer.proofs.Content.{Apart, apart}
use Rattle.demands.specs.Terms.{Fit, tokens_of, sanitized_of, at, Survives, text_at, Alike, but_stop, shape_in, Quote, Closes}
use Rattle.demands.proofs.Demand1.{string_follows, string_leaves}

-- ---- the first half
module _ (x y : List ℕ) (alike : Alike x y) where
  -- where the tokens of a place are changed, they are changed to the same token
  pub same_places : (i : ℕ) → (Survives x i → Survives y i) × (Survives y i → Survives x i) × ((Survives x i → ⊥) → at (sanitized_of x) i ≡ at (sanitized_of y) i)
  unfolding sanitized_tokens
  same_places i = (
    kept_same (tokens_of x) (tokens_of y) alike.kinds (accepted_formed (tokens_of y) (all_formed pinned y)) i,
    kept_same (tokens_of y) (tokens_of x) (sym alike.kinds) (accepted_formed (tokens_of x) (all_formed pinned x)) i,
    put_same (tokens_of x) (tokens_of y) alike.kinds i,
  )

  pub same_shape : shape pinned x ≡ shape pinned y
  unfolding shape sanitized_tokens
  same_shape = sanitised_same x y (tokens_of x) (tokens_of y) alike.kinds alike.texts

  -- the token count, and the exposed count
  pub same_counts : (length (tokens_of x) ≡ length (tokens_of y)) × (exposed (sanitized_of x) ≡ exposed (sanitized_of y))
  unfolding sanitized_tokens
  same_counts = (length_same (tokens_of x) (tokens_of y) alike.kinds, same_kinds_same_count (tokens_of x) (tokens_of y) alike.kinds)

-- the one call on a statement that is neither too long nor invalid: refusal 3, refusal 7, or the figures
abbrev roomed : List ℕ → Bool → Bool → Answer
roomed text a b =
    cond a (no_room_tokens (length (tokens_of text))) (cond b (no_room_out (length (shape pinned text))) (done (figures pinned text)))

fit_answer : (text : List ℕ) (slots out : ℕ) → Fit text
    → string_answer pinned text slots out ≡ roomed text (ltb slots (length (tokens_of text))) (ltb out (length (shape pinned text)))
unfolding string_answer lex_answer valid_answer check_out
fit_answer text slots out f =
    rw (text_within text f.short, f.valid) (from (ltb slots (length (tokens_of text))) (ltb out (length (shape pinned text))))
  where
    from : (a b : Bool)
        → (cond a (no_room_tokens (length (tokens_of text))) (done (length (tokens_of text) ∷ stop_at (reading pinned text) ∷ []))
        then cond b (no_room_out (length (shape pinned text))) (done (length (shape pinned text) ∷ []))
        then done (figures pinned text))
        ≡ roomed text a b
    from true b = refl
    from false true = refl
    from false false = refl

-- the same but for the stop offset
abbrev rest : ℕ → ℕ → ℕ → ℕ → ℕ → Answer
rest n shown need slots out = cond (ltb slots n) (no_room_tokens n) (cond (ltb out need) (no_room_out need) (done (n ∷ shown ∷ need ∷ [])))

but_stop_lem : (text : List ℕ) (slots out : ℕ) → Fit text
    → but_stop (string_answer pinned text slots out) ≡ rest (length (tokens_of text)) (exposed (sanitized_of text)) (length (shape pinned text)) slots out
unfolding figures
but_stop_lem text slots out f = ap but_stop (fit_answer text slots out f) ∙ from (ltb slots (length (tokens_of text))) (ltb out (length (shape pinned text)))
  where
    from : (a b : Bool) → but_stop (roomed text a b)
        ≡ cond a (no_room_tokens (length (tokens_of text))) (cond b (no_room_out (length (shape pinned text))) (done (length (tokens_of text) ∷ exposed (sanitized_of text) ∷ length (shape pinned text) ∷ [])))
    from true b = refl
    from false true = refl
    from false false = refl

-- the shape at the front of the output
shape_in_lem : (text ws out : List ℕ) → Fit text → (r : Result Figures Refusal) (ws' out' : List ℕ) → SanitizesString text ws out r ws' out'
    → shape_in (paper r) out' ≡ cond (ltb (room ws) (length (tokens_of text))) [] (cond (ltb (length out) (length (shape pinned text))) [] (shape pinned text))
unfolding string_out figures
shape_in_lem text ws out f r ws' out' p =
    ap (λ (a : Answer). shape_in a out') p.answer
    ∙ ap (shape_in (string_answer pinned text (room ws) (length out))) p.buffers.1
    ∙ ap (λ (a : Answer). shape_in a (afterwards a (onto (shape pinned text) out) out)) (fit_answer text (room ws) (length out) f)
    ∙ from (ltb (room ws) (length (tokens_of text))) (ltb (length out) (length (shape pinned text)))
  where
    from : (a b : Bool) → shape_in (roomed text a b) (afterwards (roomed text a b) (onto (shape pinned text) out) out) ≡ cond a [] (cond b [] (shape pinned text))
    from true b = refl
    from false true = refl
    from false false = take-append_seam (shape pinned text) (drop (length (shape pinned text)) out)

module _ (x y : List ℕ) (fit-x : Fit x) (fit-y : Fit y) (alike : Alike x y) where
  -- for slots of equal length and outputs of equal length, whatever they hold
  pub same_call : {ws us out put : List ℕ} → length ws ≡ length us → length out ≡ length put
      → {r s : Result Figures Refusal} {ws' us' out' put' : List ℕ} → SanitizesString x ws out r ws' out' → SanitizesString y us put s us' put'
      → (but_stop (paper r) ≡ but_stop (paper s)) × (shape_in (paper r) out' ≡ shape_in (paper s) put')
  same_call {ws} {us} {out} {put} e f {r} {s} {ws'} {us'} {out'} {put'} p q =
      let room_same : room ws ≡ room us = ap (λ (n : ℕ). n / words_per_slot) e in
      let shape_same : shape pinned x ≡ shape pinned y = same_shape x y alike in
      let counts = same_counts x y alike in
      let answer-same : rest (length (tokens_of x)) (exposed (sanitized_of x)) (length (shape pinned x)) (room ws) (length out)
      ≡ rest (length (tokens_of y)) (exposed (sanitized_of y)) (length (shape pinned y)) (room us) (length put) =
      rw (counts.0, counts.1, shape_same, room_same, f) in
      let front_same : cond (ltb (room ws) (length (tokens_of x))) [] (cond (ltb (length out) (length (shape pinned x))) [] (shape pinned x))
      ≡ cond (ltb (room us) (length (tokens_of y))) [] (cond (ltb (length put) (length (shape pinned y))) [] (shape pinned y)) =
      rw (counts.0, shape_same, room_same, f) in (
        ap but_stop p.answer ∙ but_stop_lem x (room ws) (length out) fit-x ∙ answer-same ∙ sym (but_stop_lem y (room us) (length put) fit-y) ∙ sym (ap but_stop q.answer),
        shape_in_lem x ws out fit-x r ws' out' p ∙ front_same ∙ sym (shape_in_lem y us put fit-y s us' put' q),
      )

-- where a shape was written, it is the shape by the definitions
done_shape : {text ws out ws' out' : List ℕ} {f : Figures} → SanitizesString text ws out (Ok f) ws' out' → take f.length out' ≡ shape pinned text
unfolding figures
done_shape {text} {ws} {out} {ws'} {out'} {f} p =
    let numbers : f.tokens ∷ f.stop.0 ∷ f.exposed ∷ f.length ∷ [] ≡ figures pinned text = ((string_follows p).done_only (f.tokens ∷ f.stop.0 ∷ f.exposed ∷ f.length ∷ []) refl).1 in
    ap (λ (n : ℕ). take n out') (ap (λ (ns : List ℕ). get_or ns 3 0) numbers)
    ∙ ap (take (length (shape pinned text))) ((string_leaves p).1.on_done (f.tokens ∷ f.stop.0 ∷ f.exposed ∷ f.length ∷ []) refl)
    ∙ take-append_seam (shape pinned text) (drop (length (shape pinned text)) out)

-- ---- the second half
-- a quote is read by rule 1, is ASCII, and its kind is a quoted one
record Quoting (q k : ℕ) : Type 0 where
  named : Kind
  number : number_of named ≡ k
  read : (st : State) (cs : List ℕ) → rule_of pinned st q cs ≡ Quoted named
  low : q < 0x80
  quoted : kind.is_quoted k ≡ true

is_quote : (q k : ℕ) → Quote q k → Quoting q k
unfolding rule_of kind.is_quoted
is_quote q k (inl e) = record { named = the.Backticked; number = sym e.1; read = (λ st cs. rw e.0); low = omega (arith, e.0); quoted = rw e.1 }
is_quote q k (inr (inl e)) = record { named = the.SingleQuoted; number = sym e.1; read = (λ st cs. rw e.0); low = omega (arith, e.0); quoted = rw e.1 }
is_quote q k (inr (inr e)) = record { named = the.DoubleQuoted; number = sym e.1; read = (λ st cs. rw e.0); low = omega (arith, e.0); quoted = rw e.1 }

-- a statement with a quoted part
abbrev pub quoting : List ℕ → ℕ → List ℕ → List ℕ → List ℕ
quoting pre q content post = pre ++ q ∷ (content ++ q ∷ post)

-- place i of the reading is the quoted token of kind k whose content is c, and the sanitiser blanks or replaces it; in the other statement too
-- the quote after the content d is the first that closes it
module _ (pre c d post : List ℕ) (q k : ℕ) (quote : Quote q k) (fit-x : Fit (quoting pre q c post)) (fit-y : Fit (quoting pre q d post)) (i : ℕ)
    (token : at (tokens_of (quoting pre q c post)) i ≡ part_of k (length pre + 1) (length pre + 1 + length c)) (changed : Survives (quoting pre q c post) i → ⊥)
    (closes : Closes q d post) where
  content_alike : Alike (quoting pre q c post) (quoting pre q d post)
  content_alike =
      let is = is_quote q k quote in
      let two =
      apart pinned q is.named is.read is.low (ap kind.is_quoted is.number ∙ is.quoted) pre c d post fit-x.valid fit-y.valid i
      (token ∙ ap (λ (n : ℕ). part_of n (length pre + 1) (length pre + 1 + length c)) (sym is.number)) closes in
      record {
        kinds = two.same_kinds;
        texts = λ j s. from j s (ℕ_discrete j i) two;
      }
    where
      from : (j : ℕ) → Survives (quoting pre q c post) j → Dec (j ≡ i) → Apart pinned (quoting pre q c post) (quoting pre q d post) i
          → text_at (quoting pre q c post) j ≡ text_at (quoting pre q d post) j
      from j s (yes e) two = absurd (changed (subst (Survives (quoting pre q c post)) e s))
      from j s (no h) two = two.same_texts j h

  pub any_content : shape pinned (quoting pre q c post) ≡ shape pinned (quoting pre q d post)
  any_content = same_shape (quoting pre q c post) (quoting pre q d post) content_alike

  -- whatever the buffers are: if neither statement is refused, the bytes at the front of the two outputs are the same
  pub any_content_call : {ws us out put ws' us' out' put' : List ℕ} {f g : Figures}
      → SanitizesString (quoting pre q c post) ws out (Ok f) ws' out' → SanitizesString (quoting pre q d post) us put (Ok g) us' put'
      → take f.length out' ≡ take g.length put'
  any_content_call p r = done_shape p ∙ any_content ∙ sym (done_shape r)
