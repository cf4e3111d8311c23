-- Chunks taken and pages written.
-- flush_passes, room_passes, takes_passes   a page written, room made, a character taken: nothing is lost or doubled
-- passes_none, passes_then, passes_more     no chunk, one chunk after the other, one character more
-- closes_page, passes_closes                the last page, and what passed before it
-- room_keeps      what making room leaves as it was
-- Since, since_start, since_read, since_runs   all that was read since the start: the invariant of the loop
-- Assumes nothing.
use Rattle.std.proofs.Common.{◌≡◌, ℕ, ◌+◌, ◌%◌, ◌^◌, ◌≤◌, Bool, true, false, ◌||◌, ltb, List, [], ◌∷◌, ◌++◌, length, take, drop, sym, refl, ap, ◌∙◌, subst, ⊎_elim, true≢false, append_assoc, append-nil, arith, length-append, take-append-drop, drop_of_length-le, length-take-le, ltb-false}
use native.Mathlib.Nat.{mod-add-mod, mod-mod}
use Rattle.shape.specs.declared.Held.{Held}
use Rattle.shape.specs.declared.Stand.{Stand}
use Rattle.shape.specs.declared.input.Input.{Input}
use Rattle.shape.specs.Due.{due, output}
use Rattle.shape.specs.Fits.{has_ended, whole, Takes, Ends}
use Rattle.shape.specs.Moved.{clamp_len}
use Rattle.shape.specs.Passes.{Counted, wrote, Flushes, MakesRoom, Passes, Reads, Closes, at_start, Runs}

-- neither holds
or_false : (a : Bool) {b : Bool} → (a || b) ≡ false → b ≡ false
or_false true e = absurd (true≢false e)
or_false false e = e

-- a counter went from n to m, and then to k
counted_then : (n m k : ℕ) (v w : List ℕ) → Counted n v m → Counted m w k → Counted n (v ++ w) k
counted_then n m k v w e f =
    f
    ∙ sym (mod-add-mod m (2 ^ 64) (length w))
    ∙ ap (λ (x : ℕ). (x + length w) % 2 ^ 64) e
    ∙ mod-add-mod (n + length v) (2 ^ 64) (length w)
    ∙ ap (λ (x : ℕ). x % 2 ^ 64) (omega (arith, length-append v w))

counted_none : (n : ℕ) → Counted n [] n
counted_none n = ap (λ (x : ℕ). x % 2 ^ 64) (omega arith)

-- a page of which the writes took t bytes
module _ (h : Held) (t : ℕ) (within : t ≤ length h.page) where
  abbrev taken : List ℕ
  taken = take t h.page

  abbrev over : List ℕ
  over = drop t h.page

  all_taken : taken ++ over ≡ h.page
  all_taken = take-append-drop t h.page

  taken_counted : Counted h.stand.sent taken (wrote h t).stand.sent
  taken_counted =
      mod-mod (h.stand.sent + t) (2 ^ 64)
      ∙ ap (λ (x : ℕ). (h.stand.sent + x) % 2 ^ 64) (sym (length-take-le t h.page within))

  none_over : (wrote h t).stand.lost ≡ false → over ≡ []
  none_over e = drop_of_length-le h.page {i = t} (ltb-false t (length h.page) (or_false h.stand.lost e))

  none_taken : t ≡ 0 → taken ≡ []
  none_taken e = ap (λ (k : ℕ). take k h.page) e

module _ (h : Held) where
  wrote_passes : (t : ℕ) → t ≤ length h.page → (h.stand.lost ≡ true → t ≡ 0) → Passes [] h (wrote h t)
  wrote_passes t within silent =
      let d : Bool → List ℕ → List ℕ = λ ended cs. due ended h.line cs in
      record {
        written = taken h t within;
        rest = λ ended cs. over h t within ++ d ended cs;
        sent = taken_counted h t within;
        same = λ ended cs.
            sym (append_assoc (taken h t within) (over h t within) (d ended cs))
            ∙ ap (λ (x : List ℕ). x ++ d ended cs) (all_taken h t within);
        left = λ e ended cs. ap (λ (x : List ℕ). x ++ d ended cs) (none_over h t within e);
        silent = λ e. (ap (λ (b : Bool). b || ltb t (length h.page)) e, none_taken h t within (silent e));
      }

  pub flush_passes : {r : Held} → Flushes h r → Passes [] h r
  flush_passes f = subst (λ (x : Held). Passes [] h x) (sym f.left) (wrote_passes f.took f.within f.silent)

  pub passes_none : Passes [] h h
  passes_none = record {
    written = [];
    rest = λ ended cs. whole ended h cs;
    sent = counted_none h.stand.sent;
    same = λ ended cs. refl;
    left = λ e ended cs. refl;
    silent = λ e. (e, refl);
  }

  pub room_passes : {r : Held} → MakesRoom h r → Passes [] h r
  room_passes m = ⊎_elim (λ e. subst (λ (x : Held). Passes [] h x) (sym e) passes_none) (λ f. flush_passes f) m.how

pub takes_passes : {c : ℕ} {h r : Held} → Takes c h r → Passes (c ∷ []) h r
takes_passes {c} {h} {r} t = record {
  written = [];
  rest = λ ended cs. whole ended h (c ∷ cs);
  sent = ap (λ (s : Stand). s.sent % 2 ^ 64) t.still ∙ counted_none h.stand.sent;
  same = λ ended cs. refl;
  left = λ e ended cs. sym (t.same ended cs);
  silent = λ e. (ap (λ (s : Stand). s.lost) t.still ∙ e, refl);
}

-- a chunk, and then another. Where a write failed in the first, what is left is what was left then
module _ {a b : List ℕ} {h m r : Held} where
  pub passes_then : Passes a h m → Passes b m r → Passes (a ++ b) h r
  passes_then p q = go m.stand.lost refl
    where
      more : (ended : Bool) (cs : List ℕ) → whole ended h (a ++ (b ++ cs)) ≡ whole ended h (a ++ b ++ cs)
      more ended cs = ap (λ (x : List ℕ). whole ended h x) (sym (append_assoc a b cs))

      go : (lost : Bool) → m.stand.lost ≡ lost → Passes (a ++ b) h r
      go false e = record {
        written = p.written ++ q.written;
        rest = q.rest;
        sent = counted_then h.stand.sent m.stand.sent r.stand.sent p.written q.written p.sent q.sent;
        same = λ ended cs.
            append_assoc p.written q.written (q.rest ended cs)
            ∙ ap (λ (x : List ℕ). p.written ++ x) (q.same ended cs ∙ sym (p.left e ended (b ++ cs)))
            ∙ p.same ended (b ++ cs)
            ∙ more ended cs;
        left = q.left;
        silent = λ f. absurd (true≢false (sym (p.silent f).0 ∙ e));
      }
      go true e =
          let none : p.written ++ q.written ≡ p.written = ap (λ (x : List ℕ). p.written ++ x) (q.silent e).1 ∙ append-nil p.written in
          record {
            written = p.written ++ q.written;
            rest = λ ended cs. p.rest ended (b ++ cs);
            sent = counted_then h.stand.sent m.stand.sent r.stand.sent p.written q.written p.sent q.sent;
            same = λ ended cs. ap (λ (x : List ℕ). x ++ p.rest ended (b ++ cs)) none ∙ p.same ended (b ++ cs) ∙ more ended cs;
            left = λ f. absurd (true≢false (sym (q.silent e).0 ∙ f));
            silent = λ f. ((q.silent e).0, none ∙ (p.silent f).1);
          }

-- one character more: room is made, and it is taken
module _ {a : List ℕ} {c : ℕ} {h m n r : Held} where
  pub passes_more : Passes a h m → MakesRoom m n → Takes c n r → Passes (a ++ (c ∷ [])) h r
  passes_more p room t = passes_then p (passes_then (room_passes m room) (takes_passes t))

-- the last page is written
module _ {m last : Held} (e : Ends m last) where
  closes-wrote : (t : ℕ) → t ≤ length last.page → (last.stand.lost ≡ true → t ≡ 0) → Closes (whole (has_ended m.stand.input) m []) m.stand (wrote last t).stand
  closes-wrote t within silent = record {
    written = taken last t within;
    rest = over last t within;
    sent = taken_counted last t within ∙ ap (λ (s : Stand). (s.sent + length (taken last t within)) % 2 ^ 64) e.still;
    same = all_taken last t within ∙ e.all;
    all = none_over last t within;
    silent = λ f.
        let g : last.stand.lost ≡ true = ap (λ (s : Stand). s.lost) e.still ∙ f in
        (ap (λ (b : Bool). b || ltb t (length last.page)) g, none_taken last t within (silent g));
  }

  pub closes_page : {r : Held} → Flushes last r → Closes (whole (has_ended m.stand.input) m []) m.stand r.stand
  closes_page f = subst (λ (x : Held). Closes (whole (has_ended m.stand.input) m []) m.stand x.stand) (sym f.left) (closes-wrote f.took f.within f.silent)

-- and what passed before it
module _ {a : List ℕ} (ended : Bool) {h m : Held} {r : Stand} where
  pub passes_closes : Passes a h m → Closes (whole ended m []) m.stand r → Closes (whole ended h (a ++ [])) h.stand r
  passes_closes p q = go m.stand.lost refl
    where
      go : (lost : Bool) → m.stand.lost ≡ lost → Closes (whole ended h (a ++ [])) h.stand r
      go false e = record {
        written = p.written ++ q.written;
        rest = q.rest;
        sent = counted_then h.stand.sent m.stand.sent r.sent p.written q.written p.sent q.sent;
        same =
            append_assoc p.written q.written q.rest
            ∙ ap (λ (x : List ℕ). p.written ++ x) (q.same ∙ sym (p.left e ended []))
            ∙ p.same ended [];
        all = q.all;
        silent = λ f. absurd (true≢false (sym (p.silent f).0 ∙ e));
      }
      go true e =
          let none : p.written ++ q.written ≡ p.written = ap (λ (x : List ℕ). p.written ++ x) (q.silent e).1 ∙ append-nil p.written in
          record {
            written = p.written ++ q.written;
            rest = p.rest ended [];
            sent = counted_then h.stand.sent m.stand.sent r.sent p.written q.written p.sent q.sent;
            same = ap (λ (x : List ℕ). x ++ p.rest ended []) none ∙ p.same ended [];
            all = λ f. absurd (true≢false (sym (q.silent e).0 ∙ f));
            silent = λ f. ((q.silent e).0, none ∙ (p.silent f).1);
          }

-- room is made: how the reading stands is as it was
pub room_keeps : {h r : Held} → MakesRoom h r → r.stand.input ≡ h.stand.input
room_keeps m = ⊎_elim (λ e. ap (λ (x : Held). x.stand.input) e) (λ f. ap (λ (x : Held). x.stand.input) f.left) m.how

-- what is held since the first read: all that was read has passed
pub record Since (h : Held) : Type 0 where
  pub start : Held
  pub line : start.line ≡ []
  pub page : start.page ≡ []
  pub stand : start.stand ≡ at_start
  pub input : List ℕ
  pub passes : Passes input start h

pub since_start : (s : Held) → s.line ≡ [] → s.page ≡ [] → s.stand ≡ at_start → Since s
since_start s l p b = record { start = s; line = l; page = p; stand = b; input = []; passes = passes_none s }

module _ {h : Held} (w : Since h) where
  pub since_read : {r : Held} → Reads h r → Since r
  since_read t = record {
    start = w.start;
    line = w.line;
    page = w.page;
    stand = w.stand;
    input = w.input ++ take (clamp_len t.got (length t.buf)) t.buf;
    passes = passes_then w.passes t.took.passes;
  }

  pub since_runs : {r : Stand} → r.input ≡ h.stand.input → Closes (whole (has_ended h.stand.input) h []) h.stand r → Runs r
  since_runs {r} e q =
      let ended : Bool = has_ended h.stand.input in
      let s : Held = w.start in
      let begun : whole ended s (w.input ++ []) ≡ output ended w.input =
      ap (λ (x : List ℕ). x ++ due ended s.line (w.input ++ [])) w.page ∙ ap (λ (x : List ℕ). due ended x (w.input ++ [])) w.line ∙ ap (due ended []) (append-nil w.input) in
      record {
        input = w.input;
        closes = subst (λ (i : Input). Closes (output (has_ended i) w.input) at_start r) (sym e)
            (subst (λ (x : Stand). Closes (output ended w.input) x r) w.stand (subst (λ (o : List ℕ). Closes o s.stand r) begun (passes_closes ended w.passes q)));
      }
