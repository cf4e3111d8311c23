-- One character taken.
-- due_long      what is due does not depend on which characters a line over the limit holds
-- due_lf, due_more   the clauses of due
-- whole_ended, takes_end   an LF: the frame is printed
-- due_kept, takes_kept     any other character
-- ended_told    what the code tests at the end
-- whole_begun   what is due of a line that the end of the input ends
-- ends_line, ends_none   the end of the input, in a line and between two
-- ends_cut      a read that failed: the line is left out
-- Assumes nothing.
use Rattle.std.proofs.Common.{◌≡◌, ℕ, suc, ◌<◌, ◌≤◌, Bool, true, false, cond, eqb, ltb, List, [], ◌∷◌, ◌++◌, length, sym, refl, ap, ◌∙◌, append_assoc, append-nil, arith, length-append, ltb-false, ltb-true, eq-eqb, ne_eqb}
use Prim.Native.Char.{code}
use Rattle.frames.specs.Frames.{line_limit, frame_of, printed}
use Rattle.frames.specs.Filled.{Keeps}
use Rattle.frames.proofs.Longer.{longer}
use Rattle.shape.specs.declared.Held.{Held}
use Rattle.shape.specs.declared.input.Input.{Input}
use Rattle.shape.specs.declared.input.Input.TheVariants.{Open, Ended, Failed}
use Rattle.shape.specs.contracts.input.Input.{the_type}
use denote.Enum.Bare.{sameb}
use Rattle.shape.specs.Due.{at_stop, due}
use Rattle.shape.specs.Fits.{Still, has_ended, whole, Takes, Ends}

-- two lines over the limit have one frame
same_frame : (k l : List ℕ) → line_limit < length k → line_limit < length l → printed (frame_of k) ≡ printed (frame_of l)
same_frame k l h g = ap printed (longer k h ∙ sym (longer l g))

-- and the same printed where no more is read
same_stop : (ended : Bool) (k l : List ℕ) → line_limit < length k → line_limit < length l → at_stop ended k ≡ at_stop ended l
same_stop true [] l h g = absurd (omega arith)
same_stop true (a ∷ k) [] h g = absurd (omega arith)
same_stop true (a ∷ k) (b ∷ l) h g = same_frame (a ∷ k) (b ∷ l) h g
same_stop false k l h g = refl

pub due_long : (ended : Bool) (cs k l : List ℕ) → line_limit < length k → line_limit < length l → due ended k cs ≡ due ended l cs
unfolding due
due_long ended [] k l h g = same_stop ended k l h g
due_long ended (c ∷ cs) k l h g =
    go (eqb c (code "\n")) (same_frame k l h g)
    (due_long ended cs (k ++ (c ∷ [])) (l ++ (c ∷ [])) (omega (arith, length-append k (c ∷ []))) (omega (arith, length-append l (c ∷ []))))
  where
    go : (b : Bool) → printed (frame_of k) ≡ printed (frame_of l) → due ended (k ++ (c ∷ [])) cs ≡ due ended (l ++ (c ∷ [])) cs
        → cond b (printed (frame_of k) ++ due ended [] cs) (due ended (k ++ (c ∷ [])) cs)
        ≡ cond b (printed (frame_of l) ++ due ended [] cs) (due ended (l ++ (c ∷ [])) cs)
    go true e f = ap (λ (p : List ℕ). p ++ due ended [] cs) e
    go false e f = f

due_lf : (ended : Bool) (l : List ℕ) (c : ℕ) (cs : List ℕ) → c ≡ 10 → due ended l (c ∷ cs) ≡ printed (frame_of l) ++ due ended [] cs
unfolding due
due_lf ended l c cs e = simp (eq-eqb c 10 e)

due_more : (ended : Bool) (l : List ℕ) (c : ℕ) (cs : List ℕ) → (c ≡ 10 → ⊥) → due ended l (c ∷ cs) ≡ due ended (l ++ (c ∷ [])) cs
unfolding due
due_more ended l c cs e = simp (ne_eqb c 10 e)

-- what is due after an LF, and after any other character; 16385 is `suc line_limit`, as the goal of `step` has it
pub whole_ended : (ended : Bool) (cs : List ℕ) (c : ℕ) (h r : Held) → c ≡ 10 → r.line ≡ [] → r.page ≡ h.page ++ printed (frame_of h.line) → whole ended r cs ≡ whole ended h (c ∷ cs)
whole_ended ended cs c h r e z p =
    let s : List ℕ = printed (frame_of h.line) in
    ap (λ (l : List ℕ). r.page ++ due ended l cs) z
    ∙ ap (λ (t : List ℕ). t ++ due ended [] cs) p
    ∙ append_assoc h.page s (due ended [] cs)
    ∙ ap (λ (t : List ℕ). h.page ++ t) (sym (due_lf ended h.line c cs e))

pub due_kept : (ended : Bool) (cs : List ℕ) (c : ℕ) (line line' : List ℕ) → (c ≡ 10 → ⊥) → Keeps 16385 line c line' → due ended line' cs ≡ due ended line (c ∷ cs)
due_kept ended cs c line line' n k =
    go (ltb (length line) (suc line_limit)) (λ q. ltb-true (length line) (suc line_limit) q) (λ q. ltb-false (length line) (suc line_limit) q)
    ∙ sym (due_more ended line c cs n)
  where
    go : (b : Bool) → (b ≡ true → length line < suc line_limit) → (b ≡ false → suc line_limit ≤ length line) → due ended line' cs ≡ due ended (line ++ (c ∷ [])) cs
    go true lt le = ap (λ (t : List ℕ). due ended t cs) (k.kept (lt refl))
    go false lt le =
        ap (λ (t : List ℕ). due ended t cs) (k.full (le refl))
        ∙ due_long ended cs line (line ++ (c ∷ [])) (omega (arith, le refl)) (omega (arith, le refl, length-append line (c ∷ [])))

module _ {c : ℕ} {h r : Held} (still : Still h r) where
  pub takes_end : c ≡ 10 → r.line ≡ [] → r.page ≡ h.page ++ printed (frame_of h.line) → Takes c h r
  takes_end e z p = record { still = still; same = λ ended cs. whole_ended ended cs c h r e z p }

  pub takes_kept : (c ≡ 10 → ⊥) → r.page ≡ h.page → Keeps (suc line_limit) h.line c r.line → Takes c h r
  takes_kept n e k = record { still = still; same = λ ended cs. ap (λ (p : List ℕ). p ++ due ended r.line cs) e ∙ ap (λ (t : List ℕ). h.page ++ t) (due_kept ended cs c h.line r.line n k) }

-- a line that has begun is ended by the end of the input
due_end : (l : List ℕ) → 0 < length l → due true l [] ≡ printed (frame_of l)
unfolding due
due_end [] h = absurd (omega arith)
due_end (c ∷ cs) h = refl

-- and is left out where a read failed
due_cut : (l : List ℕ) → due false l [] ≡ []
unfolding due
due_cut l = refl

-- the input has ended or not, as the code tests it
pub ended_told : (i : Input) → sameb the_type i Ended ≡ has_ended i
ended_told Open = refl
ended_told Ended = refl
ended_told Failed = refl

pub whole_begun : (h : Held) → has_ended h.stand.input ≡ true → 0 < length h.line → whole (has_ended h.stand.input) h [] ≡ h.page ++ printed (frame_of h.line)
whole_begun h e some = ap (λ (b : Bool). h.page ++ due b h.line []) e ∙ ap (λ (t : List ℕ). h.page ++ t) (due_end h.line some)

module _ {h r : Held} (still : Still h r) where
  pub ends_line : has_ended h.stand.input ≡ true → 0 < length h.line → r.page ≡ h.page ++ printed (frame_of h.line) → Ends h r
  ends_line e some p = record { still = still; all = p ∙ sym (whole_begun h e some) }

module _ {h : Held} where
  -- nothing is due: the page is as it was
  ends_page : due (has_ended h.stand.input) h.line [] ≡ [] → Ends h h
  ends_page e = record {
    still = refl;
    all = sym (ap (λ (t : List ℕ). h.page ++ t) e ∙ append-nil h.page);
  }

  pub ends_none : has_ended h.stand.input ≡ true → length h.line ≡ 0 → Ends h h
  unfolding due
  ends_none e z = ends_page (ap (λ (b : Bool). due b h.line []) e ∙ go h.line z)
    where
      go : (l : List ℕ) → length l ≡ 0 → due true l [] ≡ []
      go [] z = refl
      go (c ∷ cs) z = absurd (omega arith)

  pub ends_cut : has_ended h.stand.input ≡ false → Ends h h
  ends_cut e = ends_page (ap (λ (b : Bool). due b h.line []) e ∙ due_cut h.line)
