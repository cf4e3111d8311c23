-- Copies, one after the other.
-- put_as      the same bytes under another name
-- put_none    nothing is copied
-- put_one     one byte is stored
-- put_then    one copy behind another
-- put_onto    a copy behind a text that lies over the front
-- grown_as, grown_none, grown_one, grown_then   the same of a page
-- three_length   the length of three parts
-- Assumes nothing.
use mathlib.Core.Path.{◌≡◌, refl, ap, sym, ◌∙◌}
use mathlib.Core.List.{List, [], ◌∷◌, ◌++◌, append_assoc, append-nil}
use Prim.Native.Nat.{ℕ, ◌+◌, ◌≤◌, ◌<◌}
use native.Mathlib.Nat.{add_assoc, add-zero}
use native.Mathlib.Numerals.{add-one}
use lib.ListN.{length, take, drop, set, length-append, length-set, take-append-drop}
use lib.Seq.{set_split, take-append_seam, drop-append-add, drop-drop, length-take-le, take_at}
use Rattle.writer.specs.Written.{onto}
use Rattle.writer.specs.declared.copy.Page.{Page}
use Rattle.writer.specs.Promise.{Put}
use Rattle.writer.specs.Survey.{Grown}

module _ {out : List ℕ} {at : ℕ} {s t : List ℕ} {r : ℕ} {out' : List ℕ} where
  pub put_as : t ≡ s → Put out at s r out' → Put out at t r out'
  put_as e p = rw e p

-- nothing is written
pub put_none : (out : List ℕ) (at : ℕ) → Put out at [] at out
put_none out at = record {
  next = sym (add-zero at);
  left = sym (ap (λ (k : ℕ). take at out ++ [] ++ drop k out) (add-zero at) ∙ ap (λ (l : List ℕ). l ++ drop at out) (append-nil (take at out)) ∙ take-append-drop at out);
}

pub put_one : (out : List ℕ) (at b : ℕ) → at < length out → Put out at (b ∷ []) (at + 1) (set out at b)
put_one out at b h = record {
  next = refl;
  left = set_split out at b h ∙ ap (λ (k : ℕ). take at out ++ b ∷ drop k out) (sym (add-one at)) ∙ sym (append_assoc (take at out) (b ∷ []) (drop (at + 1) out));
}

-- one after the other
module _ {out : List ℕ} {at : ℕ} {s t : List ℕ} {r r' : ℕ} {out' out'' : List ℕ} where
  pub put_then : at ≤ length out → Put out at s r out' → Put out' r t r' out'' → Put out at (s ++ t) r' out''
  put_then h p q =
      let e : length (take at out ++ s) ≡ r = length-append (take at out) s ∙ ap (λ (k : ℕ). k + length s) (length-take-le at out h) ∙ sym p.next in
      record {
        next = q.next ∙ ap (λ (k : ℕ). k + length t) p.next ∙ add_assoc at (length s) (length t) ∙ ap (λ (k : ℕ). at + k) (sym (length-append s t));
        left =
            q.left
            ∙ ap (λ (l : List ℕ). l ++ t ++ drop (r + length t) out') (ap (take r) p.left ∙ take_at (take at out ++ s) (drop (at + length s) out) r e)
            ∙ ap (λ (l : List ℕ). take at out ++ s ++ t ++ l)
            (ap (drop (r + length t)) p.left
            ∙ ap (λ (k : ℕ). drop (k + length t) (take at out ++ s ++ drop (at + length s) out)) (sym e)
            ∙ drop-append-add (take at out ++ s) (drop (at + length s) out) (length t)
            ∙ drop-drop (length t) (at + length s) out
            ∙ ap (λ (k : ℕ). drop k out) (add_assoc at (length s) (length t) ∙ ap (λ (k : ℕ). at + k) (sym (length-append s t))))
            ∙ ap (λ (l : List ℕ). l ++ drop (at + length (s ++ t)) out) (append_assoc (take at out) s t);
      }

-- laid over the front: the text so far, and one more write at its end
module _ (w out : List ℕ) {s : List ℕ} {r : ℕ} {out' : List ℕ} where
  pub put_onto : Put (onto w out) (length w) s r out' → out' ≡ onto (w ++ s) out
  put_onto p =
      p.left
      ∙ ap (λ (l : List ℕ). l ++ s ++ drop (length w + length s) (onto w out)) (take-append_seam w (drop (length w) out))
      ∙ ap (λ (l : List ℕ). w ++ s ++ l) (drop-append-add w (drop (length w) out) (length s) ∙ drop-drop (length s) (length w) out)
      ∙ ap (λ (k : ℕ). w ++ s ++ drop k out) (sym (length-append w s))

pub three_length : (a b c : List ℕ) → length (a ++ b ++ c) ≡ length a + length b + length c
three_length a b c = simp length-append

-- a page that nothing is written on
pub grown_none : (p : Page) → Grown p [] p
grown_none p = record { put = put_none p.out.now p.at; long = refl; same = refl }

-- a byte that is stored
pub grown_one : (p q : Page) (b : ℕ) → p.at < length p.out.now → q.out.now ≡ set p.out.now p.at b → q.at ≡ p.at + 1 → q.out.ghost_name ≡ p.out.ghost_name → Grown p (b ∷ []) q
grown_one p q b h o a n = record { put = rw (o, a) (put_one p.out.now p.at b h); long = rw o (length-set p.out.now p.at b); same = n }

-- a page that grows, and grows on
module _ {p q : Page} {s t : List ℕ} where
  pub grown_as : t ≡ s → Grown p s q → Grown p t q
  grown_as e g = rw e g

module _ {p q r : Page} {s t : List ℕ} where
  pub grown_then : p.at ≤ length p.out.now → Grown p s q → Grown q t r → Grown p (s ++ t) r
  grown_then h g k = record { put = put_then h g.put k.put; long = k.long ∙ g.long; same = k.same ∙ g.same }
