-- Slots: reading them off the words, storing one, and laying tokens over the front of a buffer.
-- length-tokens                     n slots are n tokens
-- tokens_split, _more, -at          the first slots and those after them
-- get_or-tokens                       a token of the list is the one in its slot
-- slot_ext                          slots with the same three numbers are the same
-- slot_stored, slot_other           what a store leaves in its slot and in another
-- length-stored, room-stored        a store keeps the length
-- tokens-stored                     the tokens after a store
-- left_stored                       what a store leaves of a buffer
-- left_same, left_then              nothing done; one piece of work after another
-- laid-tokens                       a buffer is its own tokens laid over it
-- left_laid                         what is left is the tokens laid over the buffer
-- length-words, length-laid         as long as before
-- laid_none, laid_more              no token; one more token stored behind those laid
-- Assumes nothing.
use mathlib.Core.Path.{◌≡◌, refl, sym, ap, ◌∙◌, subst}
use mathlib.Core.List.{List, [], ◌∷◌, ◌++◌}
use Prim.Native.Nat.{ℕ, zero, suc, ◌+◌, ◌-◌, ◌*◌, ◌/◌, ◌≤◌, ◌<◌}
use native.Mathlib.Nat.{zero-add, add-zero, suc-add, add-suc}
use native.Mathlib.Decide.{ℕ_discrete}
use native.Mathlib.Numerals.{add-one, add-two}
use native.Mathlib.Omega.{arith}
use lib.ListN.{length, get_or, drop, set, length-set, length-append, length-drop}
use lib.Seq.{get_or-set_same, get_or-set_other, ext_get_or, drop-set-lt, drop-cons, sets-eq, take_at, drop-append-add, drop-drop}
use Rattle.tokens.specs.declared.slot.Slot.{Slot}
use Rattle.tokens.specs.Kinds as kind
use Rattle.tokens.specs.Slots.{words_per_slot, bare, room, slot_at, stored, tokens_from, tokens_in, words, laid, Left}

-- ---- reading
pub length-tokens : (ws : List ℕ) (i n : ℕ) → length (tokens_from ws i n) ≡ n
unfolding tokens_from
length-tokens ws i zero = refl
length-tokens ws i (suc n) = ap suc (length-tokens ws (suc i) n)

pub tokens_split : (ws : List ℕ) (i m n : ℕ) → tokens_from ws i (m + n) ≡ tokens_from ws i m ++ tokens_from ws (i + m) n
unfolding tokens_from
tokens_split ws i zero n = rw (zero-add, add-zero)
tokens_split ws i (suc m) n =
    rw suc-add (ap {B = List Slot} (λ r. slot_at ws i ∷ r) (tokens_split ws (suc i) m n ∙ rw (suc-add i m, add-suc i m)))

pub tokens_more : (ws : List ℕ) (i : ℕ) → tokens_in ws (i + 1) ≡ tokens_in ws i ++ (slot_at ws i ∷ [])
unfolding tokens_from
tokens_more ws i = tokens_split ws 0 i 1 ∙ rw zero-add

pub tokens-at : (ws : List ℕ) (i n : ℕ) → i < n → tokens_in ws n ≡ tokens_in ws i ++ (slot_at ws i ∷ tokens_from ws (suc i) (n - suc i))
unfolding tokens_from
tokens-at ws i n h =
    let e : n ≡ i + suc (n - suc i) = omega arith in
    ap (tokens_in ws) e ∙ tokens_split ws 0 i (suc (n - suc i)) ∙ rw zero-add

get_or-from : (ws : List ℕ) (i n j : ℕ) (d : Slot) → j < n → get_or (tokens_from ws i n) j d ≡ slot_at ws (i + j)
unfolding tokens_from
get_or-from ws i zero j d h = absurd (omega arith)
get_or-from ws i (suc n) zero d h = ap (slot_at ws) (omega arith)
get_or-from ws i (suc n) (suc j) d h = get_or-from ws (suc i) n j d (omega arith) ∙ ap (slot_at ws) (omega arith)

pub get_or-tokens : (ws : List ℕ) (n j : ℕ) (d : Slot) → j < n → get_or (tokens_in ws n) j d ≡ slot_at ws j
get_or-tokens ws n j d h = get_or-from ws 0 n j d h ∙ ap (slot_at ws) (omega arith)

-- ---- storing
pub slot_ext : (a b : Slot) → a.kind ≡ b.kind → a.first ≡ b.first → a.second ≡ b.second → a ≡ b
slot_ext a b p q r = λ i. record { kind = p i; first = q i; second = r i }

module _ (ws : List ℕ) (i : ℕ) (t : Slot) where
  -- the words after the first of the three stores, and after the second
  abbrev one : List ℕ
  one = set ws (i * words_per_slot) t.kind

  abbrev two : List ℕ
  two = set one (i * words_per_slot + 1) t.first

  pub length-stored : length (stored ws i t) ≡ length ws
  unfolding stored
  length-stored = simp length-set

  pub room-stored : room (stored ws i t) ≡ room ws
  room-stored = ap (λ (n : ℕ). n / words_per_slot) length-stored

  pub slot_stored : i < room ws → slot_at (stored ws i t) i ≡ t
  unfolding stored
  slot_stored h =
      let l : length one ≡ length ws = length-set ws (i * words_per_slot) t.kind in
      let m : length two ≡ length one = length-set one (i * words_per_slot + 1) t.first in
      slot_ext _ _
      (get_or-set_other two (i * words_per_slot + 2) (i * words_per_slot) t.second 0 (omega arith)
      ∙ get_or-set_other one (i * words_per_slot + 1) (i * words_per_slot) t.first 0 (omega arith) ∙ get_or-set_same ws (i * words_per_slot) t.kind 0 (omega arith))
      (get_or-set_other two (i * words_per_slot + 2) (i * words_per_slot + 1) t.second 0 (omega arith) ∙ get_or-set_same one (i * words_per_slot + 1) t.first 0 (omega arith))
      (get_or-set_same two (i * words_per_slot + 2) t.second 0 (omega arith))

  far : (w : ℕ) → (w ≡ i * words_per_slot → ⊥) → (w ≡ i * words_per_slot + 1 → ⊥) → (w ≡ i * words_per_slot + 2 → ⊥) → get_or (stored ws i t) w 0 ≡ get_or ws w 0
  unfolding stored
  far w a b e =
      get_or-set_other two (i * words_per_slot + 2) w t.second 0 e ∙ get_or-set_other one (i * words_per_slot + 1) w t.first 0 b
      ∙ get_or-set_other ws (i * words_per_slot) w t.kind 0 a

  pub slot_other : (j : ℕ) → (j ≡ i → ⊥) → slot_at (stored ws i t) j ≡ slot_at ws j
  slot_other j h =
      slot_ext _ _ (far (j * words_per_slot) (omega arith) (omega arith) (omega arith)) (far (j * words_per_slot + 1) (omega arith) (omega arith) (omega arith))
      (far (j * words_per_slot + 2) (omega arith) (omega arith) (omega arith))

  module _ (n : ℕ) (h : i < n) (l : n ≤ room ws) where
    pub tokens-stored : tokens_in (stored ws i t) n ≡ set (tokens_in ws n) i t
    tokens-stored =
        ext_get_or (bare kind.None) _ _ (length-tokens (stored ws i t) 0 n ∙ sym (length-set (tokens_in ws n) i t ∙ length-tokens ws 0 n))
        (λ j hj. at j (subst (λ (m : ℕ). j < m) (length-tokens (stored ws i t) 0 n) hj))
      where
        at : (j : ℕ) → j < n → get_or (tokens_in (stored ws i t) n) j (bare kind.None) ≡ get_or (set (tokens_in ws n) i t) j (bare kind.None)
        at j hj = get_or-tokens (stored ws i t) n j (bare kind.None) hj ∙ same (ℕ_discrete j i)
          where
            same : Dec (j ≡ i) → slot_at (stored ws i t) j ≡ get_or (set (tokens_in ws n) i t) j (bare kind.None)
            same (yes e) =
                subst (λ (m : ℕ). slot_at (stored ws i t) m ≡ get_or (set (tokens_in ws n) i t) m (bare kind.None)) (sym e)
                (slot_stored (omega arith) ∙ sym (get_or-set_same (tokens_in ws n) i t (bare kind.None) (omega (arith, length-tokens ws 0 n))))
            same (no ne) = slot_other j ne ∙ sym (get_or-set_other (tokens_in ws n) i j t (bare kind.None) ne ∙ get_or-tokens ws n j (bare kind.None) hj)

    pub left_stored : Left n ws (stored ws i t) (set (tokens_in ws n) i t)
    left_stored = record {
      tokens = tokens-stored;
      rest = unfold stored in drop-set-lt (n * words_per_slot) _ (i * words_per_slot + 2) _ (omega arith) ∙ drop-set-lt (n * words_per_slot) _ (i * words_per_slot + 1) _ (omega arith) ∙ drop-set-lt (n * words_per_slot) ws (i * words_per_slot) _ (omega arith);
      long = length-stored;
    }

-- ---- what is left of a buffer
pub left_same : (n : ℕ) (ws : List ℕ) → Left n ws ws (tokens_in ws n)
left_same n ws = record { tokens = refl; rest = refl; long = refl }

pub left_then : {n : ℕ} {a b c : List ℕ} {ts us : List Slot} → Left n a b ts → Left n b c us → Left n a c us
left_then p q = record { tokens = q.tokens; rest = q.rest ∙ p.rest; long = q.long ∙ p.long }

whole_from : (n i : ℕ) (ws : List ℕ) → (i + n) * words_per_slot ≤ length ws → words (tokens_from ws i n) ++ drop ((i + n) * words_per_slot) ws ≡ drop (i * words_per_slot) ws
unfolding words tokens_from
whole_from zero i ws h = let e : (i + 0) * words_per_slot ≡ i * words_per_slot = omega arith in ap (λ (m : ℕ). drop m ws) e
whole_from (suc n) i ws h =
    let e : (i + suc n) * words_per_slot ≡ (suc i + n) * words_per_slot = omega arith in
    let f : suc i * words_per_slot ≡ suc (suc (suc (i * words_per_slot))) = omega arith in
    let r : words (tokens_from ws (suc i) n) ++ drop ((i + suc n) * words_per_slot) ws ≡ drop (suc (suc (suc (i * words_per_slot)))) ws =
    ap (λ (m : ℕ). words (tokens_from ws (suc i) n) ++ drop m ws) e ∙ whole_from n (suc i) ws (omega arith) ∙ ap (λ (m : ℕ). drop m ws) f in
    let p : i * words_per_slot + 1 ≡ suc (i * words_per_slot) = omega arith in
    let q : i * words_per_slot + 2 ≡ suc (suc (i * words_per_slot)) = omega arith in
    rw (r, p, q, drop-cons ws (i * words_per_slot) 0 (omega arith), drop-cons ws (suc (i * words_per_slot)) 0 (omega arith), drop-cons ws (suc (suc (i * words_per_slot))) 0 (omega arith))

pub laid-tokens : (n : ℕ) (ws : List ℕ) → n ≤ room ws → laid (tokens_in ws n) ws ≡ ws
unfolding laid
laid-tokens n ws h =
    let e : length (tokens_in ws n) * words_per_slot ≡ (0 + n) * words_per_slot = omega (arith, length-tokens ws 0 n) in
    ap (λ (m : ℕ). words (tokens_in ws n) ++ drop m ws) e ∙ whole_from n 0 ws (omega arith)

pub left_laid : {n : ℕ} {before after : List ℕ} {ts : List Slot} → n ≤ room before → Left n before after ts → after ≡ laid ts before
unfolding laid
left_laid {n} {before} {after} {ts} h l =
    let s : length ts ≡ n = sym (ap length l.tokens) ∙ length-tokens after 0 n in
    let e : length (tokens_in after n) * words_per_slot ≡ n * words_per_slot = omega (arith, length-tokens after 0 n) in
    sym (laid-tokens n after (omega (arith, l.long)))
    ∙ ap (λ (m : ℕ). words (tokens_in after n) ++ drop m after) e
    ∙ ap (λ (r : List ℕ). words (tokens_in after n) ++ r) l.rest
    ∙ ap (λ (us : List Slot). words us ++ drop (n * words_per_slot) before) l.tokens
    ∙ ap (λ (m : ℕ). words ts ++ drop (m * words_per_slot) before) (sym s)

-- ---- laying
pub length-words : (ts : List Slot) → length (words ts) ≡ length ts * words_per_slot
unfolding words
length-words [] = refl
length-words (t ∷ ts) = omega (arith, length-words ts)

pub length-laid : (ts : List Slot) (ws : List ℕ) → length ts ≤ room ws → length (laid ts ws) ≡ length ws
unfolding laid
length-laid ts ws h =
    simp (length-append, length-drop) (omega (arith, length-words ts))

pub laid_none : (ws : List ℕ) → laid [] ws ≡ ws
unfolding laid words
laid_none ws = refl

words_more : (ts : List Slot) (t : Slot) → words (ts ++ (t ∷ [])) ≡ words ts ++ (t.kind ∷ t.first ∷ t.second ∷ [])
unfolding words
words_more [] t = refl
words_more (u ∷ ts) t = ap (λ (r : List ℕ). u.kind ∷ u.first ∷ u.second ∷ r) (words_more ts t)

pub laid_more : (ts : List Slot) (t : Slot) (ws : List ℕ) → length ts < room ws → stored (laid ts ws) (length ts) t ≡ laid (ts ++ (t ∷ [])) ws
unfolding laid stored
laid_more ts t ws h =
    let n : ℕ = length ts * words_per_slot in
    let w : List ℕ = words ts in
    let three : List ℕ = t.kind ∷ t.first ∷ t.second ∷ [] in
    let l : length w ≡ n = length-words ts in
    let fits : n + words_per_slot ≤ length (w ++ drop n ws) = simp (length-append, length-drop) (omega (arith, length-words ts)) in
    let m : length (ts ++ (t ∷ [])) * words_per_slot ≡ n + words_per_slot = omega (arith, length-append ts (t ∷ [])) in
    rw (add-one, add-two) (sets-eq three (w ++ drop n ws) n fits)
    ∙ ap (λ (x : List ℕ). x ++ three ++ drop (n + words_per_slot) (w ++ drop n ws)) (take_at w (drop n ws) n l)
    ∙ ap (λ (x : List ℕ). w ++ three ++ x) (ap (λ (k : ℕ). drop (k + words_per_slot) (w ++ drop n ws)) (sym l) ∙ drop-append-add w (drop n ws) words_per_slot ∙ drop-drop words_per_slot n ws)
    ∙ ap (λ (x : List ℕ). x ++ drop (n + words_per_slot) ws) (sym (words_more ts t))
    ∙ ap (λ (k : ℕ). words (ts ++ (t ∷ [])) ++ drop k ws) (sym m)
