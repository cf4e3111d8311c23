-- What an arm's number says of the kind, and the two arms of the operators, whose `match` arm names 31 kinds.
-- takes                     the rule of the arm that decides takes the kind and the state
-- OneOf, at_each            one of some kinds, as an arm of a `match` tells it; a test that all of them pass
-- join_arm, operator_arm    an operator that is not In has arm 2 in JoinOn, and arm 3 in any other state
-- Assumes nothing.
use mathlib.Core.Path.{◌≡◌, refl, sym, subst}
use mathlib.Core.Logic.{◌⊎◌, inl, inr}
use mathlib.Core.Bool.{Bool, true, false, ◌&&◌, not, cond}
use mathlib.Core.List.{List, [], ◌∷◌}
use Prim.Native.Nat.{ℕ, zero, suc, ◌+◌, ◌≤◌, ◌<◌}
use native.Mathlib.Omega.{arith}
use lib.Dec.{T, eqb}
use lib.ListN.{length, get_or}
use Rattle.tokens.specs.Kinds as kind
use Rattle.tokens.specs.Kinds.{is_operator}
use Rattle.tokens.specs.Named.{number}
use Rattle.tokens.specs.declared.kind.Kind.{Kind}
use Rattle.tokens.specs.declared.kind.Kind.TheVariants as the
use Rattle.sanitizer.specs.declared.arms.State.{State}
use Rattle.sanitizer.specs.declared.arms.State.TheVariants.{Default, ComparisonOperator, InsertValues, InsertValuesJustClosed, JoinOn, Offset, Between, Keyword, KeywordScopeStarted, Array, ArrayStarted}
use Rattle.sanitizer.specs.Arms.{Rule, rules, first_from, arm_of, arm, when}
use Rattle.tokens.proofs.Halves.{and_l, and_r}

-- ---- the rule that decides
first_far : (rs : List Rule) (n : ℕ) (s : State) (k : ℕ) → n ≤ first_from n rs s k
first_far [] n s k = omega arith
first_far (r ∷ rs) n s k = go (r.kinds k && r.states s) (first_far rs (suc n) s k)
  where
    go : (b : Bool) → suc n ≤ first_from (suc n) rs s k → n ≤ cond b n (first_from (suc n) rs s k)
    go true h = omega arith
    go false h = omega arith

pub takes : (rs : List Rule) (n i : ℕ) (d : Rule) (s : State) (k : ℕ) → i < length rs → first_from n rs s k ≡ n + i
    → ((get_or rs i d).kinds k && (get_or rs i d).states s) ≡ true
takes [] n i d s k h e = absurd (omega arith)
takes (r ∷ rs) n zero d s k h e = go (r.kinds k && r.states s) refl e (first_far rs (suc n) s k)
  where
    go : (b : Bool) → (r.kinds k && r.states s) ≡ b → cond b n (first_from (suc n) rs s k) ≡ n + 0 → suc n ≤ first_from (suc n) rs s k → (r.kinds k && r.states s) ≡ true
    go true p q f = p
    go false p q f = absurd (omega arith)
takes (r ∷ rs) n (suc i) d s k h e = go (r.kinds k && r.states s) e (λ q. takes rs (suc n) i d s k (omega arith) q)
  where
    go : (b : Bool) → cond b n (first_from (suc n) rs s k) ≡ n + suc i → (first_from (suc n) rs s k ≡ suc n + i → ((get_or rs i d).kinds k && (get_or rs i d).states s) ≡ true)
        → ((get_or rs i d).kinds k && (get_or rs i d).states s) ≡ true
    go true q f = absurd (omega arith)
    go false q f = f (omega arith)

-- ---- the operators
abbrev pub OneOf : List Kind → Kind → Type 0
OneOf [] k = ⊥
OneOf (x ∷ []) k = k ≡ x
OneOf (x ∷ y ∷ ys) k = (k ≡ x) ⊎ OneOf (y ∷ ys) k

abbrev pub all : (Kind → Bool) → List Kind → Bool
all p [] = true
all p (x ∷ xs) = p x && all p xs

pub at_each : (p : Kind → Bool) (ks : List Kind) → T (all p ks) → (k : Kind) → OneOf ks k → T (p k)
at_each p [] t k o = absurd o
at_each p (x ∷ []) t k o = subst (λ (w : Kind). T (p w)) (sym o) (and_l (p x) true t)
at_each p (x ∷ y ∷ ys) t k (inl e) = subst (λ (w : Kind). T (p w)) (sym e) (and_l (p x) (all p (y ∷ ys)) t)
at_each p (x ∷ y ∷ ys) t k (inr o) = at_each p (y ∷ ys) (and_r (p x) (all p (y ∷ ys)) t) k o

-- the operators but In
abbrev pub operators : List Kind
operators =
    the.Multiply
    ∷ the.Divide
    ∷ the.Modulo
    ∷ the.Plus
    ∷ the.Minus
    ∷ the.Not
    ∷ the.Like
    ∷ the.Ilike
    ∷ the.Rlike
    ∷ the.Glob
    ∷ the.Match
    ∷ the.Regexp
    ∷ the.Then
    ∷ the.Else
    ∷ the.Equal
    ∷ the.Equal2
    ∷ the.NullSafeEqual
    ∷ the.GreaterThanOrEqual
    ∷ the.LessThanOrEqual
    ∷ the.EqualOrGreaterThan
    ∷ the.EqualOrLessThan
    ∷ the.EqualWithArrows
    ∷ the.NotEqual
    ∷ the.GreaterThan
    ∷ the.LessThan
    ∷ the.LeftShift
    ∷ the.RightShift
    ∷ the.BitwiseAnd
    ∷ the.BitwiseOr
    ∷ the.SpecifiedPath
    ∷ the.SpecifiedPathAsText
    ∷ []

abbrev test : Kind → Bool
test k = not (eqb (number k) kind.In) && is_operator (number k)

not_in : (k : Kind) → OneOf operators k → (eqb (number k) kind.In ≡ false) × (is_operator (number k) ≡ true)
unfolding is_operator
not_in k o = go (eqb (number k) kind.In) (is_operator (number k)) refl refl (at_each test operators tt k o)
  where
    go : (a b : Bool) → eqb (number k) kind.In ≡ a → is_operator (number k) ≡ b → T (not a && b) → (eqb (number k) kind.In ≡ false) × (is_operator (number k) ≡ true)
    go true b p q t = absurd t
    go false true p q t = (p, q)
    go false false p q t = absurd t

pub join_arm : (k : Kind) → OneOf operators k → arm 2 ≡ arm (arm_of JoinOn (number k))
unfolding arm_of rules
join_arm k o = let f = not_in k o in rw (f.0, f.1)

pub operator_arm : (s : State) (k : Kind) → OneOf operators k → (s ≡ JoinOn → ⊥) → arm 3 ≡ arm (arm_of s (number k))
unfolding arm_of rules
operator_arm s k o n = let f = not_in k o in rw (f.0, f.1) (go s n)
  where
    go : (s : State) → (s ≡ JoinOn → ⊥) → arm 3 ≡ arm (cond (when JoinOn s) 2 3)
    go JoinOn n = absurd (n refl)
    go Default n = refl
    go ComparisonOperator n = refl
    go InsertValues n = refl
    go InsertValuesJustClosed n = refl
    go Offset n = refl
    go Between n = refl
    go Keyword n = refl
    go KeywordScopeStarted n = refl
    go Array n = refl
    go ArrayStarted n = refl
