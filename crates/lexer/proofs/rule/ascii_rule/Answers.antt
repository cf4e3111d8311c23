-- `lexer::rule::ascii_rule` meets its contract, arm by arm. Assumes nothing.
use mathlib.Core.Path.{◌≡◌, ◌∙◌}
use native.Mathlib.Omega.{arith}
use Prim.Native.Nat.{ℕ, suc, ◌≤◌, ◌<◌}
use Rattle.scans.specs.Ways.{pinned}
use Rattle.lexer.specs.Rules.{rule_of}
use Rattle.lexer.proofs.Choice.{rule_late, rule_hash, rule_dash, rule_slash, number_digit, word_capital, word_small, unknown-ascii}
use Rattle.lexer.proofs.rule.ascii_rule.Goals as goal

-- orders of numbers, told apart from the many that b is not
on : (k b : ℕ) → k ≤ b → (b ≡ k → ⊥) → suc k ≤ b
on k b h n = omega arith

upto : (k b : ℕ) → b < suc k → b ≤ k
upto k b h = omega arith

off : (b k l : ℕ) → k ≤ l → b < k → l ≤ b → ⊥
off b k l h i j = omega arith

beyond : (b k l : ℕ) → k < l → l ≤ b → b ≤ k → ⊥
beyond b k l h i j = omega arith

pub returns-in-96 : goal.returns-in-96
unfolding rule_of
returns-in-96 c = rw c.in-96.is

pub returns-in-39 : goal.returns-in-39
unfolding rule_of
returns-in-39 c = rw c.in-39.is

pub returns-in-34 : goal.returns-in-34
unfolding rule_of
returns-in-34 c = rw c.in-34.is

pub returns-in-35 : goal.returns-in-35
returns-in-35 c = c.hash_rule.ensures ∙ rw c.in-35.is (rule_hash _ _)

pub returns-in-45 : goal.returns-in-45
returns-in-45 c = c.dash_rule.ensures ∙ rw c.in-45.is (rule_dash _ _)

pub returns-in-47 : goal.returns-in-47
returns-in-47 c = c.slash_rule.ensures ∙ rw c.in-47.is (rule_slash _ _)

pub returns-in-32 : goal.returns-in-32
unfolding rule_of
returns-in-32 c = rw c.in-32.is

pub returns-in-10 : goal.returns-in-10
unfolding rule_of
returns-in-10 c = rw c.in-10.is

pub returns-in-13 : goal.returns-in-13
unfolding rule_of
returns-in-13 c = rw c.in-13.is

pub returns-in-46 : goal.returns-in-46
unfolding rule_of
returns-in-46 c = rw c.in-46.is

pub returns-in-44 : goal.returns-in-44
unfolding rule_of
returns-in-44 c = rw c.in-44.is

pub returns-in-40 : goal.returns-in-40
unfolding rule_of
returns-in-40 c = rw c.in-40.is

pub returns-in-41 : goal.returns-in-41
unfolding rule_of
returns-in-41 c = rw c.in-41.is

pub returns-in-91 : goal.returns-in-91
unfolding rule_of
returns-in-91 c = rw c.in-91.is

pub returns-in-93 : goal.returns-in-93
unfolding rule_of
returns-in-93 c = rw c.in-93.is

pub returns-in-58 : goal.returns-in-58
unfolding rule_of
returns-in-58 c = rw c.in-58.is

pub returns-in-59 : goal.returns-in-59
unfolding rule_of
returns-in-59 c = rw c.in-59.is

pub returns-in-63 : goal.returns-in-63
unfolding rule_of
returns-in-63 c = rw c.in-63.is

pub returns-in-36 : goal.returns-in-36
unfolding rule_of
returns-in-36 c = rw c.in-36.is

pub returns-in-42 : goal.returns-in-42
unfolding rule_of
returns-in-42 c = rw (c.star_kind.ensures, c.in-42.is)

pub returns-in-37 : goal.returns-in-37
unfolding rule_of
returns-in-37 c = rw c.in-37.is

pub returns-in-43 : goal.returns-in-43
unfolding rule_of
returns-in-43 c = rw c.in-43.is

pub returns-in-61 : goal.returns-in-61
unfolding rule_of
returns-in-61 c = rw c.in-61.is

pub returns-in-33 : goal.returns-in-33
unfolding rule_of
returns-in-33 c = rw c.in-33.is

pub returns-in-62 : goal.returns-in-62
unfolding rule_of
returns-in-62 c = rw c.in-62.is

pub returns-in-60 : goal.returns-in-60
unfolding rule_of
returns-in-60 c = rw c.in-60.is

pub returns-in-38 : goal.returns-in-38
unfolding rule_of
returns-in-38 c = rw c.in-38.is

pub returns-in-124 : goal.returns-in-124
unfolding rule_of
returns-in-124 c = rw c.in-124.is

pub returns-in-95 : goal.returns-in-95
unfolding rule_of
returns-in-95 c = rw c.in-95.is

pub returns-in-48-to-57 : goal.returns-in-48-to-57
returns-in-48-to-57 c = number_digit _ _ _ (on 47 _ (on 46 _ (on 45 _ (on 44 _ (on 43 _ (on 42 _ (on 41 _ (on 40 _ (on 39 _ (on 38 _ (on 37 _ (on 36 _ (on 35 _ (on 34 _ (on 33 _ (on 32 _ c.in-48-to-57.if-b-lt32-own.false c.in-48-to-57.in_default-own.rest.0.0.0.0.0.0.0.0.0.0.0.0.0.0.0.0.0.0.0.0.0.0.1) c.in-48-to-57.in_default-own.rest.0.0.0.0.0.1) c.in-48-to-57.in_default-own.rest.0.0.0.0.0.0.0.0.0.0.0.0.0.0.0.0.0.0.0.0.0.0.0.0.0.0.1) c.in-48-to-57.in_default-own.rest.0.0.0.0.0.0.0.0.0.0.0.0.0.0.0.0.0.0.0.0.0.0.0.0.0.1) c.in-48-to-57.in_default-own.rest.0.0.0.0.0.0.0.0.0.0.1) c.in-48-to-57.in_default-own.rest.0.0.0.0.0.0.0.0.1) c.in-48-to-57.in_default-own.rest.0.0.1) c.in-48-to-57.in_default-own.rest.0.0.0.0.0.0.0.0.0.0.0.0.0.0.0.0.0.0.0.0.0.0.0.0.0.0.0.1) c.in-48-to-57.in_default-own.rest.0.0.0.0.0.0.0.0.0.0.0.0.0.0.0.0.0.1) c.in-48-to-57.in_default-own.rest.0.0.0.0.0.0.0.0.0.0.0.0.0.0.0.0.1) c.in-48-to-57.in_default-own.rest.0.0.0.0.0.0.0.0.0.1) c.in-48-to-57.in_default-own.rest.0.0.0.0.0.0.0.1) c.in-48-to-57.in_default-own.rest.0.0.0.0.0.0.0.0.0.0.0.0.0.0.0.0.0.0.1) c.in-48-to-57.in_default-own.rest.0.0.0.0.0.0.0.0.0.0.0.0.0.0.0.0.0.0.0.0.0.0.0.0.1) c.in-48-to-57.in_default-own.rest.0.0.0.0.0.0.0.0.0.0.0.0.0.0.0.0.0.0.0.1) c.in-48-to-57.in_default-own.rest.0.0.0.0.0.0.0.0.0.0.0.0.0.0.0.0.0.0.0.0.0.0.0.1) (upto 57 _ c.in-48-to-57.if-b-lt58-own.true)

pub returns-in-65-to-90 : goal.returns-in-65-to-90
returns-in-65-to-90 c = word_capital _ _ _ c.in-65-to-90.if-b-lt65-own.false (upto 90 _ c.in-65-to-90.if-b-lt91-own.true)

pub returns-in-97-to-122 : goal.returns-in-97-to-122
returns-in-97-to-122 c = word_small _ _ _ (on 96 _ (on 95 _ c.in-97-to-122.if-b-lt95-own.false c.in-97-to-122.in_default-own.rest.1) c.in-97-to-122.in_default-own.rest.0.0.0.0.0.0.0.0.0.0.0.0.0.0.0.0.0.0.0.0.0.0.0.0.0.0.0.0.1) (upto 122 _ c.in-97-to-122.if-b-lt123-own.true)

pub returns-in_default : goal.returns-in_default
returns-in_default c = unknown-ascii _ _ _ c.requires.b_bound (λ p q. off _ 32 48 (omega arith) c.in_default.if-b-lt32-own.true p) (λ p q. off _ 32 65 (omega arith) c.in_default.if-b-lt32-own.true p) (λ p q. off _ 32 97 (omega arith) c.in_default.if-b-lt32-own.true p) c.in_default.in_default-own.rest.0.0.0.0.0.0.0.0.0.0.0.0.0.0.0.0.0.0.0.0.0.0.0.0.1 (rule_late pinned _ _ _ c.in_default.in_default-own.rest.0.0.0.0.0.0.0.0.0.0.0.0.0.0.0.0.0.0.0.0.0.0.0.0.0.0.0.0.1 c.in_default.in_default-own.rest.0.0.0.0.0.0.0.0.0.0.0.0.0.0.0.0.0.0.0.0.0.0.0.0.0.0.0.1 c.in_default.in_default-own.rest.0.0.0.0.0.0.0.0.0.0.0.0.0.0.0.0.0.0.0.0.0.0.0.0.0.0.1 c.in_default.in_default-own.rest.0.0.0.0.0.0.0.0.0.0.0.0.0.0.0.0.0.0.0.0.0.0.0.0.0.1 c.in_default.in_default-own.rest.0.0.0.0.0.0.0.0.0.0.0.0.0.0.0.0.0.0.0.0.0.0.0.0.1 c.in_default.in_default-own.rest.0.0.0.0.0.0.0.0.0.0.0.0.0.0.0.0.0.0.0.0.0.0.0.1 c.in_default.in_default-own.rest.0.0.0.0.0.0.0.0.0.0.0.0.0.0.0.0.0.0.0.0.0.0.1 c.in_default.in_default-own.rest.0.0.0.0.0.0.0.0.0.0.0.0.0.0.0.0.0.0.0.0.0.1 c.in_default.in_default-own.rest.0.0.0.0.0.0.0.0.0.0.0.0.0.0.0.0.0.0.0.0.1 c.in_default.in_default-own.rest.0.0.0.0.0.0.0.0.0.0.0.0.0.0.0.0.0.0.0.1 c.in_default.in_default-own.rest.0.0.0.0.0.0.0.0.0.0.0.0.0.0.0.0.0.0.1 c.in_default.in_default-own.rest.0.0.0.0.0.0.0.0.0.0.0.0.0.0.0.0.0.1 c.in_default.in_default-own.rest.0.0.0.0.0.0.0.0.0.0.0.0.0.0.0.0.1 c.in_default.in_default-own.rest.0.0.0.0.0.0.0.0.0.0.0.0.0.0.0.1 c.in_default.in_default-own.rest.0.0.0.0.0.0.0.0.0.0.0.0.0.0.1 c.in_default.in_default-own.rest.0.0.0.0.0.0.0.0.0.0.0.0.0.1 c.in_default.in_default-own.rest.0.0.0.0.0.0.0.0.0.0.0.0.1 c.in_default.in_default-own.rest.0.0.0.0.0.0.0.0.0.0.0.1 c.in_default.in_default-own.rest.0.0.0.0.0.0.0.0.0.0.1 c.in_default.in_default-own.rest.0.0.0.0.0.0.0.0.0.1 c.in_default.in_default-own.rest.0.0.0.0.0.0.0.0.1 c.in_default.in_default-own.rest.0.0.0.0.0.0.0.1 c.in_default.in_default-own.rest.0.0.0.0.0.0.1 c.in_default.in_default-own.rest.0.0.0.0.0.1 c.in_default.in_default-own.rest.0.0.0.0.1 c.in_default.in_default-own.rest.0.0.0.1 c.in_default.in_default-own.rest.0.0.1 c.in_default.in_default-own.rest.0.1 c.in_default.in_default-own.rest.1)

pub returns-in_default-2 : goal.returns-in_default-2
returns-in_default-2 c = unknown-ascii _ _ _ c.requires.b_bound (λ p q. beyond _ 57 58 (omega arith) c.in_default.if-b-lt58-own.false q) (λ p q. off _ 65 65 (omega arith) c.in_default.if-b-lt65-own.true p) (λ p q. off _ 65 97 (omega arith) c.in_default.if-b-lt65-own.true p) c.in_default.in_default-own.rest.0.0.0.0.0.0.0.0.0.0.0.0.0.0.0.0.0.0.0.0.0.0.0.0.1 (rule_late pinned _ _ _ c.in_default.in_default-own.rest.0.0.0.0.0.0.0.0.0.0.0.0.0.0.0.0.0.0.0.0.0.0.0.0.0.0.0.0.1 c.in_default.in_default-own.rest.0.0.0.0.0.0.0.0.0.0.0.0.0.0.0.0.0.0.0.0.0.0.0.0.0.0.0.1 c.in_default.in_default-own.rest.0.0.0.0.0.0.0.0.0.0.0.0.0.0.0.0.0.0.0.0.0.0.0.0.0.0.1 c.in_default.in_default-own.rest.0.0.0.0.0.0.0.0.0.0.0.0.0.0.0.0.0.0.0.0.0.0.0.0.0.1 c.in_default.in_default-own.rest.0.0.0.0.0.0.0.0.0.0.0.0.0.0.0.0.0.0.0.0.0.0.0.0.1 c.in_default.in_default-own.rest.0.0.0.0.0.0.0.0.0.0.0.0.0.0.0.0.0.0.0.0.0.0.0.1 c.in_default.in_default-own.rest.0.0.0.0.0.0.0.0.0.0.0.0.0.0.0.0.0.0.0.0.0.0.1 c.in_default.in_default-own.rest.0.0.0.0.0.0.0.0.0.0.0.0.0.0.0.0.0.0.0.0.0.1 c.in_default.in_default-own.rest.0.0.0.0.0.0.0.0.0.0.0.0.0.0.0.0.0.0.0.0.1 c.in_default.in_default-own.rest.0.0.0.0.0.0.0.0.0.0.0.0.0.0.0.0.0.0.0.1 c.in_default.in_default-own.rest.0.0.0.0.0.0.0.0.0.0.0.0.0.0.0.0.0.0.1 c.in_default.in_default-own.rest.0.0.0.0.0.0.0.0.0.0.0.0.0.0.0.0.0.1 c.in_default.in_default-own.rest.0.0.0.0.0.0.0.0.0.0.0.0.0.0.0.0.1 c.in_default.in_default-own.rest.0.0.0.0.0.0.0.0.0.0.0.0.0.0.0.1 c.in_default.in_default-own.rest.0.0.0.0.0.0.0.0.0.0.0.0.0.0.1 c.in_default.in_default-own.rest.0.0.0.0.0.0.0.0.0.0.0.0.0.1 c.in_default.in_default-own.rest.0.0.0.0.0.0.0.0.0.0.0.0.1 c.in_default.in_default-own.rest.0.0.0.0.0.0.0.0.0.0.0.1 c.in_default.in_default-own.rest.0.0.0.0.0.0.0.0.0.0.1 c.in_default.in_default-own.rest.0.0.0.0.0.0.0.0.0.1 c.in_default.in_default-own.rest.0.0.0.0.0.0.0.0.1 c.in_default.in_default-own.rest.0.0.0.0.0.0.0.1 c.in_default.in_default-own.rest.0.0.0.0.0.0.1 c.in_default.in_default-own.rest.0.0.0.0.0.1 c.in_default.in_default-own.rest.0.0.0.0.1 c.in_default.in_default-own.rest.0.0.0.1 c.in_default.in_default-own.rest.0.0.1 c.in_default.in_default-own.rest.0.1 c.in_default.in_default-own.rest.1)

pub returns-in_default-3 : goal.returns-in_default-3
returns-in_default-3 c = unknown-ascii _ _ _ c.requires.b_bound (λ p q. beyond _ 57 91 (omega arith) c.in_default.if-b-lt91-own.false q) (λ p q. beyond _ 90 91 (omega arith) c.in_default.if-b-lt91-own.false q) (λ p q. off _ 95 97 (omega arith) c.in_default.if-b-lt95-own.true p) c.in_default.in_default-own.rest.0.0.0.0.0.0.0.0.0.0.0.0.0.0.0.0.0.0.0.0.0.0.0.0.1 (rule_late pinned _ _ _ c.in_default.in_default-own.rest.0.0.0.0.0.0.0.0.0.0.0.0.0.0.0.0.0.0.0.0.0.0.0.0.0.0.0.0.1 c.in_default.in_default-own.rest.0.0.0.0.0.0.0.0.0.0.0.0.0.0.0.0.0.0.0.0.0.0.0.0.0.0.0.1 c.in_default.in_default-own.rest.0.0.0.0.0.0.0.0.0.0.0.0.0.0.0.0.0.0.0.0.0.0.0.0.0.0.1 c.in_default.in_default-own.rest.0.0.0.0.0.0.0.0.0.0.0.0.0.0.0.0.0.0.0.0.0.0.0.0.0.1 c.in_default.in_default-own.rest.0.0.0.0.0.0.0.0.0.0.0.0.0.0.0.0.0.0.0.0.0.0.0.0.1 c.in_default.in_default-own.rest.0.0.0.0.0.0.0.0.0.0.0.0.0.0.0.0.0.0.0.0.0.0.0.1 c.in_default.in_default-own.rest.0.0.0.0.0.0.0.0.0.0.0.0.0.0.0.0.0.0.0.0.0.0.1 c.in_default.in_default-own.rest.0.0.0.0.0.0.0.0.0.0.0.0.0.0.0.0.0.0.0.0.0.1 c.in_default.in_default-own.rest.0.0.0.0.0.0.0.0.0.0.0.0.0.0.0.0.0.0.0.0.1 c.in_default.in_default-own.rest.0.0.0.0.0.0.0.0.0.0.0.0.0.0.0.0.0.0.0.1 c.in_default.in_default-own.rest.0.0.0.0.0.0.0.0.0.0.0.0.0.0.0.0.0.0.1 c.in_default.in_default-own.rest.0.0.0.0.0.0.0.0.0.0.0.0.0.0.0.0.0.1 c.in_default.in_default-own.rest.0.0.0.0.0.0.0.0.0.0.0.0.0.0.0.0.1 c.in_default.in_default-own.rest.0.0.0.0.0.0.0.0.0.0.0.0.0.0.0.1 c.in_default.in_default-own.rest.0.0.0.0.0.0.0.0.0.0.0.0.0.0.1 c.in_default.in_default-own.rest.0.0.0.0.0.0.0.0.0.0.0.0.0.1 c.in_default.in_default-own.rest.0.0.0.0.0.0.0.0.0.0.0.0.1 c.in_default.in_default-own.rest.0.0.0.0.0.0.0.0.0.0.0.1 c.in_default.in_default-own.rest.0.0.0.0.0.0.0.0.0.0.1 c.in_default.in_default-own.rest.0.0.0.0.0.0.0.0.0.1 c.in_default.in_default-own.rest.0.0.0.0.0.0.0.0.1 c.in_default.in_default-own.rest.0.0.0.0.0.0.0.1 c.in_default.in_default-own.rest.0.0.0.0.0.0.1 c.in_default.in_default-own.rest.0.0.0.0.0.1 c.in_default.in_default-own.rest.0.0.0.0.1 c.in_default.in_default-own.rest.0.0.0.1 c.in_default.in_default-own.rest.0.0.1 c.in_default.in_default-own.rest.0.1 c.in_default.in_default-own.rest.1)

pub returns-in_default-4 : goal.returns-in_default-4
returns-in_default-4 c = unknown-ascii _ _ _ c.requires.b_bound (λ p q. beyond _ 57 123 (omega arith) c.in_default.if-b-lt123-own.false q) (λ p q. beyond _ 90 123 (omega arith) c.in_default.if-b-lt123-own.false q) (λ p q. beyond _ 122 123 (omega arith) c.in_default.if-b-lt123-own.false q) c.in_default.in_default-own.rest.0.0.0.0.0.0.0.0.0.0.0.0.0.0.0.0.0.0.0.0.0.0.0.0.1 (rule_late pinned _ _ _ c.in_default.in_default-own.rest.0.0.0.0.0.0.0.0.0.0.0.0.0.0.0.0.0.0.0.0.0.0.0.0.0.0.0.0.1 c.in_default.in_default-own.rest.0.0.0.0.0.0.0.0.0.0.0.0.0.0.0.0.0.0.0.0.0.0.0.0.0.0.0.1 c.in_default.in_default-own.rest.0.0.0.0.0.0.0.0.0.0.0.0.0.0.0.0.0.0.0.0.0.0.0.0.0.0.1 c.in_default.in_default-own.rest.0.0.0.0.0.0.0.0.0.0.0.0.0.0.0.0.0.0.0.0.0.0.0.0.0.1 c.in_default.in_default-own.rest.0.0.0.0.0.0.0.0.0.0.0.0.0.0.0.0.0.0.0.0.0.0.0.0.1 c.in_default.in_default-own.rest.0.0.0.0.0.0.0.0.0.0.0.0.0.0.0.0.0.0.0.0.0.0.0.1 c.in_default.in_default-own.rest.0.0.0.0.0.0.0.0.0.0.0.0.0.0.0.0.0.0.0.0.0.0.1 c.in_default.in_default-own.rest.0.0.0.0.0.0.0.0.0.0.0.0.0.0.0.0.0.0.0.0.0.1 c.in_default.in_default-own.rest.0.0.0.0.0.0.0.0.0.0.0.0.0.0.0.0.0.0.0.0.1 c.in_default.in_default-own.rest.0.0.0.0.0.0.0.0.0.0.0.0.0.0.0.0.0.0.0.1 c.in_default.in_default-own.rest.0.0.0.0.0.0.0.0.0.0.0.0.0.0.0.0.0.0.1 c.in_default.in_default-own.rest.0.0.0.0.0.0.0.0.0.0.0.0.0.0.0.0.0.1 c.in_default.in_default-own.rest.0.0.0.0.0.0.0.0.0.0.0.0.0.0.0.0.1 c.in_default.in_default-own.rest.0.0.0.0.0.0.0.0.0.0.0.0.0.0.0.1 c.in_default.in_default-own.rest.0.0.0.0.0.0.0.0.0.0.0.0.0.0.1 c.in_default.in_default-own.rest.0.0.0.0.0.0.0.0.0.0.0.0.0.1 c.in_default.in_default-own.rest.0.0.0.0.0.0.0.0.0.0.0.0.1 c.in_default.in_default-own.rest.0.0.0.0.0.0.0.0.0.0.0.1 c.in_default.in_default-own.rest.0.0.0.0.0.0.0.0.0.0.1 c.in_default.in_default-own.rest.0.0.0.0.0.0.0.0.0.1 c.in_default.in_default-own.rest.0.0.0.0.0.0.0.0.1 c.in_default.in_default-own.rest.0.0.0.0.0.0.0.1 c.in_default.in_default-own.rest.0.0.0.0.0.0.1 c.in_default.in_default-own.rest.0.0.0.0.0.1 c.in_default.in_default-own.rest.0.0.0.0.1 c.in_default.in_default-own.rest.0.0.0.1 c.in_default.in_default-own.rest.0.0.1 c.in_default.in_default-own.rest.0.1 c.in_default.in_default-own.rest.1)
