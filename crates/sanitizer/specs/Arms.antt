-- The sanitiser's table: 32 arms in the order of the Rust's `match`; the first that takes a kind in a state wins. Assumes nothing.
use Rattle.std.specs.Prelude.{Bool, true, false, ◌&&◌, ◌||◌, cond, List, [], ◌∷◌, ℕ, suc, ◌-◌, eqb, get_or}
use Rattle.tokens.specs.Kinds as kind
use Rattle.tokens.specs.Kinds.{is_operator, is_keyword, is_indicator}
use Rattle.sanitizer.specs.declared.arms.State.{State}
use Rattle.sanitizer.specs.declared.arms.State.TheVariants.{Default, ComparisonOperator, InsertValues, InsertValuesJustClosed, JoinOn, Offset, Between, Keyword, KeywordScopeStarted, Array, ArrayStarted}
use Rattle.sanitizer.specs.declared.arms.Does.{Does}
use Rattle.sanitizer.specs.declared.arms.Does.TheVariants.{Stay, Go, Replace, ReplaceUnlessDotted, ReplaceToClose, CollapseRows, RemoveComment}
use Rattle.sanitizer.specs.declared.arms.Arm.{Arm}

-- the states' numbers, 0 to 10, in the order of the Rust's enum
abbrev pub state_no : State → ℕ
state_no Default = 0
state_no ComparisonOperator = 1
state_no InsertValues = 2
state_no InsertValuesJustClosed = 3
state_no JoinOn = 4
state_no Offset = 5
state_no Between = 6
state_no Keyword = 7
state_no KeywordScopeStarted = 8
state_no Array = 9
state_no ArrayStarted = 10

-- ---- patterns of kinds
-- this kind
abbrev pub only : ℕ → ℕ → Bool
only x k = eqb k x

-- one of these kinds
abbrev pub among : List ℕ → ℕ → Bool
among [] k = false
among (x ∷ xs) k = eqb k x || among xs k

-- any kind
abbrev pub any_kind : ℕ → Bool
any_kind k = true

-- ---- patterns of states
-- this state
abbrev pub when : State → State → Bool
when x s = eqb (state_no s) (state_no x)

-- one of these states
abbrev pub within : List State → State → Bool
within [] s = false
within (x ∷ xs) s = eqb (state_no s) (state_no x) || within xs s

-- any state
abbrev pub any_state : State → Bool
any_state s = true

-- ---- the arms
-- the kinds of values
abbrev pub values : List ℕ
values = kind.SingleQuoted ∷ kind.Numeric ∷ kind.Null ∷ kind.True ∷ kind.False ∷ []

-- the states in which a value is replaced by itself
abbrev pub value_states : List State
value_states = ComparisonOperator ∷ InsertValues ∷ Offset ∷ Between ∷ []

-- an arm's pattern, and what it does
pub record Rule : Type 0 where
  pub kinds : ℕ → Bool
  pub states : State → Bool
  pub does : Does

-- a rule, by its parts
abbrev pub rule : (ℕ → Bool) → (State → Bool) → Does → Rule
rule ks ss d = record { kinds = ks; states = ss; does = d }

-- the arms: 1 to 3 of operators, 4 to 15 of words, 16 of indicators, 17 to 25 of brackets and marks, 26 to 28 of values, and the rest
unfoldable pub rules : List Rule
rules =
    rule (only kind.In) any_state (Go Keyword)
    ∷ rule is_operator (when JoinOn) (Go Default)
    ∷ rule is_operator any_state (Go ComparisonOperator)
    ∷ rule (only kind.Values) any_state (Go InsertValues)
    ∷ rule (only kind.On) any_state (Go JoinOn)
    ∷ rule (only kind.Offset) any_state (Go Offset)
    ∷ rule (only kind.Between) any_state (Go Between)
    ∷ rule (only kind.Array) any_state (Go Array)
    ∷ rule (only kind.And) (when Between) Stay
    ∷ rule (among (kind.And ∷ kind.Or ∷ [])) any_state (Go ComparisonOperator)
    ∷ rule (among (kind.Insert ∷ kind.Into ∷ [])) any_state Stay
    ∷ rule (among (kind.Limit ∷ kind.From ∷ [])) any_state (Go Default)
    ∷ rule (only kind.Where) any_state (Go ComparisonOperator)
    ∷ rule is_keyword (when KeywordScopeStarted) (Go KeywordScopeStarted)
    ∷ rule (only kind.Other) any_state (Go Keyword)
    ∷ rule is_indicator any_state Stay
    ∷ rule (only kind.ParentheseOpen) (when ComparisonOperator) (Go ComparisonOperator)
    ∷ rule (only kind.ParentheseOpen) (when Keyword) (Go KeywordScopeStarted)
    ∷ rule (only kind.ParentheseOpen) (when InsertValues) Stay
    ∷ rule (only kind.SquareBracketOpen) (when Array) (Go ArrayStarted)
    ∷ rule (only kind.ParentheseClose) (when InsertValues) (Go InsertValuesJustClosed)
    ∷ rule (only kind.Comma) (when InsertValuesJustClosed) Stay
    ∷ rule (only kind.ParentheseOpen) (when InsertValuesJustClosed) CollapseRows
    ∷ rule (among (kind.ParentheseClose ∷ kind.SquareBracketClose ∷ [])) any_state (Go Default)
    ∷ rule (only kind.Dot) (when JoinOn) Stay
    ∷ rule (among values) (within value_states) Replace
    ∷ rule (only kind.DoubleQuoted) (within value_states) ReplaceUnlessDotted
    ∷ rule (among (kind.DoubleQuoted ∷ kind.NumberedPlaceholder ∷ values)) (within (ArrayStarted ∷ KeywordScopeStarted ∷ [])) ReplaceToClose
    ∷ rule (only kind.Comment) any_state RemoveComment
    ∷ rule (among (kind.Space ∷ kind.None ∷ [])) any_state Stay
    ∷ rule any_kind (within (InsertValues ∷ KeywordScopeStarted ∷ [])) Stay
    ∷ rule any_kind any_state (Go Default)
    ∷ []

-- the number of the first arm, counted from n on, that takes kind k in state s
abbrev pub first_from : ℕ → List Rule → State → ℕ → ℕ
first_from n [] s k = n
first_from n (r ∷ rs) s k = cond (r.kinds k && r.states s) n (first_from (suc n) rs s k)

-- the arm that decides for kind k in state s: 1 to 32
unfoldable pub arm_of : State → ℕ → ℕ
unfolding rules
arm_of s k = first_from 1 rules s k

-- what arm n does
unfoldable pub does_of : ℕ → Does
unfolding rules
does_of n = (get_or rules (n - 1) (rule any_kind any_state Stay)).does

-- arm n, and what it does
unfoldable pub arm : ℕ → Arm
arm n = record { 0 = n; 1 = does_of n }
