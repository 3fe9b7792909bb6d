-- How expressions, selects, targets, ranges and delays are spelled, by recursion on their trees, with their places
-- (IEEE 1364-2001, annexes A.2.5, A.2.2.3, A.8.1 to A.8.5).
use Rattle.std.specs.Prelude.{◌≡◌, ℕ, ◌<◌, ◌≤◌, List, [], ◌∷◌, ◌++◌, Some, ◌⊎◌}
use Rattle.vf_base.specs.Base.{SourcePlace}
use Rattle.v_tree.specs.Tokens.{SourceToken}
use Rattle.v_tree.specs.declared.token.TokenKind.TheVariants as kinds
use Rattle.v_readers.specs.declared.class.Class.{Class}
use Rattle.v_readers.specs.declared.class.Class.TheVariants.{Question, Colon, Comma, LeftParen, RightParen, LeftBracket, RightBracket, LeftBrace, RightBrace}
use Rattle.v_tree.specs.Trees.{SourceExpression, Number, Selected, Parenthesised, Prefixed, Infixed, Chosen, Concatenated, Replicated, SourceIndex, NoIndex, IndexAt, IndexRange, SourceExpressions}
use Rattle.v_tree.specs.Trees.{no_parts, more_parts, SourceSelect, SourceTarget, OneSelect, JoinedSelects, SourceRange, place_of_expression}
use Rattle.v_readers.specs.Classes.{token_at, token_of, name_token, IsName}
use Rattle.v_readers.specs.Separated.{SpellsList}
use Rattle.v_expr.specs.Operators.{unary_of, binary_of, level_of}

-- the level of the outermost operator: 0 where there is none between operands, 11 for a choice
abbrev pub rank_of : SourceExpression → ℕ
rank_of (Number place form value) = 0
rank_of (Selected place name index) = 0
rank_of (Parenthesised place inner) = 0
rank_of (Prefixed place operator operand) = 0
rank_of (Infixed place operator left right) = level_of operator
rank_of (Chosen place condition first second) = 11
rank_of (Concatenated place parts) = 0
rank_of (Replicated place count parts) = 0

abbrev mutual
  -- These tokens spell the expression. Operators of one level group to the left, a choice to the right, and a prefix
  -- stands before what has no operator between operands.
  pub SpellsExpression : SourceExpression → List SourceToken → Type 0
  SpellsExpression (Number place form value) ts = ts ≡ token_at (kinds.Number value form) place ∷ []
  SpellsExpression (Selected place name index) ts =
      IsName name × (behind : List SourceToken) × SpellsIndex index behind × (ts ≡ name_token name place ∷ behind)
  SpellsExpression (Parenthesised place inner) ts =
      (close_place : SourcePlace) × (inside : List SourceToken) × SpellsExpression inner inside
      × (ts ≡ token_of LeftParen place ∷ (inside ++ token_of RightParen close_place ∷ []))
  SpellsExpression (Prefixed place operator operand) ts =
      (rank_of operand ≤ 0) × (sign : Class) × (unary_of sign ≡ Some operator) × (after : List SourceToken) × SpellsExpression operand after
      × (ts ≡ token_of sign place ∷ after)
  SpellsExpression (Infixed place operator left right) ts =
      (rank_of left ≤ level_of operator) × (rank_of right < level_of operator) × (place_of_expression left ≡ place)
      × (sign : Class) × (binary_of sign ≡ Some operator) × (operator_place : SourcePlace) × (before after : List SourceToken)
      × SpellsExpression left before × SpellsExpression right after
      × (ts ≡ before ++ token_of sign operator_place ∷ after)
  SpellsExpression (Chosen place condition first second) ts =
      (rank_of condition < 11) × (place_of_expression condition ≡ place)
      × (question_place colon_place : SourcePlace) × (before between after : List SourceToken)
      × SpellsExpression condition before × SpellsExpression first between × SpellsExpression second after
      × (ts ≡ before ++ token_of Question question_place ∷ (between ++ token_of Colon colon_place ∷ after))
  SpellsExpression (Concatenated place parts) ts =
      (close_place : SourcePlace) × (inside : List SourceToken) × SpellsParts parts inside
      × (ts ≡ token_of LeftBrace place ∷ (inside ++ token_of RightBrace close_place ∷ []))
  SpellsExpression (Replicated place count parts) ts =
      (open_place inner_place close_place : SourcePlace) × (before inside : List SourceToken) × SpellsExpression count before × SpellsParts parts inside
      × (ts ≡ token_of LeftBrace place ∷ (before ++ token_of LeftBrace open_place
      ∷ (inside ++ token_of RightBrace inner_place ∷ token_of RightBrace close_place ∷ [])))

  -- these tokens spell what stands behind a name
  pub SpellsIndex : SourceIndex → List SourceToken → Type 0
  SpellsIndex NoIndex ts = ts ≡ []
  SpellsIndex (IndexAt index) ts =
      (open_place close_place : SourcePlace) × (inside : List SourceToken) × SpellsExpression index inside
      × (ts ≡ token_of LeftBracket open_place ∷ (inside ++ token_of RightBracket close_place ∷ []))
  SpellsIndex (IndexRange from to) ts =
      (open_place colon_place close_place : SourcePlace) × (before after : List SourceToken) × SpellsExpression from before × SpellsExpression to after
      × (ts ≡ token_of LeftBracket open_place ∷ (before ++ token_of Colon colon_place ∷ (after ++ token_of RightBracket close_place ∷ [])))

  -- these tokens spell the parts, one at least, with commas between them
  pub SpellsParts : SourceExpressions → List SourceToken → Type 0
  SpellsParts no_parts ts = ⊥
  SpellsParts (more_parts first rest) ts =
      (before after : List SourceToken) × SpellsExpression first before × SpellsMoreParts rest after × (ts ≡ before ++ after)

  -- these tokens spell the parts, a comma before each
  pub SpellsMoreParts : SourceExpressions → List SourceToken → Type 0
  SpellsMoreParts no_parts ts = ts ≡ []
  SpellsMoreParts (more_parts first rest) ts =
      (comma_place : SourcePlace) × (before after : List SourceToken) × SpellsExpression first before × SpellsMoreParts rest after
      × (ts ≡ token_of Comma comma_place ∷ (before ++ after))

-- these tokens spell the select
abbrev pub SpellsSelect : SourceSelect → List SourceToken → Type 0
SpellsSelect s ts = IsName s.name × (behind : List SourceToken) × SpellsIndex s.index behind × (ts ≡ name_token s.name s.place ∷ behind)

-- these tokens spell the target
abbrev pub SpellsTarget : SourceTarget → List SourceToken → Type 0
SpellsTarget (OneSelect select) ts = SpellsSelect select ts
SpellsTarget (JoinedSelects place selects) ts =
    (close_place : SourcePlace) × (inside : List SourceToken) × SpellsList SpellsSelect Comma selects inside
    × (ts ≡ token_of LeftBrace place ∷ (inside ++ token_of RightBrace close_place ∷ []))

-- these tokens spell the range
abbrev pub SpellsRange : SourceRange → List SourceToken → Type 0
SpellsRange r ts =
    (colon_place close_place : SourcePlace) × (before after : List SourceToken) × SpellsExpression r.high before × SpellsExpression r.low after
    × (ts ≡ token_of LeftBracket r.place ∷ (before ++ token_of Colon colon_place ∷ (after ++ token_of RightBracket close_place ∷ [])))

-- these tokens spell a number or a name alone
abbrev pub SpellsBareDelay : SourceExpression → List SourceToken → Type 0
SpellsBareDelay (Number place form value) ts = ts ≡ token_at (kinds.Number value form) place ∷ []
SpellsBareDelay (Selected place name NoIndex) ts = IsName name × (ts ≡ name_token name place ∷ [])
SpellsBareDelay _ ts = ⊥

-- these tokens spell the delay behind its `#`: a number, a name, or any expression in parentheses, which are not kept
abbrev pub SpellsDelay : SourceExpression → List SourceToken → Type 0
SpellsDelay delay ts =
    SpellsBareDelay delay ts
    ⊎ ((open_place close_place : SourcePlace) × (inside : List SourceToken) × SpellsExpression delay inside
    × (ts ≡ token_of LeftParen open_place ∷ (inside ++ token_of RightParen close_place ∷ [])))
