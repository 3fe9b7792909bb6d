-- Reading an expression is exact.
use Rattle.std.proofs.Common.{◌≡◌, ℕ, zero, suc, ◌<◌, ◌≤◌, List, [], ◌∷◌, ◌++◌, Option, Some, None, refl, sym, ap, subst, arith, append_assoc, Bool, true, false, ◌&&◌, leb-true, leb-false}
use Rattle.std.specs.Prelude.{nat_le, if◌then◌else◌}
use Rattle.four_value.specs.declared.operator.UnaryOperator.{UnaryOperator}
use Rattle.four_value.specs.declared.operator.BinaryOperator.{BinaryOperator}
use Rattle.four_value.specs.declared.operator.BinaryOperator.TheVariants as operators
use Rattle.vf_base.specs.Base.{SourcePlace}
use Rattle.v_tree.specs.Tokens.{SourceToken}
use Rattle.v_tree.specs.declared.token.NumberForm.TheVariants.{Plain}
use Rattle.v_tree.specs.declared.token.TokenKind.TheVariants as kinds
use Rattle.v_tree.specs.Trees.{SourceExpression, Number, Selected, Parenthesised, Prefixed, Infixed, Chosen, Concatenated, Replicated, SourceIndex, NoIndex, IndexAt, IndexRange, place_of_expression}
use Rattle.v_tree.specs.Trees.{parts_of}
use Rattle.v_readers.specs.declared.class.Class.{Class}
use Rattle.v_readers.specs.declared.class.Class.TheVariants as classes
use Rattle.v_readers.specs.Classes.{token_at, token_of, is_fixed}
use Rattle.v_readers.specs.Reading.{give}
use Rattle.v_readers.specs.Separated.{SpellsBehind, SpellsList, element_turn}
use Rattle.v_readers.specs.Exact.{Language, Exact, behind, exact-bind, exact-under, exact-give, exact-weaken, exact-shift}
use Rattle.v_readers.specs.Branches.{nowhere, Some-of, Branch, branch, branch-wrong, branch-step, branch-down, exact-by_class, exact-after, exact-name, exact-number}
use Rattle.v_readers.specs.Repeat.{append-nil, Turn, TurnFits, exact-repeat}
use Rattle.v_readers.specs.SeparatedLaws.{EachFits, exact-separated, turn-exact}
use Rattle.v_expr.specs.Operators.{unary_of, binary_of, level_of}
use Rattle.v_expr.specs.Spelling.{rank_of, SpellsExpression, SpellsIndex, SpellsParts, SpellsMoreParts}
use Rattle.v_expr.specs.Heights.{height_of, index_height, heights_of}
use Rattle.v_expr.specs.Expressions.{bounds_by, bounds, index_by, index, replication, concatenation, braced_by, braced, prefixed_by, primary_by, primary, operator_of, joining, operand_rank}
use Rattle.v_expr.specs.Expressions.{operand_by, operand_turn, operands, branches, choice_by, choice, inner_of, expression}

abbrev pub SpellsRanked : ℕ → Language SourceExpression
SpellsRanked rank e ts = (rank_of e ≤ rank) × SpellsExpression e ts

abbrev pub Within : ℕ → SourceExpression → Type 0
Within k e = height_of e ≤ k

abbrev pub Below : ℕ → SourceExpression → Type 0
Below k e = height_of e < k

-- what the readers one level down are
abbrev pub InnerExact : ℕ → Type 0
InnerExact k = (rank : ℕ) → Exact (0 < k) (λ m. inner_of m rank) k (SpellsRanked rank) (Below k)

abbrev zero_number : SourceExpression
zero_number = Number nowhere Plain []

abbrev zero_token : SourceToken
zero_token = token_at (kinds.Number [] Plain) nowhere

pub some-ranked : {C : Type 0} {k : ℕ} (rank : ℕ) → Some-of C (SpellsRanked rank) (Within k)
some-ranked {C} {k} rank = ((zero_number, zero_token ∷ [], (omega arith, refl)), λ c. (zero_number, zero_token ∷ [], (omega arith, refl), omega arith))

-- Parts

more-spelled : (es : List SourceExpression) (ts : List SourceToken) → SpellsBehind (SpellsRanked 11) classes.Comma es ts → SpellsMoreParts (parts_of es) ts
more-spelled [] ts h = h
more-spelled (e ∷ es) ts h = (h.0, h.1, h.2, h.3.1, more-spelled es h.2 h.4, h.5)

pub parts-spelled : (es : List SourceExpression) (ts : List SourceToken) → SpellsList (SpellsRanked 11) classes.Comma es ts → SpellsParts (parts_of es) ts
parts-spelled [] ts h = absurd h
parts-spelled (e ∷ es) ts h = (h.0, h.1, h.2.1, more-spelled es h.1 h.3, h.4)

pub parts-below : (k : ℕ) (es : List SourceExpression) → 0 < k → EachFits (Below k) es → heights_of (parts_of es) < k
parts-below k [] some h = some
parts-below k (e ∷ es) some h = let rest : heights_of (parts_of es) < k = parts-below k es some h.1 in let first : height_of e < k = h.0 in omega arith

-- Operators

pub level_of-some : (o : BinaryOperator) → (1 ≤ level_of o) × (level_of o ≤ 10)
level_of-some operators.Multiply = (omega arith, omega arith)
level_of-some operators.Divide = (omega arith, omega arith)
level_of-some operators.Remainder = (omega arith, omega arith)
level_of-some operators.Add = (omega arith, omega arith)
level_of-some operators.Subtract = (omega arith, omega arith)
level_of-some operators.ShiftLeft = (omega arith, omega arith)
level_of-some operators.ShiftRight = (omega arith, omega arith)
level_of-some operators.ArithmeticShiftLeft = (omega arith, omega arith)
level_of-some operators.ArithmeticShiftRight = (omega arith, omega arith)
level_of-some operators.Less = (omega arith, omega arith)
level_of-some operators.LessEqual = (omega arith, omega arith)
level_of-some operators.Greater = (omega arith, omega arith)
level_of-some operators.GreaterEqual = (omega arith, omega arith)
level_of-some operators.Equal = (omega arith, omega arith)
level_of-some operators.NotEqual = (omega arith, omega arith)
level_of-some operators.CaseEqual = (omega arith, omega arith)
level_of-some operators.CaseNotEqual = (omega arith, omega arith)
level_of-some operators.BitwiseAnd = (omega arith, omega arith)
level_of-some operators.BitwiseXor = (omega arith, omega arith)
level_of-some operators.BitwiseXnor = (omega arith, omega arith)
level_of-some operators.BitwiseOr = (omega arith, omega arith)
level_of-some operators.LogicalAnd = (omega arith, omega arith)
level_of-some operators.LogicalOr = (omega arith, omega arith)

-- what stands for an operator is a mark
pub unary-fixed : (class : Class) (o : UnaryOperator) → unary_of class ≡ Some o → is_fixed class ≡ true
unary-fixed classes.Name o e = absurd (let p : ◌≡◌ {A = Option UnaryOperator} None (Some o) = e in cc)
unary-fixed classes.Number o e = absurd (let p : ◌≡◌ {A = Option UnaryOperator} None (Some o) = e in cc)
unary-fixed classes.IgnoredTask o e = absurd (let p : ◌≡◌ {A = Option UnaryOperator} None (Some o) = e in cc)
unary-fixed classes.FinishTask o e = absurd (let p : ◌≡◌ {A = Option UnaryOperator} None (Some o) = e in cc)
unary-fixed classes.SystemName o e = absurd (let p : ◌≡◌ {A = Option UnaryOperator} None (Some o) = e in cc)
unary-fixed classes.RefusedWord o e = absurd (let p : ◌≡◌ {A = Option UnaryOperator} None (Some o) = e in cc)
unary-fixed _ o e = refl

pub binary-fixed : (class : Class) (o : BinaryOperator) → binary_of class ≡ Some o → is_fixed class ≡ true
binary-fixed classes.Name o e = absurd (let p : ◌≡◌ {A = Option BinaryOperator} None (Some o) = e in cc)
binary-fixed classes.Number o e = absurd (let p : ◌≡◌ {A = Option BinaryOperator} None (Some o) = e in cc)
binary-fixed classes.IgnoredTask o e = absurd (let p : ◌≡◌ {A = Option BinaryOperator} None (Some o) = e in cc)
binary-fixed classes.FinishTask o e = absurd (let p : ◌≡◌ {A = Option BinaryOperator} None (Some o) = e in cc)
binary-fixed classes.SystemName o e = absurd (let p : ◌≡◌ {A = Option BinaryOperator} None (Some o) = e in cc)
binary-fixed classes.RefusedWord o e = absurd (let p : ◌≡◌ {A = Option BinaryOperator} None (Some o) = e in cc)
binary-fixed _ o e = refl

pub operator_of-Some : (class : Option Class) (o : BinaryOperator) → operator_of class ≡ Some o → (sign : Class) × (class ≡ Some sign) × (binary_of sign ≡ Some o)
operator_of-Some None o e = absurd (let p : ◌≡◌ {A = Option BinaryOperator} None (Some o) = e in cc)
operator_of-Some (Some sign) o e = (sign, refl, e)

pub joining-Some : (greatest rank : ℕ) (o : Option BinaryOperator) (operator : BinaryOperator) → joining greatest rank o ≡ Some operator
    → (o ≡ Some operator) × (level_of operator ≤ greatest) × (rank ≤ level_of operator)
joining-Some greatest rank None operator e = absurd (let p : ◌≡◌ {A = Option BinaryOperator} None (Some operator) = e in cc)
joining-Some greatest rank (Some o) operator e = at (nat_le (level_of o) greatest) (nat_le rank (level_of o)) refl refl e
  where
    same : ◌≡◌ {A = Option BinaryOperator} (Some o) (Some operator) → o ≡ operator
    same e = cc

    at : (x y : Bool) → nat_le (level_of o) greatest ≡ x → nat_le rank (level_of o) ≡ y → (if x && y then Some o else None) ≡ Some operator
        → (◌≡◌ {A = Option BinaryOperator} (Some o) (Some operator)) × (level_of operator ≤ greatest) × (rank ≤ level_of operator)
    at true true x-is y-is e =
        let is = ap level_of (same e) in
        (e, omega (arith, is, leb-true (level_of o) greatest x-is), omega (arith, is, leb-true rank (level_of o) y-is))
    at true false x-is y-is e = absurd (let p : ◌≡◌ {A = Option BinaryOperator} None (Some operator) = e in cc)
    at false y x-is y-is e = absurd (let p : ◌≡◌ {A = Option BinaryOperator} None (Some operator) = e in cc)

-- what is left of an index behind `[` and its first expression
abbrev pub Bounds : SourcePlace → List SourceToken → Language SourceIndex
Bounds opening before i back = SpellsIndex i (token_of classes.LeftBracket opening ∷ (before ++ back))

-- what is left of a concatenation or a replication behind `{` and its first expression
abbrev pub Braced : SourcePlace → List SourceToken → Language SourceExpression
Braced place before e back = SpellsRanked 0 e (token_of classes.LeftBrace place ∷ (before ++ back))

-- the condition under which one goes on behind a first expression one level down
abbrev pub Started : Type 0 → ℕ → SourceExpression → Type 0
Started C k first = (C × (0 < k)) × (height_of first < k)

-- the height of an index
abbrev pub IndexWithin : ℕ → SourceIndex → Type 0
IndexWithin k i = index_height i ≤ k

module _ (k : ℕ) (inner : InnerExact k) where
  bounds-exact : {C : Type 0} (opening : SourcePlace) (from : SourceExpression) (before : List SourceToken) → SpellsRanked 11 from before
      → Exact (Started C k from) (λ m. bounds (inner_of m) from) k (Bounds opening before) (IndexWithin k)
  unfolding bounds
  bounds-exact {C} opening from before spelled = exact-by_class (λ m. bounds_by (inner_of m) from) ended each
    where
      ended : Some-of (Started C k from) (Bounds opening before) (IndexWithin k)
      ended = (
        (IndexAt from, token_of classes.RightBracket nowhere ∷ [], (opening, nowhere, before, spelled.1, refl)),
        λ c. (IndexAt from, token_of classes.RightBracket nowhere ∷ [], (opening, nowhere, before, spelled.1, refl), omega (arith, c.1)),
      )

      bit : {class : Option Class} → Branch (Started C k from) (λ m. bounds_by (inner_of m) from None) k (Bounds opening before) (IndexWithin k) class
      bit = branch (exact-after classes.RightBracket refl (λ closing. exact-give (IndexAt from) (opening, closing, before, spelled.1, refl) (λ c. omega (arith, c.1))))

      each : (class : Option Class) → Branch (Started C k from) (λ m. bounds_by (inner_of m) from class) k (Bounds opening before) (IndexWithin k) class
      each (Some classes.Colon) = branch-step refl (λ colon.
          exact-bind (exact-under (λ c. c.0.1) (inner 11)) (λ to after yes'.
          exact-after classes.RightBracket refl (λ closing.
          exact-give (IndexRange from to) (opening, colon, closing, before, after, spelled.1, yes'.1, refl) (λ c. omega (arith, c.0.1, c.1)))))
      each _ = bit

  pub index-exact : {C : Type 0} → Exact C (λ m. index m (inner_of m)) k SpellsIndex (IndexWithin k)
  unfolding index
  index-exact {C} = exact-by_class (λ m. index_by m (inner_of m)) none each
    where
      none : Some-of C SpellsIndex (IndexWithin k)
      none = ((NoIndex, [], refl), λ c. (NoIndex, [], refl, omega arith))

      alone : {class : Option Class} → Branch C (λ m. give NoIndex) k SpellsIndex (IndexWithin k) class
      alone = branch (exact-give NoIndex refl (λ c. omega arith))

      each : (class : Option Class) → Branch C (λ m. index_by m (inner_of m) class) k SpellsIndex (IndexWithin k) class
      each (Some classes.LeftBracket) = branch-down refl 0 (λ opening.
          exact-bind (exact-under (λ c. c.1) (inner 11)) (λ from before spelled. bounds-exact opening from before spelled))
      each _ = alone

  one : (first : SourceExpression) (before : List SourceToken) → SpellsRanked 11 first before → SpellsList (SpellsRanked 11) classes.Comma (first ∷ []) before
  one first before spelled = (before, [], spelled, refl, sym (append-nil before))

  joined : (place : SourcePlace) (parts : List SourceExpression) (before others : List SourceToken) (closing : SourcePlace) → SpellsList (SpellsRanked 11) classes.Comma parts (before ++ others)
      → Braced place before (Concatenated place (parts_of parts)) (others ++ token_of classes.RightBrace closing ∷ [])
  joined place parts before others closing all = (
    omega arith,
    (
      closing,
      before ++ others,
      parts-spelled parts (before ++ others) all,
      ap (λ ts. token_of classes.LeftBrace place ∷ ts)
          (sym (append_assoc before others (token_of classes.RightBrace closing ∷ []))),
    ),
  )

  concatenation-exact : {C : Type 0} (place : SourcePlace) (first : SourceExpression) (before : List SourceToken) → SpellsRanked 11 first before
      → Exact (Started C k first) (λ m. concatenation (inner_of m) first place) k (Braced place before) (Within k)
  unfolding concatenation
  concatenation-exact {C} place first before spelled =
      exact-bind (exact-under (λ c. (c.0.1, (c.1, tt)))
      (exact-repeat {C = 0 < k} (λ m. element_turn classes.Comma (inner_of m 11)) {N = SpellsList (SpellsRanked 11) classes.Comma} {G = EachFits (Below k)}
      (turn-exact (λ m. inner_of m 11) k (SpellsRanked 11) (Below k) classes.Comma refl (inner 11)) (first ∷ []) before (one first before spelled))) (λ parts others all.
      exact-after classes.RightBrace refl (λ closing.
      exact-give (Concatenated place (parts_of parts)) (joined place parts before others closing all)
      (λ c. let low : heights_of (parts_of parts) < k = parts-below k parts c.0.0.1 c.1 in omega (arith, low))))

  replication-exact : {C : Type 0} (place : SourcePlace) (first : SourceExpression) (before : List SourceToken) → SpellsRanked 11 first before → {class : Option Class} → class ≡ Some classes.LeftBrace
      → Branch (Started C k first) (λ m. replication (inner_of m) first place) k (Braced place before) (Within k) class
  unfolding replication
  replication-exact {C} place first before spelled {class} is =
      subst (λ w. Branch (Started C k first) (λ m. replication (inner_of m) first place) k (Braced place before) (Within k) w) (sym is)
      (branch-step refl (λ opening.
      exact-bind (exact-under (λ c. c.0.1) (exact-separated (λ m. inner_of m 11) k (SpellsRanked 11) (Below k) classes.Comma refl (inner 11))) (λ parts inside all.
      exact-after classes.RightBrace refl (λ inner_closing.
      exact-after classes.RightBrace refl (λ closing.
      exact-give (Replicated place first (parts_of parts))
      (omega arith, (opening, inner_closing, closing, before, inside, spelled.1, parts-spelled parts inside all, refl))
      (λ c. let low : heights_of (parts_of parts) < k = parts-below k parts c.0.0.1 c.1 in let count : height_of first < k = c.0.1 in omega (arith, low, count)))))))

  braced-exact : {C : Type 0} (place : SourcePlace) (first : SourceExpression) (before : List SourceToken) → SpellsRanked 11 first before
      → Exact (Started C k first) (λ m. braced (inner_of m) first place) k (Braced place before) (Within k)
  unfolding braced
  braced-exact {C} place first before spelled = exact-by_class (λ m. braced_by (inner_of m) first place) closed each
    where
      closed : Some-of (Started C k first) (Braced place before) (Within k)
      closed =
          let value = Concatenated place (parts_of (first ∷ [])) in
          let tail = token_of classes.RightBrace nowhere ∷ [] in
          let here = joined place (first ∷ []) before [] nowhere (subst (SpellsList (SpellsRanked 11) classes.Comma (first ∷ [])) (sym (append-nil before)) (one first before spelled)) in
          ((value, tail, here), λ c. (value, tail, here, (let low : height_of first < k = c.1 in omega (arith, low))))

      other : {class : Option Class} → Branch (Started C k first) (λ m. braced_by (inner_of m) first place None) k (Braced place before) (Within k) class
      other = branch (concatenation-exact place first before spelled)

      each : (class : Option Class) → Branch (Started C k first) (λ m. braced_by (inner_of m) first place class) k (Braced place before) (Within k) class
      each (Some classes.LeftBrace) = replication-exact place first before spelled refl
      each _ = other

  prefixed-exact : {C : Type 0} (class : Class) (o : Option UnaryOperator) → unary_of class ≡ o → Branch C (λ m. prefixed_by m (inner_of m) o) k (SpellsRanked 0) (Within k) (Some class)
  prefixed-exact class None e = branch-wrong (some-ranked 0)
  prefixed-exact class (Some operator) e = branch-down (unary-fixed class operator e) 0 (λ place.
      exact-bind (exact-under (λ c. c.1) (inner 0)) (λ operand after spelled.
      exact-give (Prefixed place operator operand)
      (omega arith, (spelled.0, class, e, after ++ [], subst (SpellsExpression operand) (sym (append-nil after)) spelled.1, refl)) (λ c. omega (arith, c.1))))

  pub primary-exact : {C : Type 0} → Exact C (λ m. primary m (inner_of m)) k (SpellsRanked 0) (Within k)
  unfolding primary
  primary-exact {C} = exact-by_class (λ m. primary_by m (inner_of m)) (some-ranked 0) each
    where
      each : (class : Option Class) → Branch C (λ m. primary_by m (inner_of m) class) k (SpellsRanked 0) (Within k) class
      each None = branch-wrong (some-ranked 0)
      each (Some classes.Number) = branch (exact-bind exact-number (λ n front spelled. exact-give (Number n.1 n.0.1 n.0.0) (omega arith, ap (λ f. f ++ []) spelled) (λ c. omega arith)))
      each (Some classes.Name) = branch (exact-bind exact-name (λ n front spelled.
          exact-bind (index-exact) (λ at behind' ends.
          exact-give (Selected n.1 n.0 at) (omega arith, (spelled.0, behind' ++ [], subst (SpellsIndex at) (sym (append-nil behind')) ends, ap (λ f. f ++ (behind' ++ [])) spelled.1)) (λ c. c.1))))
      each (Some classes.LeftParen) = branch-down refl 0 (λ place.
          exact-bind (exact-under (λ c. c.1) (inner 11)) (λ e inside spelled.
          exact-after classes.RightParen refl (λ closing.
          exact-give (Parenthesised place e) (omega arith, (closing, inside, spelled.1, refl)) (λ c. omega (arith, c.1)))))
      each (Some classes.LeftBrace) = branch-down refl 0 (λ place.
          exact-bind (exact-under (λ c. c.1) (inner 11)) (λ e first spelled. braced-exact place e first spelled))
      each (Some class) = prefixed-exact class (unary_of class) refl

  pub operands-exact : {C : Type 0} (greatest : ℕ) → Exact C (λ m. operands m (inner_of m) greatest) k (SpellsRanked greatest) (Within k)
  unfolding operands operand_turn
  operands-exact {C} greatest =
      exact-bind primary-exact (λ left front spelled.
      exact-repeat (λ m. operand_turn m (inner_of m) greatest) {N = SpellsRanked greatest} {G = Within k} each left front (omega arith, spelled.1))
    where
      at : (left : SourceExpression) (front : List SourceToken) → SpellsRanked greatest left front → (class : Option Class) (o : Option BinaryOperator) →
          joining greatest (rank_of left) (operator_of class) ≡ o
          → Branch (C × Within k left) (λ m. operand_by m (inner_of m) left o) k (Turn (SpellsRanked greatest) left front) (TurnFits (Within k)) class
      at left front here class None e = branch (exact-give None refl (λ c. tt))
      at left front here class (Some operator) e =
          let is = joining-Some greatest (rank_of left) (operator_of class) operator e in
          let by' = operator_of-Some class operator is.0 in
          let level = level_of-some operator in
          subst (λ w. Branch (C × Within k left) (λ m. operand_by m (inner_of m) left (Some operator)) k (Turn (SpellsRanked greatest) left front) (TurnFits (Within k)) w) (sym by'.1)
          (branch-down (binary-fixed by'.0 operator by'.2) (height_of left) (λ sign.
          exact-bind (exact-under (λ c. omega (arith, c.1)) (inner (operand_rank operator))) (λ right inside spelled.
          exact-give (Some (Infixed (place_of_expression left) operator left right)) (
            (is.1, (is.2, omega (arith, level.0, spelled.0), refl, by'.0, by'.2, sign, front, inside ++ [], here.1, subst (SpellsExpression right) (sym (append-nil inside)) spelled.1, refl)),
            omega arith,
          )
          (λ c. omega (arith, c.0.0.1, c.0.1, c.1)))))

      each : (left : SourceExpression) (front : List SourceToken) → SpellsRanked greatest left front →
          Exact (C × Within k left) (λ m. operand_turn m (inner_of m) greatest left) k (Turn (SpellsRanked greatest) left front) (TurnFits (Within k))
      each left front here = exact-by_class (λ m class. operand_by m (inner_of m) left (joining greatest (rank_of left) (operator_of class)))
          ((None, [], refl), λ c. (None, [], refl, tt))
          (λ class. at left front here class (joining greatest (rank_of left) (operator_of class)) refl)

  branches-exact : {C : Type 0} (condition : SourceExpression) (front : List SourceToken) → SpellsRanked 10 condition front
      → Branch (C × Within k condition) (λ m. branches m (inner_of m) condition) k (behind front (SpellsRanked 11)) (Within k) (Some classes.Question)
  unfolding branches
  branches-exact {C} condition front spelled = branch-down refl (height_of condition) (λ question.
      exact-bind (exact-under (λ c. omega (arith, c.1)) (inner 11)) (λ first between yes'.
      exact-after classes.Colon refl (λ colon.
      exact-bind (exact-under (λ c. omega (arith, c.0.1)) (inner 11)) (λ second after no'.
      exact-give (Chosen (place_of_expression condition) condition first second)
      (omega arith, (omega (arith, spelled.0), refl, question, colon, front, between, after ++ [], spelled.1, yes'.1, subst (SpellsExpression second) (sym (append-nil after)) no'.1, refl))
      (λ c. omega (arith, c.0.0.1, c.0.1, c.1))))))

  pub choice-exact : {C : Type 0} → Exact C (λ m. choice m (inner_of m)) k (SpellsRanked 11) (Within k)
  unfolding choice
  choice-exact {C} = exact-bind (operands-exact 10) (λ condition front spelled. exact-by_class (λ m. choice_by m (inner_of m) condition) (alone condition front spelled) (each condition front spelled))
    where
      alone : (condition : SourceExpression) (front : List SourceToken) → SpellsRanked 10 condition front → Some-of (C × Within k condition) (behind front (SpellsRanked 11)) (Within k)
      alone condition front spelled =
          let here = subst (SpellsExpression condition) (sym (append-nil front)) spelled.1 in
          ((condition, [], (omega (arith, spelled.0), here)), λ c. (condition, [], (omega (arith, spelled.0), here), c.1))

      each : (condition : SourceExpression) (front : List SourceToken) → SpellsRanked 10 condition front → (class : Option Class)
          → Branch (C × Within k condition) (λ m. choice_by m (inner_of m) condition class) k (behind front (SpellsRanked 11)) (Within k) class
      each condition front spelled (Some classes.Question) = branches-exact condition front spelled
      each condition front spelled _ = branch (exact-give condition (omega (arith, spelled.0), subst (SpellsExpression condition) (sym (append-nil front)) spelled.1) (λ c. c.1))

  ranked-exact : {C : Type 0} (rank : ℕ) (b : Bool) → nat_le rank 10 ≡ b → Exact C (λ m. if b then operands m (inner_of m) rank else choice m (inner_of m)) k (SpellsRanked rank) (Within k)
  ranked-exact rank true e = operands-exact rank
  ranked-exact rank false e = exact-weaken (λ e' ts s. (omega (arith, s.0, leb-false rank 10 e), s.1)) choice-exact

pub inner-exact : (k : ℕ) → InnerExact k
unfolding inner_of
inner-exact zero rank = record {
  any = (some-ranked {C = Unit {0}} {k = 0} rank).0;
  some = λ c. absurd (let p : 0 < 0 = c in omega arith);
  tells = λ c tokens. absurd (let p : 0 < 0 = c in omega arith);
}
inner-exact (suc k) rank = exact-shift {C = Unit {0}} (λ m. inner_of m rank) (Below (suc k)) (λ m tokens. refl) (λ e h. omega arith) (λ d. tt)
    (ranked-exact k (inner-exact k) rank (nat_le rank 10) refl)

-- an expression within k levels
pub expression-exact : {C : Type 0} (k : ℕ) → Exact C expression k (SpellsRanked 11) (Within k)
unfolding expression
expression-exact k = choice-exact k (inner-exact k)
