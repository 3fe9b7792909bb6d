-- What the loops and the calls one level down read.
use Rattle.std.proofs.Common.{◌≡◌, ℕ, zero, suc, ◌-◌, ◌<◌, ◌≤◌, max, List, [], ◌∷◌, ◌++◌, length, Option, Some, None, Ok, refl, ◌∙◌, ap, arith, Bool, true, false, leb-true, le-leb}
use Rattle.std.specs.Prelude.{nat_le, if◌then◌else◌}
use Rattle.four_value.specs.declared.operator.BinaryOperator.{BinaryOperator}
use Rattle.v_tree.specs.Tokens.{SourceToken}
use Rattle.v_tree.specs.Trees.{SourceExpression, parts_of}
use Rattle.v_readers.specs.Reading.{next_class, repeat}
use Rattle.v_readers.specs.Given.{Fails}
use Rattle.v_readers.specs.declared.stop.Stop.{Stop}
use Rattle.v_readers.specs.Reads.{turn-is, last-is, stop-is, Fails-through}
use Rattle.v_expr.specs.Heights.{height_of, heights_of}
use Rattle.v_expr.specs.Spelling.{rank_of}
use Rattle.v_expr.specs.Expressions.{Inner, operator_of, joining, operand_by, operand_turn, operands, choice, ranked, inner_of}

ranked-operands : (k : ℕ) (inner : Inner) (rank : ℕ) (tokens : List SourceToken) → rank ≤ 10 → ranked k inner rank tokens ≡ operands k inner rank tokens
ranked-operands k inner rank tokens h = ap (λ b. (if b then operands k inner rank else choice k inner) tokens) (le-leb rank 10 h)

ranked-choice : (k : ℕ) (inner : Inner) (rank : ℕ) (tokens : List SourceToken) → 10 < rank → ranked k inner rank tokens ≡ choice k inner tokens
ranked-choice k inner rank tokens h = ap (λ b. (if b then operands k inner rank else choice k inner) tokens) (by' (nat_le rank 10) refl)
  where
    by' : (x : Bool) → nat_le rank 10 ≡ x → x ≡ false
    by' false e = refl
    by' true e = absurd (omega (arith, h, leb-true rank 10 e))

pub inner_of_operands : (levels rank : ℕ) (tokens : List SourceToken) → 0 < levels → rank ≤ 10 → inner_of levels rank tokens ≡ operands (levels - 1) (inner_of (levels - 1)) rank tokens
unfolding inner_of
inner_of_operands zero rank tokens h g = absurd (let p : 0 < 0 = h in omega arith)
inner_of_operands (suc levels) rank tokens h g =
    let e : levels ≡ suc levels - 1 = omega arith in
    ranked-operands levels (inner_of levels) rank tokens g ∙ ap (λ k. operands k (inner_of k) rank tokens) e

pub inner_of_choice : (levels rank : ℕ) (tokens : List SourceToken) → 0 < levels → 10 < rank → inner_of levels rank tokens ≡ choice (levels - 1) (inner_of (levels - 1)) tokens
unfolding inner_of
inner_of_choice zero rank tokens h g = absurd (let p : 0 < 0 = h in omega arith)
inner_of_choice (suc levels) rank tokens h g =
    let e : levels ≡ suc levels - 1 = omega arith in
    ranked-choice levels (inner_of levels) rank tokens g ∙ ap (λ k. choice k (inner_of k) tokens) e

module _ (k : ℕ) (inner : Inner) (greatest : ℕ) (left : SourceExpression) (rest : List SourceToken) where
  operand_turn-is : (o : Option BinaryOperator) → joining greatest (rank_of left) (operator_of (next_class rest)) ≡ o → operand_turn k inner greatest left rest ≡ operand_by k inner left o rest
  unfolding operand_turn
  operand_turn-is o e = ap (λ w. operand_by k inner left w rest) e

  -- another operand
  pub operands-next : (operator : BinaryOperator) (next : SourceExpression) (after : List SourceToken) → joining greatest (rank_of left) (operator_of (next_class rest)) ≡ Some operator
      → operand_by k inner left (Some operator) rest ≡ Ok (Some next, after) → length after < length rest
      → repeat (operand_turn k inner greatest) left rest ≡ repeat (operand_turn k inner greatest) next after
  operands-next operator next after is e h = turn-is (operand_turn k inner greatest) left next rest after (operand_turn-is (Some operator) is ∙ e) h

  -- an operand that isn't read
  pub operands-fail : (operator : BinaryOperator) (stop : Stop) → joining greatest (rank_of left) (operator_of (next_class rest)) ≡ Some operator
      → Fails stop (operand_by k inner left (Some operator) rest) → Fails stop (repeat (operand_turn k inner greatest) left rest)
  operands-fail operator stop is h = Fails-through stop (operand_by k inner left (Some operator) rest) (repeat (operand_turn k inner greatest) left rest)
      (λ e fails. stop-is (operand_turn k inner greatest) left rest e (operand_turn-is (Some operator) is ∙ fails)) h

  -- the last operand
  pub operands-end : joining greatest (rank_of left) (operator_of (next_class rest)) ≡ None → repeat (operand_turn k inner greatest) left rest ≡ Ok (left, rest)
  operands-end e = last-is (operand_turn k inner greatest) left rest (operand_turn-is None e)

pub heights-append-max : (es : List SourceExpression) (e : SourceExpression) → heights_of (parts_of (es ++ e ∷ [])) ≡ max (heights_of (parts_of es)) (height_of e)
heights-append-max [] e = omega arith
heights-append-max (d ∷ es) e = omega (arith, heights-append-max es e)
