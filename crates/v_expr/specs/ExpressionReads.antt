-- Every spelled expression is read.
use Rattle.std.proofs.Common.{◌≡◌, ℕ, max, zero, suc, ◌<◌, ◌≤◌, List, [], ◌∷◌, ◌++◌, Option, Some, None, Ok, refl, sym, ◌∙◌, ap, subst, arith, append_assoc, length-append, lt-ltb, Bool, true, false}
use Rattle.std.proofs.Common.{leb-true, leb-false, le-leb}
use Rattle.std.specs.Prelude.{nat_lt, nat_le, if◌then◌else◌}
use Rattle.four_value.specs.declared.operator.UnaryOperator.{UnaryOperator}
use Rattle.four_value.specs.declared.operator.BinaryOperator.{BinaryOperator}
use Rattle.vf_base.specs.Base.{SourcePlace}
use Rattle.v_tree.specs.Tokens.{SourceToken}
use Rattle.v_tree.specs.Trees.{Identifier, SourceExpression, Number, Selected, Parenthesised, Prefixed, Infixed, Chosen, Concatenated, Replicated, SourceIndex, NoIndex, IndexAt, IndexRange}
use Rattle.v_tree.specs.Trees.{SourceExpressions, no_parts, more_parts, parts_of}
use Rattle.v_readers.specs.declared.class.Class.{Class}
use Rattle.v_readers.specs.declared.class.Class.TheVariants as classes
use Rattle.v_readers.specs.Classes.{token_of, name_token, IsName}
use Rattle.v_readers.specs.ClassLaws.{class_of-kind_of}
use Rattle.v_readers.specs.Reading.{Reading, followed, give, by_class, next_class, repeat}
use Rattle.v_readers.specs.Separated.{SpellsBehind, SpellsList, element_turn, separated}
use Rattle.v_readers.specs.Reads.{turn-is, last-is, name-reads, separated-reads, behind-reads}
use Rattle.v_readers.specs.SeparatedLaws.{EachFits}
use Rattle.v_expr.specs.Operators.{unary_of, binary_of, level_of}
use Rattle.v_expr.specs.Spelling.{rank_of, SpellsExpression, SpellsIndex, SpellsParts, SpellsMoreParts}
use Rattle.v_expr.specs.Heights.{height_of, index_height, heights_of}
use Rattle.v_expr.specs.Expressions.{bounds, index_by, index, replication, concatenation, braced_by, braced, prefixed_by, primary_by, primary, operator_of, joining, operand_rank, operand_by}
use Rattle.v_expr.specs.Expressions.{operand_turn, operands, branches, choice_by, choice, inner_of, expression}
use Rattle.v_expr.specs.ExpressionExact.{SpellsRanked, Below, level_of-some}

-- the level of an operator, or 12 where there is none
abbrev pub entry_at : Option BinaryOperator → ℕ
entry_at None = 12
entry_at (Some operator) = level_of operator

-- the least rank of the expressions that a token of this class goes on with, or 12
abbrev pub entry_of : Option Class → ℕ
entry_of None = 12
entry_of (Some classes.LeftBracket) = 0
entry_of (Some classes.Question) = 11
entry_of (Some class) = entry_at (binary_of class)

-- an expression of this rank ends before a token of this class
abbrev pub EndsBefore : ℕ → Option Class → Type 0
EndsBefore rank class = rank < entry_of class

-- an expression of this rank ends before these tokens
abbrev pub Ends : ℕ → List SourceToken → Type 0
Ends rank rest = EndsBefore rank (next_class rest)

-- the class of an operator's token
abbrev SignOf : BinaryOperator → Class → Type 0
SignOf operator sign = binary_of sign ≡ Some operator

entry_of-sign : (sign : Class) (o : BinaryOperator) → binary_of sign ≡ Some o → entry_of (Some sign) ≡ level_of o
entry_of-sign classes.LeftBracket o e = absurd (let p : ◌≡◌ {A = Option BinaryOperator} None (Some o) = e in cc)
entry_of-sign classes.Question o e = absurd (let p : ◌≡◌ {A = Option BinaryOperator} None (Some o) = e in cc)
entry_of-sign _ o e = ap entry_at e

leb-false' : (a b : ℕ) → b < a → nat_le a b ≡ false
leb-false' a b h = by' (nat_le a b) refl
  where
    by' : (x : Bool) → nat_le a b ≡ x → x ≡ false
    by' false e = refl
    by' true e = absurd (omega (arith, leb-true a b e))

-- an operator goes on with an expression of no greater rank
joining-is : (greatest rank : ℕ) (o : BinaryOperator) → level_of o ≤ greatest → rank ≤ level_of o → joining greatest rank (Some o) ≡ Some o
joining-is greatest rank o h g = rw (le-leb (level_of o) greatest h, le-leb rank (level_of o) g) refl

joining-not : (greatest rank : ℕ) (o : Option BinaryOperator) → greatest < entry_at o → joining greatest rank o ≡ None
joining-not greatest rank None h = refl
joining-not greatest rank (Some o) h = rw (leb-false' (level_of o) greatest h) refl

-- none goes on where a greater one stands
joining-ends : (greatest rank : ℕ) (class : Option Class) → greatest < entry_of class → joining greatest rank (operator_of class) ≡ None
joining-ends greatest rank None h = refl
joining-ends greatest rank (Some classes.LeftBracket) h = refl
joining-ends greatest rank (Some classes.Question) h = refl
joining-ends greatest rank (Some class) h = joining-not greatest rank (binary_of class) h

pub rank-top : (e : SourceExpression) → rank_of e ≤ 11
rank-top (Number place form value) = omega arith
rank-top (Selected place name index) = omega arith
rank-top (Parenthesised place inner) = omega arith
rank-top (Prefixed place operator operand) = omega arith
rank-top (Infixed place operator left right) = omega (arith, (level_of-some operator).1)
rank-top (Chosen place condition first second) = omega arith
rank-top (Concatenated place parts) = omega arith
rank-top (Replicated place count parts) = omega arith

-- the parts of a tree in a row
pub list_of : SourceExpressions → List SourceExpression
list_of no_parts = []
list_of (more_parts first rest) = first ∷ list_of rest

pub parts_of-list_of : (all : SourceExpressions) → parts_of (list_of all) ≡ all
unfolding list_of
parts_of-list_of no_parts = refl
parts_of-list_of (more_parts first rest) = ap (more_parts first) (parts_of-list_of rest)

more-list : (all : SourceExpressions) (ts : List SourceToken) → SpellsMoreParts all ts → SpellsBehind (SpellsRanked 11) classes.Comma (list_of all) ts
unfolding list_of
more-list no_parts ts h = h
more-list (more_parts e rest) ts h = (h.0, h.1, h.2, (rank-top e, h.3), more-list rest h.2 h.4, h.5)

parts-list : (all : SourceExpressions) (ts : List SourceToken) → SpellsParts all ts → SpellsList (SpellsRanked 11) classes.Comma (list_of all) ts
unfolding list_of
parts-list no_parts ts h = absurd h
parts-list (more_parts e rest) ts h = (h.0, h.1, (rank-top e, h.2), more-list rest h.1 h.3, h.4)

fits-list : (k : ℕ) (all : SourceExpressions) → heights_of all < k → EachFits (Below k) (list_of all)
unfolding list_of
fits-list k no_parts h = tt
fits-list k (more_parts e rest) h = (omega arith, fits-list k rest (omega arith))

-- what the readers one level down read
abbrev pub InnerReads : ℕ → Type 0
InnerReads k = (rank : ℕ) (e : SourceExpression) (ts rest : List SourceToken) → SpellsRanked rank e ts → height_of e < k → Ends rank rest → inner_of k rank (ts ++ rest) ≡ Ok (e, rest)

-- the token of a sign is of its class
sign-class : (sign : Class) (place : SourcePlace) (rest : List SourceToken) → next_class (token_of sign place ∷ rest) ≡ Some sign
sign-class sign place rest = ap (λ (c : Class). Some c) (class_of-kind_of sign)

-- a name and what stands in brackets behind it
pub name-by : (k : ℕ) (name : Identifier) (place : SourcePlace) (tail : List SourceToken) → IsName name
    → primary k (inner_of k) (name_token name place ∷ tail) ≡ followed (index k (inner_of k) tail) (λ at. give (Selected place name at))
unfolding primary
name-by k name place tail h =
    ap (λ c. primary_by k (inner_of k) c (name_token name place ∷ tail)) (ap (λ (c : Class). Some c) h)
    ∙ ap (λ r. followed r (λ n tokens. followed (index k (inner_of k) tokens) (λ at. give (Selected n.1 n.0 at)))) (name-reads name place tail h)

module _ (k : ℕ) (inner : InnerReads k) where
  index-ends : (rest : List SourceToken) (class : Option Class) → EndsBefore 0 class → index_by k (inner_of k) class rest ≡ Ok (NoIndex, rest)
  index-ends rest (Some classes.LeftBracket) h = absurd (let p : 0 < 0 = h in omega arith)
  index-ends rest _ h = refl

  pub index-reads : (i : SourceIndex) (ts rest : List SourceToken) → SpellsIndex i ts → index_height i ≤ k → Ends 0 rest → index k (inner_of k) (ts ++ rest) ≡ Ok (i, rest)
  unfolding index bounds
  index-reads NoIndex ts rest s h ends = ap (λ f. index k (inner_of k) (f ++ rest)) s ∙ index-ends rest (next_class rest) ends
  index-reads (IndexAt at) ts rest s h ends =
      let low : nat_lt 0 k ≡ true = lt-ltb 0 k (omega arith) in
      let read = inner 11 at s.2 (token_of classes.RightBracket s.1 ∷ rest) (rank-top at, s.3) (omega arith) (omega arith) in
      ap (λ f. index k (inner_of k) (f ++ rest)) s.4
      ∙ rw (low, append_assoc s.2 (token_of classes.RightBracket s.1 ∷ []) rest, read) refl
  index-reads (IndexRange from to) ts rest s h ends =
      let low : nat_lt 0 k ≡ true = lt-ltb 0 k (omega arith) in
      let close = token_of classes.RightBracket s.2 in
      let colon = token_of classes.Colon s.1 in
      let from-read = inner 11 from s.3 (colon ∷ (s.4 ++ close ∷ rest)) (rank-top from, s.5) (omega arith) (omega arith) in
      let to-read = inner 11 to s.4 (close ∷ rest) (rank-top to, s.6) (omega arith) (omega arith) in
      let regrouped : (s.3 ++ colon ∷ (s.4 ++ close ∷ [])) ++ rest ≡ s.3 ++ (colon ∷ (s.4 ++ close ∷ rest)) =
      append_assoc s.3 (colon ∷ (s.4 ++ close ∷ [])) rest ∙ ap (λ f. s.3 ++ colon ∷ f) (append_assoc s.4 (close ∷ []) rest) in
      ap (λ f. index k (inner_of k) (f ++ rest)) s.7
      ∙ rw (low, regrouped, from-read, to-read) refl

  -- an expression ends before what stands behind a part
  ends-comma : (rank : ℕ) → rank ≤ 11 → EndsBefore rank (Some classes.Comma)
  ends-comma rank h = omega (arith, h)

  part-read : (e : SourceExpression) (ts rest : List SourceToken) → SpellsRanked 11 e ts → Below k e → EndsBefore 11 (next_class rest) → inner_of k 11 (ts ++ rest) ≡ Ok (e, rest)
  part-read e ts rest s h ends = inner 11 e ts rest s h ends

  parts-read : (es : List SourceExpression) (ts : List SourceToken) (closing : SourcePlace) (rest : List SourceToken) → SpellsList (SpellsRanked 11) classes.Comma es ts → EachFits (Below k) es
      → separated classes.Comma (inner_of k 11) (ts ++ token_of classes.RightBrace closing ∷ rest) ≡ Ok (es, token_of classes.RightBrace closing ∷ rest)
  parts-read es ts closing rest s fits = separated-reads (inner_of k 11) (SpellsRanked 11) (Below k) (EndsBefore 11) classes.Comma (omega arith) part-read es ts
      (token_of classes.RightBrace closing ∷ rest) s fits (omega arith) refl

  others-read : (es done : List SourceExpression) (ts : List SourceToken) (closing : SourcePlace) (rest : List SourceToken) → SpellsBehind (SpellsRanked 11) classes.Comma es ts → EachFits (Below k) es
      → repeat (element_turn classes.Comma (inner_of k 11)) done (ts ++ token_of classes.RightBrace closing ∷ rest) ≡ Ok (done ++ es, token_of classes.RightBrace closing ∷ rest)
  others-read es done ts closing rest s fits = behind-reads (inner_of k 11) (SpellsRanked 11) (Below k) (EndsBefore 11) classes.Comma (omega arith) part-read es done ts
      (token_of classes.RightBrace closing ∷ rest) s fits (omega arith) refl

  -- behind a part comes a comma or the end of the parts
  more-ends : (all : SourceExpressions) (ts : List SourceToken) (closing : SourcePlace) (rest : List SourceToken) → SpellsMoreParts all ts → Ends 11 (ts ++ token_of classes.RightBrace closing ∷ rest)
  more-ends no_parts ts closing rest s = subst (λ f. Ends 11 (f ++ token_of classes.RightBrace closing ∷ rest)) (sym s) (omega arith)
  more-ends (more_parts e all) ts closing rest s = subst (λ f. Ends 11 (f ++ token_of classes.RightBrace closing ∷ rest)) (sym s.5) (omega arith)

  -- what stands in braces is no replication where a part or the end follows
  more-by : (first : SourceExpression) (place : SourcePlace) (all : SourceExpressions) (ts : List SourceToken) (closing : SourcePlace) (rest : List SourceToken) → SpellsMoreParts all ts
      → braced (inner_of k) first place (ts ++ token_of classes.RightBrace closing ∷ rest) ≡ braced_by (inner_of k) first place None (ts ++ token_of classes.RightBrace closing ∷ rest)
  unfolding braced
  more-by first place no_parts ts closing rest s =
      ap (λ f. by_class (braced_by (inner_of k) first place) (f ++ token_of classes.RightBrace closing ∷ rest)) s
      ∙ ap (λ f. braced_by (inner_of k) first place None (f ++ token_of classes.RightBrace closing ∷ rest)) (sym s)
  more-by first place (more_parts e all) ts closing rest s =
      ap (λ f. by_class (braced_by (inner_of k) first place) (f ++ token_of classes.RightBrace closing ∷ rest)) s.5
      ∙ ap (λ f. braced_by (inner_of k) first place None (f ++ token_of classes.RightBrace closing ∷ rest)) (sym s.5)

  prefixed-reads : (sign : Class) (operator : UnaryOperator) (place : SourcePlace) (rest : List SourceToken) → unary_of sign ≡ Some operator
      → primary k (inner_of k) (token_of sign place ∷ rest) ≡ prefixed_by k (inner_of k) (Some operator) (token_of sign place ∷ rest)
  unfolding primary
  prefixed-reads sign operator place rest e =
      ap (λ c. primary_by k (inner_of k) c (token_of sign place ∷ rest)) (sign-class sign place rest) ∙ by' sign e
    where
      by' : (class : Class) → unary_of class ≡ Some operator → primary_by k (inner_of k) (Some class) (token_of sign place ∷ rest) ≡ prefixed_by k (inner_of k) (Some operator)
          (token_of sign place ∷ rest)
      by' classes.Number e = absurd (let p : ◌≡◌ {A = Option UnaryOperator} None (Some operator) = e in cc)
      by' classes.Name e = absurd (let p : ◌≡◌ {A = Option UnaryOperator} None (Some operator) = e in cc)
      by' classes.LeftParen e = absurd (let p : ◌≡◌ {A = Option UnaryOperator} None (Some operator) = e in cc)
      by' classes.LeftBrace e = absurd (let p : ◌≡◌ {A = Option UnaryOperator} None (Some operator) = e in cc)
      by' class e = ap (λ o. prefixed_by k (inner_of k) o (token_of sign place ∷ rest)) e

  pub primary-reads : (e : SourceExpression) (ts rest : List SourceToken) → SpellsRanked 0 e ts → height_of e ≤ k → Ends 0 rest → primary k (inner_of k) (ts ++ rest) ≡ Ok (e, rest)
  unfolding primary braced concatenation replication
  primary-reads (Number place form value) ts rest s h ends = ap (λ f. primary k (inner_of k) (f ++ rest)) s.1
  primary-reads (Selected place name at) ts rest s h ends =
      let t = s.1 in
      let tail = t.1 ++ rest in
      ap (λ f. primary k (inner_of k) (f ++ rest)) t.3
      ∙ name-by k name place tail t.0
      ∙ ap (λ r. followed r (λ at. give (Selected place name at))) (index-reads at t.1 rest t.2 h ends)
  primary-reads (Parenthesised place e) ts rest s h ends =
      let t = s.1 in
      let low : nat_lt 0 k ≡ true = lt-ltb 0 k (omega arith) in
      let read = inner 11 e t.1 (token_of classes.RightParen t.0 ∷ rest) (rank-top e, t.2) (omega arith) (omega arith) in
      ap (λ f. primary k (inner_of k) (f ++ rest)) t.3
      ∙ rw (low, append_assoc t.1 (token_of classes.RightParen t.0 ∷ []) rest, read) refl
  primary-reads (Prefixed place operator operand) ts rest s h ends =
      let t = s.1 in
      let low : nat_lt 0 k ≡ true = lt-ltb 0 k (omega arith) in
      let read = inner 0 operand t.3 rest (t.0, t.4) (omega arith) ends in
      ap (λ f. primary k (inner_of k) (f ++ rest)) t.5
      ∙ prefixed-reads t.1 operator place (t.3 ++ rest) t.2
      ∙ rw (low, read) refl
  primary-reads (Concatenated place no_parts) ts rest s h ends = absurd s.1.2
  primary-reads (Concatenated place (more_parts e all)) ts rest s h ends =
      let t = s.1 in
      let u = t.2 in
      let brace = token_of classes.RightBrace t.0 ∷ rest in
      let low : nat_lt 0 k ≡ true = lt-ltb 0 k (omega arith) in
      let read = inner 11 e u.0 (u.1 ++ brace) (rank-top e, u.2) (omega arith) (more-ends all u.1 t.0 rest u.3) in
      let others = others-read (list_of all) (e ∷ []) u.1 t.0 rest (more-list all u.1 u.3) (fits-list k all (omega arith)) in
      let regrouped : (t.1 ++ token_of classes.RightBrace t.0 ∷ []) ++ rest ≡ u.0 ++ (u.1 ++ brace) =
      append_assoc t.1 (token_of classes.RightBrace t.0 ∷ []) rest ∙ ap (λ f. f ++ brace) u.4 ∙ append_assoc u.0 u.1 brace in
      ap (λ f. primary k (inner_of k) (f ++ rest)) t.3
      ∙ rw (low, regrouped, read, more-by e place all u.1 t.0 rest u.3, others) (ap (λ w. Ok (Concatenated place (more_parts e w), rest)) (parts_of-list_of all))
  primary-reads (Replicated place count all) ts rest s h ends =
      let t = s.1 in
      let low : nat_lt 0 k ≡ true = lt-ltb 0 k (omega arith) in
      let closed = token_of classes.RightBrace t.1 ∷ token_of classes.RightBrace t.2 ∷ rest in
      let opened = token_of classes.LeftBrace t.0 ∷ (t.4 ++ closed) in
      let count-read = inner 11 count t.3 opened (rank-top count, t.5) (omega arith) (omega arith) in
      let read = parts-read (list_of all) t.4 t.1 (token_of classes.RightBrace t.2 ∷ rest) (parts-list all t.4 t.6) (fits-list k all (omega arith)) in
      let regrouped : (t.3 ++ token_of classes.LeftBrace t.0 ∷ (t.4 ++ token_of classes.RightBrace t.1 ∷ token_of classes.RightBrace t.2 ∷ [])) ++ rest ≡ t.3 ++ opened =
      append_assoc t.3 (token_of classes.LeftBrace t.0 ∷ (t.4 ++ token_of classes.RightBrace t.1 ∷ token_of classes.RightBrace t.2 ∷ [])) rest
      ∙ ap (λ f. t.3 ++ token_of classes.LeftBrace t.0 ∷ f) (append_assoc t.4 (token_of classes.RightBrace t.1 ∷ token_of classes.RightBrace t.2 ∷ []) rest) in
      ap (λ f. primary k (inner_of k) (f ++ rest)) t.7
      ∙ rw (low, regrouped, count-read, read) (ap (λ w. Ok (Replicated place count w, rest)) (parts_of-list_of all))
  primary-reads (Infixed place operator left right) ts rest s h ends = absurd (omega (arith, s.0, (level_of-some operator).0))
  primary-reads (Chosen place condition first second) ts rest s h ends = absurd (let p : 11 ≤ 0 = s.0 in omega arith)

  -- an expression is read up to its end, where no tighter operator stands
  chain-reads : (greatest : ℕ) (e : SourceExpression) (ts rest : List SourceToken) → greatest ≤ 10 → SpellsRanked greatest e ts → height_of e ≤ k → Ends 0 rest → rank_of e ≤ entry_of (next_class rest)
      → operands k (inner_of k) greatest (ts ++ rest) ≡ repeat (operand_turn k (inner_of k) greatest) e rest
  unfolding operands operand_turn
  chain-reads greatest (Infixed place operator left right) ts rest few s h ends next =
      let t = s.1 in
      let sign = token_of t.3 t.5 in
      let class = sign-class t.3 t.5 (t.7 ++ rest) in
      let entry : entry_of (next_class (sign ∷ (t.7 ++ rest))) ≡ level_of operator = ap entry_of class ∙ entry_of-sign t.3 operator t.4 in
      let level = level_of-some operator in
      let is : joining greatest (rank_of left) (operator_of (next_class (sign ∷ (t.7 ++ rest)))) ≡ Some operator =
      ap (λ c. joining greatest (rank_of left) (operator_of c)) class ∙ ap (joining greatest (rank_of left)) t.4 ∙ joining-is greatest (rank_of left) operator s.0 t.0 in
      let low : nat_lt (height_of left) k ≡ true = lt-ltb (height_of left) k (omega arith) in
      let read = inner (operand_rank operator) right t.7 rest (omega (arith, t.1, level.0), t.9) (omega arith) (omega (arith, next, level.0, t.1)) in
      let turn : operand_turn k (inner_of k) greatest left (sign ∷ (t.7 ++ rest)) ≡ Ok (Some (Infixed place operator left right), rest) =
      ap (λ o. operand_by k (inner_of k) left o (sign ∷ (t.7 ++ rest))) is ∙ rw (low, read) (ap (λ p. Ok (Some (Infixed p operator left right), rest)) t.2) in
      ap (λ f. operands k (inner_of k) greatest (f ++ rest)) t.10
      ∙ ap (operands k (inner_of k) greatest) (append_assoc t.6 (sign ∷ t.7) rest)
      ∙ chain-reads greatest left t.6 (sign ∷ (t.7 ++ rest)) few (omega (arith, t.0, s.0), t.8) (omega arith) (omega (arith, entry, level.0)) (omega (arith, entry, t.0))
      ∙ turn-is (operand_turn k (inner_of k) greatest) left (Infixed place operator left right) (sign ∷ (t.7 ++ rest)) rest turn (omega (arith, length-append t.7 rest))
  chain-reads greatest (Chosen place condition first second) ts rest few s h ends next = absurd (omega (arith, s.0, few))
  chain-reads greatest (Number place form value) ts rest few s h ends next = rw (primary-reads (Number place form value) ts rest (omega arith, s.1) h ends) refl
  chain-reads greatest (Selected place name at) ts rest few s h ends next = rw (primary-reads (Selected place name at) ts rest (omega arith, s.1) h ends) refl
  chain-reads greatest (Parenthesised place e) ts rest few s h ends next = rw (primary-reads (Parenthesised place e) ts rest (omega arith, s.1) h ends) refl
  chain-reads greatest (Prefixed place o e) ts rest few s h ends next = rw (primary-reads (Prefixed place o e) ts rest (omega arith, s.1) h ends) refl
  chain-reads greatest (Concatenated place es) ts rest few s h ends next = rw (primary-reads (Concatenated place es) ts rest (omega arith, s.1) h ends) refl
  chain-reads greatest (Replicated place n es) ts rest few s h ends next = rw (primary-reads (Replicated place n es) ts rest (omega arith, s.1) h ends) refl

  pub operands-reads : (greatest : ℕ) → greatest ≤ 10 → (e : SourceExpression) (ts rest : List SourceToken) → SpellsRanked greatest e ts → height_of e ≤ k → Ends greatest rest →
      operands k (inner_of k) greatest (ts ++ rest) ≡ Ok (e, rest)
  unfolding operand_turn
  operands-reads greatest few e ts rest s h ends =
      chain-reads greatest e ts rest few s h (omega (arith, ends)) (omega (arith, s.0, ends))
      ∙ last-is (operand_turn k (inner_of k) greatest) e rest
      (ap (λ o. operand_by k (inner_of k) e o rest) (joining-ends greatest (rank_of e) (next_class rest) ends))

  choice-ends : (e : SourceExpression) (rest : List SourceToken) (class : Option Class) → EndsBefore 11 class → choice_by k (inner_of k) e class rest ≡ Ok (e, rest)
  choice-ends e rest (Some classes.Question) h = absurd (let p : 11 < 11 = h in omega arith)
  choice-ends e rest _ h = refl

  plain-reads : (e : SourceExpression) (ts rest : List SourceToken) → SpellsRanked 10 e ts → height_of e ≤ k → Ends 11 rest → choice k (inner_of k) (ts ++ rest) ≡ Ok (e, rest)
  unfolding choice
  plain-reads e ts rest s h ends = rw (operands-reads 10 (omega arith) e ts rest s h (omega (arith, ends))) (choice-ends e rest (next_class rest) ends)

  pub choice-reads : (e : SourceExpression) (ts rest : List SourceToken) → SpellsRanked 11 e ts → height_of e ≤ k → Ends 11 rest → choice k (inner_of k) (ts ++ rest) ≡ Ok (e, rest)
  unfolding choice branches
  choice-reads (Chosen place condition first second) ts rest s h ends =
      let t = s.1 in
      let question = token_of classes.Question t.2 in
      let colon = token_of classes.Colon t.3 in
      let low : nat_lt (height_of condition) k ≡ true = lt-ltb (height_of condition) k (omega arith) in
      let tail = question ∷ (t.5 ++ (colon ∷ (t.6 ++ rest))) in
      let regrouped : ts ++ rest ≡ t.4 ++ tail =
      ap (λ f. f ++ rest) t.10 ∙ append_assoc t.4 (question ∷ (t.5 ++ colon ∷ t.6)) rest ∙ ap (λ f. t.4 ++ question ∷ f) (append_assoc t.5 (colon ∷ t.6) rest) in
      let condition-read = operands-reads 10 (omega arith) condition t.4 tail (omega (arith, t.0), t.7) (omega arith) (omega arith) in
      let first-read = inner 11 first t.5 (colon ∷ (t.6 ++ rest)) (rank-top first, t.8) (omega arith) (omega arith) in
      let second-read = inner 11 second t.6 rest (rank-top second, t.9) (omega arith) ends in
      rw (regrouped, condition-read, low, first-read, second-read) (ap (λ p. Ok (Chosen p condition first second, rest)) t.1)
  choice-reads (Infixed place operator left right) ts rest s h ends = plain-reads (Infixed place operator left right) ts rest ((level_of-some operator).1, s.1) h ends
  choice-reads (Number place form value) ts rest s h ends = plain-reads (Number place form value) ts rest (omega arith, s.1) h ends
  choice-reads (Selected place name at) ts rest s h ends = plain-reads (Selected place name at) ts rest (omega arith, s.1) h ends
  choice-reads (Parenthesised place e) ts rest s h ends = plain-reads (Parenthesised place e) ts rest (omega arith, s.1) h ends
  choice-reads (Prefixed place o e) ts rest s h ends = plain-reads (Prefixed place o e) ts rest (omega arith, s.1) h ends
  choice-reads (Concatenated place es) ts rest s h ends = plain-reads (Concatenated place es) ts rest (omega arith, s.1) h ends
  choice-reads (Replicated place n es) ts rest s h ends = plain-reads (Replicated place n es) ts rest (omega arith, s.1) h ends

  ranked-reads : (rank : ℕ) (b : Bool) → nat_le rank 10 ≡ b → (e : SourceExpression) (ts rest : List SourceToken) → SpellsRanked rank e ts → height_of e ≤ k → Ends rank rest
      → (if b then operands k (inner_of k) rank else choice k (inner_of k)) (ts ++ rest) ≡ Ok (e, rest)
  ranked-reads rank true is e ts rest s h ends = operands-reads rank (leb-true rank 10 is) e ts rest s h ends
  ranked-reads rank false is e ts rest s h ends = choice-reads e ts rest (rank-top e, s.1) h (omega (arith, ends, leb-false rank 10 is))

pub inner-reads : (k : ℕ) → InnerReads k
unfolding inner_of
inner-reads zero rank e ts rest s h ends = absurd (let p : height_of e < 0 = h in omega arith)
inner-reads (suc k) rank e ts rest s h ends = ranked-reads k (inner-reads k) rank (nat_le rank 10) refl e ts rest s (omega (arith, h)) ends

-- each spelled expression of at most k levels below its outermost one is read
pub expression-reads : (k : ℕ) (e : SourceExpression) (ts rest : List SourceToken) → SpellsExpression e ts → height_of e ≤ k → Ends 11 rest → expression k (ts ++ rest) ≡ Ok (e, rest)
unfolding expression
expression-reads k e ts rest s h ends = choice-reads k (inner-reads k) e ts rest (rank-top e, s) h ends

same-read : (x y : SourceExpression × List SourceToken) → ◌≡◌ {A = Reading SourceExpression} (Ok x) (Ok y) → x ≡ y
same-read x y p = cc

-- tokens spell at most one expression
pub expression-one : (d e : SourceExpression) (ts : List SourceToken) → SpellsExpression d ts → SpellsExpression e ts → d ≡ e
expression-one d e ts s t =
    let k = max (height_of d) (height_of e) in
    let first : expression k (ts ++ []) ≡ Ok (d, []) = expression-reads k d ts [] s (omega arith) (omega arith) in
    let second : expression k (ts ++ []) ≡ Ok (e, []) = expression-reads k e ts [] t (omega arith) (omega arith) in
    ap (λ (x : SourceExpression × List SourceToken). x.0) (same-read (d, []) (e, []) (sym first ∙ second))
