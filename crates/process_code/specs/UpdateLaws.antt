-- An assignment whose operands are read has an update for each target (IEEE 1364-2001, clause 9.2).
use Rattle.std.proofs.Common.{◌≡◌, ℕ, ◌≤◌, List, [], ◌∷◌, map, subst, arith}
use Rattle.four_value.specs.Values.{LogicValue}
use Rattle.v_design.specs.Trees.{Expression, Target}
use Rattle.v_design.specs.Expressions.{Progress, Needs, Has, then_with, read_expression}
use Rattle.v_design.specs.Assignments.{targets_width, target_updates, read_index, read_indexes, read_assignment, ValueUpdate}
use Rattle.std.specs.Prelude.{Option}
use Rattle.process_code.specs.Points.{HasUpdates}

-- what holds of an answer, if there is one
abbrev IfAnswer : {A : Type 0} → (A → Type 0) → Progress A → Type 0
IfAnswer P (Needs object) = Unit {0}
IfAnswer P (Has answer left) = P answer

answers-then : {A B : Type 0} (Q : A → Type 0) (P : B → Type 0) (p : Progress A) (k : A → List LogicValue → Progress B) → IfAnswer Q p →
    ((a : A) (left : List LogicValue) → Q a → IfAnswer P (k a left)) → IfAnswer P (then_with p k)
answers-then Q P (Needs object) k h more = tt
answers-then Q P (Has a left) k h more = more a left h

answers-any : {A : Type 0} (p : Progress A) → IfAnswer (λ (a : A). Unit {0}) p
answers-any (Needs object) = tt
answers-any (Has a left) = tt

indexes-some : (target : Target) (targets : List Target) (operands : List LogicValue) → IfAnswer HasUpdates (read_indexes (target ∷ targets) operands)
indexes-some target targets operands =
    answers-then (λ (a : Option ℕ). Unit {0}) HasUpdates (read_index target operands) _ (answers-any (read_index target operands))
    (λ index rest u. answers-then (λ (a : List (Option ℕ)). Unit {0}) HasUpdates (read_indexes targets rest) _ (answers-any (read_indexes targets rest)) (λ indexes left v. tt))

updates-some : (line : ℕ) (target : Target) (targets : List Target) (indexes : List (Option ℕ)) (value : LogicValue) → HasUpdates indexes →
    HasUpdates (target_updates line (target ∷ targets) indexes value)
updates-some line target targets [] value h = absurd h
updates-some line target targets (index ∷ indexes) value h = tt

assignment-some : (line : ℕ) (targets : List Target) (value : Expression) (operands : List LogicValue) → 1 ≤ targets_width targets → IfAnswer HasUpdates (read_assignment line targets value operands)
assignment-some line [] value operands h = absurd (omega (arith, h))
assignment-some line (target ∷ targets) value operands h =
    answers-then (λ (a : LogicValue). Unit {0}) HasUpdates (read_expression value operands) _ (answers-any (read_expression value operands))
    (λ bits rest u. answers-then HasUpdates HasUpdates (read_indexes (target ∷ targets) rest) _ (indexes-some target targets rest)
    (λ indexes left some. updates-some line target targets indexes bits some))

from_map : {A B : Type 0} (f : A → B) (xs : List A) → HasUpdates (map f xs) → HasUpdates xs
from_map f [] h = h
from_map f (x ∷ xs) h = tt

-- some update is there
pub has_updates : {A : Type 0} (f : A → Option ValueUpdate) (updates : List A) (line : ℕ) (targets : List Target) (value : Expression) (operands left : List LogicValue) → 1 ≤ targets_width targets →
    read_assignment line targets value operands ≡ Has (map f updates) left → HasUpdates updates
has_updates f updates line targets value operands left h has = from_map f updates (subst (IfAnswer HasUpdates) has (assignment-some line targets value operands h))
