-- A gate's output, terminal by terminal (IEEE 1364-2001, clause 7.2 and clause 7.3).
use Rattle.std.proofs.Common.{◌≡◌, ℕ, zero, suc, ◌+◌, ◌<◌, ◌≤◌, List, [], ◌∷◌, ◌++◌, length, get_or, take, drop, map, refl, ap, sym, ◌∙◌, subst, arith}
use Rattle.std.specs.Prelude.{Option, fold}
use Rattle.std.proofs.lemmas.List.{take_more, map_push, length_push, length-take-le}
use Rattle.four_value.specs.Bits.{and_bit, or_bit, xor_bit, not_bit, known_or_x, zero_or_x, one_or_x}
use Rattle.four_value.specs.Values.{LogicValue, bit_at, reduced}
use Rattle.four_value.specs.declared.logic.Bit.{Bit}
use Rattle.four_value.specs.declared.logic.Bit.TheVariants.{Zero, One, X, Z}
use Rattle.four_value.specs.declared.operator.GateKind.{GateKind}
use Rattle.four_value.specs.declared.operator.GateKind.TheVariants.{And, Nand, Or, Nor, Xor, Xnor, Buf, Not}
use Rattle.vf_base.specs.Lists.{map_numbered, AllHold}
use Rattle.v_design.specs.Trees.{Expression, Expressions, no_expressions, more_expressions}
use Rattle.v_design.specs.Designs.{StuckAt, forced_terminal}
use Rattle.v_design.specs.Assignments.{value_at, label_values, gate_bit}
use Rattle.v_design.specs.Expressions.{value_of}
use Rattle.v_design.specs.Plain.{expression_of, expressions_of}
use Rattle.v_design.specs.Reads.{named_in, named_in_parts}
use Rattle.v_design.specs.Sized.{IsSized, levels_of, levels_of_parts}
use Rattle.v_design.specs.WellFormed.{AreTerminals}
use Rattle.v_design.specs.declared.tree.FlatExpr.{FlatExpr}
use Rattle.expr_eval.specs.Operands.{AreThere, IsThere}
use Rattle.expr_eval.specs.WidthLaws.{AllHold-left, AllHold-right}

-- the output before the first terminal
abbrev pub gate_start : GateKind → Bit
gate_start And = One
gate_start Nand = One
gate_start Or = Zero
gate_start Nor = Zero
gate_start Xor = Zero
gate_start Xnor = Zero
gate_start Buf = Zero
gate_start Not = Zero

-- with one more terminal
abbrev pub gate_step : GateKind → Bit → Bit → Bit
gate_step And a b = and_bit a b
gate_step Nand a b = and_bit a b
gate_step Or a b = or_bit a b
gate_step Nor a b = or_bit a b
gate_step Xor a b = xor_bit a b
gate_step Xnor a b = xor_bit a b
gate_step Buf a b = xor_bit a b
gate_step Not a b = xor_bit a b

-- past the last
abbrev pub gate_end : GateKind → Bit → Bit
gate_end And a = a
gate_end Nand a = not_bit a
gate_end Or a = a
gate_end Nor a = not_bit a
gate_end Xor a = a
gate_end Xnor a = not_bit a
gate_end Buf a = a
gate_end Not a = not_bit a

-- what a gate sees at its terminals, given the values that stand there
abbrev pub terminal_bits : Option StuckAt → ℕ → List LogicValue → List Bit
terminal_bits fault node values = map_numbered (λ number value. forced_terminal fault node number (bit_at value 0)) 1 values

and-known : (a b : Bit) → and_bit a (known_or_x b) ≡ and_bit a b
and-known Zero b = known-twice b
  where
    known-twice : (b : Bit) → Zero ≡ Zero
    known-twice b = refl
and-known One Zero = refl
and-known One One = refl
and-known One X = refl
and-known One Z = refl
and-known X Zero = refl
and-known X One = refl
and-known X X = refl
and-known X Z = refl
and-known Z Zero = refl
and-known Z One = refl
and-known Z X = refl
and-known Z Z = refl

or-known : (a b : Bit) → or_bit a (known_or_x b) ≡ or_bit a b
or-known Zero Zero = refl
or-known Zero One = refl
or-known Zero X = refl
or-known Zero Z = refl
or-known One b = refl
or-known X Zero = refl
or-known X One = refl
or-known X X = refl
or-known X Z = refl
or-known Z Zero = refl
or-known Z One = refl
or-known Z X = refl
or-known Z Z = refl

xor-known : (a b : Bit) → xor_bit a (known_or_x b) ≡ xor_bit a b
xor-known Zero Zero = refl
xor-known Zero One = refl
xor-known Zero X = refl
xor-known Zero Z = refl
xor-known One Zero = refl
xor-known One One = refl
xor-known One X = refl
xor-known One Z = refl
xor-known X b = refl
xor-known Z b = refl

fold-known : (f : Bit → Bit → Bit) → ((a b : Bit) → f a (known_or_x b) ≡ f a b) → (a : Bit) (bits : List Bit) → fold f a (map known_or_x bits) ≡ fold f a bits
fold-known f same a [] = refl
fold-known f same a (b ∷ bits) = ap (λ c. fold f c (map known_or_x bits)) (same a b) ∙ fold-known f same (f a b) bits

-- the output step by step is the one that is defined
pub gate_by_steps : (kind : GateKind) (bits : List Bit) → gate_end kind (fold (gate_step kind) (gate_start kind) bits) ≡ gate_bit kind bits
gate_by_steps And bits = sym (fold-known and_bit and-known One bits)
gate_by_steps Nand bits = sym (ap not_bit (fold-known and_bit and-known One bits))
gate_by_steps Or bits = sym (fold-known or_bit or-known Zero bits)
gate_by_steps Nor bits = sym (ap not_bit (fold-known or_bit or-known Zero bits))
gate_by_steps Xor bits = sym (fold-known xor_bit xor-known Zero bits)
gate_by_steps Xnor bits = sym (ap not_bit (fold-known xor_bit xor-known Zero bits))
gate_by_steps Buf bits = sym (fold-known xor_bit xor-known Zero bits)
gate_by_steps Not bits = sym (ap not_bit (fold-known xor_bit xor-known Zero bits))

-- One more terminal

fold-push : {A B : Type 0} (f : B → A → B) (a : B) (xs : List A) (x : A) → fold f a (xs ++ x ∷ []) ≡ f (fold f a xs) x
fold-push f a [] x = refl
fold-push f a (y ∷ xs) x = fold-push f (f a y) xs x

map_numbered-push : {A B : Type 0} (f : ℕ → A → B) (n : ℕ) (xs : List A) (x : A) → map_numbered f n (xs ++ x ∷ []) ≡ map_numbered f n xs ++ f (n + length xs) x ∷ []
map_numbered-push f n [] x = ap (λ m. f m x ∷ []) (let e : n ≡ n + 0 = omega arith in e)
map_numbered-push f n (y ∷ xs) x =
    ap (λ l. f n y ∷ l) (map_numbered-push f (n + 1) xs x ∙ ap (λ m. map_numbered f (n + 1) xs ++ f m x ∷ []) (let e : n + 1 + length xs ≡ n + suc (length xs) = omega arith in e))

pub label_values-push : (values : ℕ → LogicValue) (parts : List FlatExpr) (part : FlatExpr) →
    label_values values (expressions_of (parts ++ part ∷ [])) ≡ label_values values (expressions_of parts) ++ value_of values (expression_of part) ∷ []
label_values-push values [] part = refl
label_values-push values (first ∷ parts) part = ap (λ l. value_of values (expression_of first) ∷ l) (label_values-push values parts part)

pub length-label_values : (values : ℕ → LogicValue) (parts : List FlatExpr) → length (label_values values (expressions_of parts)) ≡ length parts
length-label_values values [] = refl
length-label_values values (first ∷ parts) = ap suc (length-label_values values parts)

-- the output over the first so many terminals and one more
pub gate-more : (kind : GateKind) (fault : Option StuckAt) (node : ℕ) (values : ℕ → LogicValue) (terminals : List FlatExpr) (i : ℕ) (terminal : FlatExpr) (bit : Bit) → i < length terminals →
    terminal ≡ get_or terminals i terminal →
    bit ≡ fold (gate_step kind) (gate_start kind) (terminal_bits fault node (label_values values (expressions_of (take i terminals)))) →
    gate_step kind bit (forced_terminal fault node (i + 1) (bit_at (value_of values (expression_of terminal)) 0))
    ≡ fold (gate_step kind) (gate_start kind) (terminal_bits fault node (label_values values (expressions_of (take (i + 1) terminals))))
gate-more kind fault node values terminals i terminal bit low is had =
    let so_far : List LogicValue = label_values values (expressions_of (take i terminals)) in
    let seen : ℕ → LogicValue → Bit = λ number value. forced_terminal fault node number (bit_at value 0) in
    let number : 1 + length (label_values values (expressions_of (take i terminals))) ≡ i + 1 =
    omega (arith, length-label_values values (take i terminals), length-take-le i terminals (omega arith)) in
    let more : label_values values (expressions_of (take (i + 1) terminals)) ≡ label_values values (expressions_of (take i terminals)) ++ value_of values (expression_of terminal) ∷ [] =
    ap (λ l. label_values values (expressions_of l)) (take_more terminals i terminal low ∙ ap (λ t. take i terminals ++ t ∷ []) (sym is)) ∙ label_values-push values (take i terminals) terminal in
    ap (λ b. gate_step kind b (forced_terminal fault node (i + 1) (bit_at (value_of values (expression_of terminal)) 0))) had
    ∙ sym (fold-push (gate_step kind) (gate_start kind) (terminal_bits fault node (label_values values (expressions_of (take i terminals))))
    (forced_terminal fault node (i + 1) (bit_at (value_of values (expression_of terminal)) 0)))
    ∙ ap (λ n. fold (gate_step kind) (gate_start kind) (terminal_bits fault node (label_values values (expressions_of (take i terminals)))
    ++ forced_terminal fault node n (bit_at (value_of values (expression_of terminal)) 0) ∷ [])) (sym number)
    ∙ ap (fold (gate_step kind) (gate_start kind))
    (sym (map_numbered-push (λ n value. forced_terminal fault node n (bit_at value 0)) 1 (label_values values (expressions_of (take i terminals))) (value_of values (expression_of terminal))))
    ∙ ap (λ l. fold (gate_step kind) (gate_start kind) (terminal_bits fault node l)) (sym more)

-- Each terminal by itself

pub terminal_sized : (terminals : List FlatExpr) (i : ℕ) (d : FlatExpr) → AreTerminals (expressions_of terminals) → i < length terminals → IsSized (expression_of (get_or terminals i d))
terminal_sized [] i d sized low = absurd (omega arith)
terminal_sized (t ∷ terminals) zero d sized low = sized.0.1
terminal_sized (t ∷ terminals) (suc i) d sized low = terminal_sized terminals i d sized.2 (omega arith)

pub terminal_there : (values : List LogicValue) (terminals : List FlatExpr) (i : ℕ) (d : FlatExpr) → AreThere values (named_in_parts (expressions_of terminals)) → i < length terminals →
    AreThere values (named_in (expression_of (get_or terminals i d)))
terminal_there values [] i d there low = absurd (omega arith)
terminal_there values (t ∷ terminals) zero d there low = AllHold-left (IsThere values) (named_in (expression_of t)) (named_in_parts (expressions_of terminals)) there
terminal_there values (t ∷ terminals) (suc i) d there low =
    terminal_there values terminals i d (AllHold-right (IsThere values) (named_in (expression_of t)) (named_in_parts (expressions_of terminals)) there) (omega arith)

pub terminal_levels : (terminals : List FlatExpr) (i : ℕ) (d : FlatExpr) → i < length terminals → levels_of (expression_of (get_or terminals i d)) ≤ levels_of_parts (expressions_of terminals)
terminal_levels [] i d low = absurd (omega arith)
terminal_levels (t ∷ terminals) zero d low = omega arith
terminal_levels (t ∷ terminals) (suc i) d low = let rest : levels_of (expression_of (get_or terminals i d)) ≤ levels_of_parts (expressions_of terminals) =
    terminal_levels terminals i d (omega arith) in omega arith
