-- Statements and expressions in small runs: the values at the end of the first run, as numbers.
use Rattle.std.specs.Prelude.{◌≡◌, refl, ℕ, true, false, List, [], ◌∷◌, Option, Some, None, map}
use Rattle.four_value.specs.Values.{number_of, bits_of, sum_of, quotient_of, remainder_of, logical_equality, truth_of, chosen_value}
use Rattle.v_design.specs.Trees.{Binary, BitSelect, Blocking, Case, Concatenation, Conditional, Constant, Delay, Expression, Finish, For, Memory, Name, Nonblocking, PartSelect, PartTarget, Repeat}
use Rattle.v_design.specs.Trees.{Replication, Statement, Unary, Variable, Vector, Wait, WholeTarget, WordSelect, WordTarget, more_items, no_items}
use Rattle.v_design.specs.Designs.{AssignNode, FlatDesign, FlatObject, faulty_machine, good_machine}
use Rattle.v_design.specs.States.{Evaluation, NetUpdate, Step, start}
use Rattle.v_design.specs.Runs.{Happens, counted_steps, first_moves, first_run, slot_moves}
use Rattle.v_design.specs.Grades.{values_after, grade, Judged, Detected}
use Rattle.run_examples.specs.Build.{at, bit_operand, block, node, number, object, operand, plan, plus_one, process, reg_bit, reg_vector, set_bit, set_vector, terminals, variable, variable_fault}
use Rattle.run_examples.specs.Build.{wire_bit}
use Rattle.four_value.specs.declared.logic.Bit.TheVariants.{Zero, One, X, Z}
use Rattle.four_value.specs.declared.logic.Truth.TheVariants.{True, Unknown}
use Rattle.four_value.specs.Operators.{label_matches}
use Rattle.v_design.specs.Assignments.{gate_bit}
use Rattle.four_value.specs.declared.operator.GateKind.TheVariants.{And, Or, Nor, Xnor, Buf, Not}
use Rattle.four_value.specs.declared.operator.CaseKind.TheVariants.{Exact, IgnoreZ, IgnoreXz}
use Rattle.v_design.specs.declared.logic.ObjectKind.TheVariants.{Word, Net}
use Rattle.four_value.specs.declared.operator.UnaryOperator.TheVariants.{Minus, ReduceAnd, ReduceOr}
use Rattle.four_value.specs.declared.operator.BinaryOperator.TheVariants.{Add, Less}

abbrev pub one_process : List FlatObject → Statement → FlatDesign
one_process objects body = record { objects = objects; joined = []; nodes = []; processes = process false 1 body ∷ [] }

-- what the objects hold after the first run to a time
abbrev pub ends_with : FlatDesign → ℕ → List (Option ℕ)
ends_with design time = map number_of (values_after (good_machine design) [] (first_run (good_machine design) time) time)

abbrev pub less : Expression → Expression → Expression
less a b = Binary 1 false Less a b

abbrev pub plus : ℕ → Expression → Expression → Expression
plus width a b = Binary width false Add a b

-- s = a + b keeps the carry in five bits, t = {a + b} doesn't
abbrev pub sums : FlatDesign
sums =
    one_process (reg_vector 4 15 ∷ reg_vector 4 1 ∷ reg_vector 5 7 ∷ reg_vector 5 7 ∷ [])
    (block
    (set_vector 3 2 5 (plus 5 (operand 0 4 5) (operand 1 4 5))
    ∷ set_vector 3 3 5 (Concatenation 5 false (terminals (plus 4 (operand 0 4 4) (operand 1 4 4) ∷ [])))
    ∷ []))

-- for (i = 0; i < 4; i = i + 1) n = n + i
abbrev pub counting : FlatDesign
counting =
    one_process (reg_vector 4 9 ∷ reg_vector 4 0 ∷ [])
    (For (at 1) (WholeTarget (variable 0 4) ∷ []) (number 4 0) (less (operand 0 4 4) (number 4 4)) (WholeTarget (variable 0 4) ∷ []) (plus 4 (operand 0 4 4) (number 4 1))
    (set_vector 2 1 4 (plus 4 (operand 1 4 4) (operand 0 4 4))))

-- repeat (3) n = n + 1: one step fixes the count, one stands before each turn, one ends it
abbrev pub repeating : FlatDesign
repeating = one_process (reg_vector 4 0 ∷ []) (Repeat (at 1) (number 4 3) (set_vector 2 0 4 (plus 4 (operand 0 4 4) (number 4 1))))

-- a memory of three words: m[1] = 5; q = m[i] with i = 1; r = m[7]; m[7] = 2 writes nothing
abbrev pub small_memory : Memory
small_memory = record { first = 0; last = 2; width = 4; words = 0 ∷ 1 ∷ 2 ∷ [] }

abbrev pub storing : FlatDesign
storing =
    one_process (object Word 4 (bits_of 4 0) ∷ object Word 4 (bits_of 4 0) ∷ object Word 4 (bits_of 4 0) ∷ reg_vector 4 0 ∷ reg_vector 4 0 ∷ reg_vector 4 1 ∷ [])
    (block
    (Blocking (at 1) (WordTarget small_memory (number 4 1) ∷ []) None (number 4 5)
    ∷ set_vector 2 3 4 (WordSelect 4 false small_memory (operand 5 4 4))
    ∷ set_vector 3 4 4 (WordSelect 4 false small_memory (number 4 7))
    ∷ Blocking (at 4) (WordTarget small_memory (number 4 7) ∷ []) None (number 4 2)
    ∷ []))

-- a = #5 b keeps the value that b had before; b changes at 2; c <= #3 1 comes at 3
abbrev pub delaying : FlatDesign
delaying = record {
  objects = reg_vector 4 0 ∷ reg_vector 4 7 ∷ reg_bit Zero ∷ [];
  joined = [];
  nodes = [];
  processes =
      process false 1 (Blocking (at 1) (WholeTarget (variable 0 4) ∷ []) (Some 5) (operand 1 4 4))
      ∷ process false 2 (block (Nonblocking (at 2) (WholeTarget (variable 2 1) ∷ []) 3 (number 1 1) ∷ Delay (at 2) 2 (set_vector 2 1 4 (number 4 9)) ∷ []))
      ∷ [];
}

-- parts: v[0:3] runs downwards in index from its most significant bit; v[1:2] = 3; {c, d} = 2'b10; w[9:6] on w[7:0] writes two bits
abbrev pub rising : Variable
rising = record { object = 0; width = 4; high = 0; low = 3 }

abbrev pub falling : Variable
falling = record { object = 3; width = 8; high = 7; low = 0 }

abbrev pub parting : FlatDesign
parting =
    one_process (reg_vector 4 0 ∷ reg_bit Zero ∷ reg_bit One ∷ reg_vector 8 0 ∷ reg_vector 4 0 ∷ [])
    (block
    (Blocking (at 1) (PartTarget rising 1 2 ∷ []) None (number 2 1)
    ∷ Blocking (at 2) (WholeTarget (variable 1 1) ∷ WholeTarget (variable 2 1) ∷ []) None (number 2 2)
    ∷ Blocking (at 3) (PartTarget falling 9 6 ∷ []) None (number 4 7)
    ∷ set_vector 4 4 4 (PartSelect 4 false (record { high = 7; low = 0; pieces = record { object = 3; width = 8 } ∷ [] }) 6 3)
    ∷ []))

-- casez takes the first item whose label matches but for z
abbrev pub choosing : FlatDesign
choosing =
    one_process (reg_vector 2 2 ∷ reg_vector 4 0 ∷ [])
    (Case (at 1) IgnoreZ (operand 0 2 2)
    (more_items (terminals (number 2 0 ∷ [])) (set_vector 2 1 4 (number 4 1))
    (more_items (terminals (number 2 3 ∷ Constant 2 false (Z ∷ One ∷ []) ∷ [])) (set_vector 3 1 4 (number 4 2)) no_items))
    (set_vector 4 1 4 (number 4 3)))

-- a finished process does nothing more; wait goes on where its condition becomes true
abbrev pub waiting : FlatDesign
waiting = record {
  objects = reg_bit Zero ∷ reg_vector 4 0 ∷ [];
  joined = [];
  nodes = [];
  processes =
      process false 1 (Wait (at 1) (bit_operand 0) (block (set_vector 1 1 4 (number 4 6) ∷ Finish (at 1) ∷ set_vector 1 1 4 (number 4 7) ∷ [])))
      ∷ process false 2 (Delay (at 2) 4 (set_bit 2 0 (number 1 1)))
      ∷ [];
}

-- a loop that never ends a slot takes each step that it may take
abbrev pub looping : FlatDesign
looping = record {
  objects = reg_bit Zero ∷ reg_vector 4 0 ∷ [];
  joined = [];
  nodes = [];
  processes = process true 3 (Wait (at 3) (bit_operand 0) (set_vector 3 1 4 (plus_one 1 4))) ∷ [];
}

-- Nets of several pieces: w[1:0] follows a, w[3:2] follows b, and a node with two outputs gives {c, d} = a

abbrev pub pieces_of_w : Vector
pieces_of_w = record { high = 3; low = 0; pieces = record { object = 2; width = 2 } ∷ record { object = 3; width = 2 } ∷ [] }

abbrev pub pieced : FlatDesign
pieced = record {
  objects =
      reg_vector 2 1 ∷ reg_vector 2 2 ∷ object Net 2 (Z ∷ Z ∷ []) ∷ object Net 2 (Z ∷ Z ∷ []) ∷ reg_vector 4 0 ∷ reg_bit X ∷ reg_vector 2 3 ∷ reg_bit X ∷ wire_bit ∷ wire_bit ∷ [];
  joined = [];
  nodes =
      node (AssignNode (operand 0 2 2) (0 ∷ [])) (0 ∷ []) (2 ∷ [])
      ∷ node (AssignNode (operand 1 2 2) (0 ∷ [])) (1 ∷ []) (3 ∷ [])
      ∷ node (AssignNode (operand 0 2 2) (0 ∷ 1 ∷ [])) (0 ∷ []) (9 ∷ 8 ∷ [])
      ∷ [];
  processes =
      process false 1
      (block
      (set_vector 1 4 4 (Name 4 false pieces_of_w)
      ∷ set_bit 2 5 (BitSelect 1 false pieces_of_w (number 32 2))
      ∷ set_bit 3 7 (BitSelect 1 false pieces_of_w (operand 6 2 2))
      ∷ []))
      ∷ [];
}

-- a write of a: its readers are evaluated and updated, the least first, and the two outputs change in one event
abbrev pub pieced_change : FlatDesign
pieced_change = record { objects = pieced.objects; joined = []; nodes = pieced.nodes; processes = process false 1 (set_vector 1 0 2 (number 2 2)) ∷ [] }

-- Other expressions

-- x ? 2'b01 : 2'b11 merges to 2'bx1, {2{2'b01}} is 5, -1 in four bits is 15, &4'b11x0 is 0 and |4'b0x00 is x
abbrev pub others : FlatDesign
others =
    one_process (reg_vector 2 0 ∷ reg_vector 4 0 ∷ reg_vector 4 0 ∷ reg_bit Zero ∷ reg_bit Zero ∷ reg_bit X ∷ [])
    (block
    (set_vector 1 0 2 (Conditional 2 false (bit_operand 5) (number 2 1) (number 2 3))
    ∷ set_vector 2 1 4 (Replication 4 false 2 (terminals (number 2 1 ∷ [])))
    ∷ set_vector 3 2 4 (Unary 4 false Minus (number 4 1))
    ∷ set_bit 4 3 (Unary 1 false ReduceAnd (Constant 4 false (Zero ∷ X ∷ One ∷ One ∷ [])))
    ∷ set_bit 5 4 (Unary 1 false ReduceOr (Constant 4 false (Zero ∷ Zero ∷ X ∷ Zero ∷ [])))
    ∷ []))

-- Targets with bits outside

-- assign {a, w[9:6]} = e on w[7:0]: of the value's bits w[7:6] takes the two least, the next two are dropped, and a takes the fifth
abbrev pub gapped : FlatDesign
gapped = record {
  objects = reg_vector 5 22 ∷ wire_bit ∷ object Net 2 (Z ∷ Z ∷ []) ∷ [];
  joined = [];
  nodes = node (AssignNode (operand 0 5 5) (0 ∷ 4 ∷ [])) (0 ∷ []) (2 ∷ 1 ∷ []) ∷ [];
  processes = [];
}

pub record Holds : Type 0 where
  pub sum_wraps : sum_of (bits_of 4 10) (bits_of 4 7) ≡ bits_of 4 1
  pub quotients : (quotient_of false (bits_of 8 200) (bits_of 8 7) ≡ bits_of 8 28) × (remainder_of false (bits_of 8 200) (bits_of 8 7) ≡ bits_of 8 4)
  -- 4'b10x0 against 4'b0xx0 and 4'b1010
  pub equalities : (logical_equality (Zero ∷ X ∷ Zero ∷ One ∷ []) (Zero ∷ X ∷ X ∷ Zero ∷ []) ≡ Zero) × (logical_equality (Zero ∷ X ∷ Zero ∷ One ∷ []) (Zero ∷ One ∷ Zero ∷ One ∷ []) ≡ X)
  pub truths : (truth_of (Zero ∷ Zero ∷ X ∷ One ∷ []) ≡ True) × (truth_of (Zero ∷ Zero ∷ X ∷ Zero ∷ []) ≡ Unknown)
  pub merges : chosen_value Unknown (Zero ∷ One ∷ Zero ∷ One ∷ []) (One ∷ Zero ∷ Zero ∷ One ∷ []) ≡ X ∷ X ∷ Zero ∷ One ∷ []
  -- gates take z as x
  pub gates : (gate_bit And (One ∷ Z ∷ []) ≡ X) × (gate_bit And (Zero ∷ Z ∷ []) ≡ Zero) × (gate_bit Or (Zero ∷ One ∷ []) ≡ One) × (gate_bit Nor (Zero ∷ X ∷ []) ≡ X)
      × (gate_bit Xnor (One ∷ One ∷ []) ≡ One) × (gate_bit Buf (Z ∷ []) ≡ X) × (gate_bit Not (Zero ∷ []) ≡ One)
  -- 4'b10x1 against the labels 4'b1z01 and 4'b1011: casex ignores x and z on either side, casez z alone, and case nothing
  pub labels : (label_matches IgnoreXz (One ∷ X ∷ Zero ∷ One ∷ []) (One ∷ Zero ∷ Z ∷ One ∷ []) ≡ true) × (label_matches IgnoreZ (One ∷ X ∷ Zero ∷ One ∷ []) (One ∷ Zero ∷ Z ∷ One ∷ []) ≡ false)
      × (label_matches IgnoreXz (One ∷ X ∷ Zero ∷ One ∷ []) (One ∷ One ∷ Zero ∷ One ∷ []) ≡ true) × (label_matches Exact (One ∷ X ∷ Zero ∷ One ∷ []) (One ∷ One ∷ Zero ∷ One ∷ []) ≡ false)
  pub sums_end : ends_with sums 2 ≡ Some 15 ∷ Some 1 ∷ Some 16 ∷ Some 0 ∷ []
  pub counting_ends : ends_with counting 0 ≡ Some 4 ∷ Some 6 ∷ []
  -- one step for the first assignment, two for each of the five tests, three for each sum, two for each next assignment, and the end
  pub counting_steps : counted_steps (first_moves (good_machine counting) (start (good_machine counting))) ≡ 32
  pub repeating_ends : (ends_with repeating 0 ≡ Some 3 ∷ []) × (counted_steps (first_moves (good_machine repeating) (start (good_machine repeating))) ≡ 12)
  pub storing_ends : ends_with storing 0 ≡ Some 0 ∷ Some 5 ∷ Some 0 ∷ Some 5 ∷ None ∷ Some 1 ∷ []
  pub delaying_ends : (ends_with delaying 2 ≡ Some 0 ∷ Some 9 ∷ Some 0 ∷ []) × (ends_with delaying 4 ≡ Some 0 ∷ Some 9 ∷ Some 1 ∷ []) × (ends_with delaying 5 ≡ Some 7 ∷ Some 9 ∷ Some 1 ∷ [])
  pub parting_ends : ends_with parting 0 ≡ Some 2 ∷ Some 1 ∷ Some 0 ∷ Some 192 ∷ Some 8 ∷ []
  pub choosing_ends : ends_with choosing 0 ≡ Some 2 ∷ Some 2 ∷ []
  pub waiting_ends : (ends_with waiting 3 ≡ Some 0 ∷ Some 0 ∷ []) × (ends_with waiting 9 ≡ Some 1 ∷ Some 6 ∷ [])
  pub looping_goes_on : counted_steps (slot_moves 1000 301 (faulty_machine looping (variable_fault 0 0 true)) (start (faulty_machine looping (variable_fault 0 0 true)))) ≡ 301
  pub looping_waits : counted_steps (first_moves (good_machine looping) (start (good_machine looping))) ≡ 2
  pub looping_grade : grade looping (plan 10 (1 ∷ []) (5 ∷ []) []) (variable_fault 1 0 true) ≡ Some (Judged (Detected 5))
  -- q is w, r is w[2], t is w[i] with i = 3, c is a[1], d is a[0]
  pub pieced_ends : ends_with pieced 0 ≡ Some 1 ∷ Some 2 ∷ Some 1 ∷ Some 2 ∷ Some 9 ∷ Some 0 ∷ Some 3 ∷ Some 1 ∷ Some 0 ∷ Some 1 ∷ []
  -- two reads of w and a write; one read of w[2] and a write; two reads of w, one of i and a write; the end
  pub pieced_steps : counted_steps (first_moves (good_machine pieced) (start (good_machine pieced))) ≡ 10
  pub pieced_moves : first_moves (good_machine pieced_change) (start (good_machine pieced_change))
      ≡ Happens (Step 0) ∷ Happens (Evaluation 0) ∷ Happens (NetUpdate 0) ∷ Happens (Evaluation 2) ∷ Happens (NetUpdate 2) ∷ Happens (Step 0) ∷ []
  pub pieced_change_ends : ends_with pieced_change 0 ≡ Some 2 ∷ Some 2 ∷ Some 2 ∷ Some 2 ∷ Some 0 ∷ None ∷ Some 3 ∷ None ∷ Some 1 ∷ Some 0 ∷ []
  pub others_end : values_after (good_machine others) [] (first_run (good_machine others) 0) 0
      ≡ (One ∷ X ∷ []) ∷ bits_of 4 5 ∷ bits_of 4 15 ∷ (Zero ∷ []) ∷ (X ∷ []) ∷ (X ∷ []) ∷ []
  pub gapped_ends : ends_with gapped 0 ≡ Some 22 ∷ Some 1 ∷ Some 2 ∷ []

pub holds : Holds
holds = record {
  sum_wraps = refl;
  quotients = (refl, refl);
  equalities = (refl, refl);
  truths = (refl, refl);
  merges = refl;
  gates = (refl, refl, refl, refl, refl, refl, refl);
  labels = (refl, refl, refl, refl);
  sums_end = refl;
  counting_ends = refl;
  counting_steps = refl;
  repeating_ends = (refl, refl);
  storing_ends = refl;
  delaying_ends = (refl, refl, refl);
  parting_ends = refl;
  choosing_ends = refl;
  waiting_ends = (refl, refl);
  looping_goes_on = refl;
  looping_waits = refl;
  looping_grade = refl;
  pieced_ends = refl;
  pieced_steps = refl;
  pieced_moves = refl;
  pieced_change_ends = refl;
  others_end = refl;
  gapped_ends = refl;
}
