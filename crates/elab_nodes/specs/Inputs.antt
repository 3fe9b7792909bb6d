-- The objects that a node reads, from those that are named where it reads (IEEE 1364-2001, clause 9.7.5: what a block reads but doesn't write).
use Rattle.std.proofs.Common.{◌≡◌, ℕ, Bool, not, List, [], ◌∷◌, map, refl, ap, ◌∙◌}
use Rattle.std.specs.Prelude.{filter, cond}
use Rattle.vf_base.specs.Lists.{has}
use Rattle.v_design.specs.Expressions.{objects_of, parts_objects}
use Rattle.v_design.specs.Reads.{read_objects, node_reads}
use Rattle.v_design.specs.Designs.{FlatNodeKind, AssignNode, GateNode, BlockNode}
use Rattle.v_elab.specs.Flat.{NodeOutput}

-- the objects that are named where a node reads
abbrev pub kind_reads : FlatNodeKind → List ℕ
kind_reads (AssignNode value places) = objects_of value
kind_reads (GateNode kind terminals) = parts_objects terminals
kind_reads (BlockNode statement) = read_objects statement

-- the objects that a node writes and doesn't read
abbrev pub own_objects : FlatNodeKind → List ℕ → List ℕ
own_objects (AssignNode value places) outputs = []
own_objects (GateNode kind terminals) outputs = []
own_objects (BlockNode statement) outputs = outputs

abbrev pub objects_written : List NodeOutput → List ℕ
objects_written outputs = map (λ (o : NodeOutput). o.object) outputs

abbrev pub is_other : List ℕ → ℕ → Bool
is_other own object = not (has own object)

all-other : (objects : List ℕ) → filter (is_other []) objects ≡ objects
all-other [] = refl
all-other (object ∷ objects) = ap (λ l. object ∷ l) (all-other objects)

-- a node reads what is named but for its own
pub reads-others : (kind : FlatNodeKind) (outputs : List ℕ) → filter (is_other (own_objects kind outputs)) (kind_reads kind) ≡ node_reads kind outputs
reads-others (AssignNode value places) outputs = all-other (objects_of value)
reads-others (GateNode kind terminals) outputs = all-other (parts_objects terminals)
reads-others (BlockNode statement) outputs = refl

-- lists that have the same leave out the same
pub others-alike : (one other objects : List ℕ) → ((n : ℕ) → has one n ≡ has other n) → filter (is_other one) objects ≡ filter (is_other other) objects
others-alike one other [] same = refl
others-alike one other (object ∷ objects) same = ap (λ b. cond (not b) (object ∷ filter (is_other one) objects) (filter (is_other one) objects)) (same object)
    ∙ ap (λ l. cond (not (has other object)) (object ∷ l) l) (others-alike one other objects same)
