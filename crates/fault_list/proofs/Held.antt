-- The fault that stands for a terminal's fault, over the code's nodes.
use Rattle.std.proofs.Common.{◌≡◌, ℕ, Bool, true, false, ◌&&◌, List, [], ◌∷◌, map, length, Option, Some, None, refl, ap, sym, ◌∙◌}
use Rattle.std.specs.Prelude.{slice_get, nat_le, Vec}
use Rattle.std.specs.declared.alloc.Global.{Global}
use Rattle.vf_base.specs.Base.{object_number}
use Rattle.vf_base.specs.declared.ids.ObjectId.{ObjectId}
use Rattle.four_value.specs.declared.operator.GateKind.{GateKind}
use Rattle.v_design.specs.Designs.{OutputBit, GateTerminal}
use Rattle.v_design.specs.Plain.{node_kind_of}
use Rattle.v_design.specs.Sites.{terminal_count}
use Rattle.v_design.specs.declared.tree.FlatExpr.{FlatExpr}
use Rattle.v_design.specs.declared.plan.NodeKind.{NodeKind}
use Rattle.v_design.specs.declared.plan.NodeKind.TheVariants.{Gate}
use Rattle.fault_list.specs.Classes.{output_of, output_of_kind, held_fault}
use Rattle.fault_list.proofs.Growing.{count_of_expressions}

first-in : (list : List ObjectId) (object : ObjectId) (number t : ℕ) (input output : Bool) → Some object ≡ slice_get list 0 →
    record { site = OutputBit number (object_number object) 0; value = output } ≡ held_fault number t input (map object_number list) (Some output) true
first-in [] object number t input output at = absurd (cc)
first-in (o ∷ os) object number t input output at =
    let same : object ≡ o = cc in ap (λ (x : ObjectId). record { site = OutputBit number (object_number x) 0; value = output }) same

outside-in : (list : List ObjectId) (number t : ℕ) (input : Bool) (output : Option Bool) →
    record { site = GateTerminal number t; value = input } ≡ held_fault number t input (map object_number list) output false
outside-in [] number t input output = refl
outside-in (o ∷ os) number t input None = refl
outside-in (o ∷ os) number t input (Some output) = refl

-- whether a terminal is one of a gate
terminal-there : (own : NodeKind) (kind : GateKind) (terminals : Vec FlatExpr Global) (t count : ℕ) (there : Bool) → own ≡ Gate kind terminals → count ≡ length terminals.items →
    (nat_le 1 t && nat_le t count) ≡ there → (nat_le 1 t && nat_le t (terminal_count (node_kind_of own))) ≡ there
terminal-there own kind terminals t count there is counted holds =
    ap (λ k. nat_le 1 t && nat_le t (terminal_count (node_kind_of k))) is
    ∙ (ap (λ n. nat_le 1 t && nat_le t n) (count_of_expressions terminals.items ∙ sym counted) ∙ holds)

pub held-yes : (number t : ℕ) (input output : Bool) (outputs list : List ObjectId) (object : ObjectId) (own : NodeKind) (kind : GateKind) (terminals : Vec FlatExpr Global) (count : ℕ) →
    list ≡ outputs →
    Some object ≡ slice_get list 0 → own ≡ Gate kind terminals → Some output ≡ output_of kind input → count ≡ length terminals.items → (nat_le 1 t && nat_le t count) ≡ true →
    record { site = OutputBit number (object_number object) 0; value = output }
    ≡ held_fault number t input (map object_number outputs) (output_of_kind (node_kind_of own) input) (nat_le 1 t && nat_le t (terminal_count (node_kind_of own)))
held-yes number t input output outputs list object own kind terminals count same at is gives counted holds =
    let value : output_of_kind (node_kind_of own) input ≡ Some output = ap (λ k. output_of_kind (node_kind_of k) input) is ∙ sym gives in
    first-in list object number t input output at
    ∙ (ap (λ l. held_fault number t input (map object_number l) (Some output) true) same
    ∙ (ap (λ o. held_fault number t input (map object_number outputs) o true) (sym value)
    ∙ ap (λ b. held_fault number t input (map object_number outputs) (output_of_kind (node_kind_of own) input) b) (sym (terminal-there own kind terminals t count true is counted holds))))

pub held-no : (number t : ℕ) (input : Bool) (outputs : List ObjectId) (own : NodeKind) (kind : GateKind) (terminals : Vec FlatExpr Global) (count : ℕ) →
    own ≡ Gate kind terminals → count ≡ length terminals.items → (nat_le 1 t && nat_le t count) ≡ false →
    record { site = GateTerminal number t; value = input }
    ≡ held_fault number t input (map object_number outputs) (output_of_kind (node_kind_of own) input) (nat_le 1 t && nat_le t (terminal_count (node_kind_of own)))
held-no number t input outputs own kind terminals count is counted holds =
    outside-in outputs number t input (output_of_kind (node_kind_of own) input)
    ∙ ap (λ b. held_fault number t input (map object_number outputs) (output_of_kind (node_kind_of own) input) b) (sym (terminal-there own kind terminals t count false is counted holds))
