-- The rules of a design, node by node and process by process.
use Rattle.std.proofs.Common.{◌≡◌, ℕ, zero, suc, List, [], ◌∷◌, length, true, false, subst, ap, inl, inr}
use Rattle.std.specs.Prelude.{Some, slice_get, nat_eq}
use Rattle.std.proofs.lemmas.Bool.{eqb-true}
use Rattle.vf_base.specs.Lists.{has, AllHold}
use Rattle.v_design.specs.Designs.{FlatObject, FlatNode, FlatProcess, FlatDesign}
use Rattle.v_design.specs.Paths.{net_pieces}
use Rattle.v_design.specs.Reads.{written_objects}
use Rattle.v_design.specs.States.{found_or}
use Rattle.v_design.specs.WellFormed.{IsSizedObject, IsNodeOf, IsProcessOf, KeepsRules}
use Rattle.order_laws.proofs.PathLaws.{or-either}

-- what holds of each element holds of the one at a place
pub held_at : {A : Type 0} (P : A → Type 0) (xs : List A) → AllHold P xs → (number : ℕ) (x : A) → slice_get xs number ≡ Some x → P x
held_at P [] h number x e = cc
held_at P (y ∷ xs) h zero x e = subst P (ap (found_or y) e) h.0
held_at P (y ∷ xs) h (suc number) x e = held_at P xs h.1 number x e

-- and of each number that stands in a list
pub held_in : (P : ℕ → Type 0) (xs : List ℕ) → AllHold P xs → (x : ℕ) → has xs x ≡ true → P x
held_in P [] h x i = cc
held_in P (y ∷ xs) h x i = elim (or-either (nat_eq y x) (has xs x) i) [ inl same ↦ subst P (eqb-true y x same) h.0 | inr there ↦ held_in P xs h.1 x there ]

pub node_rules : {design : FlatDesign} → KeepsRules design → (number : ℕ) (node : FlatNode) → slice_get design.nodes number ≡ Some node → IsNodeOf design node
node_rules {design} rules number node e = held_at (IsNodeOf design) design.nodes rules.nodes number node e

pub process_rules : {design : FlatDesign} → KeepsRules design → (number : ℕ) (process : FlatProcess) → slice_get design.processes number ≡ Some process → IsProcessOf design process
process_rules {design} rules number process e = held_at (IsProcessOf design) design.processes rules.processes number process e

-- the first contents have the objects' widths
pub contents_sized : {design : FlatDesign} → KeepsRules design → (number : ℕ) (object : FlatObject) → slice_get design.objects number ≡ Some object → length object.first ≡ object.width
contents_sized {design} rules number object e = (held_at IsSizedObject design.objects rules.objects number object e).0

-- a node writes net pieces alone
pub outputs_are_nets : {design : FlatDesign} → KeepsRules design → (number : ℕ) (node : FlatNode) → slice_get design.nodes number ≡ Some node → (object : ℕ) → has node.outputs object ≡ true →
    has (net_pieces design) object ≡ true
outputs_are_nets {design} rules number node e object h = held_in (λ x. has (net_pieces design) x ≡ true) node.outputs (node_rules rules number node e).outputs_nets object h

-- a process writes none
pub bodies_write_variables : {design : FlatDesign} → KeepsRules design → (number : ℕ) (process : FlatProcess) → slice_get design.processes number ≡ Some process →
    (object : ℕ) → has (written_objects process.body) object ≡ true → has (net_pieces design) object ≡ false
bodies_write_variables {design} rules number process e object h =
    held_in (λ x. has (net_pieces design) x ≡ false) (written_objects process.body) (process_rules rules number process e).variables object h
