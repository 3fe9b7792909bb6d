-- An instance that connects a port which is wider than a vector may be is refused in what stands in it.
use Rattle.std.proofs.Common.{◌≡◌, ℕ, zero, suc, ◌+◌, ◌<◌, true, ◌||◌, List, [], ◌∷◌, ◌++◌, map, get_or, length, Option, Some, None, Result, Ok, Err, sym, ap, ◌∙◌, refl, inl, inr, arith}
use Rattle.std.specs.Prelude.{flat_map, option_map}
use Rattle.std.proofs.lemmas.Bool.{cases_Bool, ltb-true}
use Rattle.std.proofs.lemmas.Option.{slice_get-map, slice_get-get_or}
use Rattle.v_design.specs.Sized.{most_bits}
use Rattle.v_tree.specs.Trees.{Identifier, SourceConnection, SourceInstance, SourceModule}
use Rattle.v_tree.specs.Views.{instance_of}
use Rattle.v_tree.specs.declared.item.Instance.{Instance}
use Rattle.v_names.specs.Faults.{Fault, first_fault}
use Rattle.v_names.specs.Names.{GivenParameter}
use Rattle.v_elab.specs.declared.Mode.{Mode}
use Rattle.v_elab.specs.Refusals.{then_go}
use Rattle.v_elab.specs.Parts.{Part}
use Rattle.v_elab.specs.Connections.{Child, connected_name, head_names, instance_faults, port_width}
use Rattle.v_elab.specs.Walk.{Here, added, child_of, entered, walked}
use Rattle.flat_laws.specs.Hierarchy.Walks.{flat-none}
use Rattle.flat_laws.specs.Sizes.Complete.{append-none}
use Rattle.flat_laws.specs.Sizes.Widths.{walked-narrow}
use Rattle.elab_connections.specs.WidePorts.{connects_wide_port, is_wide}
use Rattle.elab_walk.specs.Leaves.{Leaves}
use Rattle.elab_walk.specs.declared.fault.WalkFault.{WalkFault}
use Rattle.elab_walk.specs.declared.walked.Walked.{Walked}
use Rattle.elab_walk.proofs.Turns.{Answer, fault-of}

port-wide : (child : Child) (port : Option Identifier) → is_wide child port ≡ true → (name : Identifier) × (most_bits < port_width child name)
port-wide child None e = absurd (cc)
port-wide child (Some port) e = (port, ltb-true most_bits (port_width child port) e)

-- the wide port that is connected
wide-name : (child : Child) (position : ℕ) (connections : List SourceConnection) → connects_wide_port child position connections ≡ true →
    (name : Identifier) × (most_bits < port_width child name)
wide-name child position [] e = absurd (cc)
wide-name child position (connection ∷ rest) e =
    let port = connected_name (head_names child.inner.heads) position connection.name in
    elim (cases_Bool (is_wide child port)) [
      | inl wide ↦ port-wide child port wide
      | inr other ↦ wide-name child (position + 1) rest (sym (ap (λ b. b || connects_wide_port child (position + 1) rest) other) ∙ e)
    ]

-- what stands in such an instance is refused
pub never-wide : (modules : List SourceModule) (mode : Mode) (levels : ℕ) (h : Here) (m : SourceModule) (given : List GivenParameter) (i : SourceInstance) (before : List Part) →
    connects_wide_port (child_of h m given) 0 i.connections ≡ true → 0 < levels → (after : List Part) → walked modules mode levels (entered h m given i) before ≡ Ok after → ⊥
never-wide modules mode zero h m given i before wide some after e = omega arith
never-wide modules mode (suc levels) h m given i before wide some after e =
    let port = wide-name (child_of h m given) 0 i.connections wide in
    let few = walked-narrow modules mode levels (entered h m given i) before after e port.0 in
    let many = port.1 in
    omega (arith, few, many)

-- so its refusal is that of the instance
pub wide-leaves : {A : Type 0} (before : List Part) (whole : Answer) (rest : List Part → Answer) (more : List Part) (old mid new : Walked) (result : Result A WalkFault) →
    whole ≡ then_go (added before more) rest → added before more ≡ Ok (before ++ more) → ((after : List Part) → rest (before ++ more) ≡ Ok after → ⊥) →
    Leaves (before ++ more) (rest (before ++ more)) result mid new → Leaves before whole result old new
wide-leaves {A} before whole rest more old mid new (Ok done) is few never leaves = absurd (never ((before ++ more) ++ leaves.more) leaves.wanted_are)
wide-leaves {A} before whole rest more old mid new (Err fault) is few never wrong =
    fault-of (rest (before ++ more)) whole fault (sym (is ∙ ap (λ (a : Answer). then_go a rest) few)) wrong

-- Instances of which nothing is wrong

pub no-faults : (faults : List Fault) → first_fault faults ≡ None → faults ≡ []
no-faults [] e = refl
no-faults (fault ∷ faults) e = absurd (cc)

pub faults-none : (one other : List Fault) → first_fault (one ++ other) ≡ None → other ≡ []
faults-none one other e = (append-none one other (no-faults (one ++ other) e)).1

pub instance-clean : (child : Child) (depth : ℕ) (instances : List Instance) (k : ℕ) (i : Instance) → flat_map (instance_faults child depth) (map instance_of instances) ≡ [] →
    k < length instances → i ≡ get_or instances k i → instance_faults child depth (instance_of i) ≡ []
instance-clean child depth instances k i none low at =
    flat-none (instance_faults child depth) (map instance_of instances) none k (instance_of i)
    (slice_get-map instance_of instances k ∙ ap (option_map instance_of) (slice_get-get_or instances k i low ∙ ap Some (sym at)))
