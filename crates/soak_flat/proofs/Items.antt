-- Nothing is wrong with an item of the generated unit, where the scope knows its names (IEEE 1364-2001, clauses 3.2, 6.1, 7.1 and 9).
use Rattle.std.proofs.Common.{◌≡◌, ℕ, ◌<◌, ◌||◌, Bool, true, false, [], ◌∷◌, None, refl}
use Rattle.std.specs.List.{list_any}
use Rattle.vf_base.specs.declared.ids.Place.{Place}
use Rattle.v_design.specs.WellFormed.{most_inputs}
use Rattle.v_tree.specs.Trees.{Identifier, SourceItem, same_name}
use Rattle.v_comb.specs.CombinationalForm.{fresh_name}
use Rattle.v_names.specs.Scopes.{Scope}
use Rattle.v_names.specs.Names.{item_name_faults}
use Rattle.v_elab.specs.declared.Mode.TheVariants.{Usual}
use Rattle.v_elab.specs.declared.What.TheVariants.{Inputs}
use Rattle.v_elab.specs.ItemFaults.{item_faults}
use Rattle.v_elab.specs.Parts.{too_many_if}
use Rattle.v_elab.specs.ReadCounts.{reads_over, reads_refused, item_reads}
use Rattle.soak_text.specs.declared.draws.Stage.{Stage}
use Rattle.soak_tree.specs.SoakUnits.{register_name, variable_item, clock_item, wire_item, gate_item, clocked_item}
use Rattle.soak_flat.proofs.Meant.{Knows}

-- nothing is wrong with the names and the sizes of an item, and its nodes read few objects
pub record IsFine (scope : Scope) (item : SourceItem) : Type 0 where
  pub names : item_name_faults scope item ≡ []
  pub sizes : item_faults scope item ≡ []
  pub reads : reads_refused scope (item_reads Usual scope item) ≡ None

pub variable-fine : (scope : Scope) (name : Identifier) (first : ℕ) (place : Place) → IsFine scope (variable_item name first place)
variable-fine scope name first place = record { names = refl; sizes = refl; reads = refl }

pub wire-fine : (scope : Scope) (stage : Stage) (place : Place) → IsFine scope (wire_item stage place)
wire-fine scope stage place = record { names = refl; sizes = refl; reads = refl }

module _ (scope : Scope) (size : ℕ) (knows : Knows scope size) where
  pub clock-fine : (place : Place) → IsFine scope (clock_item place)
  clock-fine place = record { names = rw (knows.clock) refl; sizes = rw (knows.clock) refl; reads = refl }

  pub clocked-fine : (stage : Stage) (place : Place) → stage.number < size → IsFine scope (clocked_item stage place)
  clocked-fine stage place low = record {
    names = rw (knows.clock, knows.register stage.number low, knows.wire stage.number low) refl;
    sizes = rw (knows.clock, knows.clock, knows.register stage.number low, knows.wire stage.number low) refl;
    reads = refl;
  }

  pub gate-fine : (stage : Stage) (place : Place) → stage.number < size → stage.left < size → stage.right < size → IsFine scope (gate_item stage place)
  gate-fine stage place low left right = record {
    names = rw (knows.wire stage.number low, knows.register stage.left left, knows.register stage.right right) refl;
    sizes = rw (knows.wire stage.number low, knows.register stage.left left, knows.register stage.right right) refl;
    reads = by (same_name (register_name stage.left) (register_name stage.right));
  }
    where
      by : (b : Bool) → too_many_if (list_any (reads_over scope) ((register_name stage.left ∷ fresh_name (b || false) (register_name stage.right) []) ∷ [])) Inputs most_inputs ≡ None
      by true = rw (knows.register stage.left left) refl
      by false = rw (knows.register stage.left left, knows.register stage.right right) refl
