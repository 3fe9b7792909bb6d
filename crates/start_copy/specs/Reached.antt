-- What is kept of a faulty machine while the nodes that its fault reaches are evaluated (settled nets by IEEE 1364-2001, clauses 6 and 7).
use Rattle.std.specs.Prelude.{◌≡◌, ◌≢◌, ℕ, ◌<◌, Bool, true, false, List, length, Some}
use Rattle.vf_base.specs.Lists.{has}
use Rattle.four_value.specs.Values.{LogicValue}
use Rattle.v_design.specs.Assignments.{value_at}
use Rattle.v_design.specs.Designs.{FlatDesign, StuckAt, faulty_machine}
use Rattle.v_design.specs.Laws.{AreSettledBut, is_driven}
use Rattle.v_design.specs.States.{start}
use Rattle.copy_laws.specs.Differences.{own_of}
use Rattle.copy_state.specs.Kept.{CopyKept}
use Rattle.copy_overlay.specs.Faulty.{faulty_values}
use Rattle.node_eval.specs.ValuesOf.{AreValuesOf}
use Rattle.net_graph.specs.Tables.{node_reads_at}
use Rattle.net_settle.specs.Marked.{marked_at}

-- what is kept is of objects that are there, and isn't what the good machine holds
pub record AreOwnValues (good : List LogicValue) (values : List (ℕ × LogicValue)) : Type 0 where
  pub there : (object : ℕ) (own : LogicValue) → own_of values object ≡ Some own → object < length good
  pub differ : (object : ℕ) (own : LogicValue) → own_of values object ≡ Some own → own ≢ value_at good object

-- where some objects come to hold other values, the nodes that read what changed are marked besides, and no node that reads none of them
pub record MarksReached (design : FlatDesign) (objects : List ℕ) (one other : List LogicValue) (before later : List Bool) : Type 0 where
  pub stays : (node : ℕ) → marked_at later node ≡ false → marked_at before node ≡ false
  pub readers : (node object : ℕ) → marked_at later node ≡ false → node_reads_at design object node ≡ true → value_at other object ≡ value_at one object
  pub only : (node : ℕ) → ((object : ℕ) → has objects object ≡ true → node_reads_at design object node ≡ false) → marked_at later node ≡ marked_at before node

-- some objects come to hold other values: the good machine's with what is kept over them are these then, and nothing else that is kept changes
pub record ComesToHold (design : FlatDesign) (good : List LogicValue) (objects : List ℕ) (held : List LogicValue) (old new : CopyKept) (before later : List Bool) : Type 0 where
  pub rest : new ≡ record old { values = new.values }
  pub own : AreOwnValues good old.values → AreOwnValues good new.values
  pub values : faulty_values good new.values ≡ held
  pub are : AreValuesOf design (faulty_values good new.values)
  pub marks : MarksReached design objects (faulty_values good old.values) (faulty_values good new.values) before later

-- the good machine's values with what is kept over them hold what the faulty machine holds at the start wherever no node drives, and each node that isn't marked is settled in them
pub record StartsSo (design : FlatDesign) (fault : StuckAt) (good : List LogicValue) (old new : CopyKept) (marks : List Bool) : Type 0 where
  pub rest : new ≡ record old { values = new.values }
  pub own : AreOwnValues good new.values
  pub are : AreValuesOf design (faulty_values good new.values)
  pub undriven : (object : ℕ) → is_driven design object ≡ false → value_at (faulty_values good new.values) object ≡ value_at (start (faulty_machine design fault)).values object
  pub settled : AreSettledBut (faulty_machine design fault) (marked_at marks) (faulty_values good new.values)
