-- A machine moves from one moment of a slot to the next (IEEE 1364-2001, clause 5).
use Rattle.std.proofs.Common.{◌≡◌, ◌≤◌, ◌^◌, true, sym, ap, subst, ◌∙◌}
use Rattle.v_design.specs.PlainDesigns.{design_of}
use Rattle.v_design.specs.RulesHold.{rules_hold}
use Rattle.v_design.specs.WellFormed.{KeepsRules}
use Rattle.v_design.specs.Designs.{Machine}
use Rattle.v_design.specs.States.{State}
use Rattle.causal_monitor.specs.declared.slot.Turn.{Turn}
use Rattle.causal_monitor.specs.declared.slot.SlotLog.{SlotLog}
use Rattle.race_laws.specs.Writes.{WritesAreOf}
use Rattle.machine_laws.specs.SlotLoop.{Moment, ComesTo, present_phase}
use Rattle.slot_record.specs.SlotRecords.{RecordsSlot}
use Rattle.run_record.specs.RunRecords.{RecordsRuns}
use Rattle.process_table.specs.Arranged.{IsKept}
use Rattle.machine.specs.declared.parts.Machine.{Machine as Simulated}
use Rattle.machine.specs.Standing.{machine_kept, state_kept, notes_runs}
use Rattle.machine_events.specs.Parts.{AreBothOf, IsAmid, IsInSlot}
use Rattle.machine.specs.Moments.{AreParts, IsAt, IsMoving}

-- the values, the nodes and the processes are those of the state in which a machine stands
pub both-at : (machine : Machine) (first : Turn) (at : Moment) (m : Simulated) (log : SlotLog) → IsAt machine first at m log → AreBothOf machine at.state m.nets m.table
both-at machine first at m log is = record {
  machine_is = is.machine_is;
  nets_are = record { values = ap (λ (s : State). s.values) is.state_is; nodes = ap (λ (s : State). s.nodes) is.state_is };
  table_is = record {
    design = is.parts.design ∙ ap (λ (k : Machine). k.design) is.machine_is;
    time = ap (λ (s : State). s.time) is.state_is;
    processes = ap (λ (s : State). s.processes) is.state_is;
  };
}

-- and the other way round
pub state-of : (machine : Machine) (state : State) (m : Simulated) → AreBothOf machine state m.nets m.table → state_kept m ≡ state
state-of machine state m both = λ i. record { time = both.table_is.time i; values = both.nets_are.values i; nodes = both.nets_are.nodes i; processes = both.table_is.processes i }

-- the parts agree where they are those of one machine
pub parts-of : (machine : Machine) (state : State) (m : Simulated) → AreBothOf machine state m.nets m.table → IsKept m.table → design_of m.graph.now.design.now ≡ machine.design → AreParts m
parts-of machine state m both kept graph = record {
  table = kept;
  design = both.table_is.design ∙ sym (ap (λ (k : Machine). k.design) both.machine_is);
  graph = graph ∙ sym (ap (λ (k : Machine). k.design) both.machine_is);
  values = m.nets.objects.are.count;
}

-- the graph is that of the machine's design
pub graph-of : (machine : Machine) (first : Turn) (at : Moment) (m : Simulated) (log : SlotLog) → IsAt machine first at m log → design_of m.graph.now.design.now ≡ machine.design
graph-of machine first at m log is = is.parts.graph ∙ ap (λ (k : Machine). k.design) is.machine_is

-- the design keeps its rules
pub rules-of : (m : Simulated) → KeepsRules (machine_kept m).design
rules-of m = rules_hold (design_of m.nets.objects.settle.graph.now.design.now) m.nets.objects.settle.graph.now.design.now.rules

-- a machine stands at the next moment
pub moved : (machine : Machine) (first : Turn) (next : Moment) (m : Simulated) (log : SlotLog) → ComesTo machine next → AreBothOf machine next.state m.nets m.table → IsKept m.table →
    design_of m.graph.now.design.now ≡ machine.design → RecordsSlot machine first next.ended (present_phase next) m.record log → next.begins.time ≤ 2 ^ 63 → WritesAreOf machine.design next.begins →
    (notes_runs m ≡ true → RecordsRuns machine next.ended (present_phase next) m.runs) → IsAt machine first next m log
moved machine first next m log comes both kept graph recorded in_time writes runs = record {
  machine_is = both.machine_is;
  comes = comes;
  state_is = state-of machine next.state m both;
  recorded = recorded;
  parts = parts-of machine next.state m both kept graph;
  in_time = in_time;
  writes = writes;
  runs = runs;
}

-- its parts stand in the slot
pub amid-at : (machine : Machine) (first : Turn) (at : Moment) (m : Simulated) (log : SlotLog) → IsAt machine first at m log →
    IsAmid machine first at.ended (present_phase at) m.nets m.table m.record log
amid-at machine first at m log is = record {
  both = subst (λ s. AreBothOf machine s m.nets m.table) is.comes.happened_so_far (both-at machine first at m log is);
  arranged = is.parts.table;
  recorded = is.recorded;
}

pub in-slot : (m : Simulated) → IsMoving m → IsInSlot m.nets m.table m.record
in-slot m moving = record {
  machine = machine_kept m;
  first = moving.first;
  before = moving.at.ended;
  phase = present_phase moving.at;
  log = moving.log;
  is = amid-at (machine_kept m) moving.first moving.at m moving.log moving.is;
}

-- and the other way round, where the first order comes to the moment
pub moved-amid : (machine : Machine) (first : Turn) (next : Moment) (m : Simulated) (log : SlotLog) → ComesTo machine next →
    IsAmid machine first next.ended (present_phase next) m.nets m.table m.record log →
    design_of m.graph.now.design.now ≡ machine.design → next.begins.time ≤ 2 ^ 63 → WritesAreOf machine.design next.begins →
    (notes_runs m ≡ true → RecordsRuns machine next.ended (present_phase next) m.runs) → IsAt machine first next m log
moved-amid machine first next m log comes amid graph in_time writes runs =
    moved machine first next m log comes (subst (λ s. AreBothOf machine s m.nets m.table) (sym comes.happened_so_far) amid.both) amid.arranged graph amid.recorded in_time writes runs
