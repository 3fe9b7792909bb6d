use Rattle.std.proofs.Common.{◌≡◌, ◌++◌, List, map, drop}
use Rattle.v_design.specs.Plain.{process_of}
use Rattle.v_elab.specs.Parts.{Part}
use Rattle.v_elab.specs.Objects.{HeldObject}
use Rattle.v_elab.specs.Flat.{flat_process}
use Rattle.elab_nodes.specs.Bases.{IsBasis}
use Rattle.elab_parts.specs.BehaviourViews.{process_in}
use Rattle.elab_nodes.proofs.process.flat_processes.Given as goal

abbrev pub invariant-processes : goal.invariant-processes
invariant-processes l = (parts : List Part) (objects : List HeldObject) → IsBasis parts objects l.basis →
    map process_of l.flats.items ++ map (flat_process parts objects) (map process_in (drop l.process-index l.processes)) ≡ map (flat_process parts objects) (map process_in l.processes)
