use Rattle.std.proofs.Common.{◌≡◌, map, take}
use Rattle.v_elab.specs.Drivers.{nodes_of, processes_of}
use Rattle.elab_parts.specs.PartViews.{parts_of}
use Rattle.elab_behaviours.specs.BehaviourLists.{all_nodes_of, all_processes_of}
use Rattle.elab_behaviours.proofs.BehaviourTurns.{behaviours_so_far}
use Rattle.elab_behaviours.proofs.behaviours.behaviours_of.Given as goal

abbrev pub invariant-parts : goal.invariant-parts
invariant-parts l = record {
  nodes : all_nodes_of l.behaviours ≡ nodes_of (behaviours_so_far (parts_of l.wiring.parts.now) l.wiring.parts.now l.number);
  processes : all_processes_of l.behaviours ≡ processes_of (behaviours_so_far (parts_of l.wiring.parts.now) l.wiring.parts.now l.number);
}
