use Rattle.std.proofs.Common.{◌≡◌, max, map, drop}
use Rattle.vf_base.specs.Base.{object_number}
use Rattle.event_causes.specs.Causes.{greatest_number}
use Rattle.event_causes.proofs.causes.Causes.cause_of_node.Given as goal

abbrev pub invariant-inputs : goal.invariant-inputs
invariant-inputs l =
    max l.latest (greatest_number l.self.changes.items (map object_number (drop l.input-index l.inputs))) ≡ greatest_number l.self.changes.items (map object_number l.inputs)
