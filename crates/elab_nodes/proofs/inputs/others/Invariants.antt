use Rattle.std.proofs.Common.{◌≡◌, ◌++◌, map, drop}
use Rattle.std.specs.Prelude.{filter}
use Rattle.vf_base.specs.Base.{object_number}
use Rattle.elab_nodes.specs.Inputs.{is_other}
use Rattle.elab_nodes.proofs.inputs.others.Given as goal

abbrev pub invariant-objects : goal.invariant-objects
invariant-objects l =
    map object_number l.left.items ++ filter (is_other l.own) (map object_number (drop l.object-index l.objects)) ≡ filter (is_other l.own) (map object_number l.objects)
