use Rattle.std.proofs.Common.{◌≡◌, map, drop}
use Rattle.v_design.specs.Plain.{object_of}
use Rattle.v_design.specs.PlainDesigns.{design_of}
use Rattle.fault_list.specs.Spelled.{first_answer, object_spelled}
use Rattle.fault_list.proofs.spelled.objects_spelled.Given as goal

abbrev pub invariant-objects : goal.invariant-objects
invariant-objects l =
    first_answer (object_spelled (design_of l.design) l.word) 0 (design_of l.design).objects
    ≡ first_answer (object_spelled (design_of l.design) l.word) l.number (map object_of (drop l.number l.objects))
