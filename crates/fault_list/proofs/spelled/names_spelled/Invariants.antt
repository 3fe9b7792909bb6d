use Rattle.std.proofs.Common.{◌≡◌, map, drop}
use Rattle.v_design.specs.Plain.{name_joined}
use Rattle.v_design.specs.PlainDesigns.{design_of}
use Rattle.fault_list.specs.Spelled.{first_answer, name_spelled}
use Rattle.fault_list.proofs.spelled.names_spelled.Given as goal

abbrev pub invariant-names : goal.invariant-names
invariant-names l =
    first_answer (name_spelled (design_of l.design) l.word) 0 (design_of l.design).joined
    ≡ first_answer (name_spelled (design_of l.design) l.word) l.name-index (map name_joined (drop l.name-index l.names))
