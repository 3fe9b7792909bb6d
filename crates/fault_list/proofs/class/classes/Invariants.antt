use Rattle.std.proofs.Common.{take}
use Rattle.std.specs.HashMap.{get}
use Rattle.v_design.specs.PlainDesigns.{design_of}
use Rattle.fault_list.specs.Listed.{stuck}
use Rattle.fault_list.specs.SameKeys.{same_key}
use Rattle.fault_list.proofs.Meeting.{Met}
use Rattle.fault_list.proofs.class.classes.Given as goal

abbrev pub invariant-faults : goal.invariant-faults
invariant-faults l = Met (design_of l.design) (stuck (take l.number l.faults)) (λ k. get same_key l.firsts k) l.places.items
