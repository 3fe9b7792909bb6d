-- Lanes and pending updates as they are kept (nonblocking updates by IEEE 1364-2001, clause 9.2.2).
use Rattle.std.specs.Prelude.{List, map, drop, Vec}
use Rattle.std.specs.declared.alloc.Global.{Global}
use Rattle.v_design.specs.Assignments.{ValueUpdate}
use Rattle.v_design.specs.States.{LaterUpdate}
use Rattle.v_design.specs.Plain.{due_of, update_of}
use Rattle.v_design.specs.declared.plan.Due.{Due}
use Rattle.moment_parts.specs.declared.lane.Lane.{Lane}

-- the updates that are left of a lane
abbrev pub lane_left : Lane → List ValueUpdate
lane_left lane = drop lane.taken (map update_of lane.updates.items)

abbrev pub lanes_left : List Lane → List (List ValueUpdate)
lanes_left lanes = map lane_left lanes

-- the updates that processes have pending, by their numbers
abbrev pub later_lists : List (Vec Due Global) → List (List LaterUpdate)
later_lists lists = map (λ (list : Vec Due Global). map due_of list.items) lists
