-- What is kept, or nothing.
use Rattle.std.proofs.Common.{[], map, ap, ◌∙◌}
use Rattle.v_design.specs.Plain.{update_of}
use Rattle.v_design.specs.States.{found_or}
use Rattle.lockstep_exchange.proofs.put.lane_of.Goals as goal

pub returns-in-Some : goal.returns-in-Some
returns-in-Some c = ap (map update_of) (c.as_slice.ensures ∙ ap (found_or []) c.in-Some.ensures)

pub returns-in-None : goal.returns-in-None
returns-in-None c = ap (λ found. map update_of (found_or [] found)) c.in-None.ensures
