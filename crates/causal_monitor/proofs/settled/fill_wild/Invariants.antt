use Rattle.std.proofs.Common.{◌≡◌, map}
use Rattle.vf_base.specs.Base.{object_number}
use Rattle.v_design.specs.Paths.{is_wild}
use Rattle.v_design.specs.Logs.{phase_changes}
use Rattle.v_design.specs.PlainDesigns.{design_of}
use Rattle.causal_monitor.proofs.TotalLaws.{nets_before}
use Rattle.causal_monitor.proofs.settled.fill_wild.Given as goal

abbrev pub invariant-objects : goal.invariant-objects
invariant-objects l =
    map object_number l.nets.items ≡ nets_before (is_wild (design_of l.design) (phase_changes (design_of l.design) l.log.log)) (design_of l.design) l.number
