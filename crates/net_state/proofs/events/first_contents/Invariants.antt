use Rattle.std.proofs.Common.{◌≡◌, take}
use Rattle.vf_base.specs.Lists.{map_numbered}
use Rattle.v_design.specs.Designs.{FlatObject, forced_variable}
use Rattle.v_design.specs.PlainDesigns.{design_of}
use Rattle.v_design.specs.Views.{machine_of}
use Rattle.net_state.proofs.events.first_contents.Given as goal

abbrev pub invariant-objects : goal.invariant-objects
invariant-objects l = l.values.items ≡ map_numbered (λ number (object : FlatObject). forced_variable (machine_of l.view).fault number object.first) 0
    (take l.number (design_of l.view.design.now).objects)
