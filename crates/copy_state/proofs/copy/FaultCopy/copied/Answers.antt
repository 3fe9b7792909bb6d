use Rattle.std.proofs.Common.{ap, refl, subst}
use Rattle.vf_base.specs.Base.{fault_number}
use Rattle.copy_state.specs.Copied.{KeepsSame}
use Rattle.copy_state.specs.Kept.{CopyKept, updates_of}
use Rattle.copy_state.proofs.copy.FaultCopy.copied.Goals as goal

pub returns : goal.returns
returns c =
    let copy : CopyKept =
    record { fault = fault_number c.self.inside.fault; values = c.in_ok-values.values; states = c.in_ok-states.states; updates = updates_of c.in_ok-updates.updates } in
    subst (λ (k : CopyKept). KeepsSame k copy) c.self.view_is
    (record { fault = refl; values = c.in_ok-values.ensures; states = c.in_ok-states.ensures; updates = ap updates_of c.in_ok-updates.ensures })
