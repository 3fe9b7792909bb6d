use Rattle.std.proofs.Common.{◌≡◌, ap, subst, ◌∙◌, refl, length}
use Rattle.vf_base.specs.Base.{object_number}
use Rattle.four_value.specs.Values.{with_part}
use Rattle.four_value.specs.ValueLaws.{length-with_part}
use Rattle.v_design.specs.Designs.{forced_variable}
use Rattle.v_design.specs.Assignments.{value_at}
use Rattle.v_design.specs.States.{value_written, with_value}
use Rattle.v_design.specs.Plain.{update_of}
use Rattle.v_design.specs.Views.{machine_of}
use Rattle.net_state.specs.Held.{Holds}
use Rattle.net_state.specs.States.{machine_in}
use Rattle.net_state.specs.OutputLaws.{length-forced_variable}
use Rattle.net_state.proofs.state.NetState.write.Goals as goal

pub put-requires-clause-width : goal.put-requires-clause-width
put-requires-clause-width c =
    ap length c.forced-new.ensures
    ∙ length-forced_variable (machine_of c.view.result).fault (object_number c.args.update.now.object) c.place.result
    ∙ ap length c.place.ensures
    ∙ length-with_part c.value-old.result c.args.update.now.low c.args.update.now.value
    ∙ ap length c.value-old.ensures
    ∙ c.args.self.now.objects.are.widths (object_number c.args.update.now.object) c.requires

pub returns-clause-written : goal.returns-clause-written
returns-clause-written c state h =
    let machine = machine_in c.args.self.now in
    let placed : c.place.result ≡ with_part (value_at state.values (object_number c.args.update.now.object)) c.args.update.now.low c.args.update.now.value =
    c.place.ensures ∙ ap (λ v. with_part v c.args.update.now.low c.args.update.now.value) (c.value-old.ensures ∙ ap (λ vs. value_at vs (object_number c.args.update.now.object)) h.values) in
    let value : c.forced-new.result ≡ value_written (machine_in c.args.self.now) state (update_of c.args.update.now) =
    c.forced-new.ensures ∙ (λ j. forced_variable (c.view.ensures.machine j).fault (object_number c.args.update.now.object) (placed j)) in
    subst (λ v. Holds c.put.new.self (with_value (machine_in c.args.self.now) (object_number c.args.update.now.object) v state)) value (c.put.ensures.holds machine state refl h)
