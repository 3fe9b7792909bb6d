-- What the step says is noted, and where it leaves its process.
use Rattle.std.proofs.Common.{◌<◌, ◌∙◌, sym, subst}
use Rattle.vf_base.specs.Base.{process_number}
use Rattle.v_design.specs.Designs.{FlatDesign}
use Rattle.net_state.specs.States.{values_in}
use Rattle.process_table.specs.Arranged.{table_of}
use Rattle.run_ends.specs.RunEnds.{IsCodeAt}
use Rattle.slot_record.specs.SlotRecords.{state_in}
use Rattle.machine.proofs.Acts.{step-says}
use Rattle.machine.proofs.runs.note_taken.Goals as goal

pub go_on-requires : goal.go_on-requires
go_on-requires c = subst (λ n. process_number c.args.process < n) (sym c.requires.room) c.requires.process

pub end-requires : goal.end-requires
end-requires c = subst (λ n. process_number c.args.process < n) (sym c.requires.room) c.requires.process

pub returns-then-stepped : goal.returns-then-stepped
returns-then-stepped c = λ machine before phase notes stands values step numbered.
    c.in_ok-go_on.ensures machine before phase notes
    (step-says machine (state_in machine phase) (process_number c.args.process) c.args.stepped.now (values_in c.args.nets.now) (table_of c.args.table.now) c.args.state c.step_taken-step.result
    c.step_taken-step.ensures stands values step)
    (sym step.ready ∙ c.if-stepped.true)

pub returns : goal.returns
returns c = λ machine before phase notes stands values step numbered.
    c.in_ok-end.ensures machine before phase notes
    (step-says machine (state_in machine phase) (process_number c.args.process) c.args.stepped.now (values_in c.args.nets.now) (table_of c.args.table.now) c.args.state c.step_taken-step.result
    c.step_taken-step.ensures stands values step)
    (sym step.ready ∙ c.if-stepped.false) numbered
    (record {
      state_of = λ code at. c.in_ok-after.ensures.state code (subst (λ (d : FlatDesign). IsCodeAt d (process_number c.args.process) code) (sym step.after.design) at);
      activity = λ code at. c.in_ok-after.ensures.activity code (subst (λ (d : FlatDesign). IsCodeAt d (process_number c.args.process) code) (sym step.after.design) at) ∙ step.activity;
    })
