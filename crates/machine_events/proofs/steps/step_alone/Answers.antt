-- The step is taken and carried out.
use Rattle.std.proofs.Common.{◌<◌, ◌∙◌, length, sym, ap, subst}
use Rattle.std.specs.Prelude.{IfSome}
use Rattle.vf_base.specs.Base.{process_number}
use Rattle.v_design.specs.Designs.{FlatDesign}
use Rattle.net_state.specs.States.{machine_in, values_in}
use Rattle.machine_events.specs.Parts.{FitsDesign}
use Rattle.machine_events.specs.There.{touches-there}
use Rattle.v_design.specs.States.{step_of}
use Rattle.process_table.specs.Deeds.{read_by}
use Rattle.process_table.specs.Known.{told-act}
use Rattle.run_ends.specs.RunEnds.{IsCodeAt}
use Rattle.machine_events.proofs.Recorded.{values-count, ready-low, stepped-both, stepped-low, state_both, both-of, one-after}
use Rattle.machine_events.proofs.steps.step_alone.Goals as goal

pub step-requires-clause-kept : goal.step-requires-clause-kept
step-requires-clause-kept g c = c.requires.one.kept

pub step-requires-clause-values : goal.step-requires-clause-values
step-requires-clause-values g c = values-count c.args.nets.now ∙ sym (ap (λ (d : FlatDesign). length d.objects) c.requires.one.design)

pub carry_out-requires-clause-design : goal.carry_out-requires-clause-design
carry_out-requires-clause-design g c =
    let nets = c.args.nets.now in
    let table = c.args.table.now in
    (stepped-both (machine_in nets) (state_both nets table) nets table c.step.new.self (process_number c.args.process) c.in_ok-stepped.stepped (both-of nets table c.requires.one)
    c.requires.ready c.in_ok-stepped.ensures.step).step.after.design

pub carry_out-requires-clause-values : goal.carry_out-requires-clause-values
carry_out-requires-clause-values g c = values-count c.args.nets.now

pub carry_out-requires-clause-there : goal.carry_out-requires-clause-there
carry_out-requires-clause-there g c =
    let nets = c.args.nets.now in
    let table = c.args.table.now in
    let both = both-of nets table c.requires.one in
    let stepped = stepped-both (machine_in nets) (state_both nets table) nets table c.step.new.self (process_number c.args.process) c.in_ok-stepped.stepped both c.requires.ready
    c.in_ok-stepped.ensures.step in
    touches-there (length (values_in nets)) c.in_ok-stepped.stepped.act _
    (subst (λ n. IfSome (read_by c.in_ok-stepped.stepped.act) (λ object. object < n))
    (ap (λ (d : FlatDesign). length d.objects) c.requires.one.design ∙ sym (values-count nets)) c.in_ok-stepped.ensures.reads)
    stepped.step.write (c.requires.there (machine_in nets) (state_both nets table) both)

pub returns-clause-happens : goal.returns-clause-happens
returns-clause-happens g c =
    let nets = c.args.nets.now in
    let table = c.args.table.now in
    let carries = c.in_ok-carry_out.ensures in
    let stepped = stepped-both (machine_in nets) (state_both nets table) nets table c.step.new.self (process_number c.args.process) c.in_ok-stepped.stepped (both-of nets table c.requires.one)
    c.requires.ready c.in_ok-stepped.ensures.step in
    record {
      one = one-after _ _ c.carry_out.new.nets c.carry_out.new.table (carries.happens (machine_in nets) (state_both nets table) stepped).both carries.kept;
      fits = subst (λ (d : FlatDesign). FitsDesign d c.carry_out.new.told) (stepped.step.after.design ∙ sym c.requires.one.design) carries.fits;
      happens = λ machine state both. carries.happens machine state
          (stepped-both machine state nets table c.step.new.self (process_number c.args.process) c.in_ok-stepped.stepped both c.requires.ready c.in_ok-stepped.ensures.step);
    }

pub copy_state-requires-clause-number : goal.copy_state-requires-clause-number
copy_state-requires-clause-number g c =
    let nets = c.args.nets.now in
    let table = c.args.table.now in
    let both = both-of nets table c.requires.one in
    let stepped = stepped-both (machine_in nets) (state_both nets table) nets table c.step.new.self (process_number c.args.process) c.in_ok-stepped.stepped both c.requires.ready
    c.in_ok-stepped.ensures.step in
    stepped-low table c.step.new.self (process_number c.args.process) c.requires.one.kept c.in_ok-stepped.ensures.kept (stepped.step.after.design ∙ sym both.table_is.design)
    (ready-low table (process_number c.args.process) c.requires.ready)

pub returns-clause-step : goal.returns-clause-step
returns-clause-step g c = λ machine state both.
    let p = process_number c.args.process in
    let of = c.in_ok-stepped.ensures.step machine state both.table_is (sym both.nets_are.values) in
    record {
      line = of.line;
      act = told-act c.in_ok-stepped.stepped.act c.in_ok-stepped.stepped.later state.time (step_of machine state p).action of.read of.write of.later;
      stands = λ code at. c.in_ok-state.ensures.state code (subst (λ (d : FlatDesign). IsCodeAt d p code) (sym of.after.design) at);
      does = λ code at. c.in_ok-state.ensures.activity code (subst (λ (d : FlatDesign). IsCodeAt d p code) (sym of.after.design) at) ∙ of.activity;
    }
