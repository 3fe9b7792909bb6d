-- The step is followed and carried out.
use Rattle.std.proofs.Common.{◌<◌, ◌∙◌, length, sym, ap, subst}
use Rattle.std.specs.Prelude.{IfSome}
use Rattle.vf_base.specs.Base.{process_number}
use Rattle.v_design.specs.Designs.{FlatDesign}
use Rattle.net_state.specs.States.{machine_in, values_in}
use Rattle.process_table.specs.Deeds.{read_by}
use Rattle.machine_events.specs.Parts.{FitsDesign}
use Rattle.machine_events.specs.There.{touches-there}
use Rattle.machine_events.proofs.Recorded.{values-count, followed-both, state_both, both-of, one-after}
use Rattle.machine_events.proofs.steps.follow_alone.Goals as goal

pub follow-requires-clause-kept : goal.follow-requires-clause-kept
follow-requires-clause-kept c = c.requires.one.kept

pub follow-requires-clause-known : goal.follow-requires-clause-known
follow-requires-clause-known c =
    let nets = c.args.nets.now in
    let table = c.args.table.now in
    let both = both-of nets table c.requires.one in
    record { machine = machine_in nets; state = state_both nets table; of = both.table_is; step = c.requires.known (machine_in nets) (state_both nets table) both }

pub carry_out-requires-clause-design : goal.carry_out-requires-clause-design
carry_out-requires-clause-design c =
    let nets = c.args.nets.now in
    let table = c.args.table.now in
    let both = both-of nets table c.requires.one in
    (followed-both (machine_in nets) (state_both nets table) nets table c.follow.new.self (process_number c.args.process) c.args.line c.args.act c.args.next.now c.in_ok-stepped.stepped both
    c.requires.ready (c.requires.known (machine_in nets) (state_both nets table) both) c.in_ok-stepped.ensures.step).step.after.design

pub carry_out-requires-clause-values : goal.carry_out-requires-clause-values
carry_out-requires-clause-values c = values-count c.args.nets.now

pub carry_out-requires-clause-there : goal.carry_out-requires-clause-there
carry_out-requires-clause-there c =
    let nets = c.args.nets.now in
    let table = c.args.table.now in
    let both = both-of nets table c.requires.one in
    let stepped = followed-both (machine_in nets) (state_both nets table) nets table c.follow.new.self (process_number c.args.process) c.args.line c.args.act c.args.next.now c.in_ok-stepped.stepped both
    c.requires.ready (c.requires.known (machine_in nets) (state_both nets table) both) c.in_ok-stepped.ensures.step in
    touches-there (length (values_in nets)) c.in_ok-stepped.stepped.act _
    (subst (λ n. IfSome (read_by c.in_ok-stepped.stepped.act) (λ object. object < n))
    (ap (λ (d : FlatDesign). length d.objects) c.requires.one.design ∙ sym (values-count nets)) c.in_ok-stepped.ensures.reads)
    stepped.step.write (c.requires.there (machine_in nets) (state_both nets table) both)

pub returns : goal.returns
returns c =
    let nets = c.args.nets.now in
    let table = c.args.table.now in
    let carries = c.in_ok-carry_out.ensures in
    let both = both-of nets table c.requires.one in
    let stepped = followed-both (machine_in nets) (state_both nets table) nets table c.follow.new.self (process_number c.args.process) c.args.line c.args.act c.args.next.now c.in_ok-stepped.stepped both
    c.requires.ready (c.requires.known (machine_in nets) (state_both nets table) both) c.in_ok-stepped.ensures.step in
    record {
      one = one-after _ _ c.carry_out.new.nets c.carry_out.new.table (carries.happens (machine_in nets) (state_both nets table) stepped).both carries.kept;
      fits = subst (λ (d : FlatDesign). FitsDesign d c.carry_out.new.told) (stepped.step.after.design ∙ sym c.requires.one.design) carries.fits;
      happens = λ machine state of. carries.happens machine state
          (followed-both machine state nets table c.follow.new.self (process_number c.args.process) c.args.line c.args.act c.args.next.now c.in_ok-stepped.stepped of c.requires.ready
          (c.requires.known machine state of) c.in_ok-stepped.ensures.step);
    }
