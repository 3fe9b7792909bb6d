-- The faulty machine at a strobe.
use Rattle.std.proofs.Common.{Some, length, map, sym, ap, subst, ◌∙◌}
use Rattle.std.proofs.lemmas.List.{length-map}
use Rattle.vf_base.specs.Base.{watched_bit}
use Rattle.v_design.specs.Grades.{samples}
use Rattle.fault_strobes.specs.Said.{ends_there, keeps, said_at}
use Rattle.fault_strobes.specs.Shown.{said_of}
use Rattle.fault_strobes.proofs.Samples.{kind-stays}
use Rattle.machine.specs.Standing.{state_kept}
use Rattle.kept_samples.specs.Plain.{sample_of}
use Rattle.window_grade.specs.Running.{RunLeads}
use Rattle.window_grade.proofs.Passing.{can-run, sized, watched-there, pass-stopped, pass-hard, pass-on}
use Rattle.window_grade.proofs.strobes.pass_strobe.Goals as goal

pub run_to-requires : goal.run_to-requires
run_to-requires g c = can-run (map watched_bit c.args.watched.now) (sample_of c.args.sample.now) c.args.beside.now c.args.machine.now (said_of c.args.strobed.now) c.requires

pub returns-in-Some-clause-grading : goal.returns-in-Some-clause-grading
returns-in-Some-clause-grading g c = λ of.
    pass-stopped (map watched_bit c.args.watched.now) (sample_of c.args.sample.now) c.args.beside.now c.args.machine.now (said_of c.args.strobed.now) of c.in-Some.end
    (subst (λ end. RunLeads of.design of.plan of.fault c.args.sample.now.time end c.run_to.new.machine) c.in-Some.is
    (c.in_ok-end.ensures.run (can-run (map watched_bit c.args.watched.now) (sample_of c.args.sample.now) c.args.beside.now c.args.machine.now (said_of c.args.strobed.now) of)))
    c.strobed_gradings_end.ensures

pub strobe-requires : goal.strobe-requires
strobe-requires g c =
    let of = c.requires in
    record {
      kept = ap length c.as_slice-bits.ensures ∙ sized (map watched_bit c.args.watched.now) (sample_of c.args.sample.now) c.args.beside.now c.args.machine.now (said_of c.args.strobed.now) of
          ∙ length-map c.args.watched.now watched_bit;
      watched = watched-there of.design of.plan of.fault (Some c.args.sample.now.time) c.run_to.new.machine (map watched_bit c.args.watched.now)
          (subst (λ end. RunLeads of.design of.plan of.fault c.args.sample.now.time end c.run_to.new.machine) c.in_default.is
          (c.in_ok-end.ensures.run (can-run (map watched_bit c.args.watched.now) (sample_of c.args.sample.now) c.args.beside.now c.args.machine.now (said_of c.args.strobed.now) of)))
          of.watched_are of.at.watched;
    }

pub returns-then-ends-clause-grading : goal.returns-then-ends-clause-grading
returns-then-ends-clause-grading g c = λ of.
    let shown = samples (map watched_bit c.args.watched.now) (state_kept c.run_to.new.machine).values in
    pass-hard (map watched_bit c.args.watched.now) (sample_of c.args.sample.now) c.args.beside.now c.args.machine.now (said_of c.args.strobed.now) of c.runs_go_on.ensures c.runs_stand.ensures c.run_to.new.machine
    (subst (λ end. RunLeads of.design of.plan of.fault c.args.sample.now.time end c.run_to.new.machine) c.in_default.is
    (c.in_ok-end.ensures.run (can-run (map watched_bit c.args.watched.now) (sample_of c.args.sample.now) c.args.beside.now c.args.machine.now (said_of c.args.strobed.now) of)))
    (said_of c.strobe.new.self)
    (c.in_ok-ends.ensures.said ∙ ap (λ bits. said_at c.args.sample.now.time bits shown (said_of c.args.strobed.now)) c.as_slice-bits.ensures)
    c.strobed_gradings_end.ensures
    (sym (c.in_ok-ends.ensures.ends ∙ ap (λ bits. ends_there bits shown (said_of c.args.strobed.now)) c.as_slice-bits.ensures) ∙ c.if-ends.true)

pub returns-clause-grading : goal.returns-clause-grading
returns-clause-grading g c = λ of.
    let shown = samples (map watched_bit c.args.watched.now) (state_kept c.run_to.new.machine).values in
    pass-on (map watched_bit c.args.watched.now) (sample_of c.args.sample.now) c.args.beside.now c.args.machine.now (said_of c.args.strobed.now) of c.runs_go_on.ensures c.runs_stand.ensures c.run_to.new.machine
    (subst (λ end. RunLeads of.design of.plan of.fault c.args.sample.now.time end c.run_to.new.machine) c.in_default.is
    (c.in_ok-end.ensures.run (can-run (map watched_bit c.args.watched.now) (sample_of c.args.sample.now) c.args.beside.now c.args.machine.now (said_of c.args.strobed.now) of)))
    (said_of c.strobe.new.self)
    (c.in_ok-ends.ensures.said ∙ ap (λ bits. said_at c.args.sample.now.time bits shown (said_of c.args.strobed.now)) c.as_slice-bits.ensures)
    c.strobed_gradings_go_on.ensures
    (sym (c.in_ok-ends.ensures.ends ∙ ap (λ bits. ends_there bits shown (said_of c.args.strobed.now)) c.as_slice-bits.ensures) ∙ c.if-ends.false)

pub returns-then-ends-clause-kind : goal.returns-then-ends-clause-kind
returns-then-ends-clause-kind g c =
    ap keeps c.in_ok-ends.ensures.said
    ∙ kind-stays c.args.sample.now.time c.as_slice-bits.result.now (samples (map watched_bit c.args.watched.now) (state_kept c.run_to.new.machine).values) (said_of c.args.strobed.now)

pub returns-clause-kind : goal.returns-clause-kind
returns-clause-kind g c =
    ap keeps c.in_ok-ends.ensures.said
    ∙ kind-stays c.args.sample.now.time c.as_slice-bits.result.now (samples (map watched_bit c.args.watched.now) (state_kept c.run_to.new.machine).values) (said_of c.args.strobed.now)

pub returns-in-Some-clause-ticks : goal.returns-in-Some-clause-ticks
returns-in-Some-clause-ticks g c = λ of. c.in_ok-end.ensures.ticks (can-run (map watched_bit c.args.watched.now) (sample_of c.args.sample.now) c.args.beside.now c.args.machine.now (said_of c.args.strobed.now) of)

pub returns-then-ends-clause-ticks : goal.returns-then-ends-clause-ticks
returns-then-ends-clause-ticks g c = λ of. c.in_ok-end.ensures.ticks (can-run (map watched_bit c.args.watched.now) (sample_of c.args.sample.now) c.args.beside.now c.args.machine.now (said_of c.args.strobed.now) of)

pub returns-clause-ticks : goal.returns-clause-ticks
returns-clause-ticks g c = λ of. c.in_ok-end.ensures.ticks (can-run (map watched_bit c.args.watched.now) (sample_of c.args.sample.now) c.args.beside.now c.args.machine.now (said_of c.args.strobed.now) of)
