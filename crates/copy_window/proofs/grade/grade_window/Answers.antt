-- Through the window.
use Rattle.std.proofs.Common.{map, sym, ◌∙◌}
use Rattle.vf_base.specs.Base.{watched_bit}
use Rattle.fault_strobes.specs.Shown.{said_of}
use Rattle.copy_window.proofs.Gradings.{passes-found, passes-on}
use Rattle.copy_window.proofs.Ticks.{ticks-behind}
use Rattle.copy_window.proofs.grade.grade_window.Goals as goal

pub returns-then-is_some-clause-passes : goal.returns-then-is_some-clause-passes
returns-then-is_some-clause-passes g c = λ of.
    passes-found c.runs_stand.ensures c.strobed_gradings_end.ensures c.strobed_faults_go_on.ensures (map watched_bit c.args.watched.now) c.args.strobes.now c.args.beside.now c.args.machine.now (said_of c.args.strobed.now) of c.in_ok-end.end c.grade_to.new.machine
    (said_of c.grade_to.new.strobed) (sym c.is_some.ensures ∙ c.if-is_some.true) (c.in_ok-end.ensures.comes of)

pub returns-clause-passes : goal.returns-clause-passes
returns-clause-passes g c = λ of.
    passes-on c.runs_stand.ensures c.strobed_gradings_end.ensures c.strobed_faults_go_on.ensures (map watched_bit c.args.watched.now) c.args.strobes.now c.args.beside.now c.args.machine.now (said_of c.args.strobed.now) of c.in_ok-end.end c.end_behind.result
    c.grade_to.new.machine (said_of c.grade_to.new.strobed) (sym c.is_some.ensures ∙ c.if-is_some.false) (c.in_ok-end.ensures.comes of) c.end_behind.ensures

pub returns-then-is_some-clause-ticks : goal.returns-then-is_some-clause-ticks
returns-then-is_some-clause-ticks g c = λ of.
    ticks-behind c.own_steps_rise.ensures (map watched_bit c.args.watched.now) c.args.strobes.now c.args.beside.now c.args.machine.now (said_of c.args.strobed.now) of c.slots_are_known.ensures c.args.steps.now c.grade_to.new.steps
    (c.in_ok-end.ensures.ticks of)

pub returns-clause-ticks : goal.returns-clause-ticks
returns-clause-ticks g c = λ of.
    ticks-behind c.own_steps_rise.ensures (map watched_bit c.args.watched.now) c.args.strobes.now c.args.beside.now c.args.machine.now (said_of c.args.strobed.now) of c.slots_are_known.ensures c.args.steps.now c.grade_to.new.steps
    (c.in_ok-end.ensures.ticks of)
