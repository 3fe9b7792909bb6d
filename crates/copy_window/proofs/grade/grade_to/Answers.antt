-- To the time to which the window leads.
use Rattle.std.proofs.Common.{map, sym, subst}
use Rattle.vf_base.specs.Base.{watched_bit}
use Rattle.fault_strobes.specs.Shown.{said_of}
use Rattle.window_grade.specs.Grading.{CanGrade}
use Rattle.copy_window.proofs.Windows.{can-grade}
use Rattle.copy_window.proofs.Ticks.{ticks-none, ticks-some}
use Rattle.copy_window.proofs.Gradings.{comes-none, comes-some, stays-same}
use Rattle.copy_window.proofs.grade.grade_to.Goals as goal

pub returns-in-None-clause-comes : goal.returns-in-None-clause-comes
returns-in-None-clause-comes g c = λ of. comes-none (map watched_bit c.args.watched.now) c.args.strobes.now c.args.beside.now c.args.machine.now (said_of c.args.strobed.now) of c.in-None.is

pub returns-in-None-clause-stays : goal.returns-in-None-clause-stays
returns-in-None-clause-stays g c = stays-same (map watched_bit c.args.watched.now) c.args.strobes.now c.args.beside.now c.args.machine.now (said_of c.args.strobed.now) c.requires

pub grade_through-requires : goal.grade_through-requires
grade_through-requires g c =
    subst (λ samples. CanGrade (map watched_bit c.args.watched.now) samples c.in-Some.until c.args.beside.now c.args.machine.now (said_of c.args.strobed.now)) (sym c.as_slice-samples.ensures.value)
    (can-grade (map watched_bit c.args.watched.now) c.args.strobes.now c.args.beside.now c.args.machine.now (said_of c.args.strobed.now) c.in-Some.until c.requires c.in-Some.is)

pub returns-in_ok-end-in-Some-clause-comes : goal.returns-in_ok-end-in-Some-clause-comes
returns-in_ok-end-in-Some-clause-comes g c = λ of.
    comes-some (map watched_bit c.args.watched.now) c.args.strobes.now c.args.beside.now c.args.machine.now (said_of c.args.strobed.now) of c.in-Some.until c.in-Some.is c.as_slice-samples.result.now c.as_slice-samples.ensures.value c.in_ok-end-in-Some.end c.grade_through.new.machine
    (said_of c.grade_through.new.strobed) c.in_ok-end-in-Some.ensures.grading

pub returns-in-None-clause-ticks : goal.returns-in-None-clause-ticks
returns-in-None-clause-ticks g c = λ of.
    ticks-none c.own_steps_rise.ensures (map watched_bit c.args.watched.now) c.args.strobes.now c.args.beside.now c.args.machine.now (said_of c.args.strobed.now) of c.in-None.is c.args.steps.now

pub returns-in_ok-end-in-Some-clause-ticks : goal.returns-in_ok-end-in-Some-clause-ticks
returns-in_ok-end-in-Some-clause-ticks g c = λ of.
    ticks-some c.own_steps_rise.ensures (map watched_bit c.args.watched.now) c.args.strobes.now c.args.beside.now c.args.machine.now (said_of c.args.strobed.now) of c.in-Some.until c.in-Some.is c.as_slice-samples.result.now
    c.as_slice-samples.ensures.value c.args.steps.now c.grade_through.new.steps c.in_ok-end-in-Some.ensures.ticks
