-- Each grading that began is on its way, and the machine stands.
use Rattle.std.specs.Prelude.{◌≡◌, map}
use Rattle.vf_base.specs.Base.{watched_bit}
use Rattle.fault_strobes.specs.Said.{keeps}
use Rattle.fault_strobes.specs.Shown.{said_of}
use Rattle.window_grade.specs.Running.{StaysOn}
use Rattle.window_grade.specs.Grading.{CanGrade}
use Rattle.window_grade.proofs.Through.{IsOnWay}
use Rattle.window_grade.proofs.strobes.grade_through.Given as goal

abbrev pub invariant-strobes : goal.invariant-strobes
invariant-strobes g l = record {
  way : (of : CanGrade (map watched_bit l.watched) l.samples l.until l.beside l.fn.machine (said_of l.fn.strobed)) →
      IsOnWay of.design of.plan of.fault (keeps (said_of l.fn.strobed)) of.later l.until l.sample-index l.samples l.beside of.now l.fn.steps l.steps l.machine (said_of l.strobed);
  kind : keeps (said_of l.strobed) ≡ keeps (said_of l.fn.strobed);
  stays : CanGrade (map watched_bit l.watched) l.samples l.until l.beside l.fn.machine (said_of l.fn.strobed) → StaysOn l.fn.machine l.machine;
}
