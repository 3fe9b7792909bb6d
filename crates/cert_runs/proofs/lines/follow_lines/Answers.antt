-- The lines of a run are followed.
use Rattle.std.proofs.Common.{arith}
use Rattle.text_lines.specs.Plain.{plain_texts}
use Rattle.cert_laws.specs.Valid.{lines_said}
use Rattle.cert_runs.proofs.Passing.{passing-none, passing-goes, passing-breaks, passing-stops, passing-ends, takes-as, low-time, some-asked, times-go}
use Rattle.cert_runs.proofs.lines.follow_lines.Goals as goal

pub lines-init : goal.lines-init
lines-init g c = record { below = omega arith; stands = c.requires.run; passing = passing-none (lines_said (plain_texts c.args.lines.now)) c.args.run.now }

pub take_line-requires-clause-run : goal.take_line-requires-clause-run
take_line-requires-clause-run g c = some-asked c.lines.at c.lines.run c.lines.invariant.stands

pub take_line-requires-clause-low : goal.take_line-requires-clause-low
take_line-requires-clause-low g c = low-time c.lines.at c.lines.run (omega (arith, c.lines-test.true, c.requires.few)) c.lines.invariant.stands

pub lines-preserved : goal.lines-preserved
lines-preserved g c = record {
  below = omega (arith, c.lines-test.true);
  stands = times-go c.times_grow.ensures c.lines.at _ c.lines.run c.take_line.new.run (takes-as _ _ _ _ _ c.in-Goes.is c.in_ok-take_line.ensures) c.lines.invariant.stands;
  passing = passing-goes c.args.lines.now c.lines.at _ c.args.run.now c.lines.run c.take_line.new.run (omega (arith, c.lines-test.true)) c.lines.invariant.passing
      (takes-as _ _ _ _ _ c.in-Goes.is c.in_ok-take_line.ensures);
}

pub returns-in-Breaks : goal.returns-in-Breaks
returns-in-Breaks g c =
    passing-breaks c.args.lines.now c.lines.at _ c.args.run.now c.lines.run c.take_line.new.run (omega (arith, c.lines-test.true)) c.lines.invariant.passing
    (takes-as _ _ _ _ _ c.in-Breaks.is c.in_ok-take_line.ensures)

pub returns-in-Stops : goal.returns-in-Stops
returns-in-Stops g c =
    passing-stops c.args.lines.now c.lines.at _ c.args.run.now c.lines.run c.take_line.new.run (omega (arith, c.lines-test.true)) c.lines.invariant.passing
    (takes-as _ _ _ _ _ c.in-Stops.is c.in_ok-take_line.ensures)

pub returns : goal.returns
returns g c = passing-ends c.args.lines.now c.lines.at c.args.run.now c.lines.run (omega (arith, c.lines-test.false)) c.lines.invariant.passing
