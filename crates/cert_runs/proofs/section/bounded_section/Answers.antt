-- How far the lines go, and what the run shows where they stop.
use Rattle.text_lines.specs.Plain.{plain_texts}
use Rattle.cert_laws.specs.Valid.{lines_said}
use Rattle.cert_runs.proofs.Passing.{bounded-breaks, bounded-stops, stopped-run, goes-as}
use Rattle.cert_runs.proofs.section.bounded_section.Goals as goal

pub show-requires : goal.show-requires
show-requires g c =
    let is = c.requires.run in
    stopped-run is.machine (lines_said (plain_texts c.args.lines.now)) is.run c.in-Stops.count c.args.run.now c.follow_lines.new.run
    (goes-as _ _ _ _ _ c.in-Stops.is c.in_ok-count.ensures) is.keeps

pub returns-in-Breaks : goal.returns-in-Breaks
returns-in-Breaks g c machine before k =
    bounded-breaks machine (lines_said (plain_texts c.args.lines.now)) before c.in-Breaks.count c.args.run.now c.follow_lines.new.run
    (goes-as _ _ _ _ _ c.in-Breaks.is c.in_ok-count.ensures) k

pub returns-in_ok-shown-in-Stops : goal.returns-in_ok-shown-in-Stops
returns-in_ok-shown-in-Stops g c machine before k =
    bounded-stops machine (lines_said (plain_texts c.args.lines.now)) before c.in-Stops.count c.in_ok-shown-in-Stops.shown c.args.run.now c.follow_lines.new.run
    (goes-as _ _ _ _ _ c.in-Stops.is c.in_ok-count.ensures) c.in_ok-shown-in-Stops.ensures k
