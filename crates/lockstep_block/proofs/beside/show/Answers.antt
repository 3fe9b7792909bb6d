-- What is shown is what the moment has.
use Rattle.std.proofs.Common.{sym}
use Rattle.v_design.specs.PlainDesigns.{design_of}
use Rattle.good_moment.specs.moment_parts.Lanes.{lanes_left, later_lists}
use Rattle.lockstep_block.proofs.Showing.{shows-parts}
use Rattle.lockstep_block.proofs.beside.show.Goals as goal

pub returns-clause-design : goal.returns-clause-design
returns-clause-design g c = sym c.design.ensures.world

pub returns-clause-shows : goal.returns-clause-shows
returns-clause-shows g c = λ state shows.
    let standing = c.standing.result.now in
    shows-parts g.N.World.design (design_of c.design.result.now) c.args.moment.now c.values.result.now standing.states.items (later_lists standing.later.items) (lanes_left standing.lanes.items)
    c.design.ensures.world c.values.ensures c.standing.ensures.states c.standing.ensures.later c.standing.ensures.lanes state shows
