-- What is shown is put back.
use Rattle.std.proofs.Common.{sym, ap, subst, ◌∙◌}
use Rattle.v_design.specs.Designs.{FlatDesign, good_machine}
use Rattle.faulty_block.specs.lockstep_room.Rooms.{AreCounts}
use Rattle.lockstep_block.proofs.Showing.{may-put-back-shown}
use Rattle.lockstep_block.proofs.beside.put_back_to.Goals as goal

pub put_back-requires-clause-counts : goal.put_back-requires-clause-counts
put_back-requires-clause-counts g c = subst (λ (d : FlatDesign). AreCounts d c.args.counts) (sym c.requires.back.design_is) c.requires.counts

pub put_back-requires-clause-back : goal.put_back-requires-clause-back
put_back-requires-clause-back g c =
    let shown = c.show_block-block.ensures in
    may-put-back-shown c.args.behind.now c.show_block-block.result shown.changed shown.acted shown.lane g.N.World.design c.args.runner.now c.args.before.now c.args.told.now c.args.own.now
    c.show-good.result c.codes-codes.result.now c.show-good.ensures.design c.show-good.ensures.shows c.codes-codes.ensures.world c.requires.back

pub returns-clause-machine : goal.returns-clause-machine
returns-clause-machine g c = c.in_ok-put_back.ensures.machine ∙ ap good_machine c.requires.back.design_is

pub returns-clause-state : goal.returns-clause-state
unfolding may-put-back-shown
returns-clause-state g c = λ of.
    let shown = c.show_block-block.ensures in
    c.in_ok-put_back.ensures.state
    (may-put-back-shown c.args.behind.now c.show_block-block.result shown.changed shown.acted shown.lane g.N.World.design c.args.runner.now c.args.before.now c.args.told.now c.args.own.now
    c.show-good.result c.codes-codes.result.now c.show-good.ensures.design c.show-good.ensures.shows c.codes-codes.ensures.world of)
