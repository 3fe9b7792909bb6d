-- The block is taken, and the runner put back.
use Rattle.std.proofs.Common.{sym, subst, ◌∙◌}
use Rattle.v_design.specs.Plain.{fault_of}
use Rattle.faulty_block.specs.lockstep_room.Rooms.{AreCounts}
use Rattle.lockstep_block.proofs.OwnBlocks.{good-again}
use Rattle.lockstep_block.proofs.own.run_own_block.Goals as goal

pub take_own_block-requires-clause-run : goal.take_own_block-requires-clause-run
take_own_block-requires-clause-run g c κs within = c.requires.run

pub set_fault-requires : goal.set_fault-requires
set_fault-requires g c = c.in_ok-take_own_block.ensures.room.whole

pub returns-then-not-branch-clause-room : goal.returns-then-not-branch-clause-room
returns-then-not-branch-clause-room g c =
    let takes = c.in_ok-take_own_block.ensures.room in
    record {
      before_is = takes.before_is;
      behind_is = takes.behind_is;
      counts_is = takes.counts_is;
      whole = c.set_fault.ensures.whole;
      machine_is = good-again g.N.World.design (fault_of c.args.fault) _ _ _ c.requires.run.beside.runs.machine_is takes.machine_is c.set_fault.ensures.machine;
    }

pub put_back_to-requires-clause-whole : goal.put_back_to-requires-clause-whole
put_back_to-requires-clause-whole g c κs within = c.in_ok-take_own_block.ensures.room.whole

pub put_back_to-requires-clause-counts : goal.put_back_to-requires-clause-counts
put_back_to-requires-clause-counts g c κs within = subst (AreCounts g.N.World.design) (sym c.in_ok-take_own_block.ensures.room.counts_is) c.requires.run.counts_are

pub put_back_to-requires-clause-back : goal.put_back_to-requires-clause-back
put_back_to-requires-clause-back g c κs within = (c.in_ok-take_own_block.ensures.took c.if-not-branch.false c.requires.run).back

pub returns-clause-goes : goal.returns-clause-goes
returns-clause-goes g c = λ yes of. (c.in_ok-take_own_block.ensures.took c.if-not-branch.false of).goes

pub returns-clause-fault : goal.returns-clause-fault
returns-clause-fault g c = λ yes. c.in_ok-take_own_block.ensures.fault c.if-not-branch.false

pub returns-clause-states : goal.returns-clause-states
returns-clause-states g c = λ yes. c.in_ok-take_own_block.ensures.states c.if-not-branch.false

pub returns-clause-state : goal.returns-clause-state
returns-clause-state g c = λ yes.
    let took = c.in_ok-take_own_block.ensures.took c.if-not-branch.false c.requires.run in
    c.in_ok-put_back_to.ensures.state took.back ∙ took.good_is

pub returns-clause-room : goal.returns-clause-room
returns-clause-room g c =
    let takes = c.in_ok-take_own_block.ensures.room in
    record {
      before_is = takes.before_is;
      behind_is = takes.behind_is;
      counts_is = takes.counts_is;
      whole = c.in_ok-put_back_to.ensures.whole;
      machine_is = c.in_ok-put_back_to.ensures.machine ∙ sym c.requires.run.beside.runs.machine_is;
    }

pub returns-then-not-branch-clause-ticks : goal.returns-then-not-branch-clause-ticks
returns-then-not-branch-clause-ticks g c = c.in_ok-take_own_block.ensures.ticks

pub returns-then-not-branch-clause-most : goal.returns-then-not-branch-clause-most
returns-then-not-branch-clause-most g c = c.in_ok-take_own_block.ensures.most

pub returns-clause-ticks : goal.returns-clause-ticks
returns-clause-ticks g c = c.in_ok-take_own_block.ensures.ticks

pub returns-clause-most : goal.returns-clause-most
returns-clause-most g c = c.in_ok-take_own_block.ensures.most
