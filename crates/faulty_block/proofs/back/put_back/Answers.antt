-- The runner is brought, in two turns, to the good state before but for what is kept, which is taken out.
use Rattle.std.proofs.Common.{sym, ap, subst, ◌∙◌}
use Rattle.std.specs.Prelude.{None}
use Rattle.v_design.specs.Designs.{Machine}
use Rattle.block_compare.specs.lockstep_room.Rooms.{AreCounts}
use Rattle.faulty_block.proofs.PutBack.{first-stands, may-take-out, still-stands}
use Rattle.faulty_block.proofs.back.put_back.Goals as goal

pub bring-requires-clause-design : goal.bring-requires-clause-design
bring-requires-clause-design c = c.requires.back.design_is

pub bring-requires-clause-stands : goal.bring-requires-clause-stands
bring-requires-clause-stands c = first-stands c.args.runner.now c.args.before.now c.args.block.now c.args.told.now c.args.own.now c.requires.back

pub bring-requires-2-clause-design : goal.bring-requires-2-clause-design
bring-requires-2-clause-design c = c.requires.back.design_is ∙ sym (ap (λ (m : Machine). m.design) c.in_ok-bring.ensures.machine)

pub bring-requires-2-clause-counts : goal.bring-requires-2-clause-counts
bring-requires-2-clause-counts c = subst (λ (m : Machine). AreCounts m.design c.args.counts) (sym c.in_ok-bring.ensures.machine) c.requires.counts

pub bring-requires-2-clause-stands : goal.bring-requires-2-clause-stands
unfolding first-stands
bring-requires-2-clause-stands c =
    still-stands c.args.runner.now c.args.before.now c.args.block.now c.args.told.now c.args.own.now c.bring.new.runner c.in_ok-bring.ensures.machine c.as_slice.result.now c.requires.back
    (c.in_ok-bring.ensures.state (first-stands c.args.runner.now c.args.before.now c.args.block.now c.args.told.now c.args.own.now c.requires.back))

pub take_out-requires-clause-taken : goal.take_out-requires-clause-taken
unfolding first-stands still-stands
take_out-requires-clause-taken c =
    let runner = c.args.runner.now in
    let before = c.args.before.now in
    let block = c.args.block.now in
    let told = c.args.told.now in
    let own = c.args.own.now in
    let of = c.requires.back in
    let first = c.in_ok-bring.ensures.state (first-stands runner before block told own of) in
    may-take-out runner before block told own c.bring.new.runner c.in_ok-bring.ensures.machine c.as_slice.result.now of first c.bring-2.new.runner c.in_ok-bring-2.ensures.machine
    c.as_slice.ensures.value
    (c.in_ok-bring-2.ensures.state (still-stands runner before block told own c.bring.new.runner c.in_ok-bring.ensures.machine c.as_slice.result.now of first))

pub returns-clause-machine : goal.returns-clause-machine
returns-clause-machine c =
    c.take_out.ensures.machine ∙ ap (λ (m : Machine). record m { fault = None }) (c.in_ok-bring-2.ensures.machine ∙ c.in_ok-bring.ensures.machine)

pub returns-clause-state : goal.returns-clause-state
unfolding first-stands still-stands may-take-out
returns-clause-state c = λ of.
    let runner = c.args.runner.now in
    let before = c.args.before.now in
    let block = c.args.block.now in
    let told = c.args.told.now in
    let own = c.args.own.now in
    let first = c.in_ok-bring.ensures.state (first-stands runner before block told own of) in
    c.take_out.ensures.state
    (may-take-out runner before block told own c.bring.new.runner c.in_ok-bring.ensures.machine c.as_slice.result.now of first c.bring-2.new.runner c.in_ok-bring-2.ensures.machine
    c.as_slice.ensures.value
    (c.in_ok-bring-2.ensures.state (still-stands runner before block told own c.bring.new.runner c.in_ok-bring.ensures.machine c.as_slice.result.now of first)))
