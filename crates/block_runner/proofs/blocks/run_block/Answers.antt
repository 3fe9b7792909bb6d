-- A lane's block has no steps of processes; else the block is run step by step.
use Rattle.std.proofs.Common.{◌≡◌, ◌∙◌, ℕ, true, false, not, refl, sym, ap}
use Rattle.std.specs.Prelude.{Option, Some, None, is_some}
use Rattle.std.specs.Option.{option_map}
use Rattle.vf_base.specs.declared.ids.ProcId.{ProcId}
use Rattle.machine_laws.specs.SlotLoop.{first_ready}
use Rattle.vf_base.specs.Base.{process_number}
use Rattle.block_events.specs.Runners.{machine_of, state_of}
use Rattle.block_runner.proofs.BlocksBeside.{idle-beside, lane-beside, no-ticks, no_lane-one}
use Rattle.block_runner.proofs.blocks.run_block.Goals as goal

none-ready : (found : Option ProcId) (first : Option ℕ) → option_map process_number found ≡ first → is_some found ≡ false → first ≡ None
none-ready None first e none = sym e
none-ready (Some process) first e none = absurd (cc)

pub returns-in-Some-clause-goes : goal.returns-in-Some-clause-goes
returns-in-Some-clause-goes g c =
    (c.in_ok-lane.ensures.goes c.args.most).goes

pub returns-in-Some-clause-own : goal.returns-in-Some-clause-own
returns-in-Some-clause-own g c =
    lane-beside (machine_of c.args.runner.now) (state_of c.args.runner.now) (process_number c.in-Some.process) c.args.most c.args.goods.now _ c.lane_block.new.runner c.lane_block.new.told _
    c.args.tried.now.items c.in_ok-clear.ensures.ended (c.in_ok-lane.ensures.goes c.args.most)

pub returns-in-Some-clause-tried : goal.returns-in-Some-clause-tried
returns-in-Some-clause-tried g c =
    no-ticks c.args.tried.now.items c.args.steps.now

pub returns-in-Some-clause-one : goal.returns-in-Some-clause-one
returns-in-Some-clause-one g c =
    λ lane. c.in_ok-lane.ensures.one

pub returns-then-is_none-clause-own : goal.returns-then-is_none-clause-own
returns-then-is_none-clause-own g c =
    idle-beside (machine_of c.args.runner.now) (state_of c.args.runner.now) c.args.most c.args.goods.now c.args.runner.now c.clear.new.self c.clear-2.new.self.ended.items c.args.tried.now.items
    c.requires.whole refl refl c.clear.ensures
    (c.requires.nodes, sym c.in_default.ensures, none-ready c.first_ready.result (first_ready (state_of c.args.runner.now)) c.first_ready.ensures (c.is_none.ensures ∙ ap not c.if-is_none.true))

pub returns-then-is_none-clause-one : goal.returns-then-is_none-clause-one
returns-then-is_none-clause-one g c =
    no_lane-one (state_of c.args.runner.now) c.clear.new.self.steps (sym c.in_default.ensures)

pub returns-then-is_none-clause-tried : goal.returns-then-is_none-clause-tried
returns-then-is_none-clause-tried g c =
    no-ticks c.args.tried.now.items c.args.steps.now

pub returns-clause-goes : goal.returns-clause-goes
returns-clause-goes g c =
    c.in_ok-end.ensures.own.goes

pub returns-clause-one : goal.returns-clause-one
returns-clause-one g c =
    no_lane-one (state_of c.args.runner.now) c.run_of.new.told.steps (sym c.in_default.ensures)
