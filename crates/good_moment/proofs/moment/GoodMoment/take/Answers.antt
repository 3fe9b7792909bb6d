-- What a block takes, by who acts in its first event.
use Rattle.std.proofs.Common.{sym, subst}
use Rattle.std.specs.Prelude.{OnOk}
use Rattle.slot_record.specs.Records.{event_of}
use Rattle.passed_blocks.specs.moment_laws.Steps.{CanTake, Takes}
use Rattle.good_moment.proofs.moment.GoodMoment.take.Goals as goal

pub take_block-requires-clause-runs : goal.take_block-requires-clause-runs
take_block-requires-clause-runs g c κs within = subst (λ a. CanTake g.N.World.design g.N.World.plan (event_of a) c.args.self.now) c.in-Step.is c.requires.takes

pub take_update-requires-clause-lane : goal.take_update-requires-clause-lane
take_update-requires-clause-lane g c κs within = subst (λ a. CanTake g.N.World.design g.N.World.plan (event_of a) c.args.self.now) c.in-Lane.is c.requires.takes

pub unreachable-requires : goal.unreachable-requires
unreachable-requires g c = subst (λ a. CanTake g.N.World.design g.N.World.plan (event_of a) c.args.self.now) c.in-Eval.is c.requires.takes

pub unreachable-requires-in-Move : goal.unreachable-requires-in-Move
unreachable-requires-in-Move g c = subst (λ a. CanTake g.N.World.design g.N.World.plan (event_of a) c.args.self.now) c.in-Move.is c.requires.takes

pub returns-in-Step : goal.returns-in-Step
returns-in-Step g c =
    subst (λ a. OnOk c.take_block.result (Takes g.N.World.design g.N.World.plan (event_of a) c.args.self.now c.take_block.new.self)) (sym c.in-Step.is) c.take_block.ensures

pub returns-in-Lane : goal.returns-in-Lane
returns-in-Lane g c = subst (λ a. Takes g.N.World.design g.N.World.plan (event_of a) c.args.self.now c.take_update.new.self) (sym c.in-Lane.is) c.take_update.ensures
