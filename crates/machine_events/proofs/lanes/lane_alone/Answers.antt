-- The update is written.
use Rattle.std.proofs.Common.{◌≡◌, ◌∙◌, true, List, [], ◌∷◌, length, refl, sym, ap, subst}
use Rattle.std.specs.Prelude.{Option, Some, None, IfSome}
use Rattle.std.specs.Option.{option_map}
use Rattle.vf_base.specs.Base.{process_number}
use Rattle.v_design.specs.declared.plan.Update.{Update}
use Rattle.v_design.specs.Assignments.{ValueUpdate}
use Rattle.v_design.specs.Designs.{FlatDesign}
use Rattle.v_design.specs.Plain.{update_of}
use Rattle.v_design.specs.States.{is_any, first_update}
use Rattle.net_state.specs.States.{machine_in, values_in}
use Rattle.process_table.specs.Tables.{TableState, process_in}
use Rattle.process_table.specs.Arranged.{table_of}
use Rattle.machine_events.specs.Parts.{FitsDesign}
use Rattle.machine_events.specs.There.{IsOfObjects}
use Rattle.machine_events.proofs.Recorded.{values-count, lane-low, lane-happens, state_both, both-of, one-after}
use Rattle.machine_events.proofs.lanes.lane_alone.Goals as goal

-- a lane with an update has a first one
never : (found : Option Update) (updates : List ValueUpdate) → is_any updates ≡ true → option_map update_of found ≡ first_update updates →
    ((update : Update) → found ≡ Some update → ⊥) → ⊥
never None [] any e none = cc
never None (first ∷ updates) any e none = cc
never (Some update) updates any e none = none update refl

pub lane_step-requires-clause-kept : goal.lane_step-requires-clause-kept
lane_step-requires-clause-kept c = c.requires.one.kept

pub lane_step-requires-clause-number : goal.lane_step-requires-clause-number
lane_step-requires-clause-number c = lane-low c.args.table.now (process_number c.args.process) c.requires.lane

pub unreachable-requires : goal.unreachable-requires
unreachable-requires c = never c.lane_step.result (process_in (table_of c.args.table.now) (process_number c.args.process)).lane c.requires.lane c.lane_step.ensures.update c.in_default.not-Some

pub write_update-requires-clause-design : goal.write_update-requires-clause-design
write_update-requires-clause-design c = ap (λ (t : TableState). t.design) c.lane_step.ensures.rest ∙ c.requires.one.design

pub write_update-requires-clause-values : goal.write_update-requires-clause-values
write_update-requires-clause-values c = values-count c.args.nets.now

pub write_update-requires-clause-object : goal.write_update-requires-clause-object
write_update-requires-clause-object c =
    subst (λ (o : Option ValueUpdate). IfSome o (IsOfObjects (length (values_in c.args.nets.now)))) (sym c.in-Some.ensures.update) c.requires.there

pub returns : goal.returns
returns c =
    let nets = c.args.nets.now in
    let table = c.args.table.now in
    let happens = lane-happens nets c.write_update.new.nets table c.lane_step.new.self c.write_update.new.table c.write_update.new.told (process_number c.args.process) (update_of c.in-Some.update)
    c.in-Some.ensures.update c.in-Some.ensures.rest c.in_ok-write_update.ensures in
    let first = happens (machine_in nets) (state_both nets table) (both-of nets table c.requires.one) in
    record {
      one = one-after _ _ c.write_update.new.nets c.write_update.new.table first.both c.in_ok-write_update.ensures.kept;
      fits = subst (λ (d : FlatDesign). FitsDesign d c.write_update.new.told) (ap (λ (t : TableState). t.design) c.in-Some.ensures.rest) c.in_ok-write_update.ensures.fits;
      happens = happens;
    }
