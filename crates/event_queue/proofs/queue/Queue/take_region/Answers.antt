-- Each case takes what its turn activates.
use Rattle.std.proofs.Common.{◌∙◌, List, [], map, ap, Option, Some, None}
use Rattle.std.proofs.lemmas.Bool.{true≢false}
use Rattle.vf_base.specs.declared.ids.ProcId.{ProcId}
use Rattle.vf_base.specs.Base.{process_number}
use Rattle.v_design.specs.declared.plan.Update.{Update}
use Rattle.event_queue.specs.Queues.{TurnRegion}
use Rattle.std.specs.Option.{option_map, is_some}
use Rattle.event_queue.specs.Regions.{turn_region}
use Rattle.event_queue.specs.Arranged.{lane_of}
use Rattle.event_queue.proofs.Turns.{IsTurn, turn-postponed, turn-updates, turn-time, turn-none, turn-nothing, turn-some}
use Rattle.event_queue.proofs.queue.Queue.take_region.Goals as goal

-- The postponed processes

postponed : (c : goal.After-from_vec) → IsTurn c.args.now c.args.self.now (Some (record { time = c.args.now; processes = map process_number c.in-Some.processes; lanes = [] }))
    c.take_postponed.new.self
postponed c = turn-postponed c.args.now c.args.self.now c.take_postponed.new.self c.in-Some.processes c.in-Some.ensures

pub returns-in-Some-clause-turn : goal.returns-in-Some-clause-turn
returns-in-Some-clause-turn c =
    let with : List (ProcId × List Update) → Option TurnRegion = λ ls. Some (record { time = c.args.now; processes = map process_number c.in-Some.processes; lanes = map lane_of ls }) in
    ap with (c.from_vec.ensures ∙ c.new.ensures.items) ∙ (postponed c).0

pub returns-in-Some-clause-none : goal.returns-in-Some-clause-none
returns-in-Some-clause-none c = ((λ e. absurd (true≢false e)), (λ n. absurd (turn-some _ _ _ _ (postponed c) n)))

-- The updates that are due

updates : (c : goal.After-from_vec-in-Some-take_lanes) → IsTurn c.args.now c.args.self.now
    (Some (record { time = c.args.now; processes = []; lanes = map lane_of c.in-Some-take_lanes.lanes })) c.take_lanes.new.self
updates c = turn-updates c.args.now c.args.self.now c.take_postponed.new.self c.requires c.in_default.ensures c.take_lanes.new.self c.in-Some-take_lanes.lanes c.in-Some-take_lanes.ensures

pub returns-in-Some-take_lanes-clause-turn : goal.returns-in-Some-take_lanes-clause-turn
returns-in-Some-take_lanes-clause-turn c =
    let with : List ProcId → Option TurnRegion = λ ps. Some (record { time = c.args.now; processes = map process_number ps; lanes = map lane_of c.in-Some-take_lanes.lanes }) in
    ap with (c.from_vec-in-Some-take_lanes.ensures ∙ c.new-in-Some-take_lanes.ensures.items) ∙ (updates c).0

pub returns-in-Some-take_lanes-clause-left : goal.returns-in-Some-take_lanes-clause-left
returns-in-Some-take_lanes-clause-left c = (updates c).1

pub returns-in-Some-take_lanes-clause-none : goal.returns-in-Some-take_lanes-clause-none
returns-in-Some-take_lanes-clause-none c = ((λ e. absurd (true≢false e)), (λ n. absurd (turn-some _ _ _ _ (updates c) n)))

-- No turn

none : (c : goal.After-from_residual) → IsTurn c.args.now c.args.self.now None c.take_lanes.new.self
none c = turn-none c.args.now c.args.self.now c.take_postponed.new.self c.requires c.in_default.ensures c.take_lanes.new.self c.in_default-take_lanes.ensures c.in_err-time.ensures

pub returns-in_err-time-clause-turn : goal.returns-in_err-time-clause-turn
returns-in_err-time-clause-turn c = ap (option_map turn_region) c.from_residual.ensures ∙ (none c).0

pub returns-in_err-time-clause-left : goal.returns-in_err-time-clause-left
returns-in_err-time-clause-left c = (none c).1

pub returns-in_err-time-clause-none : goal.returns-in_err-time-clause-none
returns-in_err-time-clause-none c = (
  (λ e. turn-nothing c.args.now c.args.self.now c.take_postponed.new.self c.requires c.in_default.ensures c.take_lanes.new.self c.in_default-take_lanes.ensures c.in_err-time.ensures),
  (λ n. ap is_some c.from_residual.ensures),
)

-- A later time

later : (c : goal.After-from_vec-2) → IsTurn c.args.now c.args.self.now (Some (record { time = c.in_ok-time.time; processes = map process_number c.take_sleepers.result; lanes = [] }))
    c.take_sleepers.new.self
later c =
    turn-time c.args.now c.args.self.now c.take_postponed.new.self c.requires c.in_default.ensures c.take_lanes.new.self c.take_sleepers.new.self c.in_ok-time.time c.take_sleepers.result
    c.in_default-take_lanes.ensures c.in_ok-time.ensures c.take_sleepers.ensures.taken c.take_sleepers.ensures.left

pub returns-clause-turn : goal.returns-clause-turn
returns-clause-turn c =
    let with : List (ProcId × List Update) → Option TurnRegion = λ ls. Some (record { time = c.in_ok-time.time; processes = map process_number c.take_sleepers.result; lanes = map lane_of ls }) in
    ap with (c.from_vec-2.ensures ∙ c.new-2.ensures.items) ∙ (later c).0

pub returns-clause-left : goal.returns-clause-left
returns-clause-left c = (later c).1

pub returns-clause-none : goal.returns-clause-none
returns-clause-none c = ((λ e. absurd (true≢false e)), (λ n. absurd (turn-some _ _ _ _ (later c) n)))
