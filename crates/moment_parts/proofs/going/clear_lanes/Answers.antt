-- One lane more.
use Rattle.std.proofs.Common.{◌≡◌, ◌<◌, ◌∙◌, [], length, drop, map, ap, refl, arith}
use Rattle.v_design.specs.Plain.{update_of}
use Rattle.moment_parts.specs.Lanes.{lane_left}
use Rattle.moment_parts.specs.declared.lane.Lane.{Lane as LaneKept}
use Rattle.moment_parts.proofs.Below.{below-none, below-more, lanes-none}
use Rattle.moment_parts.proofs.Lists.{drop-past}
use Rattle.moment_parts.proofs.going.clear_lanes.Goals as goal

pub lanes-init : goal.lanes-init
lanes-init c = below-none LaneKept (λ place lane. lane_left lane ≡ []) (length c.args.lanes.now.items) c.args.lanes.now.items refl

pub lanes-preserved : goal.lanes-preserved
lanes-preserved c =
    let same : length c.lanes.lanes.items ≡ length c.args.lanes.now.items = c.lanes.invariant.count_is in
    let low : c.lanes.place < length c.lanes.lanes.items = omega (arith, same, c.lanes-test.true, c.len-place-end.ensures) in
    let empty : lane_left c.clear.new.self ≡ [] =
    ap (λ l. drop c.clear.new.self.taken (map update_of l)) c.clear.ensures.updates ∙ drop-past c.clear.new.self.taken [] (let e = c.clear.ensures.taken in omega (arith, e)) in
    below-more LaneKept (λ place lane. lane_left lane ≡ []) c.lanes.place (length c.args.lanes.now.items) c.lanes.lanes.items _ c.clear.new.self low empty refl c.lanes.invariant

pub returns-clause-none : goal.returns-clause-none
returns-clause-none c process =
    lanes-none c.lanes.place (length c.args.lanes.now.items) c.lanes.lanes.items process (omega (arith, c.lanes-test.false, c.len-place-end.ensures)) c.lanes.invariant
