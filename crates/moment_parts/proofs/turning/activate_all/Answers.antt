-- One process more.
use Rattle.std.proofs.Common.{◌≡◌, ◌<◌, length, refl, arith}
use Rattle.moment_parts.proofs.Pending.{activated-more}
use Rattle.moment_parts.proofs.turning.activate_all.Goals as goal

pub processes-preserved : goal.processes-preserved
processes-preserved c =
    let below = c.processes.invariant in
    let later_count : length c.processes.standing.later.items ≡ length c.args.standing.now.later.items = below.later_count in
    let lane_count : length c.processes.standing.lanes.items ≡ length c.args.standing.now.lanes.items = below.lane_count in
    let low : c.processes.place < length c.processes.standing.later.items = omega (arith, later_count) in
    let lane_low : c.processes.place < length c.processes.standing.lanes.items = omega (arith, later_count, lane_count, c.requires) in
    activated-more c.args.now c.processes.place c.args.standing.now c.processes.standing c.index_mut.result.now c.activate.new.later c.activate.new.lane low lane_low c.index_mut.ensures.value
    c.in_ok-activate.ensures.later c.in_ok-activate.ensures.lane below _ refl refl refl refl
