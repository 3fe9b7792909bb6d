-- Those runs end in the block.
use Rattle.std.proofs.Common.{◌-◌, ◌<◌, ◌≤◌, length, map, take, drop, ◌∙◌, arith, rules}
use Rattle.window_runs.specs.RunsByProcess.{run_process}
use Rattle.lockstep_block.proofs.EndedRuns.{ended-told, none-ended}
use Rattle.lockstep_block.proofs.ended.good_ended.Goals as goal

pub slice_bounds-ended-end : goal.slice_bounds-ended-end
slice_bounds-ended-end g c =
    let is = c.requires.shown in
    let w = c.args.window.now in
    let told = ended-told g.N.World.design g.N.World.plan w.before w.through c.slot-slot.result is.place is.block is.rest c.args.before.now c.args.behind.now c.runs_in-runs.result.now is.within
    c.slot-slot.ensures is.before_at is.parts is.behind_at c.runs_in-runs.ensures in
    let first = c.runs-from.ensures in
    let last = c.runs-to.ensures in
    let some : c.args.before.now.runs < c.args.behind.now.runs = omega (arith, c.if-to-from.false, first, last) in
    let inside = told.within some in
    let order : c.runs-from.result ≤ c.runs-to.result = omega (arith, c.if-to-from.false) in
    let within : c.runs-to.result ≤ length c.runs_in-runs.result.now = omega (arith, inside, last) in
    search rules

pub offset_bounds-runs-from : goal.offset_bounds-runs-from
offset_bounds-runs-from g c =
    let is = c.requires.shown in
    let w = c.args.window.now in
    let told = ended-told g.N.World.design g.N.World.plan w.before w.through c.slot-slot.result is.place is.block is.rest c.args.before.now c.args.behind.now c.runs_in-runs.result.now is.within
    c.slot-slot.ensures is.before_at is.parts is.behind_at c.runs_in-runs.ensures in
    let first = c.runs-from.ensures in
    let last = c.runs-to.ensures in
    let some : c.args.before.now.runs < c.args.behind.now.runs = omega (arith, c.if-to-from.false, first, last) in
    let inside = told.within some in
    let order : c.runs-from.result ≤ c.runs-to.result = omega (arith, c.if-to-from.false) in
    let within : c.runs-to.result ≤ length c.runs_in-runs.result.now = omega (arith, inside, last) in
    search rules

pub returns-then-to-from : goal.returns-then-to-from
returns-then-to-from g c = λ place block rest shown left later.
    let is = c.requires.shown in
    let w = c.args.window.now in
    let told = ended-told g.N.World.design g.N.World.plan w.before w.through c.slot-slot.result place block rest c.args.before.now c.args.behind.now c.runs_in-runs.result.now is.within
    c.slot-slot.ensures shown left later c.runs_in-runs.ensures in
    none-ended g.N.World.design place block c.args.before.now c.args.behind.now c.runs_in-runs.result.now told
    (let from = c.runs-from.ensures in let to = c.runs-to.ensures in omega (arith, from, to, c.if-to-from.true))

pub returns : goal.returns
returns g c = λ place block rest shown left later.
    let is = c.requires.shown in
    let w = c.args.window.now in
    let told = ended-told g.N.World.design g.N.World.plan w.before w.through c.slot-slot.result place block rest c.args.before.now c.args.behind.now c.runs_in-runs.result.now is.within
    c.slot-slot.ensures shown left later c.runs_in-runs.ensures in
    (λ i. map run_process (take (c.runs-to.ensures i - c.runs-from.ensures i) (drop (c.runs-from.ensures i) c.runs_in-runs.result.now))) ∙ told.are
