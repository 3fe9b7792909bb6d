-- Each process is there in both machines, and the updates of one more are kept.
use Rattle.std.proofs.Common.{◌≡◌, ℕ, ◌<◌, List, length, get_or, map, take, ap, sym, subst, ◌∙◌}
use Rattle.vf_base.specs.Base.{process_number}
use Rattle.vf_base.specs.declared.ids.ProcId.{ProcId}
use Rattle.lockstep_index.specs.Writes.{OwnWrites}
use Rattle.lockstep_copy.specs.Kept.{WritesAreKept, writes_told}
use Rattle.lockstep_compare.specs.Among.{AreWritesKeptAmong}
use Rattle.lockstep_compare.proofs.Among.{writes-more, at-place, map-more}
use Rattle.lockstep_compare.proofs.writes.keep_all_writes.Goals as goal

abbrev none : ProcId
none = record { 0 = 0 }

pub later-requires : goal.later-requires
later-requires g c =
    at-place (λ process. process < g.G.Processes.count c.args.good.now) process_number c.args.processes.now c.processes.place none c.processes-test.true c.requires.good

pub lane-requires : goal.lane-requires
lane-requires g c =
    at-place (λ process. process < g.G.Processes.count c.args.good.now) process_number c.args.processes.now c.processes.place none c.processes-test.true c.requires.good

pub later-requires-in-processes : goal.later-requires-in-processes
later-requires-in-processes g c =
    at-place (λ process. process < g.F.Processes.count c.args.faulty.now) process_number c.args.processes.now c.processes.place none c.processes-test.true c.requires.faulty

pub lane-requires-in-processes : goal.lane-requires-in-processes
lane-requires-in-processes g c =
    at-place (λ process. process < g.F.Processes.count c.args.faulty.now) process_number c.args.processes.now c.processes.place none c.processes-test.true c.requires.faulty

pub processes-preserved : goal.processes-preserved
processes-preserved g c =
    let process = process_number (get_or c.args.processes.now c.processes.place none) in
    let good = g.G.Processes.writes c.args.good.now in
    let faulty = g.F.Processes.writes c.args.faulty.now in
    let good_is : writes_told c.later.result.now c.lane.result.now ≡ good process = λ i. record { later = c.later.ensures i; lane = c.lane.ensures i } in
    let own_is : writes_told c.later-in-processes.result.now c.lane-in-processes.result.now ≡ faulty process =
    λ i. record { later = c.later-in-processes.ensures i; lane = c.lane-in-processes.ensures i } in
    let kept : WritesAreKept process (good process) (faulty process) c.processes.own c.keep_writes.new.own =
    subst (λ (w : OwnWrites). WritesAreKept process w (faulty process) c.processes.own c.keep_writes.new.own) good_is
    (subst (λ (w : OwnWrites). WritesAreKept process (writes_told c.later.result.now c.lane.result.now) w c.processes.own c.keep_writes.new.own) own_is
    (c.in_ok-keep_writes.ensures.kept c.if-not-branch.false)) in
    subst (λ (l : List ℕ). AreWritesKeptAmong good faulty l c.args.own.now c.keep_writes.new.own)
    (sym (map-more process_number c.args.processes.now c.processes.place none c.processes-test.true))
    (writes-more good faulty (map process_number (take c.processes.place c.args.processes.now)) process c.args.own.now c.processes.own c.keep_writes.new.own c.processes.invariant kept)
