-- What both blocks changed is compared.
use Rattle.std.proofs.Common.{◌<◌, List, map, length, sym, ap, ◌∙◌, arith}
use Rattle.std.specs.Prelude.{min}
use Rattle.std.proofs.lemmas.List.{length-map}
use Rattle.vf_base.specs.Base.{object_number, process_number}
use Rattle.vf_base.specs.Lists.{has}
use Rattle.vf_base.specs.declared.ids.ObjectId.{ObjectId}
use Rattle.runner_writes.proofs.block_events.Nodes.{object-count, process-count}
use Rattle.runner_writes.specs.block_events.Runners.{machine_of, state_of}
use Rattle.moment_shown.specs.lockstep_compare.Compared.{writes_in}
use Rattle.lockstep_index.specs.Writes.{OwnWrites}
use Rattle.block_compare.proofs.Same.{all-comparable, all-so, writes-there}
use Rattle.block_compare.proofs.Kept.{compared}
use Rattle.block_compare.proofs.compare.compare_block.Goals as goal

pub keep_all_writes-requires-clause-good : goal.keep_all_writes-requires-clause-good
keep_all_writes-requires-clause-good c =
    let good = c.args.good.now in
    let beside = c.requires.compare.beside in
    let count = beside.process_count in
    all-so (λ process. process < min (length good.standing.now.later.items) (length good.standing.now.lanes.items)) (map process_number c.args.block.now.acted.now)
    (λ process there. let low = c.requires.compare.acted process there in writes-there good beside.state beside.shown process (omega (arith, low, count)))

pub keep_all_writes-requires-clause-faulty : goal.keep_all_writes-requires-clause-faulty
keep_all_writes-requires-clause-faulty c =
    let runner = c.args.runner.now in
    let count = process-count runner c.requires.whole in
    let long = ap (λ (l : List OwnWrites). length l) c.new-faulty.ensures ∙ length-map (state_of runner).processes writes_in in
    all-so (λ process. process < length c.new-faulty.result) (map process_number c.args.block.now.acted.now)
    (λ process there. let low = c.requires.compare.acted process there in omega (arith, low, count, long))

pub keep_lane-requires-clause-good : goal.keep_lane-requires-clause-good
keep_lane-requires-clause-good c = λ process there.
    let beside = c.requires.compare.beside in
    let count = beside.process_count in
    let low = c.requires.compare.lane process there in
    writes-there c.args.good.now beside.state beside.shown process (omega (arith, low, count))

pub keep_lane-requires-clause-faulty : goal.keep_lane-requires-clause-faulty
keep_lane-requires-clause-faulty c = λ process there.
    let runner = c.args.runner.now in
    let count = process-count runner c.requires.whole in
    let long = ap (λ (l : List OwnWrites). length l) c.new-faulty.ensures ∙ length-map (state_of runner).processes writes_in in
    let low = c.requires.compare.lane process there in
    omega (arith, low, count, long)

pub keep_values-requires : goal.keep_values-requires
keep_values-requires c =
    let runner = c.args.runner.now in
    let beside = c.requires.compare.beside in
    let alike = c.go_alike.ensures c.if-not-go_alike.false beside.state beside.shown in
    all-comparable (machine_of runner).design c.args.good.now (state_of runner).values (map object_number c.args.block.now.changed.now) beside (object-count runner)
    runner.nets.objects.are.widths alike.goods

pub keep_values-requires-2 : goal.keep_values-requires-2
keep_values-requires-2 c =
    let runner = c.args.runner.now in
    let beside = c.requires.compare.beside in
    let alike = c.go_alike.ensures c.if-not-go_alike.false beside.state beside.shown in
    all-comparable (machine_of runner).design c.args.good.now (state_of runner).values (map object_number c.as_slice.result.now) beside (object-count runner) runner.nets.objects.are.widths
    (λ object there. alike.owns object (sym (ap (λ (l : List ObjectId). has (map object_number l) object) c.as_slice.ensures.value) ∙ there))

pub returns-clause-compares : goal.returns-clause-compares
returns-clause-compares c = λ goes state shown.
    let runner = c.args.runner.now in
    compared (machine_of runner).design c.args.good.now c.args.block.now c.args.told.now state (state_of runner) c.as_slice.result.now c.new-faulty.result c.args.own.now
    c.keep_all_writes.new.own c.keep_lane.new.own c.keep_values.new.own c.keep_values-2.new.own shown c.as_slice.ensures.value c.new-faulty.ensures
    (c.in_ok-keep_all_writes.ensures c.if-not-branch.false) (c.in_ok-keep_lane.ensures c.if-not-branch-2.false) c.in_ok-keep_values.ensures.rest c.in_ok-keep_values-2.ensures.rest
    c.in_ok-keep_values.ensures.kept c.in_ok-keep_values-2.ensures.kept (c.go_alike.ensures c.if-not-go_alike.false state shown)

pub returns-clause-fault : goal.returns-clause-fault
returns-clause-fault c = λ goes.
    c.in_ok-keep_values-2.ensures.rest.fault ∙ c.in_ok-keep_values.ensures.rest.fault ∙ (c.in_ok-keep_lane.ensures c.if-not-branch-2.false).fault
    ∙ (c.in_ok-keep_all_writes.ensures c.if-not-branch.false).fault

pub returns-clause-states : goal.returns-clause-states
returns-clause-states c = λ goes.
    c.in_ok-keep_values-2.ensures.rest.states ∙ c.in_ok-keep_values.ensures.rest.states ∙ (c.in_ok-keep_lane.ensures c.if-not-branch-2.false).states
    ∙ (c.in_ok-keep_all_writes.ensures c.if-not-branch.false).states
