use Rattle.std.proofs.Common.{◌≡◌, ◌++◌, List, length, map, take, sym, ap, ◌∙◌, append-nil, arith}
use Rattle.std.specs.Option.{option_to_list}
use Rattle.vf_base.specs.Base.{process_number}
use Rattle.v_design.specs.Plain.{due_of}
use Rattle.v_design.specs.States.{LaterUpdate}
use Rattle.between_slots.specs.Updates.{due_after}
use Rattle.window_runs.specs.RunsByProcess.{runs_of_process}
use Rattle.window_runs.specs.Through.{appended_of}
use Rattle.window_runs.proofs.Fronts.{own-front, updates-more}
use Rattle.window_runs.proofs.Dues.{early-none, place-has, same-counts}
use Rattle.window_runs.proofs.index.RunIndex.push_appended.Goals as goal

pub count_early-early-requires-clause-count : goal.count_early-early-requires-clause-count
count_early-early-requires-clause-count c =
    let limit = length c.args.self.now.phases in
    let process = process_number c.args.process in
    let same = same-counts c.args.runs.now c.args.self.now limit process c.requires.index c.requires.process in
    omega (arith, same, c.count_through-count.ensures.within)

pub count_early-early-requires-clause-runs : goal.count_early-early-requires-clause-runs
count_early-early-requires-clause-runs c place low =
    let limit = length c.args.self.now.phases in
    let process = process_number c.args.process in
    let same = same-counts c.args.runs.now c.args.self.now limit process c.requires.index c.requires.process in
    place-has c.args.runs.now c.args.self.now limit process c.requires.index c.requires.process place (omega (arith, same, low, c.count_through-count.ensures.within))

pub count_early-early-requires-clause-process : goal.count_early-early-requires-clause-process
count_early-early-requires-clause-process c = (let same = c.requires.index.places_are.numbers in omega (arith, same, c.requires.process))

pub places-init : goal.places-init
places-init c =
    let limit = length c.args.self.now.phases in
    let process = process_number c.args.process in
    let same = same-counts c.args.runs.now c.args.self.now limit process c.requires.index c.requires.process in
    let none = early-none c.args.runs.now c.args.self.now limit process c.requires.index c.requires.process c.args.time c.count_early-early.result
    (omega (arith, same, c.count_early-early.ensures.within, c.count_through-count.ensures.within)) c.count_early-early.ensures.early in
    sym (ap (λ (l : List LaterUpdate). map due_of c.args.updates.now.items ++ l) none ∙ append-nil (map due_of c.args.updates.now.items))

pub places-preserved : goal.places-preserved
places-preserved c =
    updates-more (runs_of_process (process_number c.args.process) c.args.runs.now) c.places.place c.args.time (map due_of c.args.updates.now.items) (map due_of c.places.updates.items)
    (map due_of c.push_run.new.updates.items) c.places.invariant
    (c.in_ok-push_run.ensures ∙ ap (λ found. map due_of c.places.updates.items ++ due_after c.args.time (appended_of (option_to_list found))) c.run_at.ensures)

pub returns : goal.returns
returns c =
    let process = process_number c.args.process in
    let count = c.count_through-count.ensures in
    let same : c.places.place ≡ c.count_through-count.result = omega (arith, c.places-test.false, c.places.near-place, c.places.far-place, c.count_early-early.ensures.within) in
    c.places.invariant
    ∙ ap (λ l. map due_of c.args.updates.now.items ++ due_after c.args.time (appended_of l))
    (ap (λ n. take n (runs_of_process process c.args.runs.now)) same
    ∙ sym (own-front c.args.runs.now c.args.self.now (length c.args.self.now.phases) process c.args.phase c.count_through-count.result c.requires.index c.requires.process count.within
    count.before count.behind))
