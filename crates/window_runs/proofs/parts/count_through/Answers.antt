use Rattle.std.proofs.Common.{◌≡◌, true, false, leb, subst, arith, rules}
use Rattle.std.proofs.lemmas.Bool.{leb-true, leb-false}
use Rattle.std.proofs.lemmas.List.Sorted.{IsPartitionPoint-from_clause, IsPartitionedBy-leb}
use Rattle.std.proofs.lemmas.Option.{slice_get_within, get_or_from_slice_get}
use Rattle.process_code.specs.declared.state.RunEnd.{RunEnd}
use Rattle.window_runs.specs.RunsByProcess.{run_phase}
use Rattle.window_runs.proofs.parts.count_through.Goals as goal

pub returns-clause-before : goal.returns-clause-before
returns-clause-before c =
    let parted = IsPartitionedBy-leb run_phase c.args.runs.now c.args.phase c.requires in
    let point = IsPartitionPoint-from_clause (λ (run : RunEnd). leb run.phase c.args.phase) _ _ c.partition_point.ensures.partitioned parted (λ a r q k. search rules) in
    λ place run low here.
    leb-true run.phase c.args.phase
    (subst (λ (x : RunEnd). leb x.phase c.args.phase ≡ true) (get_or_from_slice_get c.args.runs.now place run run here)
    (point.0 place run (omega arith) low))

pub returns-clause-behind : goal.returns-clause-behind
returns-clause-behind c =
    let parted = IsPartitionedBy-leb run_phase c.args.runs.now c.args.phase c.requires in
    let point = IsPartitionPoint-from_clause (λ (run : RunEnd). leb run.phase c.args.phase) _ _ c.partition_point.ensures.partitioned parted (λ a r q k. search rules) in
    λ place run low here.
    leb-false run.phase c.args.phase
    (subst (λ (x : RunEnd). leb x.phase c.args.phase ≡ false) (get_or_from_slice_get c.args.runs.now place run run here)
    (point.1 place run low (slice_get_within c.args.runs.now place run here)))
