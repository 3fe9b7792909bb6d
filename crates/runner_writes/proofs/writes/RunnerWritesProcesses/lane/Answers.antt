-- The lane of a process are those of its state.
use Rattle.std.proofs.Common.{ℕ, List, length, ap, sym, subst, ◌∙◌, ◌<◌}
use Rattle.std.proofs.lemmas.List.{length-map}
use Rattle.vf_base.specs.Base.{process_number}
use Rattle.lockstep_index.specs.Writes.{OwnWrites}
use Rattle.lockstep_compare.specs.Compared.{writes_in}
use Rattle.block_events.specs.Runners.{state_of}
use Rattle.runner_writes.specs.Each.{writes_at, writes-at}
use Rattle.runner_writes.proofs.writes.RunnerWritesProcesses.lane.Goals as goal

pub lane_of-requires-clause-number : goal.lane_of-requires-clause-number
lane_of-requires-clause-number c =
    subst (λ (n : ℕ). process_number c.args.process < n) (ap length (sym c.self.view_is) ∙ length-map (state_of c.self.inside.runner.now).processes writes_in) c.requires

pub returns : goal.returns
returns c =
    let process = process_number c.args.process in
    let state = state_of c.self.inside.runner.now in
    let viewed = ap (λ (all : List OwnWrites). writes_at all process) (sym c.self.view_is) ∙ writes-at state process in
    c.lane_of.ensures ∙ sym (ap (λ (own : OwnWrites). own.lane) viewed)
