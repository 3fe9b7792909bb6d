use Rattle.std.proofs.Common.{◌≡◌, ◌+◌, ◌<◌, ℕ, List, ◌∷◌, ◌++◌, [], get_or, length, map, take, sym, ap, ◌∙◌}
use Rattle.std.proofs.lemmas.List.{map_push, take_all, take_more}
use Rattle.window_index.specs.declared.occurrence.Occurrence.{Occurrence}
use Rattle.process_code.specs.declared.state.RunEnd.{RunEnd}
use Rattle.window_runs.specs.Placed.{at_moment}
use Rattle.window_runs.specs.RunsByProcess.{run_process, run_phase}
use Rattle.window_runs.proofs.index.list_phases.Goals as goal

-- one run more
moments-more : (runs : List RunEnd) (i : ℕ) (run : RunEnd) → i < length runs → run ≡ get_or runs i run →
    map (at_moment run_process run_phase) (take (i + 1) runs) ≡ map (at_moment run_process run_phase) (take i runs) ++ at_moment run_process run_phase run ∷ []
moments-more runs i run low read =
    ap (map (at_moment run_process run_phase)) (take_more runs i run low ∙ ap (λ r. take i runs ++ r ∷ []) (sym read)) ∙ map_push (at_moment run_process run_phase) (take i runs) run

pub runs-preserved : goal.runs-preserved
runs-preserved c =
    c.in_ok-push.ensures.items ∙ ap (λ (l : List Occurrence). l ++ at_moment run_process run_phase c.run-item.result ∷ []) c.runs.invariant
    ∙ sym (moments-more c.args.runs.now c.runs.run-index c.run-item.result c.runs-test.true c.run-item.is)

pub returns : goal.returns
returns c = c.runs.invariant ∙ ap (map (at_moment run_process run_phase)) (take_all c.runs.run-index c.args.runs.now c.runs-test.false)
