-- One run more of which nothing is kept.
use Rattle.std.proofs.Common.{◌≡◌, ◌∙◌, ◌+◌, length, map, List, [], ◌∷◌, ◌++◌, sym, ap, subst, length-append}
use Rattle.std.specs.List.{All}
use Rattle.std.proofs.lemmas.List.{map_push}
use Rattle.std.proofs.lemmas.List.Elements.{All-push}
use Rattle.run_record.specs.Notes.{SoFar, nothing_so_far}
use Rattle.run_record.specs.RunRecords.{so_far}
use Rattle.run_record.specs.declared.record.RunSoFar.{RunSoFar}
use Rattle.run_record.proofs.record.no_runs.Goals as goal

one-more : (runs more : List RunSoFar) (run : RunSoFar) → more ≡ runs ++ run ∷ [] → so_far run ≡ nothing_so_far → All (λ (told : SoFar). told ≡ nothing_so_far) (map so_far runs) →
    All (λ (told : SoFar). told ≡ nothing_so_far) (map so_far more)
one-more runs more run pushed none all =
    subst (All (λ (told : SoFar). told ≡ nothing_so_far)) (sym (ap (map so_far) pushed ∙ map_push so_far runs run))
    (All-push (λ (told : SoFar). told ≡ nothing_so_far) (map so_far runs) (so_far run) all none)

pub processes-preserved : goal.processes-preserved
processes-preserved c =
    let pushed = c.in_ok-push.ensures.items in
    record {
      count = ap length pushed ∙ length-append c.processes.runs.items _ ∙ ap (λ n. n + 1) c.processes.invariant.count;
      nothing = one-more c.processes.runs.items _ c.none.result pushed c.none.ensures c.processes.invariant.nothing;
    }
