-- Run ends are parted at a moment between runs.
use Rattle.std.proofs.Common.{◌≡◌, ℕ, suc, List, [], ◌∷◌, ◌++◌, map, length, take, drop, Bool, true, false, cond, refl, sym, ap, ◌∙◌}
use Rattle.std.specs.Prelude.{Some, nat_eq, slice_get}
use Rattle.std.specs.List.{take-map, drop-map}
use Rattle.std.proofs.Math.Seq.{take-append_seam, drop-append_seam}
use Rattle.std.proofs.lemmas.List.{length-map, map-append, take-append-drop}
use Rattle.std.proofs.lemmas.List.Elements.{All-take, All-drop, filter-append}
use Rattle.v_design.specs.Runs.{happened}
use Rattle.v_design.specs.OwnSteps.{ProcessRun, steps_in, runs_of}
use Rattle.process_code.specs.RunEnds.{told_by}
use Rattle.process_code.specs.declared.code.Code.{Code}
use Rattle.process_code.specs.declared.state.RunEnd.{RunEnd}
use Rattle.copy_laws.specs.OwnRuns.{EventsTakeNoTime}
use Rattle.run_ends.specs.RunEnds.{told_of, enders_in}
use Rattle.window_runs.specs.RunsByProcess.{run_process, runs_of_process}
use Rattle.phase_blocks.specs.Blocks.{RunsOfBlocks}
use Rattle.boundary_ends.specs.BlockEnds.{EndsInState, EndsPartBetweenRuns}
use Rattle.boundary_ends.proofs.Counts.{own_enders, enders-append, enders-run}

-- two lists in two parts each, the first ones of which are as long
append-parts : {A : Type 0} (xs ys more other : List A) → length xs ≡ length ys → xs ++ more ≡ ys ++ other → (xs ≡ ys) × (more ≡ other)
append-parts xs ys more other e f = (
  sym (take-append_seam xs more) ∙ (λ i. take (e i) (f i)) ∙ take-append_seam ys other,
  sym (drop-append_seam xs more) ∙ (λ i. drop (e i) (f i)) ∙ drop-append_seam ys other,
)

-- as many of some runs are of a process as of their enders
own-count : (p : ℕ) (runs : List RunEnd) → length (runs_of_process p runs) ≡ length (own_enders p (map run_process runs))
own-count p [] = refl
own-count p (run ∷ runs) = go (nat_eq (run_process run) p) (own-count p runs)
  where
    go : (b : Bool) → length (runs_of_process p runs) ≡ length (own_enders p (map run_process runs)) →
        length (cond b (run ∷ runs_of_process p runs) (runs_of_process p runs))
        ≡ length (cond b (run_process run ∷ own_enders p (map run_process runs)) (own_enders p (map run_process runs)))
    go true e = ap suc e
    go false e = e

-- the parts of the runs of a process
own-parts : (p count : ℕ) (runs : List RunEnd) → runs_of_process p (take count runs) ++ runs_of_process p (drop count runs) ≡ runs_of_process p runs
own-parts p count runs = sym (filter-append (λ run. nat_eq (run_process run) p) (take count runs) (drop count runs)) ∙ ap (runs_of_process p) (take-append-drop count runs)

pub ends_part_between_runs : EventsTakeNoTime → RunsOfBlocks → EndsPartBetweenRuns
ends_part_between_runs time blocks codes machine begins before behind runs between ends = record {
  front = record {
    states = All-take (EndsInState codes) count runs ends.states;
    order = front-order;
    told = λ p code here. (parts p code here).0;
  };
  rest = record {
    states = All-drop (EndsInState codes) count runs ends.states;
    order = sym (drop-map run_process count runs) ∙ ap (drop count) order ∙ drop-append_seam front-enders (enders_in machine (happened machine begins before) behind);
    told = λ p code here.
        (parts p code here).1 ∙ ap (λ t. map (told_of t) (runs_of (steps_in machine p (happened machine begins before) behind))) (sym (time machine begins before));
  };
}
  where
    front-enders : List ℕ
    front-enders = enders_in machine begins before

    count : ℕ
    count = length front-enders

    order : map run_process runs ≡ front-enders ++ enders_in machine (happened machine begins before) behind
    order = ends.order ∙ enders-append machine begins before behind

    front-order : map run_process (take count runs) ≡ front-enders
    front-order = sym (take-map run_process count runs) ∙ ap (take count) order ∙ take-append_seam front-enders (enders_in machine (happened machine begins before) behind)

    parts : (p : ℕ) (code : Code) → slice_get codes p ≡ Some code →
        (map (told_by code) (runs_of_process p (take count runs)) ≡ map (told_of begins.time) (runs_of (steps_in machine p begins before)))
        × (map (told_by code) (runs_of_process p (drop count runs)) ≡ map (told_of begins.time) (runs_of (steps_in machine p (happened machine begins before) behind)))
    parts p code here =
        append-parts (map (told_by code) own) (map (told_of begins.time) first) (map (told_by code) (runs_of_process p (drop count runs))) (map (told_of begins.time) later)
        (length-map own (told_by code) ∙ own-count p (take count runs) ∙ ap (λ l. length (own_enders p l)) front-order ∙ enders-run machine begins p before (between.runs p)
        ∙ sym (length-map first (told_of begins.time)))
        (sym (map-append (told_by code) own (runs_of_process p (drop count runs))) ∙ ap (map (told_by code)) (own-parts p count runs) ∙ ends.told p code here
        ∙ ap (map (told_of begins.time)) (blocks machine p begins before behind between) ∙ map-append (told_of begins.time) first later)
      where
        own : List RunEnd
        own = runs_of_process p (take count runs)

        first : List ProcessRun
        first = runs_of (steps_in machine p begins before)

        later : List ProcessRun
        later = runs_of (steps_in machine p (happened machine begins before) behind)
