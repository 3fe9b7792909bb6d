-- Whether a process is in the midst of a run: by its last step, and by its runs.
use Rattle.std.proofs.Common.{◌≡◌, ℕ, ◌<◌, List, [], ◌∷◌, ◌++◌, length, Bool, true, false, cond, refl, sym, ap, ◌∙◌, subst, nat_eq, arith}
use Rattle.std.specs.Prelude.{take}
use Rattle.std.proofs.lemmas.Bool.{eqb-true}
use Rattle.std.proofs.lemmas.List.{append_assoc, append-nil}
use Rattle.v_design.specs.Designs.{Machine}
use Rattle.v_design.specs.States.{State, Event, Step, LaneStep, Evaluation, NetUpdate, after, process_at, step_of, is_ready}
use Rattle.v_design.specs.Runs.{happened}
use Rattle.v_design.specs.PhaseLogs.{is_step_of}
use Rattle.block_told.specs.Blocks.{in_run_after, in_run_from, in_run, AreBlock}
use Rattle.block_told.specs.Blocks.{IsBetweenRuns as IsBetweenSteps}
use Rattle.phase_blocks.specs.Blocks.{run_goes_on, IsBetweenRuns, IsWholeBlock}
use Rattle.phase_blocks.proofs.Lists.{happened-append}
use Rattle.phase_blocks.proofs.Going.{RunLaws, goes-own, goes-other}
use Rattle.phase_blocks.proofs.Stopping.{stopped-own}
use Rattle.own_blocks.specs.Whole.{RunBlocksAreWhole}

-- One step

-- behind its step a process is ready just where the step leaves it so: a step that doesn't touches nothing, and one that does leaves a process that nothing wakes
ready-behind : RunLaws → (machine : Machine) (state : State) (p : ℕ) → is_ready (process_at (after machine state (Step p)) p).activity ≡ is_ready (step_of machine state p).next
ready-behind laws machine state p = go (is_ready (step_of machine state p).next) refl
  where
    go : (b : Bool) → is_ready (step_of machine state p).next ≡ b → is_ready (process_at (after machine state (Step p)) p).activity ≡ b
    go true e = laws.ready machine p state (Step p ∷ []) (goes-own laws machine state [] p ∙ e)
    go false e = stopped-own machine state p e

-- One event more

-- whether it is a step of the process
own-or-other : RunLaws → (machine : Machine) (begins : State) (events : List Event) (number p : ℕ) (b : Bool) → nat_eq p number ≡ b →
    cond b (is_ready (process_at (after machine (happened machine begins events) (Step number)) p).activity) (run_goes_on machine begins events p)
    ≡ run_goes_on machine begins (events ++ Step number ∷ []) p
own-or-other laws machine begins events number p true e =
    let same : p ≡ number = eqb-true p number e in
    subst (λ n. is_ready (process_at (after machine (happened machine begins events) (Step n)) p).activity ≡ run_goes_on machine begins (events ++ Step n ∷ []) p) same
    (ready-behind laws machine (happened machine begins events) p ∙ sym (goes-own laws machine begins events p))
own-or-other laws machine begins events number p false e = sym (goes-other laws machine begins events (Step number) p e)

event-more : RunLaws → (machine : Machine) (begins : State) (events : List Event) (event : Event) (p : ℕ) →
    in_run_after machine (happened machine begins events) event p (run_goes_on machine begins events p) ≡ run_goes_on machine begins (events ++ event ∷ []) p
event-more laws machine begins events (Step number) p = own-or-other laws machine begins events number p (nat_eq p number) refl
event-more laws machine begins events (LaneStep number) p = sym (goes-other laws machine begins events (LaneStep number) p refl)
event-more laws machine begins events (Evaluation node) p = sym (goes-other laws machine begins events (Evaluation node) p refl)
event-more laws machine begins events (NetUpdate node) p = sym (goes-other laws machine begins events (NetUpdate node) p refl)

-- All events

events-more : RunLaws → (machine : Machine) (begins : State) (done rest : List Event) (p : ℕ) →
    in_run_from machine (happened machine begins done) rest p (run_goes_on machine begins done p) ≡ run_goes_on machine begins (done ++ rest) p
events-more laws machine begins done [] p = ap (λ l. run_goes_on machine begins l p) (sym (append-nil done))
events-more laws machine begins done (event ∷ rest) p =
    (λ i. in_run_from machine (sym (happened-append machine begins done (event ∷ [])) i) rest p (event-more laws machine begins done event p i))
    ∙ events-more laws machine begins (done ++ event ∷ []) rest p ∙ ap (λ l. run_goes_on machine begins l p) (append_assoc done (event ∷ []) rest)

runs-are : RunLaws → (machine : Machine) (begins : State) (events : List Event) (p : ℕ) → in_run machine begins events p ≡ run_goes_on machine begins events p
runs-are laws machine begins events p = events-more laws machine begins [] events p

-- Moments between runs

between : RunLaws → (machine : Machine) (begins : State) (events : List Event) → IsBetweenSteps machine begins events → IsBetweenRuns machine begins events
between laws machine begins events h = record { nodes = h.nodes; runs = λ p. sym (runs-are laws machine begins events p) ∙ h.runs p }

between-back : RunLaws → (machine : Machine) (begins : State) (events : List Event) → IsBetweenRuns machine begins events → IsBetweenSteps machine begins events
between-back laws machine begins events h = record { nodes = h.nodes; runs = λ p. runs-are laws machine begins events p ∙ h.runs p }

-- The law

whole : RunLaws → (machine : Machine) (begins : State) (events : List Event) → AreBlock machine begins events → IsWholeBlock machine begins events
whole laws machine begins events h =
    subst (IsWholeBlock machine begins) (sym h.are)
    (record {
      some = omega arith;
      first = h.block.in_order;
      ends = between laws machine begins (h.first ∷ h.rest) h.block.ends;
      none = λ number some within ends. h.block.no_sooner number some within (between-back laws machine begins (take number (h.first ∷ h.rest)) ends);
    })

pub run_blocks_are_whole : RunLaws → RunBlocksAreWhole
run_blocks_are_whole laws = record { runs = runs-are laws; blocks = whole laws }
