-- A block as it is run, event by event.
use Rattle.std.proofs.Common.{◌≡◌, ℕ, zero, suc, ◌<◌, ◌≤◌, List, [], ◌∷◌, ◌++◌, length, true, false, ◌||◌, refl, sym, ap, subst, ◌∙◌, inl, inr, arith}
use Rattle.std.specs.Prelude.{◌≢◌, Some, take}
use Rattle.std.proofs.lemmas.Bool.{cases_lt, ne_eqb, le-leb, lt-leb}
use Rattle.vf_base.specs.Lists.{AllHold}
use Rattle.v_design.specs.Designs.{Machine}
use Rattle.v_design.specs.States.{State, Event, Step, LaneStep, Evaluation, NetUpdate, after, process_at, is_ready, some_in, is_process_event}
use Rattle.v_design.specs.Runs.{first_event, happened}
use Rattle.v_design.specs.PhaseLogs.{is_step_of}
use Rattle.copy_laws.specs.Beside.{AreFirst}
use Rattle.machine_laws.specs.SlotLoop.{NoNodeWorks}
use Rattle.phase_blocks.specs.Blocks.{run_goes_on, IsBetweenRuns, is_step_from}
use Rattle.phase_blocks.specs.Running.{IsOfNode, IsInBlock, IsInRun, RunsFillBlocks, LanesFillBlocks}
use Rattle.phase_blocks.proofs.Lists.{true-false, push-none, push-last, first-more, length-more, take-within, take-whole}
use Rattle.phase_blocks.proofs.Taken.{takes-step, takes-node, least-ready}
use Rattle.phase_blocks.proofs.Going.{RunLaws, goes-own, goes-other, none-goes}
use Rattle.phase_blocks.proofs.Kept.{over}

-- events after which a run goes on aren't between runs
in-run : (machine : Machine) (begins : State) (events : List Event) (p : ℕ) → run_goes_on machine begins events p ≡ true → IsBetweenRuns machine begins events → ⊥
in-run machine begins events p goes between = true-false (run_goes_on machine begins events p) goes (between.runs p)

own-step : (p : ℕ) → some_in (is_step_from p) (Step p ∷ []) ≡ true
own-step p = ap (λ b. b || false) (le-leb p p (omega arith))

no-greater : (p q : ℕ) → q ≤ p → is_step_from (suc p) (Step q) ≡ false
no-greater p q low = lt-leb (suc p) q (omega (arith, low))

-- one event more, after which the run still goes on
block-more : (machine : Machine) (begins : State) (p : ℕ) (events : List Event) (event : Event) → IsInBlock machine begins events → first_event (happened machine begins events) ≡ Some event →
    run_goes_on machine begins (events ++ event ∷ []) p ≡ true → IsInBlock machine begins (events ++ event ∷ [])
block-more machine begins p events event block e goes = record {
  some = (let z : length (events ++ event ∷ []) ≡ suc (length events) = length-more events event in omega (arith, z));
  first = first-more machine begins events event block.first e;
  none = λ number some within between. elim (cases_lt (length events) number) [
    | inl all ↦
        in-run machine begins (events ++ event ∷ []) p goes
        (subst (IsBetweenRuns machine begins)
        (take-whole number (events ++ event ∷ []) (let z : length (events ++ event ∷ []) ≡ suc (length events) = length-more events event in omega (arith, z, all))) between)
    | inr fewer ↦ block.none number some fewer (subst (IsBetweenRuns machine begins) (take-within number events event fewer) between)
  ];
}

other-step : (p : ℕ) (event : Event) → event ≢ Step p → is_step_of p event ≡ false
other-step p (Step q) apart = ne_eqb p q (λ same. apart (ap Step (sym same)))
other-step p (LaneStep q) apart = refl
other-step p (Evaluation number) apart = refl
other-step p (NetUpdate number) apart = refl

-- what the first order takes while a process is ready is no step of a greater one
not-greater : (state : State) (p : ℕ) (event : Event) → is_ready (process_at state p).activity ≡ true → first_event state ≡ Some event → is_step_from (suc p) event ≡ false
not-greater state p (Step q) ready e = no-greater p q (least-ready state q p (takes-step state q e).2 ready)
not-greater state p (LaneStep q) ready e = refl
not-greater state p (Evaluation number) ready e = refl
not-greater state p (NetUpdate number) ready e = refl

run-more : RunLaws → (machine : Machine) (begins : State) (p : ℕ) (events : List Event) (event : Event) → IsInRun machine begins p events →
    first_event (happened machine begins events) ≡ Some event → run_goes_on machine begins (events ++ event ∷ []) p ≡ true → IsInRun machine begins p (events ++ event ∷ [])
run-more laws machine begins p events event run e goes = record {
  block = block-more machine begins p events event run.block e goes;
  goes_on = goes;
  within =
      push-none (is_step_from (suc p)) events event (not-greater (happened machine begins events) p event (laws.ready machine p begins events run.goes_on) e) ∙ run.within;
}

pub runs_fill_blocks : RunLaws → RunsFillBlocks
runs_fill_blocks laws = record {
  begins = λ machine begins p e ready.
      let goes : run_goes_on machine begins (Step p ∷ []) p ≡ true = goes-own laws machine begins [] p ∙ ready in
      record {
        block = record {
          some = (let z : length (Step p ∷ []) ≡ 1 = refl in omega (arith, z));
          first = (e, tt);
          none = λ number some within between.
              in-run machine begins (Step p ∷ []) p goes
              (subst (IsBetweenRuns machine begins) (take-whole number (Step p ∷ []) (let z : length (Step p ∷ []) ≡ 1 = refl in omega (arith, z, some))) between);
        };
        goes_on = goes;
        within = ap (λ b. b || false) (no-greater p p (omega arith));
      };
  sole = λ machine begins p e stops. record {
    some = (let z : length (Step p ∷ []) ≡ 1 = refl in omega (arith, z));
    first = (e, tt);
    ends = over laws machine begins (Step p ∷ []) p (e, tt) (own-step p) (ap (λ b. b || false) (no-greater p p (omega arith))) (goes-own laws machine begins [] p ∙ stops);
    none = λ number some within between. let z : length (Step p ∷ []) ≡ 1 = refl in omega (arith, z, some, within);
  };
  others = λ machine begins p events event run e apart.
      run-more laws machine begins p events event run e (goes-other laws machine begins events event p (other-step p event apart) ∙ run.goes_on);
  steps = λ machine begins p events run e ready. run-more laws machine begins p events (Step p) run e (goes-own laws machine begins events p ∙ ready);
  ends = λ machine begins p events run e stops.
      let more : length (events ++ Step p ∷ []) ≡ suc (length events) = length-more events (Step p) in
      let first : AreFirst machine begins (events ++ Step p ∷ []) = first-more machine begins events (Step p) run.block.first e in
      record {
        some = omega (arith, more);
        first = first;
        ends =
            over laws machine begins (events ++ Step p ∷ []) p first (push-last (is_step_from p) events (Step p) (le-leb p p (omega arith)))
            (push-none (is_step_from (suc p)) events (Step p) (no-greater p p (omega arith)) ∙ run.within) (goes-own laws machine begins events p ∙ stops);
        none = λ number some within between.
            let fewer : number ≤ length events = omega (arith, more, within) in
            run.block.none number some fewer (subst (IsBetweenRuns machine begins) (take-within number events (Step p) fewer) between);
      };
}

-- Lanes

no-steps : (p : ℕ) (events : List Event) → AllHold IsOfNode events → some_in (is_step_of p) events ≡ false
no-steps p [] all = refl
no-steps p (Step q ∷ events) all = absurd (true-false (is_process_event (Step q)) refl all.0)
no-steps p (LaneStep q ∷ events) all = absurd (true-false (is_process_event (LaneStep q)) refl all.0)
no-steps p (Evaluation number ∷ events) all = no-steps p events all.1
no-steps p (NetUpdate number ∷ events) all = no-steps p events all.1

-- before each node event a node has work
node-next : (machine : Machine) (state : State) (events : List Event) (number : ℕ) → AreFirst machine state events → AllHold IsOfNode events → number < length events →
    NoNodeWorks (happened machine state (take number events)) → ⊥
node-next machine state [] number f all within none = let z : length {A = Event} [] ≡ 0 = refl in omega (arith, z, within)
node-next machine state (event ∷ events) zero f all within none = takes-node state event all.0 f.0 none
node-next machine state (event ∷ events) (suc number) f all within none =
    node-next machine (after machine state event) events number f.1 all.1 (let z : length (event ∷ events) ≡ suc (length events) = refl in omega (arith, z, within)) none

pub lanes_fill_blocks : LanesFillBlocks
lanes_fill_blocks machine begins p events f all nodes = record {
  some = (let z : length (LaneStep p ∷ events) ≡ suc (length events) = refl in omega (arith, z));
  first = f;
  ends = record { nodes = nodes; runs = λ q. none-goes machine begins (LaneStep p ∷ events) q (no-steps q events all) };
  none = none;
}
  where
    none : (number : ℕ) → 0 < number → number < length (LaneStep p ∷ events) → IsBetweenRuns machine begins (take number (LaneStep p ∷ events)) → ⊥
    none zero some within between = omega (arith, some)
    none (suc number) some within between =
        node-next machine (after machine begins (LaneStep p)) events number f.1 all (let z : length (LaneStep p ∷ events) ≡ suc (length events) = refl in omega (arith, z, within)) between.nodes
