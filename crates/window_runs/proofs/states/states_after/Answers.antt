use Rattle.std.proofs.Common.{◌≡◌, ℕ, zero, suc, ◌+◌, ◌<◌, List, [], ◌∷◌, ◌++◌, length, below_more, sym, ap, subst, ◌∙◌, refl, arith}
use Rattle.std.specs.Prelude.{Some, slice_get}
use Rattle.std.proofs.lemmas.List.{length_push}
use Rattle.std.proofs.lemmas.Option.{slice_get_read, slice_get_within}
use Rattle.process_code.specs.Points.{point_of}
use Rattle.process_code.specs.StatesOf.{IsStateOf}
use Rattle.process_code.specs.declared.state.ProcState.{ProcState}
use Rattle.process_code.specs.declared.state.RunEnd.{RunEnd}
use Rattle.window_runs.specs.Standing.{standing_after, last_run, IsCopyOf}
use Rattle.window_runs.proofs.states.states_after.Goals as goal

-- a list with one element more
before-last : {A : Type 0} (xs : List A) (y : A) (i : ℕ) → i < length xs → slice_get (xs ++ y ∷ []) i ≡ slice_get xs i
before-last [] y i low = absurd (omega arith)
before-last (x ∷ xs) y zero low = refl
before-last (x ∷ xs) y (suc i) low = before-last xs y i (omega arith)

at-last : {A : Type 0} (xs : List A) (y : A) → slice_get (xs ++ y ∷ []) (length xs) ≡ Some y
at-last [] y = refl
at-last (x ∷ xs) y = at-last xs y

same-state : (a b : ProcState) → Some a ≡ Some b → a ≡ b
same-state a b e = cc

abbrev StandsAt : List ProcState → List RunEnd → List ProcState → ℕ → Type 0
StandsAt states runs later process =
    (state own : ProcState) → slice_get states process ≡ Some state → slice_get later process ≡ Some own → IsCopyOf (standing_after state (last_run process runs)) own

-- one process more stands where its last run left it
more : (states : List ProcState) (runs : List RunEnd) (later : List ProcState) (number : ℕ) (state copy : ProcState) → length later ≡ number → slice_get states number ≡ Some state →
    ((process : ℕ) (state own : ProcState) → process < number → slice_get states process ≡ Some state → slice_get later process ≡ Some own →
    IsCopyOf (standing_after state (last_run process runs)) own) →
    IsCopyOf (standing_after state (last_run number runs)) copy → (process : ℕ) → process < number + 1 → StandsAt states runs (later ++ copy ∷ []) process
more states runs later number state copy count read had is =
    below_more (StandsAt states runs (later ++ copy ∷ [])) number
    (λ process low s own here there. had process s own low here (sym (before-last later copy process (omega (arith, low, count))) ∙ there))
    (λ s own here there.
    subst (λ x. IsCopyOf (standing_after x (last_run number runs)) own) (same-state state s (sym read ∙ here))
    (subst (IsCopyOf (standing_after state (last_run number runs))) (same-state copy own (sym (at-last later copy) ∙ ap (λ n. slice_get (later ++ copy ∷ []) n) count ∙ there)) is))

pub processes-preserved : goal.processes-preserved
processes-preserved c =
    let stands : c.standing_after.result.now ≡ standing_after c.index-states-number.result (last_run c.processes.number c.args.runs.now) =
    c.standing_after.ensures ∙ ap (standing_after c.index-states-number.result) c.last-last.ensures in
    rw c.in_ok-push.ensures.items record {
      count = let long = length_push c.processes.later.items c.in_ok-copy.copy in omega (arith, long, c.processes.invariant.count);
      each = λ process state own low here there.
          more c.args.states.now c.args.runs.now c.processes.later.items c.processes.number c.index-states-number.result c.in_ok-copy.copy c.processes.invariant.count
          (slice_get_read c.args.states.now (length c.args.states.now) c.processes.number c.index-states-number.result refl c.processes-test.true c.index-states-number.is) c.processes.invariant.each
          (record { point = c.in_ok-copy.ensures.point ∙ ap point_of stands; state_of = λ code is. c.in_ok-copy.ensures.state code (subst (λ s. IsStateOf code s) (sym stands) is) }) process low
          state own here there;
    }

pub returns : goal.returns
returns c = record {
  count = omega (arith, c.processes.invariant.count, c.processes-test.false, c.processes.auto.number-end);
  each = λ process state own here there. c.processes.invariant.each process state own (let low = slice_get_within c.args.states.now process state here in omega (arith, low, c.processes-test.false))
      here there;
}
