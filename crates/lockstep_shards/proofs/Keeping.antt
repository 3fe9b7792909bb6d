-- What a copy in lockstep keeps (what a state has, by IEEE 1364-2001, clauses 5 and 9).
use Rattle.std.proofs.Common.{◌≡◌, ℕ, suc, ◌<◌, ◌≤◌, Bool, true, false, List, [], ◌∷◌, length, refl, sym, ap, subst, ◌∙◌, arith}
use Rattle.std.specs.Prelude.{◌≢◌, Option, Some, None, nat_eq}
use Rattle.std.proofs.lemmas.Bool.{eq-eqb, eqb-true}
use Rattle.std.proofs.lemmas.List.{get_or_past}
use Rattle.std.proofs.lemmas.Option.{slice_get_past, slice_get_within}
use Rattle.four_value.specs.Values.{LogicValue}
use Rattle.vf_base.specs.Lists.{AllHold}
use Rattle.v_design.specs.Assignments.{value_at}
use Rattle.v_design.specs.Designs.{FlatDesign, StuckAt, TestPlan, good_machine, faulty_machine}
use Rattle.v_design.specs.Grades.{Fine, slot_outcome}
use Rattle.v_design.specs.Runs.{FirstSlot}
use Rattle.v_design.specs.States.{LaterUpdate, ProcessState, State, found_or, idle_process, process_at}
use Rattle.between_slots.specs.Between.{state_through}
use Rattle.between_slots.specs.FewLaws.{fine-few}
use Rattle.between_slots.specs.Updates.{Rests}
use Rattle.copy_laws.specs.Differences.{StandsFor, KeepsNothingEqual, own_of}
use Rattle.copy_laws.specs.Windows.{good_slots, state_at}
use Rattle.copy_state.specs.Entries.{each_by}
use Rattle.copy_state.specs.Kept.{CopyKept}
use Rattle.copy_between.specs.Beside.{KeepsWithin}
use Rattle.process_code.specs.declared.state.ProcState.{ProcState}
use Rattle.lockstep_copies.specs.Copies.{IsCopyInLockstep}
use Rattle.copy_pass.specs.copy_window.Copies.{differences_in, done_in}
use Rattle.lockstep_shards.proofs.Laws.{ShardLaws, some-is}

-- Entries by number

-- what holds of all entries holds of the one that is found
found-holds : {A : Type 0} (P : ℕ × A → Type 0) (entries : List (ℕ × A)) (number : ℕ) (own : A) → AllHold P entries → own_of entries number ≡ Some own → P (number, own)
found-holds P [] number own all e = cc
found-holds {A} P (entry ∷ entries) number own all e = go (nat_eq entry.0 number) refl e (λ f. found-holds P entries number own all.1 f)
  where
    go : (b : Bool) → nat_eq entry.0 number ≡ b → elim b as (λ _. Option A) [ true ↦ Some entry.1 | false ↦ own_of entries number ] ≡ Some own →
        (own_of entries number ≡ Some own → P (number, own)) → P (number, own)
    go true h f rest =
        let here : entry.0 ≡ number = eqb-true entry.0 number h in
        let is : entry.1 ≡ own = some-is entry.1 own f in
        subst P (λ i. (here i, is i)) all.0
    go false h f rest = rest f

-- where nothing is found under any number there are no entries
pub none-found : {A : Type 0} (entries : List (ℕ × A)) → ((number : ℕ) → own_of entries number ≡ None) → entries ≡ []
none-found [] none = refl
none-found {A} (entry ∷ entries) none =
    let here : own_of (entry ∷ entries) entry.0 ≡ Some entry.1 =
    ap (λ (b : Bool). elim b as (λ _. Option A) [ true ↦ Some entry.1 | false ↦ own_of entries entry.0 ]) (eq-eqb entry.0 entry.0 refl) in
    let no : Some entry.1 ≡ None = sym here ∙ none entry.0 in
    cc

-- nothing is kept under a number at which both sides are equal
none-alike : {A : Type 0} (entries : List (ℕ × A)) (number : ℕ) (good own : A) → AllHold (λ (entry : ℕ × A). (number ≡ entry.0 → entry.1 ≢ good)) entries →
    own ≡ found_or good (own_of entries number) → own ≡ good → own_of entries number ≡ None
none-alike {A} entries number good own all tells same = go (own_of entries number) refl
  where
    go : (found : Option A) → own_of entries number ≡ found → own_of entries number ≡ None
    go None e = e
    go (Some kept) e =
        absurd (found-holds (λ (entry : ℕ × A). (number ≡ entry.0 → entry.1 ≢ good)) entries number kept all e refl
        (let here : own ≡ kept = tells ∙ ap (found_or good) e in sym here ∙ same))

-- A copy

module _ (design : FlatDesign) (kept : CopyKept) where
  -- one that keeps no activity keeps no state
  pub no-states : ((process : ℕ) → own_of (each_by (done_in design) kept.states) process ≡ None) → kept.states ≡ []
  no-states none = go kept.states (none-found (each_by (done_in design) kept.states) none)
    where
      go : (states : List (ℕ × ProcState)) → each_by (done_in design) states ≡ [] → states ≡ []
      go [] e = refl
      go (entry ∷ states) e = cc

  -- one of two states of a design keeps nothing but of the design's parts
  pub keeps-within : (good own : State) → StandsFor (differences_in design kept) good own → KeepsNothingEqual (differences_in design kept) good → kept.states ≡ [] →
      length good.values ≡ length design.objects → length good.processes ≡ length design.processes → KeepsWithin (length design.objects) (length design.processes) kept
  keeps-within good own stands differ none values processes = record {
    values = λ object past.
        none-alike kept.values object (value_at good.values object) (value_at own.values object) (at-number LogicValue kept.values object (value_at good.values) differ.values)
        (stands.values object) (value-past own.values object (omega (arith, past, values, stands.value_count)) ∙ sym (value-past good.values object (omega (arith, past, values))));
    states = λ process past. ap (λ (l : List (ℕ × ProcState)). own_of l process) none;
    updates = λ process past.
        none-alike kept.updates process (process_at good process).later (process_at own process).later
        (at-number (List LaterUpdate) kept.updates process (λ p. (process_at good p).later) differ.updates) (stands.updates process)
        (ap (λ (p : ProcessState). p.later)
        (process-past own process (omega (arith, past, processes, stands.process_count)) ∙ sym (process-past good process (omega (arith, past, processes)))));
  }
    where
      at-number : (A : Type 0) (entries : List (ℕ × A)) (number : ℕ) (good_of : ℕ → A) → AllHold (λ (entry : ℕ × A). entry.1 ≢ good_of entry.0) entries →
          AllHold (λ (entry : ℕ × A). (number ≡ entry.0 → entry.1 ≢ good_of number)) entries
      at-number A [] number good_of all = tt
      at-number A (entry ∷ entries) number good_of all = (λ here same. all.0 (same ∙ ap good_of here), at-number A entries number good_of all.1)

      value-past : (values : List LogicValue) (object : ℕ) → length values ≤ object → value_at values object ≡ []
      value-past values object past = get_or_past values object [] past

      process-past : (state : State) (process : ℕ) → length state.processes ≤ process → process_at state process ≡ idle_process
      process-past state process past = ap (found_or idle_process) (slice_get_past state.processes process past)

-- A copy in lockstep

module _ (laws : ShardLaws) (design : FlatDesign) (plan : TestPlan) (fault : StuckAt) (number time : ℕ) (kept : CopyKept) (c : IsCopyInLockstep design plan fault number time (differences_in design kept))
  where
    pub lockstep-no-states : kept.states ≡ []
    lockstep-no-states = no-states design kept c.may.activities

    good_is : state_at (good_machine design) plan.end time ≡ state_through design plan (suc number)
    good_is = laws.good.stands design plan number time c.last c.rules c.stands c.fine c.since c.before

    rests : Rests design (state_through design plan (suc number))
    rests =
        laws.rest design plan (suc number) c.rules (let low : number < length (good_slots design plan) = slice_get_within (good_slots design plan) number c.last c.stands in omega (arith, low))
        (λ slot here. fine-few (good_machine design) slot (subst (λ (s : FirstSlot). slot_outcome (good_machine design) s ≡ Fine) (some-is c.last slot (sym c.stands ∙ here)) c.fine))

    pub lockstep-keeps : KeepsWithin (length design.objects) (length design.processes) kept
    lockstep-keeps =
        keeps-within design kept (state_at (good_machine design) plan.end time) (state_at (faulty_machine design fault) plan.end time) c.copy.stands c.copy.nothing_equal lockstep-no-states
        (ap (λ (s : State). length s.values) good_is ∙ rests.value_count) (ap (λ (s : State). length s.processes) good_is ∙ rests.process_count)
