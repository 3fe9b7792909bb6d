-- Own updates over a turn, process by process.
use Rattle.std.proofs.Common.{◌≡◌, ℕ, suc, ◌+◌, ◌-◌, ◌<◌, ◌≤◌, List, [], ◌∷◌, get_or, true, refl, sym, ap, subst, ◌∙◌, inl, inr, arith}
use Rattle.std.specs.Prelude.{Option, Some, None, is_some}
use Rattle.std.specs.Option.{option_map}
use Rattle.std.proofs.lemmas.Bool.{cases_lt}
use Rattle.vf_base.specs.Base.{process_number}
use Rattle.vf_base.specs.declared.ids.ProcId.{ProcId}
use Rattle.v_design.specs.Assignments.{ValueUpdate}
use Rattle.copy_laws.specs.Differences.{Ascend, own_of}
use Rattle.copy_state.specs.Entries.{first_from}
use Rattle.phase_faults.specs.copy_skip.Entries.{next-kept, none-from}
use Rattle.phase_faults.specs.lockstep_copy.Kept.{kept_by}
use Rattle.phase_faults.specs.lockstep_copy.declared.own.LockstepCopy.{LockstepCopy}
use Rattle.phase_faults.specs.slot_laws.Slots.{KeepsRest, TurnsOne, turned_beside}
use Rattle.phase_faults.proofs.slot_laws.Going.{mapped-some}

-- What is kept of a process

mapped-none : {A B : Type 0} (f : A → B) (found : Option A) → found ≡ None → option_map f found ≡ None
mapped-none f found e = ap (option_map f) e

none-writes : (own : LockstepCopy) (process : ℕ) → own_of own.copy.updates process ≡ None → (kept_by own).writes process ≡ None
none-writes own process e = mapped-none _ (own_of own.copy.updates process) e

some-writes : (own : LockstepCopy) (process : ℕ) → is_some ((kept_by own).writes process) ≡ is_some (own_of own.copy.updates process)
some-writes own process = mapped-some _ (own_of own.copy.updates process)

turned-none : (now : ℕ) (lane : List ValueUpdate) → turned_beside now lane None ≡ None
turned-none now [] = refl
turned-none now (update ∷ lane) = refl

-- So far

-- the updates of the processes below one are as they are behind the turn, those of all others as before it
pub record TurnedUpTo (now from : ℕ) (lanes : List (List ValueUpdate)) (old new : LockstepCopy) : Type 0 where
  pub rest : KeepsRest old new
  pub values : new.copy.values ≡ old.copy.values
  pub behind : (process : ℕ) → process < from → (kept_by new).writes process ≡ turned_beside now (get_or lanes process []) ((kept_by old).writes process)
  pub ahead : (process : ℕ) → from ≤ process → (kept_by new).writes process ≡ (kept_by old).writes process

pub turned-first : (now : ℕ) (lanes : List (List ValueUpdate)) (own : LockstepCopy) → TurnedUpTo now 0 lanes own own
turned-first now lanes own = record {
  rest = record { fault = refl; states = refl };
  values = refl;
  behind = λ process low. absurd (omega (arith, low));
  ahead = λ process since. refl;
}

module _ (now from : ℕ) (lanes : List (List ValueUpdate)) (old own : LockstepCopy) (so : TurnedUpTo now from lanes old own) where
  -- where nothing is kept nothing changes
  turned-nothing : (process : ℕ) → from ≤ process → own_of own.copy.updates process ≡ None →
      (kept_by own).writes process ≡ turned_beside now (get_or lanes process []) ((kept_by old).writes process)
  turned-nothing process since e =
      let none = none-writes own process e in
      let before : (kept_by old).writes process ≡ None = sym (so.ahead process since) ∙ none in
      none ∙ sym (ap (turned_beside now (get_or lanes process [])) before ∙ turned-none now (get_or lanes process []))

  -- the next process of which updates are kept is one of those of which some were
  pub next-below : (next count : ℕ) → ((process : ℕ) → is_some (own_of old.copy.updates process) ≡ true → process < count) → Ascend own.copy.updates →
      first_from from own.copy.updates ≡ Some next → next < count
  next-below next count there up is =
      let step = next-kept from next own.copy.updates up is in
      there next (sym (some-writes old next) ∙ ap is_some (sym (so.ahead next step.low)) ∙ some-writes own next ∙ step.kept)

  -- one process more
  pub turned-more : (next : ℕ) (new : LockstepCopy) → Ascend own.copy.updates → first_from from own.copy.updates ≡ Some next → TurnsOne now next (get_or lanes next []) own new →
      TurnedUpTo now (next + 1) lanes old new
  turned-more next new up is one =
      let step = next-kept from next own.copy.updates up is in
      let since : from ≤ next = step.low in
      record {
        rest = record { fault = one.rest.fault ∙ so.rest.fault; states = one.rest.states ∙ so.rest.states };
        values = one.rest.values ∙ so.values;
        behind = λ process low. elim (cases_lt process from) [
          | inl less ↦ one.rest.others process (λ same. omega (arith, same, less, since)) ∙ so.behind process less
          | inr more ↦ elim (cases_lt process next) [
            | inl less ↦ one.rest.others process (λ same. omega (arith, same, less)) ∙ turned-nothing process more (step.none process more less)
            | inr late ↦
                let same : next ≡ process = omega (arith, low, late) in
                subst (λ p. (kept_by new).writes p ≡ turned_beside now (get_or lanes p []) ((kept_by old).writes p)) same
                (one.here ∙ ap (turned_beside now (get_or lanes next [])) (so.ahead next since))
          ]
        ];
        ahead = λ process low. one.rest.others process (λ same. omega (arith, same, low)) ∙ so.ahead process (omega (arith, since, low));
      }

  -- all processes
  pub turned-all : first_from from own.copy.updates ≡ None → (process : ℕ) → (kept_by own).writes process ≡ turned_beside now (get_or lanes process []) ((kept_by old).writes process)
  turned-all none process = elim (cases_lt process from) [
    | inl less ↦ so.behind process less
    | inr more ↦ turned-nothing process more (none-from from own.copy.updates none process more)
  ]

-- Those that are left

-- how many processes are left from the next one on
abbrev pub processes_left : ℕ → Option ProcId → ℕ
processes_left count None = 0
processes_left count (Some process) = suc count - process_number process

-- fewer are left behind the next one
pub left-falls : (count : ℕ) (old : Option ProcId) (process : ProcId) (new : Option ProcId) → old ≡ Some process → process_number process < count →
    ((later : ProcId) → new ≡ Some later → process_number process < process_number later) → processes_left count new < processes_left count old
left-falls count old process new is low later = subst (λ o. processes_left count new < processes_left count o) (sym is) (go new later)
  where
    go : (next : Option ProcId) → ((more : ProcId) → next ≡ Some more → process_number process < process_number more) → processes_left count next < suc count - process_number process
    go None h = omega (arith, low)
    go (Some more) h = let less : process_number process < process_number more = h more refl in omega (arith, low, less)
