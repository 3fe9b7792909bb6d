-- Entries of a copy, process by process (nothing of the language).
use Rattle.std.proofs.Common.{◌≡◌, ℕ, suc, ◌+◌, ◌-◌, ◌<◌, false, List, arith, refl, sym, subst, ◌∙◌, inl, inr, []}
use Rattle.std.specs.Prelude.{Option, Some, None, is_some, option_map}
use Rattle.std.proofs.lemmas.Bool.{cases_lt}
use Rattle.vf_base.specs.Base.{process_number}
use Rattle.vf_base.specs.declared.ids.ProcId.{ProcId}
use Rattle.v_design.specs.Designs.{FlatDesign, TestPlan}
use Rattle.v_design.specs.States.{LaterUpdate}
use Rattle.copy_laws.specs.Differences.{Ascend, own_of}
use Rattle.copy_state.specs.Entries.{first_from}
use Rattle.window_faults.specs.copy_skip.Entries.{next-kept, none-from}
use Rattle.window_faults.proofs.lockstep_shards.Keeping.{none-found}
use Rattle.lockstep_due.specs.Due.{IsDueAlike}

-- where there is no entry from the first one on there is none
pub none-kept : {A : Type 0} (entries : List (ℕ × A)) → first_from 0 entries ≡ None → entries ≡ []
none-kept entries none = none-found entries (λ number. none-from 0 entries none number (omega arith))

module _ (design : FlatDesign) (plan : TestPlan) (number : ℕ) (updates : List (ℕ × List LaterUpdate)) where
  none-due : (process : ℕ) → own_of updates process ≡ None → IsDueAlike design plan number updates process
  none-due process none own found = (let no : None ≡ Some own = sym none ∙ found in cc)

  pub due-more : (from next process : ℕ) → Ascend updates → first_from from updates ≡ Some next → ((one : ℕ) → one < from → IsDueAlike design plan number updates one) →
      IsDueAlike design plan number updates next → process < next + 1 → IsDueAlike design plan number updates process
  due-more from next process up is alike here low = elim (cases_lt process from) [
    | inl less ↦ alike process less
    | inr since ↦ elim (cases_lt process next) [
      | inl less ↦ none-due process ((next-kept from next updates up is).none process since less)
      | inr late ↦ let same : next ≡ process = omega (arith, late, low) in subst (IsDueAlike design plan number updates) same here
    ]
  ]

  pub due-all : (from process : ℕ) → first_from from updates ≡ None → ((one : ℕ) → one < from → IsDueAlike design plan number updates one) → IsDueAlike design plan number updates process
  due-all from process none alike = elim (cases_lt process from) [ inl less ↦ alike process less | inr since ↦ none-due process (none-from from updates none process since) ]

-- how many processes are left from the next one on
abbrev pub processes_left : ℕ → Option ProcId → ℕ
processes_left count None = 0
processes_left count (Some process) = suc count - process_number process

-- fewer are left behind the next one
pub left-falls : (count : ℕ) (old : Option ProcId) (process : ProcId) (new : Option ProcId) → old ≡ Some process → process_number process < count →
    ((later : ProcId) → new ≡ Some later → process_number process < process_number later) → processes_left count new < processes_left count old
left-falls count old process new is low later = subst (λ o. processes_left count new < processes_left count o) (sym is) (go new later)
  where
    go : (next : Option ProcId) → ((more : ProcId) → next ≡ Some more → process_number process < process_number more) → processes_left count next < suc count - process_number process
    go None h = omega (arith, low)
    go (Some more) h = let less : process_number process < process_number more = h more refl in omega (arith, low, less)

-- a search that finds no process
pub none-first : (found : Option ProcId) (first : Option ℕ) → is_some found ≡ false → option_map process_number found ≡ first → first ≡ None
none-first None first none is = sym is
none-first (Some process) first none is = cc
