-- The entries of what is kept, one after the other.
use Rattle.std.proofs.Common.{◌≡◌, ℕ, ◌+◌, ◌^◌, ◌<◌, ◌≤◌, List, length, true, refl, sym, ap, ◌∙◌, arith}
use Rattle.std.specs.Prelude.{Option, Some, None, is_some}
use Rattle.std.specs.Option.{option_map}
use Rattle.vf_base.specs.Base.{object_number}
use Rattle.v_design.specs.PlainDesigns.{design_of}
use Rattle.v_design.specs.RulesHold.{rules_hold}
use Rattle.v_design.specs.WellFormed.{KeepsRules}
use Rattle.copy_laws.specs.Differences.{own_of, Ascend}
use Rattle.copy_state.specs.Entries.{first_from}
use Rattle.copy_state.specs.declared.entry.HeldValue.{HeldValue}
use Rattle.copy_skip.specs.Entries.{next-kept}
use Rattle.block_events.specs.declared.runner.Runner.{Runner}
use Rattle.block_events.specs.Runners.{machine_of, state_of, IsWhole}
use Rattle.block_events.proofs.Nodes.{object-count, process-count}
use Rattle.lockstep_exchange.proofs.Puts.{left_of, left-falls}

-- Entries

-- the number of an object whose value was found
abbrev pub held_number : HeldValue → ℕ
held_number held = object_number held.object

some-is : {A : Type 0} (found : Option A) → is_some found ≡ true → (x : A) × (found ≡ Some x)
some-is None e = cc
some-is (Some x) e = (x, refl)

-- something is kept under the next number from one on
pub record IsNextKept (A : Type 0) (from : ℕ) (entries : List (ℕ × A)) (number : ℕ) : Type 0 where
  pub at : first_from from entries ≡ Some number
  pub value : A
  pub kept : own_of entries number ≡ Some value
  pub since : from ≤ number

pub next-here : {A B : Type 0} (number : B → ℕ) (from : ℕ) (next : Option B) (x : B) (entries : List (ℕ × A)) → Ascend entries → option_map number next ≡ first_from from entries → next ≡ Some x →
    IsNextKept A from entries (number x)
next-here number from next x entries up at is =
    let here : first_from from entries ≡ Some (number x) = sym at ∙ ap (option_map number) is in
    let kept = next-kept from (number x) entries up here in
    let found = some-is (own_of entries (number x)) kept.kept in
    record { at = here; value = found.0; kept = found.1; since = kept.low }

-- fewer numbers are left behind the next one
pub next-falls : {A B : Type 0} (number : B → ℕ) (count : ℕ) (old new : Option B) (x : B) (entries : List (ℕ × A)) → Ascend entries → old ≡ Some x → number x < count →
    option_map number new ≡ first_from (number x + 1) entries → left_of count (option_map number new) < left_of count (option_map number old)
next-falls number count old new x entries up is low at =
    left-falls count (number x) (option_map number old) (option_map number new) (ap (option_map number) is) low
    (λ later e. let since : number x + 1 ≤ later = (next-kept (number x + 1) later entries up (sym at ∙ e)).low in omega (arith, since))

-- Counts

rules-of : (runner : Runner) → KeepsRules (machine_of runner).design
rules-of runner = let design = runner.nets.objects.settle.graph.now.design.now in rules_hold (design_of design) design.rules

-- the number of an object isn't the greatest there is, nor is that of a process
pub few-objects : (runner : Runner) (object : ℕ) → object < length (state_of runner).values → object + 1 < 2 ^ 32
few-objects runner object low =
    let few = (rules-of runner).few_objects in
    let count = object-count runner in
    omega (arith, low, few, count)

pub few-processes : (runner : Runner) → IsWhole runner → (process : ℕ) → process < length (state_of runner).processes → process + 1 < 2 ^ 32
few-processes runner whole process low =
    let few = (rules-of runner).few_processes in
    let count = process-count runner whole in
    omega (arith, low, few, count)
