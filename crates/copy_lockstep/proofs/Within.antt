-- What a copy keeps is of objects and processes that are there (nothing of the language).
use Rattle.std.proofs.Common.{◌≡◌, ℕ, ◌<◌, ◌≤◌, true, false, List, length, sym, ap, ◌∙◌, inl, inr, []}
use Rattle.std.specs.Prelude.{None, is_some}
use Rattle.std.proofs.lemmas.Bool.{cases_lt}
use Rattle.v_design.specs.Designs.{FlatDesign}
use Rattle.copy_laws.specs.Differences.{own_of}
use Rattle.copy_state.specs.Entries.{each_by}
use Rattle.copy_state.specs.Kept.{CopyKept, activities_of, differences_of}
use Rattle.copy_between.specs.Beside.{KeepsWithin}
use Rattle.lockstep_due.specs.copy_skip.Limits.{AreThere}
use Rattle.lockstep_due.specs.block_skip.Blocks.{AreProcesses}
use Rattle.process_code.specs.declared.code.Code.{Code}
use Rattle.lockstep_due.specs.copy_window.Copies.{differences_in, done_in}
use Rattle.lockstep_slot.specs.slot_laws.Copies.{lockstep_differences}

below-by : {A : Type 0} (entries : List (ℕ × A)) (count number : ℕ) → ((other : ℕ) → count ≤ other → own_of entries other ≡ None) → is_some (own_of entries number) ≡ true → number < count
below-by entries count number none some = elim (cases_lt number count) [
  | inl less ↦ less
  | inr past ↦ absurd (let no : true ≡ false = sym some ∙ ap is_some (none number past) in cc)
]

pub objects-there : (design : FlatDesign) (kept : CopyKept) → KeepsWithin (length design.objects) (length design.processes) kept → AreThere design kept.values
objects-there design kept within object some = below-by kept.values (length design.objects) object within.values some

pub processes-there : (design : FlatDesign) (kept : CopyKept) → KeepsWithin (length design.objects) (length design.processes) kept → AreProcesses design kept.updates
processes-there design kept within process some = below-by kept.updates (length design.processes) process within.updates some

-- a copy without states stands for the same differences however these are told
module _ (design : FlatDesign) (kept : CopyKept) (none : kept.states ≡ []) where
  pub differences-are : differences_in design kept ≡ lockstep_differences kept
  differences-are = λ i. record { values = kept.values; activities = each_by (done_in design) (none i); updates = kept.updates }

  pub by-codes : (codes : List Code) → differences_of codes kept ≡ differences_in design kept
  by-codes codes =
      let own : activities_of codes kept.states ≡ each_by (done_in design) kept.states =
      ap (activities_of codes) none ∙ sym (ap (each_by (done_in design)) none) in
      λ i. record { values = kept.values; activities = own i; updates = kept.updates }
