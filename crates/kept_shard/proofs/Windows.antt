-- A shard through a window (slots by IEEE 1364-2001, clause 5).
use Rattle.std.proofs.Common.{◌≡◌, ℕ, zero, suc, ◌<◌, ◌≤◌, List, length, refl, sym, ap, subst, ◌∙◌, arith}
use Rattle.std.specs.List.{AllZip}
use Rattle.std.proofs.lemmas.Option.{slice_get_within}
use Rattle.vf_base.specs.Base.{fault_number}
use Rattle.vf_base.specs.Lists.{AllHold}
use Rattle.v_design.specs.Designs.{FlatDesign, TestPlan}
use Rattle.kept_samples.specs.declared.kept.Kept.{Kept}
use Rattle.copy_laws.specs.Windows.{IsWindow, WindowEnd, good_slots}
use Rattle.own_gradings.specs.Numbers.{OwnStepsOf}
use Rattle.shard_windows.specs.graded_steps.Behind.{RisesWithin}
use Rattle.shard_windows.specs.copy_window.ShardFaults.{IsShardFault}
use Rattle.shard_windows.specs.copy_window.declared.fault.ShardFault.{ShardFault}
use Rattle.shard_windows.specs.window_faults.Steps.{steps_of_faults}
use Rattle.shard_windows.specs.window_faults.Within.{ComesThrough}
use Rattle.shard_windows.specs.Reached.{HasReachedIfOpen}
use Rattle.shard_windows.specs.declared.reached.Reached.{Reached}
use Rattle.kept_shard.specs.Keeping.{KeepingShard, kept_steps_of, numbers_of}
use Rattle.kept_shard.specs.Kept.{AreSwapped, IsKeeping}
use Rattle.kept_shard.proofs.Places.{same-lists}
use Rattle.kept_shard.proofs.Swapping.{all-stand, keeps-on, numbers-same, still-reaches, told-count}
use Rattle.kept_shard.proofs.Ticks.{taken-before, taken-behind}

-- a window's slots are slots of the run
pub slots-within : (design : FlatDesign) (plan : TestPlan) (before through : ℕ) (ending : WindowEnd) → IsWindow design plan before through ending → through ≤ length (good_slots design plan)
slots-within design plan before through ending window = go through refl
  where
    go : (count : ℕ) → through ≡ count → through ≤ length (good_slots design plan)
    go zero at = omega (arith, at)
    go (suc last) at = (let there = slice_get_within (good_slots design plan) last window.last (window.stands last at) in omega (arith, at, there))

-- of the lists that were moved
module _ (design : FlatDesign) (plan : TestPlan) (gone before : ℕ) (at : before ≡ gone) (reached : Reached) (faults olds : List ShardFault) (moved : olds ≡ faults) (kepts held : List Kept)
    (moved_kept : held ≡ kepts) (shard : IsKeeping design plan gone reached faults kepts) (news : List ShardFault) (tolds : List Kept) (swapped : AreSwapped olds held news tolds) where
  here : IsKeeping design plan before reached olds held
  here =
      subst (λ n. IsKeeping design plan n reached olds held) (sym at)
      (subst (λ (l : List ShardFault). IsKeeping design plan gone reached l held) (sym moved) (subst (IsKeeping design plan gone reached faults) (sym moved_kept) shard))

  pub swap-stands : AllHold (IsShardFault design plan before reached.passed) news
  swap-stands = all-stand design plan before reached olds held here news tolds swapped

  pub swap-reaches : HasReachedIfOpen design plan before reached news
  swap-reaches = still-reaches design plan before reached olds held here news tolds swapped

  module _ (through : ℕ) (behind : Reached) (came : List ShardFault) (zip : AllZip (ComesThrough design plan through behind.passed) news came) (reaches : HasReachedIfOpen design plan through behind came)
      (ending : WindowEnd) (window : IsWindow design plan before through ending) where
    within : through ≤ length (good_slots design plan)
    within = slots-within design plan before through ending window

    some : 0 < through
    some = (let more = window.some in omega (arith, more))

    pub came-count : length tolds ≡ length came
    came-count = told-count design plan before reached olds held here news tolds swapped through behind came zip

    module _ (lasts : List ShardFault) (ends : List Kept) (back : AreSwapped came tolds lasts ends) where
      pub went-on : (number : ℕ) → number ≡ through → IsKeeping design plan number behind lasts ends
      went-on number is =
          subst (λ n. IsKeeping design plan n behind lasts ends) (sym is)
          (keeps-on design plan before reached olds held here news tolds swapped through behind came zip reaches some within lasts ends back)

      pub went-numbers : (kept : List Kept) → kepts ≡ kept → numbers_of ends ≡ numbers_of kept
      went-numbers kept seen =
          same-lists (λ (one : Kept). fault_number one.fault) (λ (one : Kept). fault_number one.fault) held ends
          (let a = back.kept_count in let b = swapped.kept_count in omega (arith, a, b))
          (numbers-same design plan before reached olds held here news tolds swapped through behind came zip reaches some within lasts ends back)
          ∙ ap numbers_of (moved_kept ∙ seen)

      pub went-rises : (tally : OwnStepsOf design plan) (seen : KeepingShard) (number one other : ℕ) → record { gone = gone; kept = kepts } ≡ seen → number ≡ through →
          RisesWithin (steps_of_faults tally before news) (steps_of_faults tally through came) one other →
          RisesWithin (kept_steps_of tally seen) (kept_steps_of tally (record { gone = number; kept = ends })) one other
      went-rises tally seen number one other is at_end rises =
          let a : steps_of_faults tally before news ≡ kept_steps_of tally (record { gone = before; kept = held }) =
          taken-before design plan tally before reached olds held here news tolds swapped in
          let b : kept_steps_of tally (record { gone = before; kept = held }) ≡ kept_steps_of tally seen =
          (λ i. kept_steps_of tally (record { gone = at i; kept = moved_kept i })) ∙ ap (kept_steps_of tally) is in
          let c : kept_steps_of tally (record { gone = through; kept = ends }) ≡ steps_of_faults tally through came =
          taken-behind design plan tally before reached olds held here news tolds swapped through behind came zip reaches some within lasts ends back in
          let d : kept_steps_of tally (record { gone = number; kept = ends }) ≡ kept_steps_of tally (record { gone = through; kept = ends }) =
          ap (λ n. kept_steps_of tally (record { gone = n; kept = ends })) at_end in
          omega (arith, a, b, c, d, rises)
