-- The second of the variables that drive an object, by depth.
use Rattle.std.proofs.Common.{◌≡◌, ◌+◌, Bool, true, false, List, [], ◌∷◌, ◌++◌, Option, Some, None, refl, sym, ap, ◌∙◌}
use Rattle.std.specs.Prelude.{nat_le, nat_lt}
use Rattle.v_elab.specs.Parts.{Signal}
use Rattle.v_elab.specs.Refusals.{Refusal, TwoDrivers}
use Rattle.v_elab.specs.Drivers.{insert_here, insert_by_depth, by_depth, join_place, second_variable}
use Rattle.elab_wires.specs.Depths.{FirstTwo, first_two, sooner_if, sooner, with_one, first_two-more}

abbrev pub second_in : FirstTwo → Option Signal
second_in None = None
second_in (Some two) = two.1

abbrev pub second_by_depth : List Signal → Option Signal
second_by_depth signals = second_in (first_two (by_depth signals))

abbrev pub two_of : Option Signal → Option Signal → FirstTwo
two_of None second = None
two_of (Some first) second = Some (first, second)

abbrev pub second_if : Bool → Signal → Option Signal → Signal → Option Signal
second_if true first second signal = Some first
second_if false first second signal = Some (sooner signal second)

-- the second with one more that comes later in the walk
abbrev pub second_with : Option Signal → Option Signal → Signal → Option Signal
second_with None second signal = None
second_with (Some first) second signal = second_if (nat_lt signal.depth first.depth) first second signal

both-more : (first second : Option Signal) (signal : Signal) → two_of (Some (sooner signal first)) (second_with first second signal) ≡ with_one (two_of first second) signal
both-more None second signal = refl
both-more (Some first) second signal = by_test (nat_lt signal.depth first.depth)
  where
    by_test : (test : Bool) → two_of (Some (sooner_if test signal first)) (second_if test first second signal) ≡ Rattle.elab_wires.specs.Depths.second_with test signal (first, second)
    by_test true = refl
    by_test false = refl

-- the first two by depth, by one pass
pub two-more : (signals : List Signal) (first second : Option Signal) (signal : Signal) → two_of first second ≡ first_two (by_depth signals) →
    two_of (Some (sooner signal first)) (second_with first second signal) ≡ first_two (by_depth (signals ++ signal ∷ []))
two-more signals first second signal had = both-more first second signal ∙ (ap (λ two. with_one two signal) had ∙ sym (first_two-more signals signal))

-- a second variable that drives is refused
abbrev pub second_refusal : Option Signal → Option Refusal
second_refusal None = None
second_refusal (Some second) = Some (TwoDrivers (join_place second) 0)

pub second-refused : (signals : List Signal) → second_variable signals ≡ second_refusal (second_in (first_two signals))
second-refused [] = refl
second-refused (first ∷ []) = refl
second-refused (first ∷ second ∷ rest) = refl
