-- Of these runs the first three are the good machine's, and the last one reads another value: three own steps.
use Rattle.std.proofs.Common.{◌≡◌, true, [], ◌∷◌, refl, ap, inl, inr}
use Rattle.std.specs.Prelude.{Some, None, Option, List}
use Rattle.four_value.specs.Values.{LogicValue, bit_at}
use Rattle.v_design.specs.OwnSteps.{StepSeen, ProcessRun, TakesOwnSteps}
use Rattle.run_examples.specs.Build.{variable_fault}
use Rattle.run_examples.specs.FaultyRaceAfterStrobe.{design, test_plan}
use Rattle.four_value.specs.declared.logic.Bit.{Bit}
use Rattle.four_value.specs.declared.logic.Bit.TheVariants.{Zero, One}

abbrev bit_read : Option LogicValue → Bit
bit_read None = Zero
bit_read (Some value) = bit_at value 0

abbrev first_read : List StepSeen → Bit
first_read [] = Zero
first_read (first ∷ rest) = bit_read first.read

abbrev run_reads : Option ProcessRun → Bit
run_reads None = Zero
run_reads (Some run) = first_read run.steps

zero-is-one : Zero ≡ One → ⊥
zero-is-one e = cc

pub three_own_steps : TakesOwnSteps design test_plan (variable_fault 0 0 true) 3
three_own_steps = record {
  counts = 0 ∷ 0 ∷ 0 ∷ 3 ∷ [];
  each = (inl (refl, refl), (inl (refl, refl), (inl (refl, refl), (inr ((λ e. zero-is-one (ap run_reads e)), refl), tt))));
  total = refl;
}
