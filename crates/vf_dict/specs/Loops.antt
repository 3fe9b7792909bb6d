-- Where there is a dictionary (slots by IEEE 1364-2001, clause 5).
use Rattle.std.specs.Prelude.{◌≡◌, ℕ, Some}
use Rattle.v_design.specs.Designs.{FlatDesign, TestPlan}
use Rattle.v_design.specs.Grades.{Hyper}
use Rattle.kept_samples.specs.Kept.{good_stop}
use Rattle.dict_text.specs.declared.dictionary.Dict.{Dict}
use Rattle.dict_text.specs.declared.dictionary.Dict.TheVariants.{Made, GoodLoop}

-- where a dictionary is made the good machine isn't hyperactive up to the plan's end before a race of its own
abbrev pub NoLoop : FlatDesign → TestPlan → Dict → Type 0
NoLoop design plan (Made dictionary) = (time : ℕ) → good_stop design plan ≡ Some (record { time = time; outcome = Hyper }) → ⊥
NoLoop design plan (GoodLoop time) = Unit {0}
