-- The process steps of a dictionary (steps by IEEE 1364-2001, clause 9; slots by clause 5).
use Rattle.std.specs.Prelude.{ℕ, List}
use Rattle.v_design.specs.Designs.{FlatDesign, TestPlan}
use Rattle.fault_shards.specs.Representatives.{AreRepresentatives}
use Rattle.dict_windows.specs.Outcomes.{RoseByOwn}
use Rattle.dict_text.specs.declared.dictionary.Dict.{Dict}
use Rattle.dict_text.specs.declared.dictionary.Dict.TheVariants.{Made, GoodLoop}

-- Where a dictionary is made, a counter rose by no more than the process steps of the good first run and the own steps of the faults that stand for their classes: of each all that it takes through
-- the end of its full grade, or to the plan's end where that has none.
abbrev pub DictTicks : FlatDesign → TestPlan → ℕ → ℕ → Dict → Type 0
DictTicks design plan before after (Made dictionary) = (representatives : List ℕ) × AreRepresentatives design plan.faults representatives × RoseByOwn design plan representatives before after
DictTicks design plan before after (GoodLoop time) = Unit {0}
