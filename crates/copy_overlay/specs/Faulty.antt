-- The values of a faulty machine as the good one's with its own over them (nothing of the language).
use Rattle.std.specs.Prelude.{ℕ, List}
use Rattle.four_value.specs.Values.{LogicValue}
use Rattle.vf_base.specs.Lists.{map_numbered}
use Rattle.v_design.specs.States.{found_or}
use Rattle.copy_laws.specs.Differences.{own_of}

-- the good machine's values, each with the own one of its object in its stead, if there is one
unfoldable pub faulty_values : List LogicValue → List (ℕ × LogicValue) → List LogicValue
faulty_values good own = map_numbered (λ (object : ℕ) (value : LogicValue). found_or value (own_of own object)) 0 good
