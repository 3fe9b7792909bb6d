-- The hard strobes of the listed faults, as the code keeps them (bits by IEEE 1364-2001, clause 3.1).
use Rattle.std.specs.Prelude.{◌≡◌, ℕ, List, map, length, IsTrue}
use Rattle.vf_base.specs.Base.{fault_number}
use Rattle.vf_base.specs.Lists.{has, AllHold}
use Rattle.v_design.specs.Expressions.{up_from}
use Rattle.v_design.specs.WellFormed.{IsAscending}
use Rattle.strobe_detect.specs.declared.hard.Hard.{Hard}

-- the hard strobes of each fault
abbrev pub times_of : List Hard → List (List ℕ)
times_of hard = map (λ (one : Hard). one.times) hard

-- these are the hard strobes of the listed faults, in list order
pub record AreHard (faults : List (List ℕ)) (hard : List Hard) : Type 0 where
  pub times : times_of hard ≡ faults
  pub numbered : map (λ (one : Hard). fault_number one.fault) hard ≡ up_from 0 (length faults)

-- the hard strobes of each fault ascend and are some of these
pub record ArePartsOf (strobes : List ℕ) (hard : List Hard) : Type 0 where
  pub ascend : AllHold IsAscending (times_of hard)
  pub listed : AllHold (λ times. AllHold (λ time. IsTrue (has strobes time)) times) (times_of hard)
