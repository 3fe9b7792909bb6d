-- What is answered to a response's text (the format is this program's own).
use Rattle.std.specs.Prelude.{◌≡◌, ℕ, ◌<◌, ◌≤◌, List, length, Result, Ok, Err}
use Rattle.v_design.specs.Designs.{TestPlan}
use Rattle.v_design.specs.Grades.{Sample}
use Rattle.response_text.specs.declared.fault.ResponseFault.{ResponseFault}
use Rattle.response_text.specs.declared.fault.ResponseFault.TheVariants.{BadLine, TooLong, NoMemory}
use Rattle.response_text.specs.Reading.{response_of, most_bytes}

-- the text spells these samples
pub record Spells (plan : TestPlan) (text : List ℕ) (samples : List Sample) : Type 0 where
  pub short : length text ≤ most_bytes
  pub samples_are : response_of plan text ≡ Ok samples

-- why a text isn't read: it is too long, else its first line at fault. Want of memory can come anywhere
abbrev pub Refuses : TestPlan → List ℕ → ResponseFault → Type 0
Refuses plan text (BadLine number) = (length text ≤ most_bytes) × (response_of plan text ≡ Err number)
Refuses plan text TooLong = most_bytes < length text
Refuses plan text NoMemory = Unit {0}

-- why lines aren't read: the first one at fault, or want of memory
abbrev pub FaultOf : Result (List Sample) ℕ → ResponseFault → Type 0
FaultOf meant (BadLine number) = meant ≡ Err number
FaultOf meant TooLong = ⊥
FaultOf meant NoMemory = Unit {0}
