-- Points that steps lead to: what isn't left in a rest is at rest too (IEEE 1364-2001, clause 9).
use Rattle.std.specs.Prelude.{◌≡◌, ◌≢◌, ℕ, List, [], ◌∷◌, get_or}
use Rattle.four_value.specs.Values.{LogicValue}
use Rattle.v_design.specs.Trees.{EventControl, Wait}
use Rattle.process_code.specs.Rests.{Part, Runs, TurnsLeft}
use Rattle.process_code.specs.Points.{Point}
use Rattle.process_code.specs.declared.state.Stage.{Stage}
use Rattle.process_code.specs.declared.state.Stage.TheVariants.{Ready, Waiting, Asleep, Postponed, Done}

-- no turns of the repeat with a number are left in a rest
abbrev pub HasNoTurns : ℕ → List Part → Type 0
HasNoTurns number [] = Unit {0}
HasNoTurns number (Runs statement ∷ rest) = HasNoTurns number rest
HasNoTurns number (TurnsLeft other place body ∷ rest) = (number ≢ other) × HasNoTurns number rest

-- a repeat has a count only while its turns are in the rest
abbrev pub CountsOnly : List Part → List ℕ → Type 0
CountsOnly rest counts = (number : ℕ) → HasNoTurns number rest → get_or counts number 0 ≡ 0

-- what is first in a rest begins a wait
abbrev pub BeginsWait : List Part → Type 0
BeginsWait (Runs (EventControl place entries body) ∷ rest) = Unit {0}
BeginsWait (Runs (Wait place condition body) ∷ rest) = Unit {0}
BeginsWait other = ⊥

-- a process that isn't ready has read no operand, and it waits where a wait begins
abbrev pub StopsWith : List (List Part) → Stage → List LogicValue → Type 0
StopsWith rests Ready operands = Unit {0}
StopsWith rests (Waiting at) operands = (operands ≡ []) × BeginsWait (get_or rests at [])
StopsWith rests (Asleep time) operands = operands ≡ []
StopsWith rests Postponed operands = operands ≡ []
StopsWith rests Done operands = operands ≡ []

-- a point that steps lead to
pub record IsReached (rests : List (List Part)) (p : Point) : Type 0 where
  pub counts : CountsOnly (get_or rests p.position []) p.counts
  pub stops : StopsWith rests p.stage p.operands
