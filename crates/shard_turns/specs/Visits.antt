-- Visits to slots (slots for copies: nothing of the language; slots of a run by IEEE 1364-2001, clause 5).
use Rattle.std.specs.Prelude.{◌≡◌, ℕ, false, List, sum_by}
use Rattle.std.specs.List.{All, Contains}
use Rattle.vf_base.specs.Base.{fault_number}
use Rattle.v_design.specs.Designs.{FlatDesign, TestPlan}
use Rattle.own_gradings.specs.Numbers.{OwnStepsOf}
use Rattle.fault_shards.specs.Cuts.{shard}
use Rattle.copy_shard.specs.Shards.{ShardKept, places_of}
use Rattle.verdict_settle.specs.Settling.{KeepsClaims}
use Rattle.verdict_words.specs.Seats.{view, IsSeatOf}
use Rattle.verdict_words.specs.declared.board.Board.{Board}
use Rattle.verdict_words.specs.declared.board.Seat.{Seat}
use Rattle.verdict_words.specs.declared.view.Mark.{Mark}

-- the own steps that judged faults of some numbers take up to behind so many slots of the good first run
abbrev pub faults_steps : {design : FlatDesign} {plan : TestPlan} → OwnStepsOf design plan → ℕ → List ℕ → ℕ
faults_steps tally gone numbers = sum_by (λ (number : ℕ). tally.steps number false gone) numbers

-- those of the faults of the shards whose slots were visited
abbrev pub visit_steps : {design : FlatDesign} {plan : TestPlan} → OwnStepsOf design plan → List ℕ → ℕ → List ℕ → ℕ
visit_steps tally representatives gone visited = sum_by (λ (number : ℕ). faults_steps tally gone (shard number representatives)) visited

-- a shard has the faults of a number, and stands before a window
pub record StandsBefore (representatives : List ℕ) (before number : ℕ) (copy : ShardKept) : Type 0 where
  pub gone : copy.gone ≡ before
  pub faults : places_of copy.faults ≡ shard number representatives

-- words of representatives alone were moved
abbrev pub MovesListed : List ℕ → List Mark → Type 0
MovesListed representatives moved = All (λ (m : Mark). Contains representatives (fault_number m.fault)) moved

module _ {N : Type 0} where
  -- a seat of the board afterwards: its claims are as they were, and it moved words of representatives alone
  pub record SettlesMore (representatives : List ℕ) (board : Board N) (old new : Seat N) : Type 0 where
    pub own : IsSeatOf board new
    pub claims : KeepsClaims (view old) (view new)
    pub moved : MovesListed representatives (view old).moved → MovesListed representatives (view new).moved
