-- What the closed board of a graded plan shows (classes of faults: gates by IEEE 1364-2001, clause 7).
use Rattle.std.specs.Prelude.{◌≡◌, ℕ, List, Some, length, slice_get, slice_index}
use Rattle.v_design.specs.Designs.{FlatDesign, TestPlan}
use Rattle.order_laws.specs.Reports.{AreGrades}
use Rattle.v_design.specs.Findings.{grades_of, AreInOrder}
use Rattle.verdict_words.specs.Codes.{IsCode}
use Rattle.verdict_words.specs.Last.{words_of, sizes_of, last_view}
use Rattle.verdict_words.specs.Rule.{times, once_below}
use Rattle.verdict_words.specs.declared.board.closed.Closed.{Closed}
use Rattle.shard_rounds.specs.copy_shard.Shards.{ShardKept, places_of, findings_of}
use Rattle.fault_shards.specs.Cuts.{shard, shard_count}
use Rattle.fault_shards.specs.Found.{found_faults}
use Rattle.fault_shards.specs.Representatives.{IsRepresentative, AreRepresentatives}
use Rattle.shard_rounds.specs.fault_grade.Results.{LoopsAt}
use Rattle.shard_workers.specs.Results.{RoseByOwn}
use Rattle.shard_workers.specs.declared.grade.Work.{Work}
use Rattle.shard_workers.specs.declared.grade.Graded.{Graded}
use Rattle.shard_workers.specs.declared.grade.Graded.TheVariants.{Findings, GoodLoop}

-- by fault the verdict words of a plan: that of a fault which stands for its class is the code of its grade, and every other is 0
pub record AreVerdicts (design : FlatDesign) (plan : TestPlan) (words : List ℕ) : Type 0 where
  pub one_each : length words ≡ length plan.faults
  pub codes : (f : ℕ) → IsRepresentative design plan.faults f → IsCode design plan f (slice_index words f)
  pub others : (f : ℕ) → (IsRepresentative design plan.faults f → ⊥) → slice_index words f ≡ 0

-- each number below a bound stands once in a list, and no other does
abbrev pub IsEachOnce : ℕ → List ℕ → Type 0
IsEachOnce bound list = (x : ℕ) → times x list ≡ once_below x bound

-- a shard has the faults of the shard of a number, and a finding for each
pub record IsShardDone (representatives : List ℕ) (number : ℕ) (own : ShardKept) : Type 0 where
  pub faults : places_of own.faults ≡ shard number representatives
  pub found : found_faults (findings_of own.faults) ≡ shard number representatives

-- one shard for each claim, in claim order
pub record AreShardsDone (representatives : List ℕ) (shards : List ShardKept) : Type 0 where
  pub count : length shards ≡ shard_count (length representatives)
  pub each : (number : ℕ) (own : ShardKept) → slice_get shards number ≡ Some own → IsShardDone representatives number own

module _ {N : Type 0} where
  -- a closed board has the verdict words of the plan and a claim for each shard of its representatives, and each claim was drawn once
  pub record IsClosing (design : FlatDesign) (plan : TestPlan) (closed : Closed N) : Type 0 where
    pub representatives : List ℕ
    pub are_all : AreRepresentatives design plan.faults representatives
    pub faults : (sizes_of closed).faults ≡ length plan.faults
    pub claims : (sizes_of closed).claims ≡ shard_count (length representatives)
    pub verdicts : AreVerdicts design plan (words_of closed)
    pub drawn : IsEachOnce (sizes_of closed).claims (last_view closed).claimed

  -- the findings are the grades of all listed faults, in list order, the board shows how they came, and the shards that they are of; and the good machine never loops before a race of its own
  pub record IsWork (design : FlatDesign) (plan : TestPlan) (work : Work N) : Type 0 where
    pub grades : AreGrades design plan (grades_of work.findings.items)
    pub in_order : AreInOrder (length plan.faults) work.findings.items
    pub goes_on : (time : ℕ) → LoopsAt design plan time → ⊥
    pub closing : IsClosing design plan work.closed
    pub shards_are : AreShardsDone closing.representatives work.shards.items

  -- where all faults were graded, counters rose by no more than the process steps of the good first run, and twice all own steps of each fault that stands for its class
  abbrev pub GradedTicks : FlatDesign → TestPlan → ℕ → ℕ → Graded N → Type 0
  GradedTicks design plan before after (Findings work) = RoseByOwn design plan before after
  GradedTicks design plan before after (GoodLoop time) = Unit {0}

  -- so all faults were graded; or the good machine loops at a time, before a race of its own
  abbrev pub IsAllGraded : FlatDesign → TestPlan → Graded N → Type 0
  IsAllGraded design plan (Findings work) = IsWork design plan work
  IsAllGraded design plan (GoodLoop time) = LoopsAt design plan time
