-- The own steps of faults behind more slots (steps by IEEE 1364-2001, clause 9; slots by clause 5).
use Rattle.std.proofs.Common.{◌≡◌, ℕ, ◌+◌, ◌≤◌, false, List, [], ◌∷◌, ◌++◌, refl, sym, ap, ◌∙◌, arith}
use Rattle.std.specs.Prelude.{Some, slice_get, sum_by}
use Rattle.std.specs.List.{All, Contains}
use Rattle.std.proofs.lemmas.List.Elements.{All-contains_itself, All-head, All-tail, All-weaker}
use Rattle.std.proofs.lemmas.List.Sums.{sum_by-append, sum_by-cons, sum_by_push}
use Rattle.vf_base.specs.Lists.{AllHold}
use Rattle.v_design.specs.Designs.{FlatDesign, StuckAt, TestPlan}
use Rattle.v_design.specs.WellFormed.{KeepsRules}
use Rattle.fault_shards.specs.Cuts.{shard, ShardsCover}
use Rattle.fault_shards.specs.Representatives.{AreRepresentatives}
use Rattle.own_gradings.specs.Laws.{OwnStepsRise}
use Rattle.own_gradings.specs.Numbers.{OwnStepsOf}
use Rattle.copy_shard.specs.Shards.{FaultKept, FaultStands, ShardKept, StandsBeside, fault_steps_at, places_of, shard_steps}
use Rattle.copy_shard.proofs.Ticks.{of-places}
use Rattle.shard_turns.specs.Turns.{HasDone}
use Rattle.shard_turns.specs.Visits.{StandsBefore, faults_steps, visit_steps}

-- a fault of a number is listed
abbrev pub IsListed : TestPlan → ℕ → Type 0
IsListed plan number = (fault : StuckAt) × (slice_get plan.faults number ≡ Some fault)

-- so are the faults of a shard, and the representatives
pub kept-listed : (design : FlatDesign) (plan : TestPlan) (gone : ℕ) (faults : List FaultKept) → AllHold (FaultStands design plan gone) faults → AllHold (IsListed plan) (places_of faults)
kept-listed design plan gone [] all = tt
kept-listed design plan gone (kept ∷ faults) all = ((all.0.fault, all.0.listed), kept-listed design plan gone faults all.1)

listed-each : (plan : TestPlan) (numbers : List ℕ) → All (IsListed plan) numbers → AllHold (IsListed plan) numbers
listed-each plan [] all = tt
listed-each plan (n ∷ ns) all = (All-head (IsListed plan) n ns all, listed-each plan ns (All-tail (IsListed plan) n ns all))

pub all-listed : (design : FlatDesign) (plan : TestPlan) (representatives : List ℕ) → AreRepresentatives design plan.faults representatives → AllHold (IsListed plan) representatives
all-listed design plan representatives are =
    listed-each plan representatives
    (All-weaker (Contains representatives) (IsListed plan) (λ n c. let is = (are.each n).0 c in (is.fault, is.listed)) representatives (All-contains_itself representatives))

pub shard-listed : (design : FlatDesign) (plan : TestPlan) (representatives : List ℕ) (number : ℕ) → ShardsCover → AreRepresentatives design plan.faults representatives →
    AllHold (IsListed plan) (shard number representatives)
shard-listed design plan representatives number cover are =
    listed-each plan (shard number representatives)
    (All-weaker (Contains (shard number representatives)) (IsListed plan) (λ n c. let is = (are.each n).0 (cover.within representatives number n c) in (is.fault, is.listed))
    (shard number representatives) (All-contains_itself (shard number representatives)))

-- behind more slots they have taken no fewer steps
pub faults-rise : OwnStepsRise → (design : FlatDesign) (plan : TestPlan) → KeepsRules design → (tally : OwnStepsOf design plan) (from until : ℕ) → from ≤ until → (numbers : List ℕ) →
    AllHold (IsListed plan) numbers → faults_steps tally from numbers ≤ faults_steps tally until numbers
faults-rise law design plan rules tally from until later [] all = omega arith
faults-rise law design plan rules tally from until later (n ∷ ns) all =
    let one : tally.steps n false from ≤ tally.steps n false until = law.rises design plan tally n all.0.0 false from until all.0.1 rules later in
    let rest : faults_steps tally from ns ≤ faults_steps tally until ns = faults-rise law design plan rules tally from until later ns all.1 in
    let a : faults_steps tally from (n ∷ ns) ≡ tally.steps n false from + faults_steps tally from ns = sum_by-cons (λ (number : ℕ). tally.steps number false from) n ns in
    let b : faults_steps tally until (n ∷ ns) ≡ tally.steps n false until + faults_steps tally until ns = sum_by-cons (λ (number : ℕ). tally.steps number false until) n ns in
    omega (arith, one, rest, a, b)

-- and at no time more than in all
pub faults-within : OwnStepsRise → (design : FlatDesign) (plan : TestPlan) (tally : OwnStepsOf design plan) (gone : ℕ) (numbers : List ℕ) → AllHold (IsListed plan) numbers →
    faults_steps tally gone numbers ≤ sum_by (fault_steps_at tally) numbers
faults-within law design plan tally gone [] all = omega arith
faults-within law design plan tally gone (n ∷ ns) all =
    let one : tally.steps n false gone ≤ fault_steps_at tally n = law.within design plan tally n all.0.0 false gone all.0.1 in
    let rest : faults_steps tally gone ns ≤ sum_by (fault_steps_at tally) ns = faults-within law design plan tally gone ns all.1 in
    let a : faults_steps tally gone (n ∷ ns) ≡ tally.steps n false gone + faults_steps tally gone ns = sum_by-cons (λ (number : ℕ). tally.steps number false gone) n ns in
    let b : sum_by (fault_steps_at tally) (n ∷ ns) ≡ fault_steps_at tally n + sum_by (fault_steps_at tally) ns = sum_by-cons (fault_steps_at tally) n ns in
    omega (arith, one, rest, a, b)

-- Shards

-- those of a shard are of its places alone
pub shard-faults : (design : FlatDesign) (plan : TestPlan) (tally : OwnStepsOf design plan) (kept : ShardKept) (gone : ℕ) (numbers : List ℕ) → kept.gone ≡ gone → places_of kept.faults ≡ numbers →
    shard_steps tally kept ≡ faults_steps tally gone numbers
shard-faults design plan tally kept gone numbers at are =
    sym (of-places tally kept.gone kept.faults) ∙ ((λ i. faults_steps tally (at i) (are i)))

-- another one of the same faults behind more slots
pub shard-rises : OwnStepsRise → (design : FlatDesign) (plan : TestPlan) → KeepsRules design → (tally : OwnStepsOf design plan) (through : ℕ) (own other : ShardKept) → own.gone ≤ through →
    HasDone through own other → StandsBeside design plan own → shard_steps tally own ≤ shard_steps tally other
shard-rises law design plan rules tally through own other later done stands =
    let was : shard_steps tally own ≡ faults_steps tally own.gone (places_of own.faults) = shard-faults design plan tally own own.gone (places_of own.faults) refl refl in
    let now : shard_steps tally other ≡ faults_steps tally through (places_of own.faults) = shard-faults design plan tally other through (places_of own.faults) done.gone done.places in
    let most = faults-rise law design plan rules tally own.gone through later (places_of own.faults) (kept-listed design plan own.gone own.faults stands) in
    omega (arith, was, now, most)

-- a copy that went through a window
pub copy-rises : (design : FlatDesign) (plan : TestPlan) (tally : OwnStepsOf design plan) (representatives : List ℕ) (from through number : ℕ) (old new : ShardKept) (before after : ℕ) →
    StandsBefore representatives from number old → HasDone through old new → after + shard_steps tally old ≤ before + shard_steps tally new →
    after + faults_steps tally from (shard number representatives) ≤ before + faults_steps tally through (shard number representatives)
copy-rises design plan tally representatives from through number old new before after at done rises =
    let was : shard_steps tally old ≡ faults_steps tally from (shard number representatives) = shard-faults design plan tally old from (shard number representatives) at.gone at.faults in
    let now : shard_steps tally new ≡ faults_steps tally through (shard number representatives) =
    shard-faults design plan tally new through (shard number representatives) done.gone (done.places ∙ at.faults) in
    omega (arith, was, now, rises)

-- Visits

-- no visit
pub visits-none : (design : FlatDesign) (plan : TestPlan) (tally : OwnStepsOf design plan) (representatives : List ℕ) (gone : ℕ) (visited : List ℕ) → visited ≡ [] →
    visit_steps tally representatives gone visited ≡ 0
visits-none design plan tally representatives gone visited none = ap (visit_steps tally representatives gone) none

-- one visit more
pub visits-more : (design : FlatDesign) (plan : TestPlan) (tally : OwnStepsOf design plan) (representatives : List ℕ) (gone : ℕ) (visited new : List ℕ) (number : ℕ) → new ≡ visited ++ number ∷ [] →
    visit_steps tally representatives gone new ≡ visit_steps tally representatives gone visited + faults_steps tally gone (shard number representatives)
visits-more design plan tally representatives gone visited new number is =
    ap (visit_steps tally representatives gone) is ∙ sum_by_push (λ (n : ℕ). faults_steps tally gone (shard n representatives)) visited number

-- those of two seats
pub visits-both : (design : FlatDesign) (plan : TestPlan) (tally : OwnStepsOf design plan) (representatives : List ℕ) (gone : ℕ) (one other both : List ℕ) → both ≡ one ++ other →
    visit_steps tally representatives gone both ≡ visit_steps tally representatives gone one + visit_steps tally representatives gone other
visits-both design plan tally representatives gone one other both is =
    ap (visit_steps tally representatives gone) is ∙ sum_by-append (λ (n : ℕ). faults_steps tally gone (shard n representatives)) one other
