-- Round after round (slots by IEEE 1364-2001, clause 5).
use Rattle.std.proofs.Common.{◌≡◌, ℕ, suc, ◌-◌, ◌<◌, ◌≤◌, true, List, length, sym, subst, ◌∙◌, arith}
use Rattle.std.proofs.lemmas.Option.{slice_get_within}
use Rattle.v_design.specs.Designs.{FlatDesign, TestPlan}
use Rattle.v_design.specs.WellFormed.{KeepsRules}
use Rattle.beside_laws.specs.GoodRuns.{GoodRunGoesOn}
use Rattle.copy_laws.specs.Windows.{WindowEnd, IsWindow, good_slots}
use Rattle.good_trace.specs.Traces.{WindowKept}
use Rattle.good_windows.specs.Next.{RunKept, IsNextWindow, AllStand, LoopsBehind}
use Rattle.shard_crew.specs.fault_grade.Results.{LoopsAt}
use Rattle.verdict_words.specs.declared.board.Board.{Board}
use Rattle.shard_crew.specs.shard_claims.declared.worker.Worker.{Worker}
use Rattle.shard_crew.specs.shard_findings.AllWorkers.{AreWorkersAt}
use Rattle.shard_rounds.specs.Rounds.{IsWindowAhead, AreThrough}

-- a window ends where the good first run does, or before
pub window-within : (design : FlatDesign) (plan : TestPlan) (begins through : ℕ) (end : WindowEnd) → IsWindow design plan begins through end → through ≤ length (good_slots design plan)
window-within design plan begins through end window =
    let some : begins < through = window.some in
    let before : through ≡ suc (through - 1) = omega (arith, some) in
    let low : through - 1 < length (good_slots design plan) = slice_get_within (good_slots design plan) (through - 1) window.last (window.stands (through - 1) before) in
    omega (arith, low)

module _ (design : FlatDesign) (plan : TestPlan) (through now : ℕ) where
  -- the next window, behind which the run goes on
  pub goes-on : (run : RunKept) (window : WindowKept) → run.gone ≡ now → run.usable ≡ true → IsNextWindow design plan through window × (now ≡ window.through) →
      IsWindowAhead design plan run window × (window.before ≡ through)
  goes-on run window gone usable g = (record { window_is = g.0.window_is; run_at = gone ∙ g.1; usable = usable }, g.0.before_is)

  -- no slot is left: the workers that have gone so far are through
  pub is-through : {N : Type 0} (representatives : List ℕ) (board : Board N) (count : ℕ) (workers : List (Worker N)) → AreWorkersAt representatives board through count workers →
      AllStand design plan through × (now ≡ through) → AreThrough design plan representatives board count workers
  is-through representatives board count workers are g = record {
    workers_are = subst (λ n. AreWorkersAt representatives board n count workers) (sym g.0.all) are;
    no_loop = λ time loops. g.0.no_loop time loops;
  }

  -- the good machine loops
  pub loops-at : (time : ℕ) → LoopsBehind design plan through time × (now ≡ through) → LoopsAt design plan time
  loops-at time g = g.0.stops

-- a good first run has a slot
pub never-over : (design : FlatDesign) (plan : TestPlan) (now : ℕ) → GoodRunGoesOn → KeepsRules design → AllStand design plan 0 × (now ≡ 0) → ⊥
never-over design plan now law rules g =
    let some : 0 < length (good_slots design plan) = law.some design plan rules in
    let none : length (good_slots design plan) ≡ 0 = g.0.all in
    omega (arith, some, none)
