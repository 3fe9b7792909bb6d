-- Behind a block of its own a runner's state is the good one before, but for the values that are kept, and but for what either block changed.
use Rattle.std.proofs.Common.{◌≡◌, ℕ, true, false, List, length, sym, ap, subst, ◌∙◌, arith}
use Rattle.v_design.specs.Assignments.{value_at}
use Rattle.v_design.specs.States.{State, NodeState, ProcessState, process_at, node_at, found_or}
use Rattle.machine_laws.specs.SlotLoop.{NoNodeWorks}
use Rattle.copy_laws.specs.Moves.{Parts, ChangesOnly}
use Rattle.lockstep_laws.specs.Blocks.{with_all_nodes}
use Rattle.lockstep_laws.specs.Lockstep.{AreInLockstep, LockstepIsBeside}
use Rattle.block_compare.specs.lockstep_compare.Compared.{IsKeptBehind, writes_in}
use Rattle.block_compare.specs.lockstep_slots.Kept.{LockstepKept, kept_within}
use Rattle.block_compare.specs.lockstep_copy.Kept.{TellsWrites, kept_by}
use Rattle.block_compare.specs.lockstep_copy.declared.own.LockstepCopy.{LockstepCopy}
use Rattle.block_compare.specs.lockstep_exchange.Exchange.{MakesLockstep}
use Rattle.block_compare.proofs.lockstep_exchange.Fits.{object-there}
use Rattle.faulty_block.specs.Back.{IsBackBut}
use Rattle.faulty_block.proofs.Rests.{rests-node}

-- what is told by comparing with a runner's state is told of the faulty one: it has the same values, and the same processes act in it
pub kept-behind : (parts : Parts) (later own ran : State) (old new : LockstepKept) → ran ≡ record own { processes = ran.processes } →
    ((process : ℕ) → parts.processes process ≡ true → process_at ran process ≡ process_at own process) → IsKeptBehind parts later ran old new → IsKeptBehind parts later own old new
kept-behind parts later own ran old new rest same kept =
    let here : IsKeptBehind parts later (record own { processes = ran.processes }) old new = subst (λ (s : State). IsKeptBehind parts later s old new) rest kept in
    record {
      values = here.values;
      values_stay = here.values_stay;
      activities = λ process acts. ap (λ (p : ProcessState). p.activity) (sym (same process acts)) ∙ here.activities process acts;
      writes = λ process acts.
          subst (λ (p : ProcessState). TellsWrites (writes_in (process_at later process)) (writes_in p) (new.writes process)) (same process acts) (here.writes process acts);
      writes_stay = here.writes_stay;
    }

module _ (side : LockstepIsBeside) (parts : Parts) (old new : LockstepCopy) (good later faulty own ran : State)
    (before : AreInLockstep (kept_within (kept_by old) good) good faulty) (behind : MakesLockstep new later own)
    (good-changes : ChangesOnly (with_all_nodes parts) good later) (own-changes : ChangesOnly (with_all_nodes parts) faulty own) (compared : IsKeptBehind parts later own (kept_by old) (kept_by new))
    (rests : NoNodeWorks good) (ends : NoNodeWorks later) (no-time : later.time ≡ good.time) (rest : ran ≡ record own { processes = ran.processes })
    (count : length ran.processes ≡ length own.processes) (others : (process : ℕ) → parts.processes process ≡ false → process_at ran process ≡ process_at good process) where
  beside-before : faulty.nodes ≡ good.nodes
  beside-before = sym (side (kept_within (kept_by old) good) good faulty before).beside.nodes

  beside-behind : own.nodes ≡ later.nodes
  beside-behind = sym (side (kept_within (kept_by new) later) later own behind.lockstep).beside.nodes

  pub is-back : IsBackBut parts new good ran
  is-back = record {
    value_count = ap (λ (s : State). length s.values) rest ∙ own-changes.value_count ∙ before.within.value_count;
    node_count = ap (λ (s : State). length s.nodes) rest ∙ own-changes.node_count ∙ before.within.node_count;
    process_count = count ∙ own-changes.process_count ∙ before.within.process_count;
    time_is = ap (λ (s : State). s.time) rest ∙ sym behind.lockstep.time ∙ no-time;
    nodes = λ number.
        ap (λ (s : State). node_at s number) rest ∙ ap (λ (l : List NodeState). node_at (record good { nodes = l }) number) beside-behind ∙ rests-node later ends number
        ∙ sym (rests-node good rests number);
    values = λ object none absent.
        ap (λ (s : State). value_at s.values object) rest ∙ own-changes.values object none ∙ before.within.values object
        ∙ ap (found_or (value_at good.values object)) (sym (compared.values_stay object none) ∙ absent);
    processes = others;
    objects_there = λ object value is.
        let low = object-there new later own behind object value is in
        let same = good-changes.value_count in
        omega (arith, low, same);
  }
