-- The states into which a runner comes.
use Rattle.std.proofs.Common.{◌≡◌, ℕ, Bool, true, false, cond, ◌||◌, List, length, refl, sym, ap, ◌∙◌}
use Rattle.std.specs.Prelude.{Option, Some, None}
use Rattle.std.specs.Option.{option_map}
use Rattle.four_value.specs.Values.{LogicValue}
use Rattle.vf_base.specs.Lists.{has}
use Rattle.vf_base.specs.declared.ids.ProcId.{ProcId}
use Rattle.v_design.specs.Assignments.{value_at}
use Rattle.v_design.specs.Designs.{FlatDesign}
use Rattle.v_design.specs.States.{State, ProcessState, process_at, node_at, found_or}
use Rattle.block_changes.specs.Changes.{WithinIsOne}
use Rattle.copy_laws.specs.Differences.{own_of}
use Rattle.copy_laws.specs.Moves.{Within, IsWithin}
use Rattle.lockstep_index.specs.Writes.{OwnWrites, with_writes}
use Rattle.lockstep_copy.specs.lockstep_slots.Kept.{kept_within}
use Rattle.lockstep_copy.specs.Kept.{kept_by}
use Rattle.lockstep_copy.specs.declared.own.LockstepCopy.{LockstepCopy}
use Rattle.lockstep_exchange.specs.Putting.{ValuesArePut, ProcessesArePut, WritesArePut, found_among, lane_numbers, values_restored}
use Rattle.lockstep_exchange.specs.Exchange.{ArePutFor, IsButFor, MayPutIn, MayTakeOut, acts_among}

-- Parts

-- nothing differs
abbrev pub same_within : Within
same_within = record { values = λ object. None; nodes = λ number. None; processes = λ process. None }

pub same-state : (state : State) → IsWithin same_within state state
same-state state = record {
  value_count = refl;
  node_count = refl;
  process_count = refl;
  values = λ object. refl;
  nodes = λ number. refl;
  processes = λ process. refl;
}

-- behind values and then processes that are put
module _ (values : ℕ → Option LogicValue) (processes : ℕ → Option ProcessState) (old middle new : State) (first : ValuesArePut values old middle) (second : ProcessesArePut processes middle new) where
  pub put-time : new.time ≡ old.time
  put-time = ap (λ (s : State). s.time) second.rest ∙ ap (λ (s : State). s.time) first.rest

  pub put-nodes : new.nodes ≡ old.nodes
  put-nodes = ap (λ (s : State). s.nodes) second.rest ∙ ap (λ (s : State). s.nodes) first.rest

  new-values : new.values ≡ middle.values
  new-values = ap (λ (s : State). s.values) second.rest

  middle-processes : middle.processes ≡ old.processes
  middle-processes = ap (λ (s : State). s.processes) first.rest

  pub put-value_count : length new.values ≡ length old.values
  put-value_count = ap length new-values ∙ first.count

  pub put-process_count : length new.processes ≡ length old.processes
  put-process_count = second.count ∙ ap length middle-processes

  pub put-value : (object : ℕ) → value_at new.values object ≡ found_or (value_at old.values object) (values object)
  put-value object = ap (λ l. value_at l object) new-values ∙ first.values object

  pub middle-process : (process : ℕ) → process_at middle process ≡ process_at old process
  middle-process process = ap (λ (s : State). process_at s process) first.rest

  pub put-process : (process : ℕ) → process_at new process ≡ found_or (process_at old process) (processes process)
  put-process process = second.processes process ∙ ap (λ p. found_or p (processes process)) (middle-process process)

-- What is kept is put in

kept-process : (found : Option OwnWrites) (process : ProcessState) → found_or process (option_map (λ (w : OwnWrites). with_writes (Some w) process) found) ≡ with_writes found process
kept-process None process = refl
kept-process (Some own) process = refl

either-put : (b c : Bool) (found : Option OwnWrites) (process : ProcessState) →
    with_writes (cond c found None) (with_writes (cond b found None) process) ≡ cond (b || c) (with_writes found process) process
either-put true true None process = refl
either-put true true (Some own) process = refl
either-put true false found process = refl
either-put false true found process = refl
either-put false false found process = refl

pub put-in : WithinIsOne → (design : FlatDesign) (own : LockstepCopy) (acted : List ℕ) (lane : Option ProcId) (good middle some new : State) (of : MayPutIn design own good) →
    ValuesArePut (kept_within (kept_by own) good).values good middle → WritesArePut (found_among (has acted) (kept_by own).writes) middle some →
    WritesArePut (found_among (has (lane_numbers lane)) (kept_by own).writes) some new → ArePutFor (acts_among acted lane) good of.faulty new
put-in one design own acted lane good middle some new of first second third =
    let writes = (kept_by own).writes in
    let within = of.makes.lockstep.within in
    let count : length new.processes ≡ length good.processes = third.count ∙ second.count ∙ ap (λ (s : State). length s.processes) first.rest in
    let apart : Within = record { values = (kept_within (kept_by own) good).values; nodes = λ number. None; processes = λ process. Some (process_at new process) } in
    let here : IsWithin apart good new = record {
      value_count = ap (λ (s : State). length s.values) third.rest ∙ ap (λ (s : State). length s.values) second.rest ∙ first.count;
      node_count = ap (λ (s : State). length s.nodes) third.rest ∙ ap (λ (s : State). length s.nodes) second.rest ∙ ap (λ (s : State). length s.nodes) first.rest;
      process_count = count;
      values = λ object.
          ap (λ (s : State). value_at s.values object) third.rest ∙ ap (λ (s : State). value_at s.values object) second.rest ∙ first.values object;
      nodes = λ number.
          ap (λ (s : State). node_at s number) third.rest ∙ ap (λ (s : State). node_at s number) second.rest ∙ ap (λ (s : State). node_at s number) first.rest;
      processes = λ process. refl;
    } in
    let there : IsWithin apart good (record of.faulty { processes = new.processes }) = record {
      value_count = within.value_count;
      node_count = within.node_count;
      process_count = count;
      values = within.values;
      nodes = within.nodes;
      processes = λ process. refl;
    } in
    let time : new.time ≡ of.faulty.time =
    ap (λ (s : State). s.time) third.rest ∙ ap (λ (s : State). s.time) second.rest ∙ ap (λ (s : State). s.time) first.rest ∙ of.makes.lockstep.time in
    record {
      rest = one apart good new (record of.faulty { processes = new.processes }) here there time;
      count = count;
      processes = λ process.
          third.processes process
          ∙ ap (λ (p : ProcessState). with_writes (cond (has (lane_numbers lane) process) (writes process) None) p)
          (second.processes process
          ∙ ap (λ (s : State). with_writes (cond (has acted process) (writes process) None) (process_at s process)) first.rest)
          ∙ either-put (has acted process) (has (lane_numbers lane) process) (writes process) (process_at good process)
          ∙ ap (λ (p : ProcessState). cond (acts_among acted lane process) p (process_at good process))
          (sym (within.processes process ∙ kept-process (writes process) (process_at good process)));
    }

-- and taken out

restored-value : (own : LockstepCopy) (good now : State) → IsButFor own good now → (object : ℕ) → found_or (value_at now.values object) (values_restored own.copy.values good object) ≡ value_at good.values object
restored-value own good now is object = go (own_of own.copy.values object) refl
  where
    go : (found : Option LogicValue) → own_of own.copy.values object ≡ found →
        found_or (value_at now.values object) (option_map (λ (kept : LogicValue). value_at good.values object) (own_of own.copy.values object)) ≡ value_at good.values object
    go None e = ap (λ (o : Option LogicValue). found_or (value_at now.values object) (option_map (λ (kept : LogicValue). value_at good.values object) o)) e ∙ is.values object e
    go (Some value) e = ap (λ (o : Option LogicValue). found_or (value_at now.values object) (option_map (λ (kept : LogicValue). value_at good.values object) o)) e

pub taken-out : WithinIsOne → (design : FlatDesign) (shows : State → Type 0) (own : LockstepCopy) (now new : State) (of : MayTakeOut design shows own now) →
    ValuesArePut (values_restored own.copy.values of.good) now new → new ≡ of.good
taken-out one design shows own now new of put =
    one same_within of.good new of.good
    (record {
      value_count = put.count ∙ of.but_for.value_count;
      node_count = ap (λ (s : State). length s.nodes) put.rest ∙ of.but_for.node_count;
      process_count = ap (λ (s : State). length s.processes) put.rest ∙ of.but_for.process_count;
      values = λ object. put.values object ∙ restored-value own of.good now of.but_for object;
      nodes = λ number. ap (λ (s : State). node_at s number) put.rest ∙ of.but_for.nodes number;
      processes = λ process. ap (λ (s : State). process_at s process) put.rest ∙ of.but_for.processes process;
    })
    (same-state of.good) (ap (λ (s : State). s.time) put.rest ∙ of.but_for.time_is)
