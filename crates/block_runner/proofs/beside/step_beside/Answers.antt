-- The step is known beside the good machine's run, or is taken; and what comes of it is kept.
use Rattle.std.proofs.Common.{◌≡◌, ◌∙◌, ℕ, ◌+◌, ◌<◌, ◌^◌, Bool, length, refl, sym, ap, subst, arith}
use Rattle.std.specs.Prelude.{Option, set, slice_get}
use Rattle.vf_base.specs.Base.{process_number}
use Rattle.v_design.specs.Designs.{Machine}
use Rattle.v_design.specs.OwnSteps.{ProcessRun}
use Rattle.v_design.specs.States.{State}
use Rattle.block_events.proofs.Nodes.{process-count}
use Rattle.block_events.specs.Runners.{machine_of, state_of}
use Rattle.block_runner.specs.declared.goods.GoodPhase.{GoodPhase}
use Rattle.block_runner.specs.declared.rows.ProcessBeside.{ProcessBeside}
use Rattle.block_runner.specs.declared.rows.RunBeside.{RunBeside}
use Rattle.block_runner.specs.Beside.{TellsBeside, row_at, taken_of}
use Rattle.block_runner.specs.Next.{IsAtRun, MayBeAtRun, MayStepBeside, TookBeside, TriesSo, ended_behind, row_behind}
use Rattle.block_runner.proofs.BlocksBeside.{chosen-there}
use Rattle.block_runner.proofs.beside.step_beside.Goals as goal

-- the run of the number is that of the row
may-at : (machine : Machine) (state : State) (p : ℕ) (kept : GoodPhase) (row other : ProcessBeside) (may : MayStepBeside machine state p kept other) (number : ℕ) → row ≡ other →
    number ≡ may.numbers p + other.ended → MayBeAtRun machine state p number kept row.going
may-at machine state p kept row other may number is numbered = record {
  runs = may.runs;
  numbers = may.numbers;
  run = may.run;
  tells = may.tells;
  is =
      subst (λ (n : ℕ). IsAtRun machine state p (slice_get (may.runs p) n) row.going may.run) (sym numbered)
      (subst (λ (going : Option RunBeside). IsAtRun machine state p (slice_get (may.runs p) (may.numbers p + other.ended)) going may.run) (sym (ap (λ (r : ProcessBeside). r.going) is)) may.is);
}

-- and what it took
took-at : (machine : Machine) (state : State) (p : ℕ) (goods : ℕ → Option ProcessRun) (row other : ProcessBeside) (run : ProcessRun) (number numbered : ℕ) (follows : Bool) → row ≡ other → number ≡ numbered →
    (IsAtRun machine state p (goods number) row.going run → TookBeside machine state p (goods number) run follows) →
    IsAtRun machine state p (goods numbered) other.going run → TookBeside machine state p (goods numbered) run follows
took-at machine state p goods row other run number numbered follows is same took at =
    subst (λ (n : ℕ). TookBeside machine state p (goods n) run follows) same
    (took
    (subst (λ (n : ℕ). IsAtRun machine state p (goods n) row.going run) (sym same)
    (subst (λ (going : Option RunBeside). IsAtRun machine state p (goods numbered) going run) (sym (ap (λ (r : ProcessBeside). r.going) is)) at)))

pub number-requires : goal.number-requires
number-requires g c =
    let may = c.requires.may in
    let runner = c.args.runner.now in
    record {
      numbers = may.numbers;
      are = may.tells.are;
      there = omega (arith, chosen-there runner (process_number c.args.process) c.requires.whole c.requires.ready, process-count runner c.requires.whole, may.tells.count);
    }

pub take_next-requires-clause-number : goal.take_next-requires-clause-number
take_next-requires-clause-number g c = chosen-there c.args.runner.now (process_number c.args.process) c.requires.whole c.requires.ready

pub take_next-requires-clause-few : goal.take_next-requires-clause-few
take_next-requires-clause-few g c =
    let may = c.requires.may in
    omega (arith, may.few, c.from.ensures, c.number.ensures may.numbers may.tells.are, ap (λ (r : ProcessBeside). r.ended) c.row-row.ensures)

pub take_next-requires-clause-may : goal.take_next-requires-clause-may
take_next-requires-clause-may g c =
    let may = c.requires.may in
    may-at (machine_of c.args.runner.now) (state_of c.args.runner.now) (process_number c.args.process) c.args.goods.now c.row-row.result
    (row_at c.args.beside.now.processes (process_number c.args.process)) may _ c.row-row.ensures
    (λ i. (c.from.ensures ∙ c.number.ensures may.numbers may.tells.are) i + (c.row-row.ensures i).ended)

pub returns-clause-beside : goal.returns-clause-beside
returns-clause-beside g c =
    let machine = machine_of c.args.runner.now in
    let state = state_of c.args.runner.now in
    let p = process_number c.args.process in
    let old = c.args.beside.now.processes in
    let follows = c.in_ok-took.took.follows in
    record {
      follows = follows;
      number = c.from.result + c.row-row.result.ended;
      number_is = λ numbers are i. (c.from.ensures ∙ c.number.ensures numbers are) i + (c.row-row.ensures i).ended;
      rows = c.in_ok-keep.ensures.rows ∙ λ i. set old p (row_behind (c.row-row.ensures i) follows (c.is_ready-ready.ensures i));
      ended = c.in_ok-keep.ensures.ended ∙ ap (ended_behind c.args.beside.now.ended.items c.args.process) c.is_ready-ready.ensures;
      tries = subst
          (λ (taken : ℕ). TriesSo machine state p c.args.goods.now.phase (c.from.result + c.row-row.result.ended) taken c.args.tried.now.items c.take_next.new.tried.items c.args.steps.now
          c.take_next.new.steps follows)
          (c.taken_of.ensures ∙ ap (λ (r : ProcessBeside). taken_of r.going) c.row-row.ensures) c.in_ok-took.ensures.tries;
      took = λ runs numbers run tells at.
          took-at machine state p (slice_get (runs p)) c.row-row.result (row_at old p) run (c.from.result + c.row-row.result.ended) (numbers p + (row_at old p).ended) follows c.row-row.ensures
          (λ i. (c.from.ensures ∙ c.number.ensures numbers tells.are) i + (c.row-row.ensures i).ended) (c.in_ok-took.ensures.took runs numbers run tells) at;
    }
