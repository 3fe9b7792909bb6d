-- Process by process.
use Rattle.std.proofs.Common.{◌≡◌, ℕ, ◌+◌, [], ◌∷◌, refl, sym, ap, subst, ◌∙◌, arith}
use Rattle.std.specs.Prelude.{Some}
use Rattle.v_design.specs.Designs.{Machine}
use Rattle.v_design.specs.States.{process_at}
use Rattle.lockstep_exchange.specs.block_events.Runners.{machine_of, state_of}
use Rattle.lockstep_exchange.specs.Putting.{ProcessesArePut}
use Rattle.lockstep_room.specs.Rooms.{AreCounts, processes_among, processes_below}
use Rattle.lockstep_exchange.proofs.Puts.{below-past, processes-none}
use Rattle.lockstep_room.proofs.Standing.{below-then, processes-then, stands-processes}
use Rattle.lockstep_room.proofs.anew.stand_processes.Goals as goal

pub processes-init : goal.processes-init
processes-init g c = record {
  machine = refl;
  put = λ of.
      processes-none (processes_below 0 of.good) (state_of c.args.runner.now) (λ process. below-past (λ (p : ℕ). Some (process_at of.good p)) 0 process (omega arith));
  whole = c.requires.whole;
}

pub follow_process-requires-clause-design : goal.follow_process-requires-clause-design
follow_process-requires-clause-design g c = c.requires.design ∙ sym (ap (λ (m : Machine). m.design) c.processes.invariant.machine)

pub follow_process-requires-clause-stands : goal.follow_process-requires-clause-stands
follow_process-requires-clause-stands g c =
    let inv = c.processes.invariant in
    stands-processes (machine_of c.args.runner.now).design (machine_of c.processes.runner).design (ap (λ (m : Machine). m.design) inv.machine) (g.S.ShownState.shows c.args.good.now)
    (processes_below c.processes.number c.requires.stands.good) (state_of c.args.runner.now) (state_of c.processes.runner) c.requires.stands (inv.put c.requires.stands)

pub follow_process-requires-clause-counts : goal.follow_process-requires-clause-counts
follow_process-requires-clause-counts g c = subst (λ (m : Machine). AreCounts m.design c.args.counts) (sym c.processes.invariant.machine) c.requires.counts

pub processes-preserved : goal.processes-preserved
unfolding stands-processes
processes-preserved g c =
    let inv = c.processes.invariant in
    let old = state_of c.args.runner.now in
    let now = state_of c.processes.runner in
    let new = state_of c.follow_process.new.runner in
    let process = c.processes.number in
    record {
      machine = c.in_ok-follow_process.ensures.machine ∙ inv.machine;
      put = λ of.
          let stands = stands-processes (machine_of c.args.runner.now).design (machine_of c.processes.runner).design (ap (λ (m : Machine). m.design) inv.machine)
          (g.S.ShownState.shows c.args.good.now) (processes_below process of.good) old now of (inv.put of) in
          processes-then (processes_below process of.good) (processes_among (process ∷ []) of.good) (processes_below (process + 1) of.good) old now new
          (λ other own. below-then process other own (process_at of.good other)) (inv.put of) (c.in_ok-follow_process.ensures.state stands);
      whole = c.in_ok-follow_process.ensures.whole;
    }

pub returns-clause-state : goal.returns-clause-state
returns-clause-state g c = λ of.
    let all : c.processes.number ≡ c.args.counts.processes = omega (arith, c.processes-test.false, c.processes.auto.number-end) in
    subst (λ (n : ℕ). ProcessesArePut (processes_below n of.good) (state_of c.args.runner.now) (state_of c.processes.runner)) all (c.processes.invariant.put of)
