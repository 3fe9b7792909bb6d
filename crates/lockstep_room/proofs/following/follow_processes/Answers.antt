-- Process by process.
use Rattle.std.proofs.Common.{ℕ, List, [], ◌∷◌, ◌++◌, map, get_or, take, refl, sym, ap, subst, ◌∙◌}
use Rattle.std.proofs.lemmas.List.{take_all}
use Rattle.vf_base.specs.Base.{process_number}
use Rattle.vf_base.specs.declared.ids.ProcId.{ProcId}
use Rattle.v_design.specs.Designs.{Machine}
use Rattle.v_design.specs.States.{process_at}
use Rattle.lockstep_exchange.specs.block_events.Runners.{machine_of, state_of}
use Rattle.lockstep_exchange.specs.Putting.{ProcessesArePut}
use Rattle.lockstep_exchange.proofs.Puts.{processes-none}
use Rattle.lockstep_room.specs.Rooms.{AreCounts, processes_among}
use Rattle.lockstep_room.proofs.Standing.{among-then, map-more, processes-then, stands-processes}
use Rattle.lockstep_room.proofs.following.follow_processes.Goals as goal

abbrev none : ProcId
none = record { 0 = 0 }

pub processes-init : goal.processes-init
processes-init g c = record {
  machine = refl;
  put = λ of. processes-none (processes_among [] of.good) (state_of c.args.runner.now) (λ process. refl);
  whole = c.requires.whole;
}

pub follow_process-requires-clause-design : goal.follow_process-requires-clause-design
follow_process-requires-clause-design g c = c.requires.design ∙ sym (ap (λ (m : Machine). m.design) c.processes.invariant.machine)

pub follow_process-requires-clause-counts : goal.follow_process-requires-clause-counts
follow_process-requires-clause-counts g c = subst (λ (m : Machine). AreCounts m.design c.args.counts) (sym c.processes.invariant.machine) c.requires.counts

pub follow_process-requires-clause-stands : goal.follow_process-requires-clause-stands
follow_process-requires-clause-stands g c =
    let inv = c.processes.invariant in
    stands-processes (machine_of c.args.runner.now).design (machine_of c.processes.runner).design (ap (λ (m : Machine). m.design) inv.machine) (g.S.ShownState.shows c.args.good.now)
    (processes_among (map process_number (take c.processes.place c.args.processes.now)) c.requires.stands.good) (state_of c.args.runner.now) (state_of c.processes.runner) c.requires.stands
    (inv.put c.requires.stands)

pub processes-preserved : goal.processes-preserved
unfolding stands-processes
processes-preserved g c =
    let inv = c.processes.invariant in
    let old = state_of c.args.runner.now in
    let now = state_of c.processes.runner in
    let new = state_of c.follow_process.new.runner in
    let processes = c.args.processes.now in
    let process = process_number (get_or processes c.processes.place none) in
    let before = map process_number (take c.processes.place processes) in
    record {
      machine = c.in_ok-follow_process.ensures.machine ∙ inv.machine;
      put = λ of.
          let stands = stands-processes (machine_of c.args.runner.now).design (machine_of c.processes.runner).design (ap (λ (m : Machine). m.design) inv.machine)
          (g.S.ShownState.shows c.args.good.now) (processes_among before of.good) old now of (inv.put of) in
          subst (λ (l : List ℕ). ProcessesArePut (processes_among l of.good) old new) (sym (map-more process_number processes c.processes.place none c.processes-test.true))
          (processes-then (processes_among before of.good) (processes_among (process ∷ []) of.good) (processes_among (before ++ process ∷ []) of.good) old now new
          (λ other own. among-then before process other own (process_at of.good other)) (inv.put of) (c.in_ok-follow_process.ensures.state stands));
      whole = c.in_ok-follow_process.ensures.whole;
    }

pub returns-clause-state : goal.returns-clause-state
returns-clause-state g c = λ of.
    subst (λ (l : List ProcId). ProcessesArePut (processes_among (map process_number l) of.good) (state_of c.args.runner.now) (state_of c.processes.runner))
    (take_all c.processes.place c.args.processes.now c.processes-test.false) (c.processes.invariant.put of)
