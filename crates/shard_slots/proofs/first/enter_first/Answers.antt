-- What starts in lockstep may begin the first slot.
use Rattle.std.proofs.Common.{◌≡◌, ◌+◌, ℕ, sym, ap, subst, ◌∙◌, arith}
use Rattle.std.specs.Prelude.{Contains, Some}
use Rattle.v_design.specs.Designs.{FlatDesign, StuckAt, good_machine}
use Rattle.v_design.specs.Plain.{fault_of}
use Rattle.v_design.specs.Sites.{sites_of}
use Rattle.v_design.specs.States.{start}
use Rattle.v_design.specs.declared.plan.Fault.{Fault}
use Rattle.copy_state.specs.Kept.{CopyKept}
use Rattle.start_copy.specs.Rooms.{IsRoomFor}
use Rattle.start_copy.specs.Start.{KeepsStart}
use Rattle.copy_lockstep.specs.lockstep_slot.Beside.{BeginsSlot}
use Rattle.copy_lockstep.proofs.window_strobes.Knowing.{design-rules}
use Rattle.shard_slots.proofs.Starting.{all-get, may-first}
use Rattle.shard_slots.proofs.first.enter_first.Goals as goal

pub listed_fault-fault-requires-after_bounds : goal.listed_fault-fault-requires-after_bounds
listed_fault-fault-requires-after_bounds g c κs within = c.requires.fault

pub start_copy-requires-clause-site : goal.start_copy-requires-clause-site
start_copy-requires-clause-site g c =
    subst (λ (d : FlatDesign). Contains (sites_of d) (fault_of c.listed_fault-fault.result).site) (sym c.requires.room.belongs)
    (all-get (λ (f : StuckAt). Contains (sites_of g.N.World.design) f.site) g.N.World.plan.faults c.args.own.now.copy.fault (fault_of c.listed_fault-fault.result)
    c.plan-plan.ensures.fits.faults c.listed_fault-fault.ensures)

pub start_copy-requires-clause-good : goal.start_copy-requires-clause-good
start_copy-requires-clause-good g c = c.requires.good ∙ ap (λ (d : FlatDesign). (start (good_machine d)).values) (sym c.requires.room.belongs)

pub start_copy-requires-clause-room : goal.start_copy-requires-clause-room
start_copy-requires-clause-room g c = subst (λ (d : FlatDesign). IsRoomFor d c.args.room.now) (sym c.requires.room.belongs) c.requires.room

pub start_copy-requires-clause-empty : goal.start_copy-requires-clause-empty
start_copy-requires-clause-empty g c = ap (λ (k : CopyKept). k.values) c.new-copy.ensures

pub enter_slot-requires-clause-slot : goal.enter_slot-requires-clause-slot
enter_slot-requires-clause-slot g c κs within = omega (arith, c.requires.first, c.requires.slot)

pub enter_slot-requires-clause-copy : goal.enter_slot-requires-clause-copy
enter_slot-requires-clause-copy g c κs within =
    let design = g.N.World.design in
    let rules = design-rules design c.design-design.result.now c.design-design.ensures.world in
    let fault = fault_of c.listed_fault-fault.result in
    let keeps = subst (λ (k : CopyKept). KeepsStart design fault k c.start_copy.new.copy) c.new-copy.ensures
    (subst (λ (d : FlatDesign). KeepsStart d fault c.new-copy.result c.start_copy.new.copy) c.requires.room.belongs c.in_ok-start_copy.ensures.keeps) in
    may-first c.starts_in_lockstep.ensures c.good_run_goes_on.ensures design g.N.World.plan rules c.requires.more fault _ (c.args.view.now.window.now.before + 0) c.start_copy.new.copy keeps
    (omega (arith, c.requires.first))

pub returns-in-None-clause-enters : goal.returns-in-None-clause-enters
returns-in-None-clause-enters g c = record {
  listed = c.listed_fault-fault.ensures ∙ ap (λ (f : Fault). Some (fault_of f)) (sym c.rests.ensures.fault);
  tried = c.rests.ensures.none;
  place = λ goes. absurd (let no = c.rests.ensures.rests in cc);
  states = λ goes. absurd (let no = c.rests.ensures.rests in cc);
  begins = λ goes. absurd (let no = c.rests.ensures.rests in cc);
}

pub returns-in-None-clause-room : goal.returns-in-None-clause-room
returns-in-None-clause-room g c = subst (λ (d : FlatDesign). IsRoomFor d c.start_copy.new.room) c.requires.room.belongs c.in_ok-start_copy.ensures.room

pub returns-clause-enters : goal.returns-clause-enters
returns-clause-enters g c =
    let begins = c.in_ok-found.ensures.begins c.in-Some.one c.in-Some.is in
    let rest = c.in_ok-found.ensures.rest c.in-Some.one c.in-Some.is in
    let kept : c.start_copy.new.copy.fault ≡ c.new-copy.result.fault = ap (λ (k : CopyKept). k.fault) c.in_ok-start_copy.ensures.keeps.rest in
    record {
      listed = c.listed_fault-fault.ensures;
      tried = begins.untried;
      place = λ goes. rest.0 ∙ kept ∙ ap (λ (k : CopyKept). k.fault) c.new-copy.ensures ∙ c.fault-number.ensures;
      states = λ goes. rest.1;
      begins = λ goes. subst (λ (n : ℕ). BeginsSlot g.N.World.design g.N.World.plan (fault_of c.listed_fault-fault.result) n c.args.view.now.window.now.through 0 c.in-Some.one) c.requires.first begins;
    }

pub returns-clause-room : goal.returns-clause-room
returns-clause-room g c = subst (λ (d : FlatDesign). IsRoomFor d c.start_copy.new.room) c.requires.room.belongs c.in_ok-start_copy.ensures.room
