-- The two accesses of a race: one of them is a write or a settling, and both are of one object.
use Rattle.std.proofs.Common.{◌≡◌, ℕ, ◌<◌, Bool, true, not, ◌&&◌, [], length, sym, subst}
use Rattle.std.specs.Prelude.{None, nat_eq}
use Rattle.std.proofs.lemmas.Bool.{eqb-true}
use Rattle.vf_base.specs.Base.{ReportedPair}
use Rattle.v_design.specs.Designs.{FlatDesign, Machine, good_machine, faulty_machine}
use Rattle.v_design.specs.States.{start}
use Rattle.v_design.specs.Accesses.{AccessAct, Reading, Writing, Awaiting, Ending, Holding, Settling}
use Rattle.v_design.specs.Logs.{LoggedPhase, acts_clash, access_orders, log_accesses}
use Rattle.v_design.specs.PhaseLogs.{log_of}
use Rattle.v_design.specs.Grades.{Raced, cut}
use Rattle.v_design.specs.WellFormed.{KeepsRules}
use Rattle.v_design.specs.Laws.{GradesHold, NamesConflict, phases_at}
use Rattle.vf_base.specs.declared.finding.Side.TheVariants.{Good, Faulty}
use Rattle.race_laws.specs.Races.{NamesParts, RacesNameParts}
use Rattle.race_laws.proofs.Lists.{filtered, at_place}
use Rattle.race_laws.proofs.Named.{IsObject, and-parts}
use Rattle.race_laws.proofs.Logs.{IsActOf, IsOfParts, IsNumberedOf}
use Rattle.race_laws.proofs.Runs.{IsPhaseOf, run-of}

clash-of : (design : FlatDesign) (object : ℕ) (one other : AccessAct) → acts_clash object one other ≡ true → IsActOf design one object → IsActOf design other object → object < length design.objects
clash-of design object Reading Reading e h i = cc
clash-of design object Reading (Writing old new) e h i = i
clash-of design object Reading (Awaiting entry) e h i = cc
clash-of design object Reading (Ending entry) e h i = cc
clash-of design object Reading (Holding entry) e h i = cc
clash-of design object Reading Settling e h i = i
clash-of design object (Writing old new) other e h i = h
clash-of design object (Awaiting entry) Reading e h i = cc
clash-of design object (Awaiting entry) (Writing old new) e h i = i
clash-of design object (Awaiting entry) (Awaiting second) e h i = cc
clash-of design object (Awaiting entry) (Ending second) e h i = cc
clash-of design object (Awaiting entry) (Holding second) e h i = cc
clash-of design object (Awaiting entry) Settling e h i = i
clash-of design object (Ending entry) Reading e h i = cc
clash-of design object (Ending entry) (Writing old new) e h i = i
clash-of design object (Ending entry) (Awaiting second) e h i = cc
clash-of design object (Ending entry) (Ending second) e h i = cc
clash-of design object (Ending entry) (Holding second) e h i = cc
clash-of design object (Ending entry) Settling e h i = i
clash-of design object (Holding entry) Reading e h i = cc
clash-of design object (Holding entry) (Writing old new) e h i = i
clash-of design object (Holding entry) (Awaiting second) e h i = cc
clash-of design object (Holding entry) (Ending second) e h i = cc
clash-of design object (Holding entry) (Holding second) e h i = cc
clash-of design object (Holding entry) Settling e h i = i
clash-of design object Settling other e h i = h

-- a conflict that a legal run shows names parts of the design
conflict-of : (machine : Machine) (pair : ReportedPair) → KeepsRules machine.design → NamesConflict machine pair → NamesParts machine.design pair.first × NamesParts machine.design pair.second
conflict-of machine pair rules h =
    subst (λ (p : ReportedPair). NamesParts machine.design p.first × NamesParts machine.design p.second) (sym h.named)
    (record { object = there; process = one.process }, record { object = subst (IsObject machine.design) same there; process = other.process })
  where
    phase : IsPhaseOf machine h.phase
    phase =
        at_place (IsPhaseOf machine) (phases_at machine pair.time h.moves)
        (filtered (IsPhaseOf machine) _ (cut machine None (start machine) [] (start machine) h.moves) (run-of machine pair.time h.moves h.final rules h.legal.leads)) h.number h.phase h.stands

    one : IsOfParts machine.design h.first.access
    one = at_place (IsNumberedOf machine.design) (log_accesses machine.design (log_of machine h.phase.begins h.phase.events)) phase h.earlier h.first h.first_stands

    other : IsOfParts machine.design h.second.access
    other = at_place (IsNumberedOf machine.design) (log_accesses machine.design (log_of machine h.phase.begins h.phase.events)) phase h.later h.second h.second_stands

    log : LoggedPhase
    log = log_of machine h.phase.begins h.phase.events

    equal : Bool
    equal = nat_eq h.first.access.object h.second.access.object

    clash : Bool
    clash = acts_clash h.first.access.object h.first.access.act h.second.access.act

    first_free : Bool
    first_free = not (access_orders log h.first h.second)

    parts : (equal ≡ true) × (clash ≡ true)
    parts = and-parts equal clash (and-parts (equal && clash) first_free (and-parts (equal && clash && first_free) (not (access_orders log h.second h.first)) h.conflicts).0).0

    same : h.first.access.object ≡ h.second.access.object
    same = eqb-true h.first.access.object h.second.access.object parts.0

    there : h.first.access.object < length machine.design.objects
    there =
        clash-of machine.design h.first.access.object h.first.access.act h.second.access.act parts.1 one.object
        (subst (IsActOf machine.design h.second.access.act) (sym same) other.object)

pub races_name_parts : GradesHold → RacesNameParts
races_name_parts law design plan fault Good pair rules planned e = conflict-of (good_machine design) pair rules (law design plan fault (Raced Good pair) rules planned e)
races_name_parts law design plan fault Faulty pair rules planned e = conflict-of (faulty_machine design fault) pair rules (law design plan fault (Raced Faulty pair) rules planned e)
