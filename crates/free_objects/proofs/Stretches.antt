-- What some events don't access, from what each stretch of them doesn't.
use Rattle.std.proofs.Common.{◌≡◌, ℕ, zero, suc, List, [], ◌∷◌, ◌++◌, Bool, false, sym, ap, subst, ◌∙◌, inl, inr}
use Rattle.std.specs.Prelude.{Some, slice_get}
use Rattle.v_design.specs.Designs.{FlatDesign, Machine, StuckAt, good_machine, faulty_machine}
use Rattle.v_design.specs.States.{State, Event, after, found_or}
use Rattle.v_design.specs.Runs.{happened}
use Rattle.v_design.specs.Accesses.{AccessAct, ObjectAccess, accesses_of}
use Rattle.v_design.specs.Logs.{LoggedEvent}
use Rattle.v_design.specs.PhaseLogs.{log_of}
use Rattle.copy_laws.specs.QuietPhases.{DoesAlike, AllDoAlike}
use Rattle.block_filter.specs.Blocks.{all_accesses}
use Rattle.free_objects.specs.Stretches.{NonePasses, StretchesJoin, AlikeStretchesDo}
use Rattle.order_laws.proofs.Conflicts.{In}
use Rattle.order_laws.proofs.Notes.{new_notes}
use Rattle.order_laws.proofs.RunStates.{state_at}
use Rattle.block_filter.proofs.Places.{get-parts, all-from_in}
use Rattle.block_filter.proofs.Entries.{entries, entries-append, entry_at, entry_back, any_writer, StandsAt, phase-access}
use Rattle.free_objects.proofs.Raw.{tested}

-- a test that no access of the entries passes
from-entries : (test : ℕ → AccessAct → Bool) (machine : Machine) (state : State) (events : List Event) →
    ((k : ℕ) (x : LoggedEvent) (access : ObjectAccess) → slice_get (entries machine [] state events) k ≡ Some x → In access x.accesses → test access.object access.act ≡ false) →
    NonePasses test machine state events
from-entries test machine state events h =
    all-from_in (λ (access : ObjectAccess). test access.object access.act ≡ false) (all_accesses (log_of machine state events))
    (λ access i.
    let p : StandsAt (entries machine [] state events) access = phase-access machine [] state events access i in
    (λ k. test (sym p.same_object k) (sym p.same_act k)) ∙ h p.place p.event p.other p.stands p.among)

pub stretches_join : StretchesJoin
stretches_join test machine state before after a b = from-entries test machine state (before ++ after) each
  where
    each : (k : ℕ) (x : LoggedEvent) (access : ObjectAccess) → slice_get (entries machine [] state (before ++ after)) k ≡ Some x → In access x.accesses → test access.object access.act ≡ false
    each k x access e i = elim
        (get-parts (entries machine [] state before) (entries machine (new_notes machine [] state before) (happened machine state before) after) k x
        (subst (λ es. slice_get es k ≡ Some x) (entries-append machine [] state before after) e)) [
          | inl there ↦ tested test machine [] state before k x access a there i
          | inr r ↦ tested test machine (new_notes machine [] state before) (happened machine state before) after r.0 x access b r.2 i
        ]

-- an event that does alike has the accesses that the good machine's has
does-alike-at : (design : FlatDesign) (fault : StuckAt) (good faulty : State) (events : List Event) (k : ℕ) (event : Event) → AllDoAlike design fault good faulty events →
    slice_get events k ≡ Some event →
    DoesAlike design fault (state_at (good_machine design) good events k) (state_at (faulty_machine design fault) faulty events k) event
does-alike-at design fault good faulty [] k event d e = cc
does-alike-at design fault good faulty (first ∷ events) zero event d e = subst (λ ev. DoesAlike design fault good faulty ev) (ap (found_or first) e) d.0
does-alike-at design fault good faulty (first ∷ events) (suc k) event d e =
    does-alike-at design fault (after (good_machine design) good first) (after (faulty_machine design fault) faulty first) events k event d.1 e

pub alike_stretches_do : AlikeStretchesDo
alike_stretches_do test design fault good faulty events d none = from-entries test (faulty_machine design fault) faulty events each
  where
    each : (k : ℕ) (x : LoggedEvent) (access : ObjectAccess) → slice_get (entries (faulty_machine design fault) [] faulty events) k ≡ Some x → In access x.accesses →
        test access.object access.act ≡ false
    each k x access e i =
        let p = entry_back (faulty_machine design fault) [] faulty events k x e in
        let z = entry_at (good_machine design) [] good events k p.0 p.1 in
        let same : accesses_of (good_machine design) p.2.writer p.2.line (state_at (good_machine design) good events k) p.0
        ≡ accesses_of (faulty_machine design fault) p.2.writer p.2.line (state_at (faulty_machine design fault) faulty events k) p.0 =
        (does-alike-at design fault good faulty events k p.0 d p.1).accesses p.2.writer p.2.line in
        let o = any_writer (good_machine design) p.2.writer p.2.line z.2.writer z.2.line (state_at (good_machine design) good events k) p.0 access
        (subst (λ xs. In access xs) (p.2.accesses ∙ sym same) i) in
        (λ l. test (sym o.3 l) (sym o.2 l)) ∙ tested test (good_machine design) [] good events k z.0 o.0 none z.1 (subst (λ xs. In o.0 xs) (sym z.2.accesses) o.1)
