-- What the accesses of a machine's log are: held entries, what its events access, and settlings of wild net pieces.
use Rattle.std.proofs.Common.{◌≡◌, ℕ, List, [], Bool, true, false, ◌&&◌, sym, subst, ◌∙◌, ◌⊎◌, inl, inr}
use Rattle.std.specs.Prelude.{Some, None, slice_get}
use Rattle.vf_base.specs.Lists.{AllHold}
use Rattle.v_design.specs.Trees.{Entry}
use Rattle.v_design.specs.Designs.{Machine}
use Rattle.v_design.specs.States.{State, Event}
use Rattle.v_design.specs.Accesses.{AccessAct, Holding, Settling, ObjectAccess}
use Rattle.v_design.specs.Accesses.{held_accesses}
use Rattle.v_design.specs.Logs.{LoggedEvent, PhaseAccess, phase_changes, counts, log_accesses, orders_others}
use Rattle.v_design.specs.PhaseLogs.{NotedEvent, log_of}
use Rattle.block_filter.specs.Blocks.{all_accesses}
use Rattle.free_objects.specs.FreeObjects.{is_wild_net}
use Rattle.order_laws.proofs.Conflicts.{In}
use Rattle.order_laws.proofs.RunStates.{state_at}
use Rattle.block_filter.proofs.Places.{all-in}
use Rattle.block_filter.proofs.Counted.{IsSettling, IsOfEvent, counted-back, log-back}
use Rattle.block_filter.proofs.Entries.{entries, log_entries, entry_back, local-access, held-holds}
use Rattle.free_objects.proofs.EventAccesses.{of-event}

-- The accesses of a log

pub data IsAccess (machine : Machine) (state : State) (events : List Event) (access : PhaseAccess) : Type 0 where
  -- a held entry
  IsHeld : (none : access.event ≡ None) (held : In access.access (held_accesses machine state)) (entry : Entry) (act : access.access.act ≡ Holding entry) → IsAccess machine state events access
  -- what an event accesses
  IsRaw : (number : ℕ) (x : LoggedEvent) (at : access.event ≡ Some number) (stands : slice_get (entries machine [] state events) number ≡ Some x) (among : In access.access x.accesses)
      (act : orders_others access.access.act ≡ true) (counted : counts machine.design (phase_changes machine.design (log_of machine state events)) access.access ≡ true) →
      IsAccess machine state events access
  -- a settling
  Settles : (act : access.access.act ≡ Settling) (wild : is_wild_net machine.design (log_of machine state events) access.access.object ≡ true) → IsAccess machine state events access

pub access-is : (machine : Machine) (state : State) (events : List Event) (access : PhaseAccess) → In access (log_accesses machine.design (log_of machine state events)) →
    IsAccess machine state events access
access-is machine state events access i = elim (log-back machine.design (log_of machine state events) access i) [
  | inl h ↦ (let r = held-holds machine state access.access h.1 in IsHeld h.0 h.1 r.0 r.1)
  | inr e ↦ of_event e
      (counted-back machine.design (phase_changes machine.design (log_of machine state events)) e.event.accesses access.access e.counted)
]
  where
    of_event : (e : IsOfEvent machine.design (log_of machine state events) access) →
        (In access.access e.event.accesses × (counts machine.design (phase_changes machine.design (log_of machine state events)) access.access ≡ true))
        ⊎ IsSettling machine.design (phase_changes machine.design (log_of machine state events)) e.event.accesses access.access → IsAccess machine state events access
    of_event e (inl c) =
        let stands : slice_get (entries machine [] state events) e.number ≡ Some e.event = subst (λ es. slice_get es e.number ≡ Some e.event) (log_entries machine state events) e.stands in
        let p = entry_back machine [] state events e.number e.event stands in
        IsRaw e.number e.event e.at stands c.0
        (of-event machine p.2.writer p.2.line (state_at machine state events e.number) p.0 access.access (subst (λ xs. In access.access xs) p.2.accesses c.0)).orders c.1
    of_event e (inr s) = Settles s.act (λ i. s.piece i && s.wild i)

-- a test of what some events access, by themselves, holds of them behind earlier ones
pub tested : (test : ℕ → AccessAct → Bool) (machine : Machine) (earlier : List NotedEvent) (state : State) (events : List Event) (k : ℕ) (x : LoggedEvent) (access : ObjectAccess) →
    AllHold (λ (a : ObjectAccess). test a.object a.act ≡ false) (all_accesses (log_of machine state events)) → slice_get (entries machine earlier state events) k ≡ Some x →
    In access x.accesses → test access.object access.act ≡ false
tested test machine earlier state events k x access all ex i =
    let o = local-access machine earlier state events k x access ex i in
    (λ j. test (sym o.3 j) (sym o.2 j)) ∙ all-in (λ (a : ObjectAccess). test a.object a.act ≡ false) (all_accesses (log_of machine state events)) o.0 all o.1
