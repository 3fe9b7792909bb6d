-- Net pieces that are only written: a wild one's writes don't count, and any other changes once at most.
use Rattle.std.proofs.Common.{◌≡◌, ℕ, zero, suc, ◌≤◌, List, [], Bool, true, false, not, ◌&&◌, refl, sym, ap, subst, ◌∙◌, ◌⊎◌, inl, inr, arith, sum_by}
use Rattle.std.specs.Prelude.{Some, slice_get, nat_eq}
use Rattle.std.proofs.lemmas.Bool.{cases_Bool, cases_order}
use Rattle.vf_base.specs.Lists.{has}
use Rattle.v_design.specs.Designs.{Machine}
use Rattle.v_design.specs.Paths.{paths, net_pieces, class_of_paths, is_wild_class, is_wild}
use Rattle.v_design.specs.Assignments.{ValueUpdate}
use Rattle.v_design.specs.States.{State, Event, after}
use Rattle.v_design.specs.Accesses.{AccessAct, Reading, Writing, Awaiting, Ending, Holding, Settling, ObjectAccess}
use Rattle.v_design.specs.Logs.{LoggedEvent, is_write, phase_changes, orders}
use Rattle.v_design.specs.PhaseLogs.{log_of}
use Rattle.block_filter.specs.Blocks.{all_accesses}
use Rattle.free_objects.specs.FreeObjects.{is_wild_net, WrittenNetsAreFree}
use Rattle.free_objects.specs.Stretches.{is_reading, IsOnlyWritten}
use Rattle.order_laws.proofs.Conflicts.{In}
use Rattle.order_laws.proofs.PathLaws.{true-false}
use Rattle.order_laws.proofs.Unaffected.{write_by}
use Rattle.order_laws.proofs.CountedChanges.{changed_in}
use Rattle.order_laws.proofs.CleanNets.{changes_have_bounds}
use Rattle.order_laws.proofs.WritersStay.{NotNet, bodies_clear, write-clear-of}
use Rattle.order_laws.proofs.RunStates.{state_at, at_next}
use Rattle.order_laws.proofs.Runs.{IsRun, clear_at, changes_there, change_count, changes_twice}
use Rattle.block_filter.proofs.Places.{all-more}
use Rattle.block_filter.proofs.Reaches.{orders-self}
use Rattle.block_filter.proofs.Entries.{entries, entry_back}
use Rattle.free_objects.proofs.EventAccesses.{of-event}
use Rattle.free_objects.proofs.Raw.{tested}
use Rattle.free_objects.proofs.Sole.{of-object, AreOrdered, ordered-free, unread_nets_are_free}

only-unread : (b : Bool) (act : AccessAct) → (b && not (is_write act)) ≡ false → (b && is_reading act) ≡ false
only-unread false act e = refl
only-unread true Reading e = cc
only-unread true (Writing old new) e = refl
only-unread true (Awaiting entry) e = cc
only-unread true (Ending entry) e = refl
only-unread true (Holding entry) e = refl
only-unread true Settling e = refl

not-false : (b : Bool) → not b ≡ false → b ≡ true
not-false true e = refl
not-false false e = cc

tame-once : (n : ℕ) → is_wild_class (class_of_paths n) ≡ false → n ≤ 1
tame-once zero e = omega arith
tame-once (suc zero) e = omega arith
tame-once (suc (suc n)) e = cc

module _ (machine : Machine) (state : State) (events : List Event) (net : ℕ) (run : IsRun machine state events) (piece : has (net_pieces machine.design) net ≡ true)
    (only : IsOnlyWritten machine state events net) where
  -- an event that accesses the net piece changes it
  net-changes : (n : ℕ) (x : LoggedEvent) (a : ObjectAccess) → slice_get (entries machine [] state events) n ≡ Some x → In a x.accesses → a.object ≡ net →
      changes_there machine state events net n ≡ true
  net-changes n x a e i same =
      let p = entry_back machine [] state events n x e in
      ap (λ s. changed_in (state_at machine state events n) s net) (at_next machine state events n p.0 p.1)
      ∙ go p.0
      ((of-event machine p.2.writer p.2.line (state_at machine state events n) p.0 a (subst (λ xs. In a xs) p.2.accesses i)).write
      (not-false (is_write a.act) (of-object net a.object (not (is_write a.act)) same (tested (λ o act. nat_eq o net && not (is_write act)) machine [] state events n x a only e i))))
    where
      go : (event : Event) →
          ((u : ValueUpdate) × (write_by machine (state_at machine state events n) event ≡ Some u) × (a.object ≡ u.object))
          ⊎ (changed_in (state_at machine state events n) (after machine (state_at machine state events n) event) a.object ≡ true) →
          changed_in (state_at machine state events n) (after machine (state_at machine state events n) event) net ≡ true
      go event (inl w) =
          true-false (has (net_pieces machine.design) net) piece
          (ap (has (net_pieces machine.design)) (sym same ∙ w.2)
          ∙ write-clear-of (NotNet machine) machine (state_at machine state events n) event w.0 (bodies_clear machine run.rules) (clear_at machine state events n run) w.1)
      go event (inr c) = ap (changed_in (state_at machine state events n) (after machine (state_at machine state events n) event)) (sym same) ∙ c

  -- a tame net piece changes once at most
  net-once : is_wild_net machine.design (log_of machine state events) net ≡ false → (n m : ℕ) → changes_there machine state events net n ≡ true →
      changes_there machine state events net m ≡ true → n ≡ m
  net-once tame n m t u = elim (cases_order n m) [
    | inl e ↦ e
    | inr (inl below) ↦ absurd (omega (arith, changes_twice machine state events net n m below t u, few))
    | inr (inr above) ↦ absurd (omega (arith, changes_twice machine state events net m n above u t, few))
  ]
    where
      few : change_count machine state events net ≤ 1
      few =
          let bound : change_count machine state events net ≤ sum_by (λ source. paths machine.design source net) (phase_changes machine.design (log_of machine state events)) =
          changes_have_bounds machine state events net run.rules run.begins run.possible in
          let one : sum_by (λ source. paths machine.design source net) (phase_changes machine.design (log_of machine state events)) ≤ 1 =
          tame-once (sum_by (λ source. paths machine.design source net) (phase_changes machine.design (log_of machine state events)))
          (ap (λ b. b && is_wild machine.design (phase_changes machine.design (log_of machine state events)) net) (sym piece) ∙ tame) in
          omega (arith, bound, one)

  net-ordered : is_wild_net machine.design (log_of machine state events) net ≡ false → AreOrdered machine state events net
  net-ordered tame n m x y a b ex i same ey j other =
      inl
      (subst (λ k. orders (log_of machine state events) n k ≡ true) (net-once tame n m (net-changes n x a ex i same) (net-changes m y b ey j other))
      (orders-self (log_of machine state events) n))

pub written_nets_are_free : WrittenNetsAreFree
written_nets_are_free machine state events net rules begins possible piece only held = elim (cases_Bool (is_wild_net machine.design (log_of machine state events) net)) [
  | inl wild ↦ unread_nets_are_free machine state events net wild
      (all-more (λ (a : ObjectAccess). (nat_eq a.object net && not (is_write a.act)) ≡ false) (λ (a : ObjectAccess). (nat_eq a.object net && is_reading a.act) ≡ false)
      (all_accesses (log_of machine state events)) (λ a e. only-unread (nat_eq a.object net) a.act e) only) held
  | inr tame ↦ ordered-free machine state events net tame
      (net-ordered machine state events net (record { rules = rules; begins = begins; possible = possible }) piece only tame)
]
