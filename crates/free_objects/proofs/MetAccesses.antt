-- What is left of a met object, where nothing writes it any more.
use Rattle.std.proofs.Common.{◌≡◌, ℕ, zero, suc, ◌+◌, ◌<◌, ◌≤◌, List, [], ◌∷◌, ◌++◌, map, length, true, false, refl, sym, ap, subst, ◌∙◌, ◌⊎◌, inl, inr, arith}
use Rattle.std.specs.Prelude.{Some, None, slice_get, nat_eq}
use Rattle.std.proofs.lemmas.Bool.{cases_lt}
use Rattle.std.proofs.lemmas.Option.{slice_get_within}
use Rattle.std.proofs.lemmas.List.{length-append}
use Rattle.vf_base.specs.Lists.{joined}
use Rattle.v_design.specs.Designs.{Machine}
use Rattle.v_design.specs.States.{State, Event, found_or}
use Rattle.v_design.specs.Runs.{happened}
use Rattle.v_design.specs.Accesses.{ObjectAccess}
use Rattle.v_design.specs.Logs.{LoggedEvent, PhaseAccess, log_accesses, conflict}
use Rattle.v_design.specs.PhaseLogs.{NotedEvent, log_of}
use Rattle.copy_laws.specs.Filter.{IsIn}
use Rattle.block_filter.specs.Likes.{Marks}
use Rattle.block_filter.specs.Blocks.{BlockPair, Alike, Unlike, faulty_events, faulty_phase}
use Rattle.block_filter.specs.Suffice.{unlike_flags}
use Rattle.free_objects.specs.FreeObjects.{is_wild_net}
use Rattle.free_objects.specs.MetObjects.{UnlikesLeave, MetReadsAreFree}
use Rattle.order_laws.proofs.Conflicts.{In}
use Rattle.order_laws.proofs.Notes.{new_notes}
use Rattle.order_laws.proofs.SwappedRuns.{length-map}
use Rattle.block_filter.proofs.Places.{get-parts, joined-append, from_is_in}
use Rattle.block_filter.proofs.Entries.{entries, length-entries, entries-append}
use Rattle.free_objects.proofs.Raw.{IsAccess, IsHeld, IsRaw, Settles, access-is, tested}
use Rattle.free_objects.proofs.Sole.{other-object, not-settled, later_reads_are_free}

length-flags : (block : BlockPair) → length (unlike_flags block) ≡ length (faulty_events block)
length-flags (Alike events) = length-map (λ (event : Event). false) events
length-flags (Unlike first good faulty) = length-map (λ (event : Event). true) (first ∷ faulty)

never : {A : Type 0} (events : List Event) (n : ℕ) → slice_get (map (λ (event : Event). false) events) n ≡ Some true → A
never [] n e = cc
never (event ∷ events) zero e = cc
never (event ∷ events) (suc n) e = never events n e

-- an event of a block with events of its own that leaves the object
left-here : {A : Type 0} (machine : Machine) (earlier : List NotedEvent) (state : State) (block : BlockPair) (blocks : List BlockPair) (object n : ℕ) (x : LoggedEvent) (access : ObjectAccess) →
    UnlikesLeave machine state (block ∷ blocks) object → slice_get (unlike_flags block) n ≡ Some true → slice_get (entries machine earlier state (faulty_events block)) n ≡ Some x →
    In access x.accesses → access.object ≡ object → A
left-here machine earlier state (Alike events) blocks object n x access u f e i same = never events n f
left-here machine earlier state (Unlike first good faulty) blocks object n x access u f e i same =
    other-object object access.object same (tested (λ o act. nat_eq o object) machine earlier state (first ∷ faulty) n x access u.0 e i)

left-later : (machine : Machine) (state : State) (block : BlockPair) (blocks : List BlockPair) (object : ℕ) → UnlikesLeave machine state (block ∷ blocks) object →
    UnlikesLeave machine (happened machine state (faulty_events block)) blocks object
left-later machine state (Alike events) blocks object u = u
left-later machine state (Unlike first good faulty) blocks object u = u.1

-- blocks with events of their own that leave an object have no event that accesses it
unlikes-left : {A : Type 0} (machine : Machine) (earlier : List NotedEvent) (state : State) (blocks : List BlockPair) (object n : ℕ) (x : LoggedEvent) (access : ObjectAccess) →
    UnlikesLeave machine state blocks object → slice_get (joined (map unlike_flags blocks)) n ≡ Some true → slice_get (entries machine earlier state (faulty_phase blocks)) n ≡ Some x →
    In access x.accesses → access.object ≡ object → A
unlikes-left machine earlier state [] object n x access u f e i same = cc
unlikes-left machine earlier state (block ∷ blocks) object n x access u f e i same =
    go (get-parts (unlike_flags block) (joined (map unlike_flags blocks)) n true f)
    (get-parts (entries machine earlier state (faulty_events block))
    (entries machine (earlier ++ new_notes machine earlier state (faulty_events block)) (happened machine state (faulty_events block)) (faulty_phase blocks)) n x
    (subst (λ es. slice_get es n ≡ Some x) (entries-append machine earlier state (faulty_events block) (faulty_phase blocks)) e))
    (λ k g h. unlikes-left machine (earlier ++ new_notes machine earlier state (faulty_events block)) (happened machine state (faulty_events block)) blocks object k x access
    (left-later machine state block blocks object u) g h i same)
  where
    flags-long : length (unlike_flags block) ≡ length (faulty_events block)
    flags-long = length-flags block

    entries-long : length (entries machine earlier state (faulty_events block)) ≡ length (faulty_events block)
    entries-long = length-entries machine earlier state (faulty_events block)

    go : {A : Type 0} →
        (slice_get (unlike_flags block) n ≡ Some true) ⊎ ((k : ℕ) × (n ≡ length (unlike_flags block) + k) × (slice_get (joined (map unlike_flags blocks)) k ≡ Some true)) →
        (slice_get (entries machine earlier state (faulty_events block)) n ≡ Some x)
        ⊎ ((k : ℕ) × (n ≡ length (entries machine earlier state (faulty_events block)) + k)
        × (slice_get
        (entries machine (earlier ++ new_notes machine earlier state (faulty_events block)) (happened machine state (faulty_events block)) (faulty_phase blocks)) k ≡ Some x)) →
        ((k : ℕ) → slice_get (joined (map unlike_flags blocks)) k ≡ Some true →
        slice_get (entries machine (earlier ++ new_notes machine earlier state (faulty_events block)) (happened machine state (faulty_events block)) (faulty_phase blocks)) k ≡ Some x → A) →
        A
    go (inl g) (inl h) rest = left-here machine earlier state block blocks object n x access u g h i same
    go (inl g) (inr h) rest =
        let b : n < length (unlike_flags block) = slice_get_within (unlike_flags block) n true g in
        absurd (omega (arith, b, h.1, flags-long, entries-long))
    go (inr g) (inl h) rest =
        let b : n < length (entries machine earlier state (faulty_events block)) = slice_get_within (entries machine earlier state (faulty_events block)) n x h in
        absurd (omega (arith, b, g.1, flags-long, entries-long))
    go (inr g) (inr h) rest =
        let at : g.0 ≡ h.0 = omega (arith, g.1, h.1, flags-long, entries-long) in
        rest g.0 g.2
        (subst
        (λ k. slice_get (entries machine (earlier ++ new_notes machine earlier state (faulty_events block)) (happened machine state (faulty_events block)) (faulty_phase blocks)) k ≡ Some x)
        (sym at) h.2)

length-joined : (blocks : List BlockPair) → length (joined (map unlike_flags blocks)) ≡ length (faulty_phase blocks)
length-joined [] = refl
length-joined (block ∷ blocks) =
    let a : length (unlike_flags block ++ joined (map unlike_flags blocks)) ≡ length (unlike_flags block) + length (joined (map unlike_flags blocks)) =
    length-append (unlike_flags block) (joined (map unlike_flags blocks)) in
    let b : length (faulty_events block ++ faulty_phase blocks) ≡ length (faulty_events block) + length (faulty_phase blocks) = length-append (faulty_events block) (faulty_phase blocks) in
    let c : length (unlike_flags block) ≡ length (faulty_events block) = length-flags block in
    let d : length (joined (map unlike_flags blocks)) ≡ length (faulty_phase blocks) = length-joined blocks in
    omega (arith, a, b, c, d)

module _ (machine : Machine) (marks : Marks) (state : State) (before after : List BlockPair) (object : ℕ)
    (tame : is_wild_net machine.design (log_of machine state (faulty_phase (before ++ after))) object ≡ false) (u : UnlikesLeave machine state before object) where
  phases : faulty_phase (before ++ after) ≡ faulty_phase before ++ faulty_phase after
  phases = joined-append faulty_events before after

  -- an access of the object in a block with events of its own stands behind the first blocks
  later : (access : PhaseAccess) (number : ℕ) → IsAccess machine state (faulty_phase (before ++ after)) access → access.access.object ≡ object → access.event ≡ Some number →
      slice_get (joined (map unlike_flags (before ++ after))) number ≡ Some true → length (faulty_phase before) ≤ number
  later access number (IsHeld none held entry act) same at f = let e : None ≡ Some number = sym none ∙ at in cc
  later access number (Settles act wild) same at f =
      not-settled machine (log_of machine state (faulty_phase (before ++ after))) object access.access.object tame same wild
  later access number (IsRaw place x at' stands among act counted) same at f = elim (cases_lt number (length (faulty_phase before))) [
    | inl less ↦ early less
    | inr more ↦ more
  ]
    where
      here : place ≡ number
      here = ap (found_or place) (sym at' ∙ at)

      early : number < length (faulty_phase before) → length (faulty_phase before) ≤ number
      early less =
          unlikes-left machine [] state before object number x access.access u
          (first-part (joined (map unlike_flags before)) (joined (map unlike_flags after)) number true
          (let l : length (joined (map unlike_flags before)) ≡ length (faulty_phase before) = length-joined before in omega (arith, less, l))
          (subst (λ l. slice_get l number ≡ Some true) (joined-append unlike_flags before after) f))
          (first-part (entries machine [] state (faulty_phase before))
          (entries machine (new_notes machine [] state (faulty_phase before)) (happened machine state (faulty_phase before)) (faulty_phase after)) number x
          (let l : length (entries machine [] state (faulty_phase before)) ≡ length (faulty_phase before) = length-entries machine [] state (faulty_phase before) in omega (arith, less, l))
          (subst (λ es. slice_get es number ≡ Some x)
          (ap (entries machine [] state) phases ∙ entries-append machine [] state (faulty_phase before) (faulty_phase after))
          (subst (λ n. slice_get (entries machine [] state (faulty_phase (before ++ after))) n ≡ Some x) here stands)))
          among same
        where
          first-part : {A : Type 0} (xs ys : List A) (n : ℕ) (y : A) → n < length xs → slice_get (xs ++ ys) n ≡ Some y → slice_get xs n ≡ Some y
          first-part [] ys n y b e = absurd (omega (arith, b))
          first-part (z ∷ xs) ys zero y b e = e
          first-part (z ∷ xs) ys (suc n) y b e = first-part xs ys n y (omega (arith, b)) e

pub met_reads_are_free : MetReadsAreFree
met_reads_are_free machine marks state before after object tame u unwritten first second i j same left =
    go (later machine marks state before after object tame u first left.one
    (access-is machine state (faulty_phase (before ++ after)) first (from_is_in first (log_accesses machine.design (log_of machine state (faulty_phase (before ++ after)))) i)) same
    left.first_event left.unlike)
  where
    phase : faulty_phase (before ++ after) ≡ faulty_phase before ++ faulty_phase after
    phase = joined-append faulty_events before after

    go : length (faulty_phase before) ≤ left.one → conflict (log_of machine state (faulty_phase (before ++ after))) first second ≡ false
    go b =
        ap (λ events. conflict (log_of machine state events) first second) phase
        ∙ later_reads_are_free machine state (faulty_phase before) (faulty_phase after) object
        (ap (λ events. is_wild_net machine.design (log_of machine state events) object) (sym phase) ∙ tame) unwritten first second left.one left.other
        (subst (λ events. IsIn first (log_accesses machine.design (log_of machine state events))) phase i)
        (subst (λ events. IsIn second (log_accesses machine.design (log_of machine state events))) phase j) same (sym left.same ∙ same) left.first_event left.second_event b
        (let n : left.one ≤ left.other = left.not_before in omega (arith, b, n))
