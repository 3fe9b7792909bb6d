-- The processes that some changes may make ready (IEEE 1364-2001, clause 9.7).
use Rattle.std.proofs.Common.{◌≡◌, ℕ, zero, suc, ◌+◌, ◌<◌, true, List, [], ◌∷◌, ◌++◌, length, map, get_or, take, refl, sym, ap, ◌∙◌, subst, arith}
use Rattle.std.specs.Prelude.{slice_get, ◌||◌}
use Rattle.std.specs.List.Sorted.{IsNonDecreasing, IsPermutation}
use Rattle.std.proofs.lemmas.List.Sorted.{Contains-permutation}
use Rattle.std.proofs.lemmas.List.{take_more, map_push}
use Rattle.std.proofs.lemmas.Bool.{or_left, or_right}
use Rattle.vf_base.specs.Lists.{AllHold, has}
use Rattle.v_design.specs.Trees.{Entry}
use Rattle.v_design.specs.Designs.{FlatDesign}
use Rattle.v_design.specs.Processes.{Activity, Ready, Waiting, Asleep, Postponed, Done}
use Rattle.v_design.specs.States.{found_or, idle_process, ProcessState}
use Rattle.v_design.specs.Accesses.{waiting_entries}
use Rattle.graph_order.specs.ListLaws.{has_place, has-get_or, has-append}
use Rattle.value_change.specs.Changes.{ObjectChange, matches_one, change_seen}
use Rattle.value_change.specs.declared.change.Change.{Change}
use Rattle.wait_index.specs.Waits.{IsIndexOf, waiters_of}
use Rattle.wait_index.specs.WaitLaws.{among-waiters}
use Rattle.process_table.specs.Waited.{IsWaitable, body_of, activity_entries, tasks_entries}
use Rattle.process_table.specs.WaitedLaws.{hold-left}
use Rattle.process_table.specs.Wakes.{Climbs, HasWoken, HasWaiters}
use Rattle.process_table.proofs.Matching.{matched-one, matched-some}

-- a list that ascends climbs
pub climbs-sorted : (numbers : List ℕ) → IsNonDecreasing numbers → Climbs numbers
climbs-sorted numbers rises low high le within = rises low high 0 le within

-- a list in another order has the same numbers
pub has-permuted : (old new : List ℕ) (n : ℕ) → IsPermutation old new → has old n ≡ true → has new n ≡ true
has-permuted old new n moved h =
    let place = has_place old n h in
    let there = Contains-permutation old new n moved (place.0, place.1, got old place.0 n 0 place.1 ∙ place.2) in
    subst (λ x. has new x ≡ true) there.2 (has-get_or new there.0 n there.1)
  where
    got : (xs : List ℕ) (k n d : ℕ) → k < length xs → get_or xs k n ≡ get_or xs k d
    got [] k n d low = absurd (omega (arith, low))
    got (x ∷ xs) zero n d low = refl
    got (x ∷ xs) (suc k) n d low = got xs k n d (omega (arith, low))

-- more numbers
weaker : (index : List (List ℕ)) (changes : List ObjectChange) (old new : List ℕ) → ((n : ℕ) → has old n ≡ true → has new n ≡ true) → HasWaiters index changes old → HasWaiters index changes new
weaker index [] old new more h = tt
weaker index (change ∷ changes) old new more h = ((λ n e. more n (h.0 n e)), weaker index changes old new more h.1)

pub waiters-permuted : (index : List (List ℕ)) (changes : List ObjectChange) (old new : List ℕ) → IsPermutation old new → HasWaiters index changes old → HasWaiters index changes new
waiters-permuted index changes old new moved h = weaker index changes old new (λ n e. has-permuted old new n moved e) h

pushed : {A : Type 0} (P : A → Type 0) (xs : List A) (x : A) → AllHold P xs → P x → AllHold P (xs ++ x ∷ [])
pushed P [] x h p = (p, tt)
pushed P (y ∷ ys) x h p = (h.0, pushed P ys x h.1 p)

-- one change more
pub waiters-more : (index : List (List ℕ)) (changes : List Change) (i : ℕ) (change : Change) (old new : List ℕ) → i < length changes → change ≡ get_or changes i change →
    new ≡ old ++ get_or index (change_seen change).object [] →
    HasWaiters index (map change_seen (take i changes)) old → HasWaiters index (map change_seen (take (i + 1) changes)) new
waiters-more index changes i change old new low is grown h =
    let has-more : (n : ℕ) → has new n ≡ (has old n || has (get_or index (change_seen change).object []) n) = λ n. ap (λ ns. has ns n) grown
    ∙ has-append old (get_or index (change_seen change).object []) n in
    let one : map change_seen (take (i + 1) changes) ≡ map change_seen (take i changes) ++ change_seen change ∷ [] =
    ap (map change_seen) (take_more changes i change low ∙ ap (λ c. take i changes ++ c ∷ []) (sym is)) ∙ map_push change_seen (take i changes) change in
    subst (λ cs. HasWaiters index cs new) (sym one)
    (pushed (λ (c : ObjectChange). (number : ℕ) → has (get_or index c.object []) number ≡ true → has new number ≡ true) (map change_seen (take i changes)) (change_seen change)
    (weaker index (map change_seen (take i changes)) old new (λ n e. has-more n ∙ or_left (has old n) (has (get_or index (change_seen change).object []) n) e) h)
    (λ n e. has-more n ∙ or_right (has old n) (has (get_or index (change_seen change).object []) n) e))

-- The entries of a wait are ones that the body has
waits-of : (P : Entry → Type 0) (activity : Activity) → AllHold P (activity_entries activity) → AllHold P (waiting_entries activity)
waits-of P (Ready tasks operands) h = tt
waits-of P (Waiting place entries tasks) h = hold-left P entries (tasks_entries tasks) h
waits-of P (Asleep time tasks) h = tt
waits-of P (Postponed tasks) h = tt
waits-of P Done h = tt

pub waiting-waitable : (design : FlatDesign) (n : ℕ) (activity : Activity) → AllHold (IsWaitable design (body_of design n)) (activity_entries activity) →
    AllHold (IsWaitable design (body_of design n)) (waiting_entries activity)
waiting-waitable design n activity h = waits-of (IsWaitable design (body_of design n)) activity h

-- who is woken is a candidate
pub woken-listed : (design : FlatDesign) (index : List (List ℕ)) (changes : List ObjectChange) (numbers : List ℕ) (processes : List ProcessState) → IsIndexOf design index →
    HasWaiters index changes numbers →
    ((n : ℕ) → AllHold (IsWaitable design (body_of design n)) (activity_entries (found_or idle_process (slice_get processes n)).activity)) → HasWoken changes processes numbers
woken-listed design index changes numbers processes indexed waiters waits n e =
    matched-some (has numbers n ≡ true) (IsWaitable design (body_of design n)) (matches_one changes) (waiting_entries (found_or idle_process (slice_get processes n)).activity) one
    (waiting-waitable design n (found_or idle_process (slice_get processes n)).activity (waits n)) e
  where
    listed : (entry : Entry) → IsWaitable design (body_of design n) entry → (change : ObjectChange) → entry.object ≡ change.object → has (get_or index change.object []) n ≡ true
    listed entry there change same =
        let low : change.object < length index = omega (arith, there.there, same, indexed.objects) in
        let zeroth : 0 + n ≡ n = omega arith in
        ap (λ ns. has ns n) (indexed.listed change.object low)
        ∙ ap (λ o. has (waiters_of design o) n) (sym same)
        ∙ ap (has (waiters_of design entry.object)) (sym zeroth) ∙ among-waiters entry.object 0 design.processes n there.waited

    each : (entry : Entry) → IsWaitable design (body_of design n) entry → (changes : List ObjectChange) → HasWaiters index changes numbers →
        AllHold (λ (change : ObjectChange). entry.object ≡ change.object → has numbers n ≡ true) changes
    each entry there [] h = tt
    each entry there (change ∷ changes) h = ((λ same. h.0 n (listed entry there change same)), each entry there changes h.1)

    one : (entry : Entry) → IsWaitable design (body_of design n) entry → matches_one changes entry ≡ true → has numbers n ≡ true
    one entry there matches = matched-one (has numbers n ≡ true) changes entry (each entry there changes waiters) matches
