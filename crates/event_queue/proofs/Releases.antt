-- How the arrangement by time follows what a turn takes.
use Rattle.std.proofs.Common.{◌≡◌, ℕ, suc, ◌+◌, Bool, true, false, not, ◌||◌, List, [], ◌∷◌, length, map, filter, cond, Option, Some, None, refl, sym, ◌∙◌, ap, arith, nat_eq, nat_cmp, subst}
use Rattle.std.specs.Option.{option_map}
use Rattle.std.specs.BTreeMap.{BTreeMap, get}
use Rattle.std.proofs.lemmas.Bool.{eqb-true, ne_eqb, true≢false, or_parts}
use Rattle.v_design.specs.Assignments.{ValueUpdate}
use Rattle.v_design.specs.States.{LaterUpdate, is_any, some_in}
use Rattle.vf_base.specs.declared.ids.ProcId.{ProcId}
use Rattle.vf_base.specs.Base.{process_number}
use Rattle.v_design.specs.declared.plan.Update.{Update}
use Rattle.event_queue.specs.declared.held.Holding.{Holding}
use Rattle.event_queue.specs.declared.held.Holding.TheVariants.{Free, Asleep, Postponed}
use Rattle.event_queue.specs.Queues.{HeldProcess, with_holding, is_postponed, free_if, released, numbers_where, lane_if, lanes_from}
use Rattle.event_queue.specs.Arranged.{wakes_at, is_at, updates_at, without_at, lane_of, listed_in, IsArranged, process_of, processes_where, changed_each}
use Rattle.event_queue.proofs.Numbers.{AllHold-each, numbers_where-same, numbers_where-none, numbers_where-map, numbers_where-some_in, lanes_from-same, lanes_from-none, lanes_from-map, change_if}
use Rattle.event_queue.proofs.Numbers.{changed_each-numbers_where, map-same}
use Rattle.event_queue.proofs.Arrangements.{cond-either, numbers-processes}

-- What is released

-- a test that fails of each process, once some are released
pub where_released-none : (test release : Holding → Bool) (held : List HeldProcess) → ((h : HeldProcess) → test (free_if (release h.holding) h).holding ≡ false)
    → processes_where test (released release held) ≡ []
where_released-none test release held fails =
    ap (map process_of) (numbers_where-map (λ (h : HeldProcess). free_if (release h.holding) h) (λ (h : HeldProcess). test h.holding) 0 held
    ∙ (numbers_where-same (λ (h : HeldProcess). test (free_if (release h.holding) h).holding) (λ h. false) 0 held (AllHold-each _ fails held) ∙ numbers_where-none 0 held))

-- a test that sees no release
pub where_released-same : (test release : Holding → Bool) (held : List HeldProcess)
    → ((h : HeldProcess) → test (free_if (release h.holding) h).holding ≡ test h.holding)
    → processes_where test (released release held) ≡ processes_where test held
where_released-same test release held same =
    ap (map process_of) (numbers_where-map (λ (h : HeldProcess). free_if (release h.holding) h) (λ (h : HeldProcess). test h.holding) 0 held
    ∙ numbers_where-same (λ (h : HeldProcess). test (free_if (release h.holding) h).holding) (λ (h : HeldProcess). test h.holding) 0 held (AllHold-each _ same held))

-- a release leaves the updates
pub later-free_if : (b : Bool) (h : HeldProcess) → (free_if b h).later ≡ h.later
later-free_if true h = refl
later-free_if false h = refl

-- and so the lanes
pub lanes_from-released : (t : ℕ) (release : Holding → Bool) (held : List HeldProcess) → lanes_from (updates_at t) 0 (released release held) ≡ lanes_from (updates_at t) 0 held
lanes_from-released t release held =
    lanes_from-map (λ (h : HeldProcess). free_if (release h.holding) h) (updates_at t) 0 held
    ∙ lanes_from-same (λ (h : HeldProcess). updates_at t (free_if (release h.holding) h)) (updates_at t) 0 held
    (AllHold-each _ (λ h. ap (λ later. map (λ (l : LaterUpdate). l.update) (filter (is_at t) later)) (later-free_if (release h.holding) h)) held)

-- the processes that pass a test are let go of one by one
pub changed_each-released : (release : Holding → Bool) (held : List HeldProcess)
    → changed_each (with_holding Free) (map process_number (processes_where release held)) held ≡ released release held
changed_each-released release held =
    ap (λ ns. changed_each (with_holding Free) ns held) (numbers-processes (numbers_where (λ (h : HeldProcess). release h.holding) 0 held))
    ∙ (changed_each-numbers_where (with_holding Free) (λ (h : HeldProcess). release h.holding) [] held 0 refl
    ∙ map-same (λ (h : HeldProcess). change_if (release h.holding) (with_holding Free) h) (λ (h : HeldProcess). free_if (release h.holding) h) held
    (AllHold-each _ (λ h. same (release h.holding) h) held))
  where
    same : (b : Bool) (h : HeldProcess) → change_if b (with_holding Free) h ≡ free_if b h
    same true h = refl
    same false h = refl

-- Tests of one process that is released

-- none of the postponed is left
postponed-none : (holding : Holding) (later : List LaterUpdate) → is_postponed (free_if (is_postponed holding) (record { holding = holding; later = later })).holding ≡ false
postponed-none Free later = refl
postponed-none (Asleep time) later = refl
postponed-none Postponed later = refl

-- the sleepers stay
postponed-sleepers : (t : ℕ) (holding : Holding) (later : List LaterUpdate)
    → wakes_at t (free_if (is_postponed holding) (record { holding = holding; later = later })).holding ≡ wakes_at t holding
postponed-sleepers t Free later = refl
postponed-sleepers t (Asleep time) later = refl
postponed-sleepers t Postponed later = refl

-- where sleepers wake the postponed stay
waking-postponed : (t : ℕ) (holding : Holding) (later : List LaterUpdate)
    → is_postponed (free_if (wakes_at t holding) (record { holding = holding; later = later })).holding ≡ is_postponed holding
waking-postponed t Free later = refl
waking-postponed t (Asleep time) later =
    elim (nat_eq time t) as (λ b. is_postponed (free_if b (record { holding = Asleep time; later = later })).holding ≡ false) [ true ↦ refl | false ↦ refl ]
waking-postponed t Postponed later = refl

-- none that wakes at the time is left
waking-none : (t : ℕ) (holding : Holding) (later : List LaterUpdate) → wakes_at t (free_if (wakes_at t holding) (record { holding = holding; later = later })).holding ≡ false
waking-none t Free later = refl
waking-none t (Asleep time) later = left (nat_eq time t) refl
  where
    left : (b : Bool) → nat_eq time t ≡ b → wakes_at t (free_if b (record { holding = Asleep time; later = later })).holding ≡ false
    left true e = refl
    left false e = e
waking-none t Postponed later = refl

-- those that wake at another time stay
waking-others : (t q : ℕ) → nat_eq t q ≡ false → (holding : Holding) (later : List LaterUpdate)
    → wakes_at q (free_if (wakes_at t holding) (record { holding = holding; later = later })).holding ≡ wakes_at q holding
waking-others t q apart Free later = refl
waking-others t q apart (Asleep time) later = left (nat_eq time t) refl
  where
    left : (b : Bool) → nat_eq time t ≡ b → wakes_at q (free_if b (record { holding = Asleep time; later = later })).holding ≡ nat_eq time q
    left true e = sym (ap (λ m. nat_eq m q) (eqb-true time t e) ∙ apart)
    left false e = refl
waking-others t q apart Postponed later = refl

module _ (held : List HeldProcess) (postponed : List ProcId) (sleepers : BTreeMap ℕ (List ProcId)) (lanes : BTreeMap ℕ (List (ProcId × List Update)))
    (a : IsArranged held postponed sleepers lanes)
  where
    -- the postponed are taken
    pub arranged-released : IsArranged (released is_postponed held) [] sleepers lanes
    arranged-released = record {
      postponed_are = sym (where_released-none is_postponed is_postponed held (λ h. postponed-none h.holding h.later));
      sleepers_are = λ q. a.sleepers_are q ∙ ap listed_in (sym (where_released-same (wakes_at q) is_postponed held (λ h. postponed-sleepers q h.holding h.later)));
      lanes_are = λ q. a.lanes_are q ∙ ap listed_in (sym (lanes_from-released q is_postponed held));
    }

    -- the sleepers of a time are taken
    pub arranged-woken : (t : ℕ) (new : BTreeMap ℕ (List ProcId)) → ((q : ℕ) → get nat_cmp new q ≡ cond (nat_eq t q) None (get nat_cmp sleepers q))
        → IsArranged (released (wakes_at t) held) postponed new lanes
    arranged-woken t new gone = record {
      postponed_are = a.postponed_are ∙ sym (where_released-same is_postponed (wakes_at t) held (λ h. waking-postponed t h.holding h.later));
      sleepers_are = λ q.
          let taken : nat_eq t q ≡ true → None ≡ listed_in (processes_where (wakes_at q) (released (wakes_at t) held)) = λ e.
          let Goal : ℕ → Type 0 = λ s. None ≡ listed_in (processes_where (wakes_at s) (released (wakes_at t) held)) in
          subst Goal (eqb-true t q e) (ap listed_in (sym (where_released-none (wakes_at t) (wakes_at t) held (λ h. waking-none t h.holding h.later)))) in
          let kept : nat_eq t q ≡ false → get nat_cmp sleepers q ≡ listed_in (processes_where (wakes_at q) (released (wakes_at t) held)) = λ e.
          a.sleepers_are q ∙ ap listed_in (sym (where_released-same (wakes_at q) (wakes_at t) held (λ h. waking-others t q e h.holding h.later))) in
          gone q ∙ cond-either (nat_eq t q) _ _ _ taken kept;
      lanes_are = λ q. a.lanes_are q ∙ ap listed_in (sym (lanes_from-released q (wakes_at t) held));
    }

-- Whether there is something to take

-- an empty list has no element
pub is_any-empty : {A : Type 0} (xs : List A) → true ≡ nat_eq (length xs) 0 → is_any xs ≡ false
is_any-empty [] e = refl
is_any-empty (x ∷ xs) e = absurd (true≢false (e ∙ ne_eqb (suc (length xs)) 0 (λ z. absurd (omega arith))))

-- a list that isn't empty has one
pub is_any-full : {A : Type 0} (xs : List A) → false ≡ nat_eq (length xs) 0 → is_any xs ≡ true
is_any-full [] e = absurd (true≢false (sym e))
is_any-full (x ∷ xs) e = refl

-- elements of an image
is_any-map : {A B : Type 0} (f : A → B) (xs : List A) → is_any (map f xs) ≡ is_any xs
is_any-map f [] = refl
is_any-map f (x ∷ xs) = refl

-- whether some process passes a test
pub processes_where-is_any : (test : Holding → Bool) (held : List HeldProcess) → is_any (processes_where test held) ≡ some_in (λ (h : HeldProcess). test h.holding) held
processes_where-is_any test held = is_any-map process_of _ ∙ numbers_where-some_in (λ (h : HeldProcess). test h.holding) 0 held

-- a list that a map has is the list, and isn't empty
pub listed_in-Some : {A : Type 0} (xs ys : List A) → Some ys ≡ listed_in xs → (ys ≡ xs) × (is_any xs ≡ true)
listed_in-Some [] ys e = cc
listed_in-Some (x ∷ xs) ys e = (cc, refl)

-- where a map has none, the list is empty
pub listed_in-None : {A : Type 0} (xs : List A) → None ≡ listed_in xs → xs ≡ []
listed_in-None [] e = refl
listed_in-None (x ∷ xs) e = cc

-- The sleepers of a time

-- what a test passes nowhere is left
pub released-none : (release : Holding → Bool) (held : List HeldProcess) → some_in (λ (h : HeldProcess). release h.holding) held ≡ false → released release held ≡ held
released-none release [] e = refl
released-none release (h ∷ held) e =
    let parts = or_parts (release h.holding) (some_in (λ (h : HeldProcess). release h.holding) held) e in
    ap (λ b. free_if b h ∷ released release held) parts.0 ∙ ap (λ hs. h ∷ hs) (released-none release held parts.1)

-- The lanes of a time

-- whether a process has updates at a time
updates_at-is_any : (t : ℕ) (later : List LaterUpdate) → is_any (map (λ (l : LaterUpdate). l.update) (filter (is_at t) later)) ≡ some_in (is_at t) later
updates_at-is_any t [] = refl
updates_at-is_any t (l ∷ later) =
    let rest = updates_at-is_any t later in
    elim (is_at t l) as (λ b. is_any (map (λ (l : LaterUpdate). l.update) (cond b (l ∷ filter (is_at t) later) (filter (is_at t) later))) ≡ (b || some_in (is_at t) later))
    [ true ↦ refl | false ↦ rest ]

-- a lane, if there are updates, and others
lane_if-is_any : (n : ℕ) (us : List ValueUpdate) (ls : List (ℕ × List ValueUpdate)) (b : Bool) → is_any ls ≡ b → is_any (lane_if n us ls) ≡ (is_any us || b)
lane_if-is_any n [] ls b e = e
lane_if-is_any n (u ∷ us) ls b e = refl

-- whether there is a lane
pub lanes_from-is_any : (t : ℕ) (n : ℕ) (held : List HeldProcess) → is_any (lanes_from (updates_at t) n held) ≡ some_in (λ (h : HeldProcess). some_in (is_at t) h.later) held
lanes_from-is_any t n [] = refl
lanes_from-is_any t n (h ∷ held) =
    lane_if-is_any n (updates_at t h) (lanes_from (updates_at t) (n + 1) held) (some_in (λ (h : HeldProcess). some_in (is_at t) h.later) held) (lanes_from-is_any t (n + 1) held)
    ∙ ap (λ b. b || some_in (λ (h : HeldProcess). some_in (is_at t) h.later) held) (updates_at-is_any t h.later)

-- where no update is at a time, none is lost
without-none : (t : ℕ) (later : List LaterUpdate) → some_in (is_at t) later ≡ false → filter (λ l. not (is_at t l)) later ≡ later
without-none t [] e = refl
without-none t (l ∷ later) e =
    let parts = or_parts (is_at t l) (some_in (is_at t) later) e in
    ap (λ b. cond (not b) (l ∷ filter (λ l. not (is_at t l)) later) (filter (λ l. not (is_at t l)) later)) parts.0 ∙ ap (λ ls. l ∷ ls) (without-none t later parts.1)

-- those that have a lane lose their updates at the time, and the others have none
pub changed_each-without : (t : ℕ) (held : List HeldProcess)
    → changed_each (without_at t) (numbers_where (λ h. is_any (updates_at t h)) 0 held) held ≡ map (without_at t) held
changed_each-without t held =
    changed_each-numbers_where (without_at t) (λ h. is_any (updates_at t h)) [] held 0 refl
    ∙ map-same (λ h. change_if (is_any (updates_at t h)) (without_at t) h) (without_at t) held (AllHold-each _ (λ h. same (is_any (updates_at t h)) h refl) held)
  where
    same : (b : Bool) (h : HeldProcess) → is_any (updates_at t h) ≡ b → change_if b (without_at t) h ≡ without_at t h
    same true h e = refl
    same false h e =
        let with : List LaterUpdate → HeldProcess = λ later. record { holding = h.holding; later = later } in
        ap with (sym (without-none t h.later (sym (updates_at-is_any t h.later) ∙ e)))

-- after that a process has no update at the time
without-gone : (t : ℕ) (later : List LaterUpdate) → filter (is_at t) (filter (λ l. not (is_at t l)) later) ≡ []
without-gone t [] = refl
without-gone t (l ∷ later) = by_test (is_at t l) refl (without-gone t later)
  where
    by_test : (b : Bool) → is_at t l ≡ b → filter (is_at t) (filter (λ l. not (is_at t l)) later) ≡ []
        → filter (is_at t) (cond (not b) (l ∷ filter (λ l. not (is_at t l)) later) (filter (λ l. not (is_at t l)) later)) ≡ []
    by_test true e rest = rest
    by_test false e rest = ap (λ b. cond b (l ∷ filter (is_at t) (filter (λ l. not (is_at t l)) later)) (filter (is_at t) (filter (λ l. not (is_at t l)) later))) e ∙ rest

-- and at another time those that it had
without-others : (t q : ℕ) → nat_eq t q ≡ false → (later : List LaterUpdate) → filter (is_at q) (filter (λ l. not (is_at t l)) later) ≡ filter (is_at q) later
without-others t q apart [] = refl
without-others t q apart (l ∷ later) = by_test (is_at t l) refl (without-others t q apart later)
  where
    by_test : (b : Bool) → is_at t l ≡ b → filter (is_at q) (filter (λ l. not (is_at t l)) later) ≡ filter (is_at q) later
        → filter (is_at q) (cond (not b) (l ∷ filter (λ l. not (is_at t l)) later) (filter (λ l. not (is_at t l)) later)) ≡ cond (is_at q l) (l ∷ filter (is_at q) later) (filter (is_at q) later)
    by_test true e rest =
        rest ∙ ap (λ b. cond b (l ∷ filter (is_at q) later) (filter (is_at q) later)) (sym (ap (λ m. nat_eq m q) (eqb-true l.time t e) ∙ apart))
    by_test false e rest = ap (λ ls. cond (is_at q l) (l ∷ ls) ls) rest

module _ (held : List HeldProcess) (postponed : List ProcId) (sleepers : BTreeMap ℕ (List ProcId)) (lanes : BTreeMap ℕ (List (ProcId × List Update)))
    (a : IsArranged held postponed sleepers lanes)
  where
    -- the lanes of a time are taken
    pub arranged-without : (t : ℕ) (new : BTreeMap ℕ (List (ProcId × List Update))) → ((q : ℕ) → get nat_cmp new q ≡ cond (nat_eq t q) None (get nat_cmp lanes q))
        → IsArranged (map (without_at t) held) postponed sleepers new
    arranged-without t new gone = record {
      postponed_are = a.postponed_are ∙ ap (map process_of) (sym (numbers_where-map (without_at t) (λ (h : HeldProcess). is_postponed h.holding) 0 held));
      sleepers_are = λ q. a.sleepers_are q ∙ ap (λ ns. listed_in (map process_of ns)) (sym (numbers_where-map (without_at t) (λ (h : HeldProcess). wakes_at q h.holding) 0 held));
      lanes_are = λ q.
          let none : lanes_from (updates_at t) 0 (map (without_at t) held) ≡ [] =
          lanes_from-map (without_at t) (updates_at t) 0 held
          ∙ (lanes_from-same (λ h. updates_at t (without_at t h)) (λ h. []) 0 held (AllHold-each _ (λ h. ap (map (λ (l : LaterUpdate). l.update)) (without-gone t h.later)) held)
          ∙ lanes_from-none 0 held) in
          let taken : nat_eq t q ≡ true → None ≡ listed_in (lanes_from (updates_at q) 0 (map (without_at t) held)) = λ e.
          let Goal : ℕ → Type 0 = λ s. None ≡ listed_in (lanes_from (updates_at s) 0 (map (without_at t) held)) in
          subst Goal (eqb-true t q e) (ap listed_in (sym none)) in
          let kept : nat_eq t q ≡ false → option_map (map lane_of) (get nat_cmp lanes q) ≡ listed_in (lanes_from (updates_at q) 0 (map (without_at t) held)) = λ e.
          a.lanes_are q
          ∙ ap listed_in (sym (lanes_from-map (without_at t) (updates_at q) 0 held
          ∙ lanes_from-same (λ h. updates_at q (without_at t h)) (updates_at q) 0 held (AllHold-each _ (λ h. ap (map (λ (l : LaterUpdate). l.update)) (without-others t q e h.later)) held))) in
          ap (option_map (map lane_of)) (gone q) ∙ mapped (get nat_cmp lanes q) _ (nat_eq t q) taken kept;
    }
      where
        mapped : (o : Option (List (ProcId × List Update))) (z : Option (List (ℕ × List ValueUpdate))) (b : Bool) → (b ≡ true → None ≡ z) → (b ≡ false → option_map (map lane_of) o ≡ z)
            → option_map (map lane_of) (cond b None o) ≡ z
        mapped o z true f g = f refl
        mapped o z false f g = g refl
