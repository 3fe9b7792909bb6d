-- The indexes of touches and of changes answer the first event from a moment on that reads or writes an object, and that writes it (IEEE 1364-2001, clause 5).
use Rattle.std.proofs.Common.{◌≡◌, ℕ, zero, suc, ◌+◌, ◌<◌, Bool, true, false, cond, ◌&&◌, ◌||◌, List, [], ◌∷◌, ◌++◌, map, length, refl, sym, ap, subst, ◌∙◌, ◌⊎◌, inl, inr, arith}
use Rattle.std.specs.Prelude.{Option, Some, None, filter, nat_eq, Contains, slice_get}
use Rattle.std.specs.List.{list_any}
use Rattle.std.proofs.lemmas.List.{map-append}
use Rattle.std.proofs.lemmas.List.Folds.{list_any-append}
use Rattle.four_value.specs.Values.{same_value}
use Rattle.vf_base.specs.Lists.{joined, map_numbered, has}
use Rattle.v_design.specs.Designs.{FlatDesign, FlatNode, Machine}
use Rattle.v_design.specs.Assignments.{value_at}
use Rattle.v_design.specs.States.{State, Event, Step, LaneStep, Evaluation, NetUpdate, after}
use Rattle.v_design.specs.Accesses.{AccessAct, Reading, Writing, Awaiting, Ending, Holding, Settling, ObjectAccess, net_write, net_ended_by, net_accesses, accesses_of}
use Rattle.v_design.specs.Paths.{net_pieces}
use Rattle.window_index.specs.declared.occurrence.Occurrence.{Occurrence}
use Rattle.window_index.specs.Moments.{moments_of, IsFirstAtOrAfter}
use Rattle.trace_window.specs.Moments.{Seen}
use Rattle.trace_window.specs.Listed.{AreListed}
use Rattle.trace_window.specs.FirstLaws.{one-more, one-first, one-later, first-occurrence, first-same}
use Rattle.trace_window.specs.Occurring.{occurrences_from, occurs_at, Occurs}
use Rattle.trace_window.specs.Tables.{occurrence_of}
use Rattle.trace_window.specs.Touched.{touch_before, touches_in, touches_from, is_touching, touched_at, is_writing, written_at, IsFirstFrom}
use Rattle.trace_window.specs.Writes.{write_before, writes_in, writes_from}

-- Accesses of a kind

-- whether one of some accesses is of a kind and of an object
abbrev acts : (AccessAct → Bool) → ℕ → List ObjectAccess → Bool
acts kind object accesses = list_any (λ (access : ObjectAccess). kind access.act && nat_eq access.object object) accesses

-- the objects of those of a kind
abbrev acting_in : (AccessAct → Bool) → ℕ → List ObjectAccess → List Occurrence
acting_in kind moment [] = []
acting_in kind moment (access ∷ rest) = cond (kind access.act) (record { number = access.object; moment = moment } ∷ acting_in kind moment rest) (acting_in kind moment rest)

-- the reads and the writes are those that touch
touch-acting : (moment : ℕ) (accesses : List ObjectAccess) → touches_in moment accesses ≡ acting_in is_touching moment accesses
touch-acting moment [] = refl
touch-acting moment (access ∷ rest) = go access.act (touch-acting moment rest)
  where
    go : (act : AccessAct) → touches_in moment rest ≡ acting_in is_touching moment rest →
        touch_before moment access.object act (touches_in moment rest)
        ≡ cond (is_touching act) (record { number = access.object; moment = moment } ∷ acting_in is_touching moment rest) (acting_in is_touching moment rest)
    go Reading same = ap (λ l. record { number = access.object; moment = moment } ∷ l) same
    go (Writing old new) same = ap (λ l. record { number = access.object; moment = moment } ∷ l) same
    go (Awaiting entry) same = same
    go (Ending entry) same = same
    go (Holding entry) same = same
    go Settling same = same

touches-acting : (number : ℕ) (lists : List (List ObjectAccess)) → touches_from number lists ≡ occurrences_from (acting_in is_touching) number lists
touches-acting number [] = refl
touches-acting number (accesses ∷ lists) = λ i. touch-acting number accesses i ++ touches-acting (number + 1) lists i

-- the writes are those that change
write-acting : (moment : ℕ) (accesses : List ObjectAccess) → map occurrence_of (writes_in moment accesses) ≡ acting_in is_writing moment accesses
write-acting moment [] = refl
write-acting moment (access ∷ rest) = go access.act (write-acting moment rest)
  where
    go : (act : AccessAct) → map occurrence_of (writes_in moment rest) ≡ acting_in is_writing moment rest →
        map occurrence_of (write_before moment access.object act (writes_in moment rest))
        ≡ cond (is_writing act) (record { number = access.object; moment = moment } ∷ acting_in is_writing moment rest) (acting_in is_writing moment rest)
    go Reading same = same
    go (Writing old new) same = ap (λ l. record { number = access.object; moment = moment } ∷ l) same
    go (Awaiting entry) same = same
    go (Ending entry) same = same
    go (Holding entry) same = same
    go Settling same = same

writes-acting : (number : ℕ) (lists : List (List ObjectAccess)) → map occurrence_of (writes_from number lists) ≡ occurrences_from (acting_in is_writing) number lists
writes-acting number [] = refl
writes-acting number (accesses ∷ lists) =
    map-append occurrence_of (writes_in number accesses) (writes_from (number + 1) lists) ∙ (λ i. write-acting number accesses i ++ writes-acting (number + 1) lists i)

or-cases : (a b : Bool) → (a || b) ≡ true → (a ≡ true) ⊎ (b ≡ true)
or-cases true b e = inl refl
or-cases false b e = inr e

or-right : (a b : Bool) → b ≡ true → (a || b) ≡ true
or-right true b e = refl
or-right false b e = e

-- the accesses of one event
abbrev Forth : (AccessAct → Bool) → ℕ → ℕ → List ObjectAccess → List Occurrence → Bool → Type 0
Forth kind object moment accesses list acting = (found : ℕ) → Contains (moments_of list object) found → (found ≡ moment) × (acting ≡ true)

acting-forth : (kind : AccessAct → Bool) (object moment : ℕ) (accesses : List ObjectAccess) → Forth kind object moment accesses (acting_in kind moment accesses) (acts kind object accesses)
acting-forth kind object moment [] = λ found there. let low : there.0 < 0 = there.1 in absurd (omega arith)
acting-forth kind object moment (access ∷ rest) = go (kind access.act) (acting-forth kind object moment rest)
  where
    go : (b : Bool) → Forth kind object moment rest (acting_in kind moment rest) (acts kind object rest) →
        Forth kind object moment (access ∷ rest) (cond b (record { number = access.object; moment = moment } ∷ acting_in kind moment rest) (acting_in kind moment rest))
        ((b && nat_eq access.object object) || acts kind object rest)
    go false more found there = more found there
    go true more found there = elim (one-more object moment access.object (acting_in kind moment rest) found there) [
      | inl own ↦ (own.1, ap (λ b. b || acts kind object rest) own.0)
      | inr later ↦ (let h = more found later in (h.0, or-right (nat_eq access.object object) (acts kind object rest) h.1))
    ]

acting-back : (kind : AccessAct → Bool) (object moment : ℕ) (accesses : List ObjectAccess) → acts kind object accesses ≡ true → Contains (moments_of (acting_in kind moment accesses) object) moment
acting-back kind object moment [] = λ e. cc
acting-back kind object moment (access ∷ rest) = go (kind access.act) (acting-back kind object moment rest)
  where
    go : (b : Bool) → (acts kind object rest ≡ true → Contains (moments_of (acting_in kind moment rest) object) moment) → ((b && nat_eq access.object object) || acts kind object rest) ≡ true →
        Contains (moments_of (cond b (record { number = access.object; moment = moment } ∷ acting_in kind moment rest) (acting_in kind moment rest)) object) moment
    go false more e = more e
    go true more e = elim (or-cases (nat_eq access.object object) (acts kind object rest) e) [
      | inl own ↦ one-first object moment access.object (acting_in kind moment rest) own
      | inr later ↦ one-later object moment access.object (acting_in kind moment rest) moment (more later)
    ]

acting-occurs : (kind : AccessAct → Bool) → Occurs (acting_in kind) (acts kind)
acting-occurs kind = record {
  forth = λ object moment accesses found there. acting-forth kind object moment accesses found there;
  back = λ object moment accesses e. acting-back kind object moment accesses e;
}

-- The process and the line of a net's write tell nothing of its object

write-acts : (kind : AccessAct → Bool) (object process line : ℕ) (state next : State) (piece : ℕ) →
    acts kind object (net_write process line state next piece) ≡ acts kind object (net_write 0 0 state next piece)
write-acts kind object process line state next piece = go (same_value (value_at state.values piece) (value_at next.values piece))
  where
    go : (b : Bool) →
        acts kind object (elim b as (λ _. List ObjectAccess) [
          | true ↦ []
          | false ↦ record { act = Writing (value_at state.values piece) (value_at next.values piece); object = piece; process = process; line = line } ∷ []
        ])
        ≡ acts kind object (elim b as (λ _. List ObjectAccess) [
          | true ↦ []
          | false ↦ record { act = Writing (value_at state.values piece) (value_at next.values piece); object = piece; process = 0; line = 0 } ∷ []
        ])
    go true = refl
    go false = refl

writes-act : (kind : AccessAct → Bool) (object process line : ℕ) (state next : State) (pieces : List ℕ) →
    acts kind object (joined (map (net_write process line state next) pieces)) ≡ acts kind object (joined (map (net_write 0 0 state next) pieces))
writes-act kind object process line state next [] = refl
writes-act kind object process line state next (piece ∷ pieces) =
    list_any-append test (net_write process line state next piece) (joined (map (net_write process line state next) pieces))
    ∙ (λ i. write-acts kind object process line state next piece i || writes-act kind object process line state next pieces i)
    ∙ sym (list_any-append test (net_write 0 0 state next piece) (joined (map (net_write 0 0 state next) pieces)))
  where
    test : ObjectAccess → Bool
    test a = kind a.act && nat_eq a.object object

net-acts : (kind : AccessAct → Bool) (object process line : ℕ) (design : FlatDesign) (node : Option FlatNode) (state next : State) →
    acts kind object (net_accesses design process line node state next) ≡ acts kind object (net_accesses design 0 0 node state next)
net-acts kind object process line design None state next = refl
net-acts kind object process line design (Some node) state next =
    list_any-append test (joined (map (net_write process line state next) pieces)) ended ∙ (λ i. writes-act kind object process line state next pieces i || list_any test ended)
    ∙ sym (list_any-append test (joined (map (net_write 0 0 state next) pieces)) ended)
  where
    test : ObjectAccess → Bool
    test a = kind a.act && nat_eq a.object object

    pieces : List ℕ
    pieces = filter (has node.outputs) (net_pieces design)

    ended : List ObjectAccess
    ended = joined (map_numbered (net_ended_by state next node.outputs) 0 state.processes)

accesses-act : (kind : AccessAct → Bool) (machine : Machine) (object process line : ℕ) (state : State) (event : Event) →
    acts kind object (accesses_of machine process line state event) ≡ acts kind object (accesses_of machine 0 0 state event)
accesses-act kind machine object process line state (Step number) = refl
accesses-act kind machine object process line state (LaneStep number) = refl
accesses-act kind machine object process line state (Evaluation number) = refl
accesses-act kind machine object process line state (NetUpdate number) = net-acts kind object process line machine.design (slice_get machine.design.nodes number) state
    (after machine state (NetUpdate number))

-- The events, by their accesses

-- whether the event of a number has an access of a kind to an object, if there is such an event
abbrev acted_at : (AccessAct → Bool) → Machine → List Seen → ℕ → ℕ → Bool
acted_at kind machine events object number = elim (slice_get events number) [ None ↦ false | Some seen ↦ acts kind object (accesses_of machine 0 0 seen.before seen.event) ]

listed-acts : (kind : AccessAct → Bool) (machine : Machine) (seen : List Seen) (lists : List (List ObjectAccess)) → AreListed machine seen lists → (object number : ℕ) →
    occurs_at (acts kind) lists object number ≡ acted_at kind machine seen object number
listed-acts kind machine [] [] listed object number = refl
listed-acts kind machine [] (a ∷ lists) listed object number = absurd listed
listed-acts kind machine (s ∷ seen) [] listed object number = absurd listed
listed-acts kind machine (s ∷ seen) (a ∷ lists) listed object zero =
    ap (acts kind object) listed.0.are ∙ accesses-act kind machine object listed.0.process listed.0.line s.before s.event
listed-acts kind machine (s ∷ seen) (a ∷ lists) listed object (suc number) = listed-acts kind machine seen lists listed.1 object number

pub listed-length : (machine : Machine) (seen : List Seen) (lists : List (List ObjectAccess)) → AreListed machine seen lists → length lists ≡ length seen
listed-length machine [] [] listed = refl
listed-length machine [] (a ∷ lists) listed = absurd listed
listed-length machine (s ∷ seen) [] listed = absurd listed
listed-length machine (s ∷ seen) (a ∷ lists) listed = ap suc (listed-length machine seen lists listed.1)

first-acted : (kind : AccessAct → Bool) (machine : Machine) (seen : List Seen) (lists : List (List ObjectAccess)) (object moment : ℕ) (answer : Option ℕ) → AreListed machine seen lists →
    IsFirstAtOrAfter (moments_of (occurrences_from (acting_in kind) 0 lists) object) moment answer → IsFirstFrom (acted_at kind machine seen object) (length seen) moment answer
first-acted kind machine seen lists object moment answer listed first =
    first-same (occurs_at (acts kind) lists object) (acted_at kind machine seen object) (length lists) (length seen) moment answer (listed-acts kind machine seen lists listed object)
    (listed-length machine seen lists listed) (first-occurrence (acting_in kind) (acts kind) (acting-occurs kind) lists object moment answer first)

-- what the index of touches answers
pub first-touch : (machine : Machine) (seen : List Seen) (lists : List (List ObjectAccess)) (object moment : ℕ) (answer : Option ℕ) → AreListed machine seen lists →
    IsFirstAtOrAfter (moments_of (touches_from 0 lists) object) moment answer → IsFirstFrom (touched_at machine seen object) (length seen) moment answer
first-touch machine seen lists object moment answer listed first =
    first-acted is_touching machine seen lists object moment answer listed (subst (λ l. IsFirstAtOrAfter (moments_of l object) moment answer) (touches-acting 0 lists) first)

-- and that of changes
pub first-write : (machine : Machine) (seen : List Seen) (lists : List (List ObjectAccess)) (object moment : ℕ) (answer : Option ℕ) → AreListed machine seen lists →
    IsFirstAtOrAfter (moments_of (map occurrence_of (writes_from 0 lists)) object) moment answer → IsFirstFrom (written_at machine seen object) (length seen) moment answer
first-write machine seen lists object moment answer listed first =
    first-acted is_writing machine seen lists object moment answer listed (subst (λ l. IsFirstAtOrAfter (moments_of l object) moment answer) (writes-acting 0 lists) first)
