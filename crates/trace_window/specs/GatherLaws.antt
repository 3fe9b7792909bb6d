-- What is gathered of some events and then of others is what is gathered of all (IEEE 1364-2001, clause 5).
use Rattle.std.proofs.Common.{◌≡◌, ℕ, suc, ◌+◌, List, [], ◌∷◌, ◌++◌, map, length, refl, sym, ap, ◌∙◌, arith, append-nil, append_assoc, length-append}
use Rattle.std.specs.Prelude.{nat_lt}
use Rattle.std.proofs.lemmas.List.{map-append}
use Rattle.std.proofs.lemmas.List.Elements.{filter-append}
use Rattle.v_design.specs.Accesses.{ObjectAccess}
use Rattle.v_design.specs.States.{Event}
use Rattle.window_index.specs.declared.occurrence.Occurrence.{Occurrence}
use Rattle.trace_window.specs.declared.list.EventList.{EventList}
use Rattle.trace_window.specs.declared.sizes.Sizes.{Sizes}
use Rattle.trace_window.specs.Acted.{node_evaluated, process_stepped, occurrence_at, evaluations_from, steps_from}
use Rattle.trace_window.specs.Occurring.{occurrences_from, below}
use Rattle.trace_window.specs.Touched.{touches_in, touches_from}
use Rattle.trace_window.specs.Writes.{written_of, writes_in, writes_from}
use Rattle.trace_window.specs.Gathered.{Gathers, BeginsAt, Joins}

pub writes_from-append : (number : ℕ) (xs ys : List (List ObjectAccess)) → writes_from number (xs ++ ys) ≡ writes_from number xs ++ writes_from (number + length xs) ys
writes_from-append number [] ys = ap (λ n. writes_from n ys) (plus-none number)
  where
    plus-none : (n : ℕ) → n ≡ n + 0
    plus-none n = omega arith
writes_from-append number (x ∷ xs) ys =
    ap (λ l. writes_in number x ++ l) (writes_from-append (number + 1) xs ys ∙ ap (λ n. writes_from (number + 1) xs ++ writes_from n ys) (regroup number (length xs)))
    ∙ sym (append_assoc (writes_in number x) (writes_from (number + 1) xs) (writes_from (number + suc (length xs)) ys))
  where
    regroup : (a b : ℕ) → a + 1 + b ≡ a + suc b
    regroup a b = omega arith

pub touches_from-append : (number : ℕ) (xs ys : List (List ObjectAccess)) → touches_from number (xs ++ ys) ≡ touches_from number xs ++ touches_from (number + length xs) ys
touches_from-append number [] ys = ap (λ n. touches_from n ys) (plus-none number)
  where
    plus-none : (n : ℕ) → n ≡ n + 0
    plus-none n = omega arith
touches_from-append number (x ∷ xs) ys =
    ap (λ l. touches_in number x ++ l) (touches_from-append (number + 1) xs ys ∙ ap (λ n. touches_from (number + 1) xs ++ touches_from n ys) (regroup number (length xs)))
    ∙ sym (append_assoc (touches_in number x) (touches_from (number + 1) xs) (touches_from (number + suc (length xs)) ys))
  where
    regroup : (a b : ℕ) → a + 1 + b ≡ a + suc b
    regroup a b = omega arith

pub occurrences_from-append : {X : Type 0} (each : ℕ → X → List Occurrence) (number : ℕ) (xs ys : List X) →
    occurrences_from each number (xs ++ ys) ≡ occurrences_from each number xs ++ occurrences_from each (number + length xs) ys
occurrences_from-append each number [] ys = ap (λ n. occurrences_from each n ys) (plus-none number)
  where
    plus-none : (n : ℕ) → n ≡ n + 0
    plus-none n = omega arith
occurrences_from-append each number (x ∷ xs) ys =
    ap (λ l. each number x ++ l)
    (occurrences_from-append each (number + 1) xs ys ∙ ap (λ n. occurrences_from each (number + 1) xs ++ occurrences_from each n ys) (regroup number (length xs)))
    ∙ sym (append_assoc (each number x) (occurrences_from each (number + 1) xs) (occurrences_from each (number + suc (length xs)) ys))
  where
    regroup : (a b : ℕ) → a + 1 + b ≡ a + suc b
    regroup a b = omega arith

-- no event
pub Gathers-none : (sizes : Sizes) (list : EventList) → Gathers sizes [] [] list list
Gathers-none sizes list = record {
  as_many = refl;
  moment = plus-none list.moment;
  changes = sym (append-nil (map written_of list.changes.items));
  touches = sym (append-nil list.touches.items);
  evaluations = sym (append-nil list.evaluations.items);
  steps = sym (append-nil list.steps.items);
}
  where
    plus-none : (n : ℕ) → n ≡ n + 0
    plus-none n = omega arith

pub below-append : (count : ℕ) (xs ys : List Occurrence) → below count (xs ++ ys) ≡ below count xs ++ below count ys
below-append count xs ys = filter-append (λ (occurrence : Occurrence). nat_lt occurrence.number count) xs ys

-- a list that grew by occurrences, and grows by more
grown-twice : (count : ℕ) (first second third xs ys all : List Occurrence) → second ≡ first ++ below count xs → third ≡ second ++ below count ys → all ≡ xs ++ ys →
    third ≡ first ++ below count all
grown-twice count first second third xs ys all grew grows joined =
    grows ∙ ap (λ l. l ++ below count ys) grew ∙ append_assoc first (below count xs) (below count ys) ∙ ap (λ l. first ++ l) (sym (ap (below count) joined ∙ below-append count xs ys))

pub evaluations_from-append : (number : ℕ) (xs ys : List Event) → evaluations_from number (xs ++ ys) ≡ evaluations_from number xs ++ evaluations_from (number + length xs) ys
evaluations_from-append number xs ys = occurrences_from-append (λ moment event. occurrence_at moment (node_evaluated event)) number xs ys

pub steps_from-append : (number : ℕ) (xs ys : List Event) → steps_from number (xs ++ ys) ≡ steps_from number xs ++ steps_from (number + length xs) ys
steps_from-append number xs ys = occurrences_from-append (λ moment event. occurrence_at moment (process_stepped event)) number xs ys

-- some events, and then others
pub Gathers-more : (sizes : Sizes) (xs ys : List (List ObjectAccess)) (es fs : List Event) (old between new : EventList) → Gathers sizes xs es old between → Gathers sizes ys fs between new →
    Gathers sizes (xs ++ ys) (es ++ fs) old new
Gathers-more sizes xs ys es fs old between new first then = record {
  as_many = let long = length-append xs ys in let many = length-append es fs in omega (arith, first.as_many, then.as_many, long, many);
  moment = let long = length-append xs ys in omega (arith, first.moment, then.moment, long);
  changes =
      then.changes ∙ (λ i. first.changes i ++ writes_from (first.moment i) ys) ∙ append_assoc (map written_of old.changes.items) (writes_from old.moment xs) (writes_from (old.moment + length xs) ys)
      ∙ ap (λ l. map written_of old.changes.items ++ l) (sym (writes_from-append old.moment xs ys));
  touches =
      grown-twice sizes.objects old.touches.items between.touches.items new.touches.items (touches_from old.moment xs) (touches_from between.moment ys) (touches_from old.moment (xs ++ ys))
      first.touches then.touches (touches_from-append old.moment xs ys ∙ ap (λ n. touches_from old.moment xs ++ touches_from n ys) (sym first.moment));
  evaluations =
      grown-twice sizes.nodes old.evaluations.items between.evaluations.items new.evaluations.items (evaluations_from old.moment es) (evaluations_from between.moment fs)
      (evaluations_from old.moment (es ++ fs)) first.evaluations then.evaluations
      (evaluations_from-append old.moment es fs ∙ ap (λ n. evaluations_from old.moment es ++ evaluations_from n fs) (sym at));
  steps =
      grown-twice sizes.processes old.steps.items between.steps.items new.steps.items (steps_from old.moment es) (steps_from between.moment fs) (steps_from old.moment (es ++ fs))
      first.steps then.steps (steps_from-append old.moment es fs ∙ ap (λ n. steps_from old.moment es ++ steps_from n fs) (sym at));
}
  where
    at : between.moment ≡ old.moment + length es
    at = omega (arith, first.moment, first.as_many)

-- some events that were gathered by themselves, behind others
pub Gathers-joined : (sizes : Sizes) (xs : List (List ObjectAccess)) (es : List Event) (old none more new : EventList) → BeginsAt old.moment none → Gathers sizes xs es none more →
    Joins old more new → Gathers sizes xs es old new
Gathers-joined sizes xs es old none more new begins had joins = record {
  as_many = had.as_many;
  moment = joins.moment ∙ had.moment ∙ ap (λ n. n + length xs) begins.moment_is;
  changes =
      ap (map written_of) joins.changes ∙ map-append written_of old.changes.items more.changes.items
      ∙ ap (λ l. map written_of old.changes.items ++ l) (had.changes ∙ ap (λ l. map written_of l ++ writes_from none.moment xs) begins.changes ∙ ap (λ n. writes_from n xs) begins.moment_is);
  touches =
      joins.touches
      ∙ ap (λ l. old.touches.items ++ l) (had.touches ∙ ap (λ l. l ++ below sizes.objects (touches_from none.moment xs)) begins.touches ∙ ap (λ n. below sizes.objects (touches_from n xs)) begins.moment_is);
  evaluations =
      joins.evaluations
      ∙ ap (λ l. old.evaluations.items ++ l)
      (had.evaluations ∙ ap (λ l. l ++ below sizes.nodes (evaluations_from none.moment es)) begins.evaluations ∙ ap (λ n. below sizes.nodes (evaluations_from n es)) begins.moment_is);
  steps =
      joins.steps
      ∙ ap (λ l. old.steps.items ++ l)
      (had.steps ∙ ap (λ l. l ++ below sizes.processes (steps_from none.moment es)) begins.steps ∙ ap (λ n. below sizes.processes (steps_from n es)) begins.moment_is);
}
