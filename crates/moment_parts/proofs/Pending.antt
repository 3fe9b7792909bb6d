-- Pending updates that are activated, process by process (nonblocking updates by IEEE 1364-2001, clause 9.2.2).
use Rattle.std.proofs.Common.{◌≡◌, ℕ, zero, suc, ◌+◌, ◌<◌, ◌≤◌, Bool, true, false, not, cond, List, [], ◌∷◌, map, filter, length, get_or, set, leb, ltb, Vec, Global, refl, sym, ap, subst, ◌∙◌, inl, inr, arith}
use Rattle.std.proofs.lemmas.Bool.{leb-true, leb-false, lt-ltb, le-ltb, cases_eq}
use Rattle.std.proofs.lemmas.List.{length-map, length-set, get_or-set_same, get_or-set_other, get_or_past, map-set}
use Rattle.v_design.specs.States.{LaterUpdate}
use Rattle.v_design.specs.Plain.{due_of}
use Rattle.v_design.specs.declared.plan.Due.{Due}
use Rattle.moment_parts.specs.Lanes.{lane_left, lanes_left, later_lists}
use Rattle.moment_parts.specs.Turned.{left_pending, activated}
use Rattle.moment_parts.specs.declared.kept.Standing.{Standing}
use Rattle.moment_parts.specs.declared.lane.Lane.{Lane}

not-due : (now time : ℕ) → ltb now time ≡ not (leb time now)
not-due now time = go (leb time now) refl
  where
    go : (b : Bool) → leb time now ≡ b → ltb now time ≡ not b
    go true e = le-ltb now time (leb-true time now e)
    go false e = lt-ltb now time (leb-false time now e)

-- those that aren't due
pub filter-later : (now : ℕ) (dues : List Due) → map due_of (filter (λ (d : Due). ltb now d.time) dues) ≡ left_pending now (map due_of dues)
filter-later now [] = refl
filter-later now (d ∷ dues) = go (ltb now d.time) refl (filter-later now dues)
  where
    rest : List LaterUpdate
    rest = left_pending now (map due_of dues)

    go : (b : Bool) → ltb now d.time ≡ b → map due_of (filter (λ (e : Due). ltb now e.time) dues) ≡ rest →
        map due_of (cond b (d ∷ filter (λ (e : Due). ltb now e.time) dues) (filter (λ (e : Due). ltb now e.time) dues)) ≡ cond (not (leb d.time now)) (due_of d ∷ rest) rest
    go true e more = ap (λ l. due_of d ∷ l) more ∙ ap (λ b. cond b (due_of d ∷ rest) rest) (sym e ∙ not-due now d.time)
    go false e more = more ∙ ap (λ b. cond b (due_of d ∷ rest) rest) (sym e ∙ not-due now d.time)

-- those of the processes below a number are activated
pub record AreActivatedBelow (now limit : ℕ) (old new : Standing) : Type 0 where
  pub states : new.states ≡ old.states
  pub ran : new.ran ≡ old.ran
  pub later_count : length new.later.items ≡ length old.later.items
  pub lane_count : length new.lanes.items ≡ length old.lanes.items
  pub later : (process : ℕ) → process < limit → get_or (later_lists new.later.items) process [] ≡ left_pending now (get_or (later_lists old.later.items) process [])
  pub lanes : (process : ℕ) → process < limit → get_or (lanes_left new.lanes.items) process [] ≡ activated now (get_or (later_lists old.later.items) process [])
  pub others : (process : ℕ) → limit ≤ process → get_or (later_lists new.later.items) process [] ≡ get_or (later_lists old.later.items) process []

pub activated-none : (now : ℕ) (standing : Standing) → AreActivatedBelow now 0 standing standing
activated-none now standing = record {
  states = refl;
  ran = refl;
  later_count = refl;
  lane_count = refl;
  later = λ p low. absurd (omega (arith, low));
  lanes = λ p low. absurd (omega (arith, low));
  others = λ p low. refl;
}

list-of : Vec Due Global → List LaterUpdate
list-of = λ (l : Vec Due Global). map due_of l.items

-- one process more
pub activated-more : (now limit : ℕ) (old new : Standing) (later one : Vec Due Global) (lane : Lane) → limit < length new.later.items → limit < length new.lanes.items →
    later ≡ get_or new.later.items limit later → map due_of one.items ≡ left_pending now (map due_of later.items) → lane_left lane ≡ activated now (map due_of later.items) →
    AreActivatedBelow now limit old new → (made : Standing) → made.states ≡ new.states → made.ran ≡ new.ran → made.later.items ≡ set new.later.items limit one →
    made.lanes.items ≡ set new.lanes.items limit lane → AreActivatedBelow now (limit + 1) old made
activated-more now limit old new later one lane low lane_low is left taken below made states ran put filled = record {
  states = states ∙ below.states;
  ran = ran ∙ below.ran;
  later_count = ap length put ∙ length-set new.later.items limit one ∙ below.later_count;
  lane_count = ap length filled ∙ length-set new.lanes.items limit lane ∙ below.lane_count;
  later = λ p less. elim (cases_eq p limit) [
    | inl same ↦ subst (λ n. get_or (later_lists made.later.items) n [] ≡ left_pending now (get_or (later_lists old.later.items) n [])) (sym same)
        (put-same ∙ left ∙ ap (left_pending now) was)
    | inr apart ↦ put-other p apart ∙ below.later p (omega (arith, less, apart))
  ];
  lanes = λ p less. elim (cases_eq p limit) [
    | inl same ↦ subst (λ n. get_or (lanes_left made.lanes.items) n [] ≡ activated now (get_or (later_lists old.later.items) n [])) (sym same)
        (ap (λ l. get_or (lanes_left l) limit []) filled ∙ ap (λ l. get_or l limit []) (map-set lane_left new.lanes.items limit lane)
        ∙ get_or-set_same (lanes_left new.lanes.items) limit (lane_left lane) [] (let e : length (lanes_left new.lanes.items) ≡ length new.lanes.items = length-map new.lanes.items lane_left in omega (arith, e))
        ∙ taken ∙ ap (activated now) was)
    | inr apart ↦
        ap (λ l. get_or (lanes_left l) p []) filled ∙ ap (λ l. get_or l p []) (map-set lane_left new.lanes.items limit lane)
        ∙ get_or-set_other (lanes_left new.lanes.items) limit p (lane_left lane) [] apart ∙ below.lanes p (omega (arith, less, apart))
  ];
  others = λ p more. put-other p (λ same. omega (arith, same, more)) ∙ below.others p (omega (arith, more));
}
  where
    listed : List (List LaterUpdate)
    listed = later_lists new.later.items

    pushed : later_lists made.later.items ≡ set listed limit (map due_of one.items)
    pushed = ap later_lists put ∙ map-set (λ (l : Vec Due Global). map due_of l.items) new.later.items limit one

    put-same : get_or (later_lists made.later.items) limit [] ≡ map due_of one.items
    put-same =
        ap (λ l. get_or l limit []) pushed
        ∙ get_or-set_same listed limit (map due_of one.items) [] (let e : length listed ≡ length new.later.items = length-map new.later.items (λ (l : Vec Due Global). map due_of l.items) in omega (arith, e))

    put-other : (p : ℕ) → (p ≡ limit → ⊥) → get_or (later_lists made.later.items) p [] ≡ get_or listed p []
    put-other p apart = ap (λ l. get_or l p []) pushed ∙ get_or-set_other listed limit p (map due_of one.items) [] apart

    mapped : (lists : List (Vec Due Global)) (place : ℕ) (own : Vec Due Global) → place < length lists → own ≡ get_or lists place own → map due_of own.items ≡ get_or (later_lists lists) place []
    mapped [] place own low e = absurd (omega (arith, low))
    mapped (l ∷ lists) zero own low e = ap (λ (v : Vec Due Global). map due_of v.items) e
    mapped (l ∷ lists) (suc place) own low e = mapped lists place own (omega (arith, low)) e

    was : map due_of later.items ≡ get_or (later_lists old.later.items) limit []
    was = mapped new.later.items limit later low is ∙ below.others limit (omega arith)

past-none : {A : Type 0} (xs : List (List A)) (p : ℕ) → length xs ≤ p → get_or xs p [] ≡ []
past-none xs p high = get_or_past xs p [] high

-- and then of all
pub later-all : (now limit : ℕ) (old new : Standing) → length old.later.items ≤ limit → AreActivatedBelow now limit old new → (p : ℕ) →
    get_or (later_lists new.later.items) p [] ≡ left_pending now (get_or (later_lists old.later.items) p [])
later-all now limit old new all below p = go (leb limit p) refl
  where
    go : (b : Bool) → leb limit p ≡ b → get_or (later_lists new.later.items) p [] ≡ left_pending now (get_or (later_lists old.later.items) p [])
    go false e = below.later p (leb-false limit p e)
    go true e =
        let high : limit ≤ p = leb-true limit p e in
        let none : get_or (later_lists old.later.items) p [] ≡ [] =
        past-none (later_lists old.later.items) p (let f : length (later_lists old.later.items) ≡ length old.later.items = length-map old.later.items (λ (l : Vec Due Global). map due_of l.items) in omega (arith, f, all, high)) in
        below.others p high ∙ none ∙ sym (ap (left_pending now) none)

pub lanes-all : (now limit : ℕ) (old new : Standing) → length old.later.items ≤ limit → length old.later.items ≡ length old.lanes.items → AreActivatedBelow now limit old new → (p : ℕ) →
    get_or (lanes_left new.lanes.items) p [] ≡ activated now (get_or (later_lists old.later.items) p [])
lanes-all now limit old new all same below p = go (leb limit p) refl
  where
    go : (b : Bool) → leb limit p ≡ b → get_or (lanes_left new.lanes.items) p [] ≡ activated now (get_or (later_lists old.later.items) p [])
    go false e = below.lanes p (leb-false limit p e)
    go true e =
        let high : limit ≤ p = leb-true limit p e in
        let none : get_or (later_lists old.later.items) p [] ≡ [] =
        past-none (later_lists old.later.items) p (let f : length (later_lists old.later.items) ≡ length old.later.items = length-map old.later.items (λ (l : Vec Due Global). map due_of l.items) in omega (arith, f, all, high)) in
        past-none (lanes_left new.lanes.items) p (let f : length (lanes_left new.lanes.items) ≡ length new.lanes.items = length-map new.lanes.items lane_left in let g : length new.lanes.items ≡ length old.lanes.items = below.lane_count in omega (arith, f, g, same, all, high))
        ∙ sym (ap (activated now) none)
