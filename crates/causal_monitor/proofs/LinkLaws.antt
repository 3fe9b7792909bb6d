-- Laws on links, and on the search along them (nothing of the language).
use Rattle.std.proofs.Common.{◌≡◌, ℕ, zero, suc, ◌+◌, ◌<◌, ◌≤◌, Bool, true, false, List, [], ◌∷◌, ◌++◌, length, get_or, set, map, take, drop, Option, Some, None, cond, refl, ap, sym, subst, ◌∙◌}
use Rattle.std.proofs.Common.{arith, inl, inr}
use Rattle.std.specs.Prelude.{nat_eq, not, ◌&&◌}
use Rattle.std.specs.List.{find}
use Rattle.std.specs.Option.{option_map, ForSome}
use Rattle.std.proofs.lemmas.Bool.{ne_eqb, eq-eqb, cases_eq, cases_lt, eqb-true}
use Rattle.std.proofs.lemmas.List.{get_or-set_same, get_or-set_other, length-set, drop_more, get_or-take, length-take-le, drop_all, take_more, get_or_push, length_push, get_or_append_left}
use Rattle.std.proofs.lemmas.List.{get_or_read, get_or-map}
use Rattle.v_design.specs.Accesses.{AccessAct, Reading, Writing, Awaiting, Ending, Holding, Settling}
use Rattle.v_design.specs.Logs.{LoggedPhase, PhaseAccess, acts_clash, access_orders, conflict, events_ordered, least_pair_from, or_pair}
use Rattle.causal_monitor.specs.declared.group.Group.{Group}
use Rattle.causal_monitor.specs.declared.group.Group.TheVariants.{All}
use Rattle.causal_monitor.specs.Links.{is_in_group, group_against, no_access, access_at, object_at, stands_in, IsLatest, AreLinks, AreLatest, IsFirst, IsChained, AreChained, low_of, IsSearch}
use Rattle.causal_monitor.specs.Phases.{CausesComeBefore}
use Rattle.causal_monitor.specs.declared.numbered.Numbered.{Numbered}
use Rattle.causal_monitor.specs.Counted.{phase_access}
use Rattle.causal_monitor.proofs.OrderLaws.{orders_trans}

true_false : true ≡ false → ⊥
true_false e = cc

-- Groups

-- what isn't of the group against an access doesn't clash with it
no_clash : (object : ℕ) (a b : AccessAct) → is_in_group (group_against b) a ≡ false → acts_clash object a b ≡ false
no_clash object Reading Reading out = refl
no_clash object (Writing old new) Reading out = absurd (true_false out)
no_clash object (Awaiting entry) Reading out = refl
no_clash object (Ending entry) Reading out = refl
no_clash object (Holding entry) Reading out = refl
no_clash object Settling Reading out = absurd (true_false out)
no_clash object act (Writing old' new') out = absurd (true_false out)
no_clash object Reading (Awaiting entry') out = refl
no_clash object (Writing old new) (Awaiting entry') out = absurd (true_false out)
no_clash object (Awaiting entry) (Awaiting entry') out = refl
no_clash object (Ending entry) (Awaiting entry') out = refl
no_clash object (Holding entry) (Awaiting entry') out = refl
no_clash object Settling (Awaiting entry') out = absurd (true_false out)
no_clash object Reading (Ending entry') out = refl
no_clash object (Writing old new) (Ending entry') out = absurd (true_false out)
no_clash object (Awaiting entry) (Ending entry') out = refl
no_clash object (Ending entry) (Ending entry') out = refl
no_clash object (Holding entry) (Ending entry') out = refl
no_clash object Settling (Ending entry') out = absurd (true_false out)
no_clash object Reading (Holding entry') out = refl
no_clash object (Writing old new) (Holding entry') out = absurd (true_false out)
no_clash object (Awaiting entry) (Holding entry') out = refl
no_clash object (Ending entry) (Holding entry') out = refl
no_clash object (Holding entry) (Holding entry') out = refl
no_clash object Settling (Holding entry') out = absurd (true_false out)
no_clash object Reading Settling out = absurd (true_false out)
no_clash object (Writing old new) Settling out = refl
no_clash object (Awaiting entry) Settling out = absurd (true_false out)
no_clash object (Ending entry) Settling out = absurd (true_false out)
no_clash object (Holding entry) Settling out = absurd (true_false out)
no_clash object Settling Settling out = refl

-- tests one after another
left_false : (a b c d : Bool) → a ≡ false → (a && b && c && d) ≡ false
left_false true b c d e = absurd (true_false e)
left_false false b c d e = refl

inner_false : (a b c d : Bool) → b ≡ false → (a && b && c && d) ≡ false
inner_false true true c d e = absurd (true_false e)
inner_false true false c d e = refl
inner_false false b c d e = refl

third_false : (a b c d : Bool) → c ≡ true → (a && b && not c && not d) ≡ false
third_false true true true d e = refl
third_false true true false d e = absurd (true_false (sym e))
third_false true false c d e = refl
third_false false b c d e = refl

and_true : (a b : Bool) → (a && b) ≡ true → (a ≡ true) × (b ≡ true)
and_true true true e = (refl, refl)
and_true true false e = absurd (true_false (sym e))
and_true false b e = absurd (true_false (sym e))

both_true : (a b : Bool) → a ≡ true → b ≡ true → (a && b) ≡ true
both_true true true e f = refl
both_true true false e f = absurd (true_false (sym f))
both_true false b e f = absurd (true_false (sym e))

outside : (log : LoggedPhase) (first second : PhaseAccess) (same in_group : Bool) → nat_eq first.access.object second.access.object ≡ same →
    is_in_group (group_against second.access.act) first.access.act ≡ in_group → (same && in_group) ≡ false → conflict log first second ≡ false
outside log first second true true e f out = absurd (true_false out)
outside log first second true false e f out = inner_false _ _ _ _ (no_clash first.access.object first.access.act second.access.act f)
outside log first second false in_group e f out = left_false _ _ _ _ e

-- an access conflicts with none outside the group against it
pub conflicts_within : (log : LoggedPhase) (accesses : List PhaseAccess) (first second : ℕ) →
    stands_in (group_against (access_at accesses second).access.act) accesses (object_at accesses second) first ≡ false → conflict log (access_at accesses first) (access_at accesses second) ≡ false
conflicts_within log accesses first second out = outside log (access_at accesses first) (access_at accesses second) _ _ refl refl out

-- Latest places

-- one more place, which doesn't pass
pub IsLatest-more : (test : ℕ → Bool) (end : ℕ) (latest : Option ℕ) → IsLatest test end latest → test end ≡ false → IsLatest test (end + 1) latest
IsLatest-more test end None h fails = λ place low. elim (cases_eq place end) [ inl same ↦ ap test same ∙ fails | inr other ↦ h place (omega arith) ]
IsLatest-more test end (Some latest) h fails =
    (let within = h.0 in omega arith, h.1, λ place after low. elim (cases_eq place end) [ inl same ↦ ap test same ∙ fails | inr other ↦ h.2 place after (omega arith) ])

-- one more place, which passes
pub IsLatest-here : (test : ℕ → Bool) (end : ℕ) → test end ≡ true → IsLatest test (end + 1) (Some end)
IsLatest-here test end passes = (omega arith, passes, λ place after low. absurd (omega arith))

other_object : (group : Group) (accesses : List PhaseAccess) (object place : ℕ) → (object_at accesses place ≡ object → ⊥) → stands_in group accesses object place ≡ false
other_object group accesses object place other = ap (λ b. b && is_in_group group (access_at accesses place).access.act) (ne_eqb (object_at accesses place) object other)

this_object : (group : Group) (accesses : List PhaseAccess) (place : ℕ) → stands_in group accesses (object_at accesses place) place ≡ is_in_group group (access_at accesses place).access.act
this_object group accesses place = ap (λ b. b && is_in_group group (access_at accesses place).access.act) (eq-eqb (object_at accesses place) (object_at accesses place) refl)

-- one more access, of the group
pub AreLatest-here : (group : Group) (accesses : List PhaseAccess) (end object : ℕ) (table : List (Option ℕ)) → object_at accesses end ≡ object → object < length table →
    is_in_group group (access_at accesses end).access.act ≡ true → AreLatest group accesses end table → AreLatest group accesses (end + 1) (set table object (Some end))
AreLatest-here group accesses end object table is within passes had o low =
    elim (cases_eq o object) [
      | inl same ↦
          let here : stands_in group accesses o end ≡ true = ap (λ p. stands_in group accesses p end) (same ∙ sym is) ∙ this_object group accesses end ∙ passes in
          let read : get_or (set table object (Some end)) o None ≡ Some end = ap (λ j. get_or (set table object (Some end)) j None) same ∙ get_or-set_same table object (Some end) None within in
          subst (IsLatest (stands_in group accesses o) (end + 1)) (sym read) (IsLatest-here (stands_in group accesses o) end here)
      | inr other ↦
          subst (IsLatest (stands_in group accesses o) (end + 1)) (sym (get_or-set_other table object o (Some end) None other))
          (IsLatest-more (stands_in group accesses o) end (get_or table o None) (had o (omega (arith, length-set table object (Some end))))
          (other_object group accesses o end (λ e. other (sym e ∙ is))))
    ]

-- one more access, not of the group
pub AreLatest-more : (group : Group) (accesses : List PhaseAccess) (end : ℕ) (table : List (Option ℕ)) →
    is_in_group group (access_at accesses end).access.act ≡ false → AreLatest group accesses end table → AreLatest group accesses (end + 1) table
AreLatest-more group accesses end table fails had o low =
    IsLatest-more (stands_in group accesses o) end (get_or table o None) (had o low)
    (elim (cases_eq (object_at accesses end) o) [
      | inl same ↦ ap (λ p. stands_in group accesses p end) (sym same) ∙ this_object group accesses end ∙ fails
      | inr other ↦ other_object group accesses o end other
    ])

-- before the first access
pub AreLatest-none : (group : Group) (accesses : List PhaseAccess) (table : List (Option ℕ)) → ((o : ℕ) → o < length table → get_or table o None ≡ None) → AreLatest group accesses 0 table
AreLatest-none group accesses table empty o low = subst (IsLatest (stands_in group accesses o) 0) (sym (empty o low)) (λ place less. absurd (omega arith))

-- The search

-- one more link
pub AreLinks-push : (group : Group) (accesses : List PhaseAccess) (links : List (Option ℕ)) (n : ℕ) (link : Option ℕ) → length links ≡ n → AreLinks group accesses links →
    IsLatest (stands_in group accesses (object_at accesses n)) n link → AreLinks group accesses (links ++ link ∷ [])
AreLinks-push group accesses links n link long had latest place low =
    elim (cases_eq place n) [
      | inl same ↦
          subst (λ p. IsLatest (stands_in group accesses (object_at accesses p)) p (get_or (links ++ link ∷ []) p None)) (sym same)
          (subst (IsLatest (stands_in group accesses (object_at accesses n)) n) (sym (get_or_push links link None n long)) latest)
      | inr other ↦
          let within : place < length links = let more = length_push links link in omega arith in
          subst (IsLatest (stands_in group accesses (object_at accesses place)) place) (sym (get_or_append_left links (link ∷ []) None place within)) (had place within)
    ]

-- from where the search starts
pub first_start : (test stands : ℕ → Bool) (end : ℕ) (at : Option ℕ) → ((place : ℕ) → stands place ≡ false → test place ≡ false) → IsLatest stands end at → IsFirst test (low_of at) end None
first_start test stands end None only h = λ place low less. only place (h place less)
first_start test stands end (Some at) only h = λ place low less. only place (h.2 place (omega arith) less)

-- the place at which the search stands
pub first_step : (test : ℕ → Bool) (at end : ℕ) (best : Option ℕ) (passes : Bool) → test at ≡ passes → at < end → IsFirst test (at + 1) end best → IsFirst test at end (cond passes (Some at) best)
first_step test at end best true e low h = (omega arith, low, e, λ place le less. absurd (omega arith))
first_step test at end None false e low h = λ place le less. elim (cases_eq place at) [ inl same ↦ ap test same ∙ e | inr other ↦ h place (omega arith) less ]
first_step test at end (Some best) false e low h =
    (let le = h.0 in omega arith, h.1, h.2, λ place le less. elim (cases_eq place at) [ inl same ↦ ap test same ∙ e | inr other ↦ h.3 place (omega arith) less ])

-- places that don't pass may be looked at too
pub first_lower : (test : ℕ → Bool) (low at end : ℕ) (best : Option ℕ) → low ≤ at → ((place : ℕ) → low ≤ place → place < at → test place ≡ false) → IsFirst test at end best → IsFirst test low end best
first_lower test low at end None le fails h = λ place from less. elim (cases_lt place at) [ inl before ↦ fails place from before | inr after ↦ h place after less ]
first_lower test low at end (Some best) le fails h =
    (let from = h.0 in omega arith, h.1, h.2, λ place from less. elim (cases_lt place at) [ inl before ↦ fails place from before | inr after ↦ h.3 place after less ])

-- down to the next link
pub first_down : (test stands : ℕ → Bool) (at end : ℕ) (next best : Option ℕ) → ((place : ℕ) → stands place ≡ false → test place ≡ false) → IsLatest stands at next → IsFirst test at end best →
    IsFirst test (low_of next) end best
first_down test stands at end None best only latest h = first_lower test 0 at end best (omega arith) (λ place from before. only place (latest place before)) h
first_down test stands at end (Some next) best only latest h =
    first_lower test (next + 1) at end best (let low = latest.0 in omega arith) (λ place from before. only place (latest.2 place (omega arith) before)) h

find_at_front : (p : PhaseAccess → Bool) (x : PhaseAccess) (rest : List PhaseAccess) (low end : ℕ) (test : ℕ → Bool) (xs : List PhaseAccess) (best : Option ℕ) (passes : Bool) → p x ≡ passes →
    access_at xs low ≡ x → test low ≡ passes → low < end → IsFirst test low end best →
    (IsFirst test (low + 1) end best → find p rest ≡ option_map (access_at xs) best) → cond passes (Some x) (find p rest) ≡ option_map (access_at xs) best
find_at_front p x rest low end test xs None true is at passes less h more = absurd (true_false (sym passes ∙ h low (omega arith) less))
find_at_front p x rest low end test xs (Some best) true is at passes less h more =
    elim (cases_eq low best) [
      | inl same ↦ ap Some (sym at ∙ ap (access_at xs) same)
      | inr other ↦ absurd (true_false (sym passes ∙ h.3 low (omega arith) (let le = h.0 in omega arith)))
    ]
find_at_front p x rest low end test xs None false is at fails less h more = more (λ place le low'. h place (omega arith) low')
find_at_front p x rest low end test xs (Some best) false is at fails less h more =
    elim (cases_eq low best) [
      | inl same ↦ absurd (true_false (sym h.2 ∙ ap test (sym same) ∙ fails))
      | inr other ↦ more (let le = h.0 in omega arith, h.1, h.2, λ place le low'. h.3 place (omega arith) low')
    ]

find_from : (p : PhaseAccess → Bool) (xs : List PhaseAccess) (end : ℕ) → end ≤ length xs → (left low : ℕ) → low + left ≡ end → (best : Option ℕ) →
    IsFirst (λ place. p (access_at xs place)) low end best →
    find p (drop low (take end xs)) ≡ option_map (access_at xs) best
find_from p xs end within zero low all None h = ap (find p) (drop_all low (take end xs) (let long = length-take-le end xs within in omega arith))
find_from p xs end within zero low all (Some best) h = absurd (let from = h.0 in let less = h.1 in omega arith)
find_from p xs end within (suc left) low all best h =
    let long : length (take end xs) ≡ end = length-take-le end xs within in
    let at : get_or (take end xs) low no_access ≡ access_at xs low = get_or-take end xs low no_access (omega arith) in
    ap (find p) (drop_more (take end xs) low no_access (omega arith) ∙ ap (λ x. x ∷ drop (low + 1) (take end xs)) at)
    ∙ find_at_front p (access_at xs low) (drop (low + 1) (take end xs)) low end (λ place. p (access_at xs place)) xs best (p (access_at xs low)) refl refl refl (omega arith) h
    (find_from p xs end within left (low + 1) (omega arith) best)

-- the first access that passes stands at the first place that does
pub find_first : (p : PhaseAccess → Bool) (xs : List PhaseAccess) (end : ℕ) → end ≤ length xs → (best : Option ℕ) → IsFirst (λ place. p (access_at xs place)) 0 end best →
    find p (take end xs) ≡ option_map (access_at xs) best
find_first p xs end within best h = find_from p xs end within end 0 (omega arith) best h

-- an element that is read, as plain data
pub read_access : (accesses : List Numbered) (place : ℕ) (numbered : Numbered) → place < length accesses → numbered ≡ get_or accesses place numbered →
    phase_access numbered ≡ access_at (map phase_access accesses) place
read_access accesses place numbered within is = ap phase_access is ∙ sym (get_or-map phase_access accesses place numbered no_access within)

some_same : (m n : ℕ) → Some m ≡ Some n → m ≡ n
some_same m n e = cc

latest_stands : (group : Group) (accesses : List PhaseAccess) (object end : ℕ) (at : Option ℕ) → IsLatest (stands_in group accesses object) end at →
    ForSome at (λ place. (place < end) × (object_at accesses place ≡ object))
latest_stands group accesses object end None h = λ place e. absurd (let none : None ≡ Some place = e in cc)
latest_stands group accesses object end (Some latest) h = λ place e.
    subst (λ p. (p < end) × (object_at accesses p ≡ object)) (some_same latest place e) (h.0, eqb-true (object_at accesses latest) object (and_true _ _ h.1).0)

pub link_read : (group : Group) (accesses : List PhaseAccess) (links : List (Option ℕ)) (place : ℕ) (link : Option ℕ) → AreLinks group accesses links → place < length links →
    link ≡ get_or links place link →
    IsLatest (stands_in group accesses (object_at accesses place)) place link
link_read group accesses links place link are within is =
    subst (IsLatest (stands_in group accesses (object_at accesses place)) place) (sym (get_or_read links place link within is None)) (are place within)

-- the search begins at the link of its access
pub search_start : (log : LoggedPhase) (accesses : List PhaseAccess) (links : List (Option ℕ)) (number : ℕ) (at : Option ℕ) →
    AreLinks (group_against (access_at accesses number).access.act) accesses links →
    number < length links → at ≡ get_or links number at → IsSearch log accesses number at None
search_start log accesses links number at are within is =
    let group = group_against (access_at accesses number).access.act in
    let latest = link_read group accesses links number at are within is in
    record {
      stands = latest_stands group accesses (object_at accesses number) number at latest;
      first =
          first_start (λ place. conflict log (access_at accesses place) (access_at accesses number)) (stands_in group accesses (object_at accesses number)) number at
          (λ place out. conflicts_within log accesses place number out) latest;
    }

-- it goes on to the link of the access at which it stands
pub search_more : (log : LoggedPhase) (accesses : List PhaseAccess) (links : List (Option ℕ)) (number place : ℕ) (next best better : Option ℕ) (conflicts : Bool) →
    AreLinks (group_against (access_at accesses number).access.act) accesses links → place < length links → next ≡ get_or links place next →
    conflicts ≡ conflict log (access_at accesses place) (access_at accesses number) → better ≡ cond conflicts (Some place) best → IsSearch log accesses number (Some place) best →
    IsSearch log accesses number next better
search_more log accesses links number place next best better conflicts are within is test chosen had =
    let group = group_against (access_at accesses number).access.act in
    let stood = had.stands place refl in
    let latest : IsLatest (stands_in group accesses (object_at accesses number)) place next =
    subst (λ o. IsLatest (stands_in group accesses o) place next) stood.1 (link_read group accesses links place next are within is) in
    let found = latest_stands group accesses (object_at accesses number) place next latest in
    record {
      stands = λ p e. let low = (found p e).0 in let more = stood.0 in (omega arith, (found p e).1);
      first =
          first_down (λ p. conflict log (access_at accesses p) (access_at accesses number)) (stands_in group accesses (object_at accesses number)) place number next better
          (λ p out. conflicts_within log accesses p number out) latest
          (subst (IsFirst (λ p. conflict log (access_at accesses p) (access_at accesses number)) place number) (sym chosen)
          (first_step (λ p. conflict log (access_at accesses p) (access_at accesses number)) place number best conflicts (sym test) stood.0 had.first));
    }

-- with less to look at
pub search_less : (group : Group) (accesses : List PhaseAccess) (links : List (Option ℕ)) (place : ℕ) (next : Option ℕ) → AreLinks group accesses links → place < length links →
    next ≡ get_or links place next → low_of next < low_of (Some place)
search_less group accesses links place next are within is = less next (link_read group accesses links place next are within is)
  where
    less : (link : Option ℕ) → IsLatest (stands_in group accesses (object_at accesses place)) place link → low_of link < low_of (Some place)
    less None h = omega arith
    less (Some latest) h = let low = h.0 in omega arith

-- what the table says of an access's object is the access's link
pub table_read : (group : Group) (accesses : List PhaseAccess) (place : ℕ) (table : List (Option ℕ)) (object : ℕ) (link : Option ℕ) → object_at accesses place ≡ object → object < length table →
    link ≡ get_or table object link → AreLatest group accesses place table → IsLatest (stands_in group accesses (object_at accesses place)) place link
table_read group accesses place table object link is within read had =
    subst (λ o. IsLatest (stands_in group accesses o) place link) (sym is)
    (subst (IsLatest (stands_in group accesses object) place) (sym (get_or_read table object link within read None)) (had object within))

-- Chains

events_trans : (log : LoggedPhase) → CausesComeBefore log → (a b c : Option ℕ) → ForSome c (λ event. event < length log.events) → events_ordered log a b ≡ true → events_ordered log b c ≡ true →
    events_ordered log a c ≡ true
events_trans log before None b c low e f = absurd (true_false (sym e))
events_trans log before (Some a) None c low e f = absurd (true_false (sym e))
events_trans log before (Some a) (Some b) None low e f = absurd (true_false (sym f))
events_trans log before (Some a) (Some b) (Some c) low e f = orders_trans log before a b c (let less = low c refl in omega arith) e f

-- orders of accesses go on
pub access_orders_trans : (log : LoggedPhase) → CausesComeBefore log → (a b c : PhaseAccess) → ForSome c.event (λ event. event < length log.events) → access_orders log a b ≡ true →
    access_orders log b c ≡ true → access_orders log a c ≡ true
access_orders_trans log before a b c low e f =
    both_true _ _ (and_true _ _ e).0 (events_trans log before a.event b.event c.event low (and_true _ _ e).1 (and_true _ _ f).1)

-- an access without an earlier one of its object
pub IsChained-none : (log : LoggedPhase) (accesses : List PhaseAccess) (number : ℕ) → IsLatest (stands_in All accesses (object_at accesses number)) number None → IsChained log accesses number
IsChained-none log accesses number h earlier low same = absurd (true_false (sym (both_true (nat_eq (object_at accesses earlier) (object_at accesses number)) true same refl) ∙ h earlier low))

-- an access that the latest earlier one of its object orders, where each one before orders that
pub IsChained-more : (log : LoggedPhase) → CausesComeBefore log → (accesses : List PhaseAccess) (number latest : ℕ) → ForSome (access_at accesses number).event (λ event. event < length log.events) →
    IsLatest (stands_in All accesses (object_at accesses number)) number (Some latest) → IsChained log accesses latest →
    access_orders log (access_at accesses latest) (access_at accesses number) ≡ true →
    IsChained log accesses number
IsChained-more log before accesses number latest low h chained ordered earlier less same =
    elim (cases_lt earlier latest) [
      | inl first ↦
          let object : object_at accesses latest ≡ object_at accesses number = eqb-true (object_at accesses latest) (object_at accesses number) (and_true _ _ h.1).0 in
          access_orders_trans log before (access_at accesses earlier) (access_at accesses latest) (access_at accesses number) low
          (chained earlier first (subst (λ o. nat_eq (object_at accesses earlier) o ≡ true) (sym object) same)) ordered
      | inr after ↦
          elim (cases_eq earlier latest) [
            | inl is ↦ ap (λ p. access_orders log (access_at accesses p) (access_at accesses number)) is ∙ ordered
            | inr other ↦
                absurd (true_false (sym (both_true (nat_eq (object_at accesses earlier) (object_at accesses number)) true same refl) ∙ h.2 earlier (omega arith) less))
          ]
    ]

-- one more mark
pub AreChained-more : (log : LoggedPhase) (accesses : List PhaseAccess) (number : ℕ) (marks : List Bool) (mark : Bool) → number < length marks → (mark ≡ true → IsChained log accesses number) →
    AreChained log accesses number marks → AreChained log accesses (number + 1) (set marks number mark)
AreChained-more log accesses number marks mark within here had place low marked =
    elim (cases_eq place number) [
      | inl same ↦
          subst (IsChained log accesses) (sym same)
          (here (sym (ap (λ p. get_or (set marks number mark) p false) same ∙ get_or-set_same marks number mark false within) ∙ marked))
      | inr other ↦ had place (omega arith) (sym (get_or-set_other marks number place mark false other) ∙ marked)
    ]

no_conflict : (log : LoggedPhase) (first second : PhaseAccess) (same : Bool) → nat_eq first.access.object second.access.object ≡ same →
    (nat_eq first.access.object second.access.object ≡ true → access_orders log first second ≡ true) → conflict log first second ≡ false
no_conflict log first second true e ordered =
    third_false (nat_eq first.access.object second.access.object) (acts_clash first.access.object first.access.act second.access.act) (access_orders log first second)
    (access_orders log second first) (ordered e)
no_conflict log first second false e ordered =
    left_false (nat_eq first.access.object second.access.object) (acts_clash first.access.object first.access.act second.access.act) (not (access_orders log first second))
    (not (access_orders log second first)) e

-- an access that all earlier ones of its object order conflicts with none of them
pub chained_none : (log : LoggedPhase) (accesses : List PhaseAccess) (number : ℕ) → IsChained log accesses number →
    IsFirst (λ place. conflict log (access_at accesses place) (access_at accesses number)) 0 number None
chained_none log accesses number chained = λ place low less. no_conflict log (access_at accesses place) (access_at accesses number) _ refl (chained place less)

-- The least pair

pair_step : (log : LoggedPhase) (accesses : List PhaseAccess) (number : ℕ) (best : Option ℕ) → number < length accesses →
    IsFirst (λ place. conflict log (access_at accesses place) (access_at accesses number)) 0 number best →
    least_pair_from log (take number accesses) (drop number accesses)
    ≡ or_pair (option_map (access_at accesses) best) (access_at accesses number) (least_pair_from log (take (number + 1) accesses) (drop (number + 1) accesses))
pair_step log accesses number best within h =
    ap (least_pair_from log (take number accesses)) (drop_more accesses number no_access within)
    ∙ ap (λ found. or_pair found (access_at accesses number) (least_pair_from log (take number accesses ++ access_at accesses number ∷ []) (drop (number + 1) accesses)))
    (find_first (λ first. conflict log first (access_at accesses number)) accesses number (omega arith) best h)
    ∙ ap (λ earlier. or_pair (option_map (access_at accesses) best) (access_at accesses number) (least_pair_from log earlier (drop (number + 1) accesses)))
    (sym (take_more accesses number no_access within))

-- an access that conflicts with an earlier one is the later one of the least pair
pub pair_found : (log : LoggedPhase) (accesses : List PhaseAccess) (number first : ℕ) → number < length accesses →
    IsFirst (λ place. conflict log (access_at accesses place) (access_at accesses number)) 0 number (Some first) →
    least_pair_from log (take number accesses) (drop number accesses) ≡ Some (access_at accesses first, access_at accesses number)
pair_found log accesses number first within h = pair_step log accesses number (Some first) within h

-- an access that conflicts with no earlier one isn't
pub pair_more : (log : LoggedPhase) (accesses : List PhaseAccess) (number : ℕ) → number < length accesses →
    IsFirst (λ place. conflict log (access_at accesses place) (access_at accesses number)) 0 number None →
    least_pair_from log (take number accesses) (drop number accesses) ≡ least_pair_from log (take (number + 1) accesses) (drop (number + 1) accesses)
pair_more log accesses number within h = pair_step log accesses number None within h

-- after the last access
pub pair_none : (log : LoggedPhase) (accesses : List PhaseAccess) (number : ℕ) → length accesses ≤ number → least_pair_from log (take number accesses) (drop number accesses) ≡ None
pair_none log accesses number past = ap (least_pair_from log (take number accesses)) (drop_all number accesses past)
