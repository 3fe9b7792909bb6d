-- Code that grows: what was there keeps its place, and what is added leads on.
use Rattle.std.proofs.Common.{◌≡◌, ◌≢◌, ◌≤◌, ◌<◌, ℕ, zero, suc, ◌+◌, List, [], ◌∷◌, ◌++◌, length, get_or, Option, Some, None, refl, sym, ap, ◌∙◌, subst, arith, length-append, append_assoc}
use Rattle.std.proofs.Common.{append-nil, inl, inr, unwrap_or}
use Rattle.std.specs.List.{slice_get}
use Rattle.std.proofs.lemmas.Bool.{cases_lt}
use Rattle.std.proofs.Math.Nat.{eq-or-lt_of_le}
use Rattle.std.proofs.lemmas.Option.{slice_get_within, slice_get-get_or, slice_get_past, get_or_from_slice_get}
use Rattle.v_design.specs.Trees.{Statement, Null, Block, If, Case, For, While, Repeat, Forever, Delay, EventControl, Wait, Blocking, Nonblocking, Finish, CaseItems, no_items, more_items}
use Rattle.process_code.specs.Rests.{Part, Runs, TurnsLeft, opened_parts, NumbersFall}
use Rattle.process_code.specs.RestsLaws.{numbers_fall-more}
use Rattle.process_code.specs.Positions.{part_of_head, rests_from, rests_of, StandsAt, ItemsLead, PartLeads}
use Rattle.process_code.specs.Compiling.{Leads, IsSizedHead, AreSizedSpots, rests_in, IsInStep, Grows, Places, Turned, IsBelow, Compiles}
use Rattle.process_code.specs.declared.code.Head.{Head}
use Rattle.process_code.specs.declared.code.Spot.{Spot}
use Rattle.process_code.specs.declared.code.Ways.{Ways}
use Rattle.process_code.specs.declared.builder.Builder.{Builder}

-- Lists

-- what stands in a list stands there in a longer one
pub slice_get-longer : {A : Type 0} (xs ys : List A) (i : ℕ) (x : A) → slice_get xs i ≡ Some x → slice_get (xs ++ ys) i ≡ Some x
slice_get-longer [] ys i x h = cc
slice_get-longer (y ∷ xs) ys zero x h = h
slice_get-longer (y ∷ xs) ys (suc i) x h = slice_get-longer xs ys i x h

-- a longer list has at each place of the shorter one what that has
pub slice_get-shorter : {A : Type 0} (xs ys : List A) (i : ℕ) → i < length xs → slice_get (xs ++ ys) i ≡ slice_get xs i
slice_get-shorter [] ys i h = absurd (omega (arith, h))
slice_get-shorter (y ∷ xs) ys zero h = refl
slice_get-shorter (y ∷ xs) ys (suc i) h = slice_get-shorter xs ys i (omega (arith, h))

-- what was put last stands behind the list
pub slice_get-last : {A : Type 0} (xs : List A) (y : A) → slice_get (xs ++ (y ∷ [])) (length xs) ≡ Some y
slice_get-last [] y = refl
slice_get-last (x ∷ xs) y = slice_get-last xs y

-- one sized spot more
pub sized-push : (spots more : List Spot) (spot : Spot) → more ≡ spots ++ (spot ∷ []) → IsSizedHead spot.head → AreSizedSpots spots → AreSizedSpots more
sized-push spots more spot e own h i other there = by_place spots h i (ap (λ xs. slice_get xs i) (sym e) ∙ there)
  where
    by_place : (xs : List Spot) → AreSizedSpots xs → (k : ℕ) → slice_get (xs ++ (spot ∷ [])) k ≡ Some other → IsSizedHead other.head
    by_place [] sized zero at = let same : spot ≡ other = cc in subst (λ (s : Spot). IsSizedHead s.head) same own
    by_place [] sized (suc k) at = absurd (cc)
    by_place (x ∷ xs) sized zero at = sized zero other at
    by_place (x ∷ xs) sized (suc k) at = by_place xs (λ j s. sized (suc j) s) k at

-- Rests

-- the rest before which a spot stands
abbrev pub rest_of_spot : List (List Part) → Spot → List Part
rest_of_spot rests spot = part_of_head spot.head ∷ get_or rests spot.next []

rests_from-append : (rests : List (List Part)) (xs ys : List Spot) → rests_from rests (xs ++ ys) ≡ rests_from (rests_from rests xs) ys
rests_from-append rests [] ys = refl
rests_from-append rests (x ∷ xs) ys = rests_from-append (rests ++ (rest_of_spot rests x ∷ [])) xs ys

-- the rests of more spots come behind
rests_from-more : (rests : List (List Part)) (spots : List Spot) → (more : List (List Part)) × (rests_from rests spots ≡ rests ++ more)
rests_from-more rests [] = ([], sym (append-nil rests))
rests_from-more rests (x ∷ xs) =
    let h = rests_from-more (rests ++ (rest_of_spot rests x ∷ [])) xs in
    ((rest_of_spot rests x ∷ []) ++ h.0, h.1 ∙ append_assoc rests (rest_of_spot rests x ∷ []) h.0)

rests_from-length : (rests : List (List Part)) (spots : List Spot) → length (rests_from rests spots) ≡ length rests + length spots
rests_from-length rests [] = omega arith
rests_from-length rests (x ∷ xs) =
    rests_from-length (rests ++ (rest_of_spot rests x ∷ [])) xs
    ∙ ap (λ n. n + length xs) (length-append rests (rest_of_spot rests x ∷ []))
    ∙ omega arith

pub rests_of-length : (spots : List Spot) → length (rests_of spots) ≡ length spots + 1
rests_of-length spots = rests_from-length ([] ∷ []) spots ∙ omega arith

-- one list of rests keeps what stands in another
abbrev pub Keeps : List (List Part) → List (List Part) → Type 0
Keeps rests more = (position : ℕ) (rest : List Part) → StandsAt rests position rest → StandsAt more position rest

pub keeps-append : (xs ys : List Spot) → Keeps (rests_of xs) (rests_of (xs ++ ys))
keeps-append xs ys position rest h =
    let more = rests_from-more (rests_of xs) ys in
    let e : rests_of (xs ++ ys) ≡ rests_of xs ++ more.0 = rests_from-append ([] ∷ []) xs ys ∙ more.1 in
    ap (λ rests. slice_get rests position) e ∙ slice_get-longer (rests_of xs) more.0 position rest h

pub keeps-spots : (xs ys zs : List Spot) → zs ≡ xs ++ ys → Keeps (rests_of xs) (rests_of zs)
keeps-spots xs ys zs e position rest h = ap (λ spots. slice_get (rests_of spots) position) e ∙ keeps-append xs ys position rest h

-- some rest stands at each position
pub rest_at : (spots : List Spot) (position : ℕ) → position ≤ length spots → StandsAt (rests_of spots) position (get_or (rests_of spots) position [])
rest_at spots position h =
    let n : length (rests_of spots) ≡ length spots + 1 = rests_of-length spots in
    slice_get-get_or (rests_of spots) position [] (omega (arith, n, h))

-- the rests where a spot is put last
pub rests-last : (spots : List Spot) (spot : Spot) (after : List Part) → StandsAt (rests_of spots) spot.next after →
    rests_of (spots ++ (spot ∷ [])) ≡ rests_of spots ++ ((part_of_head spot.head ∷ after) ∷ [])
rests-last spots spot after h =
    let same : get_or (rests_of spots) spot.next [] ≡ after = get_or_from_slice_get (rests_of spots) spot.next after [] h in
    rests_from-append ([] ∷ []) spots (spot ∷ []) ∙ ap (λ rest. rests_of spots ++ ((part_of_head spot.head ∷ rest) ∷ [])) same

-- the rest of a spot that is put last
pub rest-last : (spots : List Spot) (spot : Spot) (after : List Part) → StandsAt (rests_of spots) spot.next after →
    StandsAt (rests_of (spots ++ (spot ∷ []))) (length spots + 1) (part_of_head spot.head ∷ after)
rest-last spots spot after h =
    let e = rests-last spots spot after h in
    ap (λ rests. slice_get rests (length spots + 1)) e
    ∙ ap (slice_get (rests_of spots ++ ((part_of_head spot.head ∷ after) ∷ []))) (sym (rests_of-length spots))
    ∙ slice_get-last (rests_of spots) (part_of_head spot.head ∷ after)

-- Ways

pub items_lead-more : (rests more : List (List Part)) (positions : List ℕ) (items : CaseItems) (after : List Part) → Keeps rests more →
    ItemsLead rests positions items after → ItemsLead more positions items after
items_lead-more rests more [] no_items after keeps h = tt
items_lead-more rests more (position ∷ positions) no_items after keeps h = h
items_lead-more rests more [] (more_items labels statement others) after keeps h = h
items_lead-more rests more (position ∷ positions) (more_items labels statement others) after keeps h =
    (keeps position (opened_parts statement after) h.0, items_lead-more rests more positions others after keeps h.1)

-- ways lead on where more rests are there
pub part_leads-more : (low high : ℕ) (rests more : List (List Part)) (ways : Ways) (part : Part) (after : List Part) → low ≤ high → Keeps rests more →
    PartLeads low rests ways part after → PartLeads high more ways part after
part_leads-more low high rests more ways (Runs Null) after le keeps h = h
part_leads-more low high rests more ways (Runs (Block many)) after le keeps h = h
part_leads-more low high rests more ways (Runs (If place condition first second)) after le keeps h = (keeps _ _ h.0, keeps _ _ h.1)
part_leads-more low high rests more ways (Runs (Case place kind value items default)) after le keeps h =
    (items_lead-more rests more ways.items.items items after keeps h.0, keeps _ _ h.1)
part_leads-more low high rests more ways (Runs (For place first_targets first condition next_targets next body)) after le keeps h = keeps _ _ h
part_leads-more low high rests more ways (Runs (While place condition body)) after le keeps h = keeps _ _ h
part_leads-more low high rests more ways (Runs (Repeat place count body)) after le keeps h = (omega (arith, h.0, le), h.1, keeps _ _ h.2)
part_leads-more low high rests more ways (Runs (Forever place body)) after le keeps h = keeps _ _ h
part_leads-more low high rests more ways (Runs (Delay place delay body)) after le keeps h = keeps _ _ h
part_leads-more low high rests more ways (Runs (EventControl place entries body)) after le keeps h = keeps _ _ h
part_leads-more low high rests more ways (Runs (Wait place condition body)) after le keeps h = keeps _ _ h
part_leads-more low high rests more ways (Runs (Blocking place targets delay value)) after le keeps h = tt
part_leads-more low high rests more ways (Runs (Nonblocking place targets delay value)) after le keeps h = tt
part_leads-more low high rests more ways (Runs (Finish place)) after le keeps h = tt
part_leads-more low high rests more ways (TurnsLeft number place body) after le keeps h = (omega (arith, h.0, le), h.1, keeps _ _ h.2)

leads-more : (low high : ℕ) (rests more : List (List Part)) (spot : Spot) (ways : Ways) → low ≤ high → Keeps rests more →
    Leads low rests spot ways → Leads high more spot ways
leads-more low high rests more spot ways le keeps h =
    record {
      after = h.after;
      stands = keeps spot.next h.after h.stands;
      leads = part_leads-more low high rests more ways (part_of_head spot.head) h.after le keeps h.leads;
    }

-- Growing

pub grows-refl : (b : Builder) → Grows b b
grows-refl b =
    record {
      added = [];
      spots = sym (append-nil b.spots.items);
      kept = λ i h. refl;
      repeats = omega arith;
      led = λ i spot ways low h w. absurd (omega (arith, low, slice_get_within b.spots.items i spot h));
      falls = λ i spot low h. absurd (omega (arith, low, slice_get_within b.spots.items i spot h));
    }

-- the rests of a builder stay where it grows
pub grows-keeps : (old new : Builder) → Grows old new → Keeps (rests_in old) (rests_in new)
grows-keeps old new g = keeps-spots old.spots.items g.added new.spots.items g.spots

led-within : (one two three : Builder) → length one.spots.items ≡ length one.ways.items → Grows one two → Grows two three →
    (i : ℕ) (spot : Spot) (ways : Ways) → length one.spots.items ≤ i → i < length two.spots.items → slice_get three.spots.items i ≡ Some spot → slice_get three.ways.items i ≡ Some ways →
    Leads three.repeats (rests_in three) spot ways
led-within one two three in_step g h i spot ways low high s w =
    let s2 : slice_get two.spots.items i ≡ Some spot =
    sym (slice_get-shorter two.spots.items h.added i high) ∙ ap (λ xs. slice_get xs i) (sym h.spots) ∙ s in
    let w2 : slice_get two.ways.items i ≡ Some ways = sym (h.kept i high) ∙ w in
    leads-more two.repeats three.repeats (rests_in two) (rests_in three) spot ways h.repeats (grows-keeps two three h) (g.led i spot ways low s2 w2)

pub grows-trans : (one two three : Builder) → length one.spots.items ≡ length one.ways.items → Grows one two → Grows two three → Grows one three
grows-trans one two three in_step g h =
    let longer : length two.spots.items ≡ length one.spots.items + length g.added = ap length g.spots ∙ length-append one.spots.items g.added in
    record {
      added = g.added ++ h.added;
      spots = h.spots ∙ ap (λ xs. xs ++ h.added) g.spots ∙ append_assoc one.spots.items g.added h.added;
      kept = λ i low. h.kept i (omega (arith, longer, low)) ∙ g.kept i low;
      repeats = omega (arith, g.repeats, h.repeats);
      led = λ i spot ways low s w.
          elim (cases_lt i (length two.spots.items)) [
            | inl high ↦ led-within one two three in_step g h i spot ways low high s w
            | inr high ↦ h.led i spot ways high s w
          ];
      falls = λ i spot low s.
          elim (cases_lt i (length two.spots.items)) [
            | inl high ↦ g.falls i spot low (sym (slice_get-shorter two.spots.items h.added i high) ∙ ap (λ xs. slice_get xs i) (sym h.spots) ∙ s)
            | inr high ↦ h.falls i spot high s
          ];
    }

-- What a statement's own spot adds

pub some-same : {A : Type 0} {a b : A} → Some a ≡ Some b → a ≡ b
some-same {a = a} e = ap (λ o. unwrap_or o a) e

-- the rests of a builder stay where the ways of a spot are set
pub turned-keeps : (grown new : Builder) (own : ℕ) (ways : Ways) → Turned grown new own ways → Keeps (rests_in grown) (rests_in new)
turned-keeps grown new own ways t position rest h = ap (λ spots. slice_get (rests_of spots) position) t.spots ∙ h

-- the spot itself leads on
own-leads : (old placed grown new : Builder) (head : Head) (next own : ℕ) (ways : Ways) (after : List Part) →
    Places old placed head next own → Grows placed grown → Turned grown new (length old.spots.items) ways →
    StandsAt (rests_in old) next after → PartLeads new.repeats (rests_in new) ways (part_of_head head) after →
    (spot : Spot) (way : Ways) → slice_get new.spots.items (length old.spots.items) ≡ Some spot → slice_get new.ways.items (length old.spots.items) ≡ Some way →
    Leads new.repeats (rests_in new) spot way
own-leads old placed grown new head next own ways after p g t stands leads spot way s w =
    let there : slice_get new.spots.items (length old.spots.items) ≡ Some p.spot =
    ap (λ xs. slice_get xs (length old.spots.items)) (t.spots ∙ g.spots)
    ∙ slice_get-longer placed.spots.items g.added (length old.spots.items) p.spot
    (ap (λ xs. slice_get xs (length old.spots.items)) p.spots ∙ slice_get-last old.spots.items p.spot) in
    let spot_is : p.spot ≡ spot = some-same (sym there ∙ s) in
    let way_is : ways ≡ way = some-same (sym t.set ∙ w) in
    let keeps : Keeps (rests_in old) (rests_in new) =
    λ position rest h. turned-keeps grown new _ ways t position rest (grows-keeps placed grown g position rest (keeps-spots old.spots.items (p.spot ∷ []) placed.spots.items p.spots position rest h))
    in
    let P : Spot → Type 0 = λ x. Leads new.repeats (rests_in new) x way in
    let Q : Ways → Type 0 = λ x. Leads new.repeats (rests_in new) p.spot x in
    let H : Head → Type 0 = λ x. PartLeads new.repeats (rests_in new) ways (part_of_head x) after in
    let N : ℕ → Type 0 = λ x. StandsAt (rests_in new) x after in
    subst P spot_is (subst Q way_is (record {
      after = after;
      stands = subst N (sym p.next_is) (keeps next after stands);
      leads = subst H (sym p.head_is) leads;
    }))

own-led : (old placed grown new : Builder) (head : Head) (next own : ℕ) (ways : Ways) (after : List Part) → length old.spots.items ≡ length old.ways.items →
    Places old placed head next own → Grows placed grown → Turned grown new (length old.spots.items) ways →
    StandsAt (rests_in old) next after → PartLeads new.repeats (rests_in new) ways (part_of_head head) after →
    (i : ℕ) (spot : Spot) (way : Ways) → length old.spots.items ≤ i → slice_get new.spots.items i ≡ Some spot → slice_get new.ways.items i ≡ Some way →
    Leads new.repeats (rests_in new) spot way
own-led old placed grown new head next own ways after in_step p g t stands leads i spot way low s w =
    elim (eq-or-lt_of_le low) [
      | inl e ↦ own-leads old placed grown new head next own ways after p g t stands leads spot way (ap (slice_get new.spots.items) e ∙ s) (ap (slice_get new.ways.items) e ∙ w)
      | inr high ↦
          let longer : length placed.spots.items ≡ length old.spots.items + 1 = ap length p.spots ∙ length-append old.spots.items (p.spot ∷ []) in
          let s2 : slice_get grown.spots.items i ≡ Some spot = ap (λ xs. slice_get xs i) (sym t.spots) ∙ s in
          let w2 : slice_get grown.ways.items i ≡ Some way = sym (t.kept i (omega (arith, high))) ∙ w in
          leads-more grown.repeats new.repeats (rests_in grown) (rests_in new) spot way (omega (arith, t.repeats)) (turned-keeps grown new _ ways t)
          (g.led i spot way (omega (arith, longer, high)) s2 w2)
    ]

-- a spot is put before the rest of a position, other spots come behind it, and its ways are set
-- the spot itself stands before an earlier position, and so do those behind it
own-falls : (old placed grown new : Builder) (head : Head) (next own : ℕ) (ways : Ways) (after : List Part) →
    Places old placed head next own → Grows placed grown → Turned grown new (length old.spots.items) ways → StandsAt (rests_in old) next after →
    (i : ℕ) (spot : Spot) → length old.spots.items ≤ i → slice_get new.spots.items i ≡ Some spot → spot.next ≤ i
own-falls old placed grown new head next own ways after p g t stands i spot low s =
    let longer : length placed.spots.items ≡ length old.spots.items + 1 = ap length p.spots ∙ length-append old.spots.items (p.spot ∷ []) in
    let there : slice_get new.spots.items (length old.spots.items) ≡ Some p.spot =
    ap (λ xs. slice_get xs (length old.spots.items)) (t.spots ∙ g.spots)
    ∙ slice_get-longer placed.spots.items g.added (length old.spots.items) p.spot
    (ap (λ xs. slice_get xs (length old.spots.items)) p.spots ∙ slice_get-last old.spots.items p.spot) in
    let within : next < length (rests_in old) = slice_get_within (rests_in old) next after stands in
    elim (eq-or-lt_of_le low) [
      | inl e ↦
          let spot_is : p.spot ≡ spot = some-same (sym there ∙ ap (slice_get new.spots.items) e ∙ s) in
          let next_is : spot.next ≡ next = ap (λ (x : Spot). x.next) (sym spot_is) ∙ p.next_is in
          omega (arith, next_is, within, rests_of-length old.spots.items, low)
      | inr lt ↦ g.falls i spot (omega (arith, longer, lt)) (ap (λ xs. slice_get xs i) (sym t.spots) ∙ s)
    ]

pub grows-own : (old placed grown new : Builder) (head : Head) (next own : ℕ) (ways : Ways) (after : List Part) → length old.spots.items ≡ length old.ways.items →
    Places old placed head next own → Grows placed grown → Turned grown new (length old.spots.items) ways →
    StandsAt (rests_in old) next after → PartLeads new.repeats (rests_in new) ways (part_of_head head) after → Grows old new
grows-own old placed grown new head next own ways after in_step p g t stands leads =
    let longer : length placed.spots.items ≡ length old.spots.items + 1 = ap length p.spots ∙ length-append old.spots.items (p.spot ∷ []) in
    record {
      added = (p.spot ∷ []) ++ g.added;
      spots = t.spots ∙ g.spots ∙ ap (λ xs. xs ++ g.added) p.spots ∙ append_assoc old.spots.items (p.spot ∷ []) g.added;
      kept = λ i low.
          t.kept i (omega (arith, low)) ∙ g.kept i (omega (arith, low, longer)) ∙ ap (λ xs. slice_get xs i) p.ways ∙ slice_get-shorter old.ways.items (p.way ∷ []) i (omega (arith, low, in_step));
      repeats = omega (arith, p.repeats, g.repeats, t.repeats);
      led = own-led old placed grown new head next own ways after in_step p g t stands leads;
      falls = own-falls old placed grown new head next own ways after p g t stands;
    }
