-- A statement whose own spot stands before the rest of a position, and whose parts are compiled behind it.
use Rattle.std.proofs.Common.{◌≡◌, ◌≢◌, ◌≤◌, ◌<◌, ℕ, zero, suc, ◌+◌, ◌-◌, Bool, List, [], ◌∷◌, ◌++◌, length, get_or, Option, Some, None, refl, sym, ap, ◌∙◌, subst, arith, length-append, append-nil}
use Rattle.std.proofs.Common.{append_assoc, unwrap_or}
use Rattle.std.specs.List.{slice_get}
use Rattle.v_design.specs.Trees.{Expression, Target, Statement, Block, Case, For, While, Repeat, Blocking, Statements, no_statements, more_statements, CaseItems, no_items, more_items}
use Rattle.vf_base.specs.Base.{SourcePlace}
use Rattle.four_value.specs.declared.operator.CaseKind.{CaseKind}
use Rattle.v_design.specs.Processes.{loop_of}
use Rattle.process_code.specs.Rests.{Part, Runs, TurnsLeft, opened_parts, NumbersFall}
use Rattle.process_code.specs.RestsLaws.{numbers_fall-opened, numbers_fall-more}
use Rattle.process_code.specs.Positions.{part_of_head, rests_of, StandsAt, ItemsLead, PartLeads}
use Rattle.process_code.specs.Marks.{Mark, mark_of, mark_of_spot, mark_of_statement, marks_at, marks_of, marks_of_items, assignment_mark, turns_mark}
use Rattle.process_code.specs.Layouts.{Layout, with_rest, with_repeat, laid_out, laid_out_items}
use Rattle.process_code.specs.Compiling.{Leads, rests_in, marks_in, layout_in, IsInStep, Grows, Places, Turned, IsBelow, MayCompile, Compiles, CompilesItems}
use Rattle.process_code.proofs.Growing.{Keeps, slice_get-last, keeps-spots, rest_at, rest-last, rests-last, some-same, grows-keeps, turned-keeps, grows-refl, grows-trans, grows-own, items_lead-more}
use Rattle.std.proofs.lemmas.Option.{slice_get_within}
use Rattle.std.proofs.lemmas.List.{map-append}
use Rattle.v_design.specs.Plain.{statement_of}
use Rattle.v_design.specs.PlainLemmas.{items_of, statements_of}
use Rattle.v_design.specs.declared.tree.CaseItem.{CaseItem}
use Rattle.v_design.specs.declared.tree.FlatStmt.{FlatStmt}
use Rattle.v_design.specs.Sized.{IsSizedStatement, AreSizedStatements, AreSizedItems, levels_of_statement, levels_of_statements, levels_of_items}
use Rattle.process_code.specs.declared.code.Head.{Head}
use Rattle.process_code.specs.declared.code.Ways.{Ways}
use Rattle.process_code.specs.declared.builder.Builder.{Builder}

-- layouts with the same rests and as many repeats are one
layout-same : (rests more : List (List Part)) (repeats number : ℕ) → rests ≡ more → repeats ≡ number →
    let one : Layout = record { rests = rests; repeats = repeats } in one ≡ record { rests = more; repeats = number }
layout-same rests more repeats number e f = ap (λ (xs : List (List Part)). let l : Layout = record { rests = xs; repeats = repeats } in l) e
    ∙ ap (λ n. let l : Layout = record { rests = more; repeats = n } in l) f

-- The rests stay

pub placed-keeps : (old placed : Builder) (head : Head) (next own : ℕ) → Places old placed head next own → Keeps (rests_in old) (rests_in placed)
placed-keeps old placed head next own p = keeps-spots old.spots.items (p.spot ∷ []) placed.spots.items p.spots

pub placed-length : (old placed : Builder) (head : Head) (next own : ℕ) → Places old placed head next own → length placed.spots.items ≡ length old.spots.items + 1
placed-length old placed head next own p = ap length p.spots ∙ length-append old.spots.items (p.spot ∷ [])

-- the rest that a spot which is placed stands for
pub placed-stands : (old placed : Builder) (head : Head) (next own : ℕ) (rest : List Part) → Places old placed head next own → StandsAt (rests_in old) next rest →
    StandsAt (rests_in placed) own (part_of_head head ∷ rest)
placed-stands old placed head next own rest p h =
    let stands : StandsAt (rests_in old) p.spot.next rest = ap (slice_get (rests_in old)) p.next_is ∙ h in
    ap (slice_get (rests_in placed)) p.own_is
    ∙ ap (λ spots. slice_get (rests_of spots) (length old.spots.items + 1)) p.spots
    ∙ rest-last old.spots.items p.spot rest stands
    ∙ ap (λ h. Some (part_of_head h ∷ rest)) p.head_is

-- what stands at the positions then
pub placed-layout : (old placed : Builder) (head : Head) (part : Part) (next own : ℕ) (rest : List Part) → Places old placed head next own → part_of_head head ≡ part →
    StandsAt (rests_in old) next rest →
    layout_in placed ≡ with_rest (part ∷ rest) (layout_in old)
placed-layout old placed head part next own rest p part_is h =
    let stands : StandsAt (rests_in old) p.spot.next rest = ap (slice_get (rests_in old)) p.next_is ∙ h in
    let rests : rests_in placed ≡ rests_in old ++ ((part ∷ rest) ∷ []) =
    ap rests_of p.spots ∙ rests-last old.spots.items p.spot rest stands ∙ ap (λ x. rests_in old ++ ((part_of_head x ∷ rest) ∷ [])) p.head_is ∙ ap (λ x. rests_in old ++ ((x ∷ rest) ∷ [])) part_is in
    layout-same (rests_in placed) _ placed.repeats old.repeats rests p.repeats

-- What may be compiled

-- the rest of a position is one
pub one-rest : (rests : List (List Part)) (position : ℕ) (one other : List Part) → StandsAt rests position one → StandsAt rests position other → one ≡ other
one-rest rests position one other h k = some-same (sym h ∙ k)

below-kept : (old new : Builder) (next : ℕ) → next ≤ length old.spots.items → IsBelow old next → Keeps (rests_in old) (rests_in new) → old.repeats ≤ new.repeats → IsBelow new next
below-kept old new next there below keeps more rest h =
    let known = rest_at old.spots.items next there in
    let P : List Part → Type 0 = λ r. NumbersFall new.repeats r in
    subst P (one-rest (rests_in new) next _ rest (keeps next _ known) h) (numbers_fall-more old.repeats new.repeats (get_or (rests_in old) next []) more (below _ known))

-- behind a spot that is placed
pub may-placed : (old placed : Builder) (head : Head) (next own : ℕ) → MayCompile old next → Places old placed head next own × IsInStep placed → MayCompile placed next
may-placed old placed head next own m p =
    record {
      in_step = p.1;
      there = omega (arith, m.there, placed-length old placed head next own p.0);
      below = below-kept old placed next m.there m.below (placed-keeps old placed head next own p.0) (omega (arith, p.0.repeats));
    }

-- before the spot that is placed
pub may-own : (old placed : Builder) (head : Head) (next own : ℕ) → MayCompile old next → Places old placed head next own × IsInStep placed →
    ((rest : List Part) → StandsAt (rests_in old) next rest → NumbersFall old.repeats (part_of_head head ∷ rest)) → MayCompile placed own
may-own old placed head next own m p falls =
    let known = rest_at old.spots.items next m.there in
    let P : List Part → Type 0 = λ r. NumbersFall placed.repeats r in
    let N : ℕ → Type 0 = λ n. NumbersFall n (part_of_head head ∷ get_or (rests_in old) next []) in
    record {
      in_step = p.1;
      there = omega (arith, p.0.own_is, placed-length old placed head next own p.0);
      below = λ rest h. subst P (one-rest (rests_in placed) own _ rest (placed-stands old placed head next own _ p.0 known) h)
          (subst N (sym p.0.repeats) (falls (get_or (rests_in old) next []) known));
    }

-- before a statement's spot that is placed
pub may-runs : (old placed : Builder) (head : Head) (s : Statement) (next own : ℕ) → MayCompile old next → Places old placed head next own × IsInStep placed → part_of_head head ≡ Runs s →
    MayCompile placed own
may-runs old placed head s next own m p e =
    may-own old placed head next own m p (λ rest h. let P : Part → Type 0 = λ part. NumbersFall old.repeats (part ∷ rest) in subst P (sym e) (m.below rest h))

-- after other spots are added
pub may-grown : (old new : Builder) (next : ℕ) → MayCompile old next → Grows old new → IsInStep new → MayCompile new next
may-grown old new next m g in_step =
    let longer : length new.spots.items ≡ length old.spots.items + length g.added = ap length g.spots ∙ length-append old.spots.items g.added in
    record {
      in_step = in_step;
      there = omega (arith, m.there, longer);
      below = below-kept old new next m.there m.below (grows-keeps old new g) g.repeats;
    }

-- before a statement that is compiled
pub may-entry : (old new : Builder) (s : Statement) (next entry : ℕ) → MayCompile old next → Compiles old new s next entry → MayCompile new entry
may-entry old new s next entry m k =
    let known = rest_at old.spots.items next m.there in
    let P : List Part → Type 0 = λ r. NumbersFall new.repeats r in
    record {
      in_step = k.in_step;
      there = k.there;
      below = λ rest h. subst P (one-rest (rests_in new) entry _ rest (k.opens _ known) h)
          (numbers_fall-opened new.repeats s (get_or (rests_in old) next []) (numbers_fall-more old.repeats new.repeats (get_or (rests_in old) next []) k.grows.repeats (m.below _ known)));
    }

-- Statements

turned-in_step : (grown new : Builder) (own : ℕ) (ways : Ways) → IsInStep grown → Turned grown new own ways → IsInStep new
turned-in_step grown new own ways in_step t =
    let spots : length new.spots.items ≡ length grown.spots.items = ap length t.spots in
    record {
      sized = λ i spot there. in_step.sized i spot (ap (λ xs. slice_get xs i) (sym t.spots) ∙ there);
      ways = omega (arith, spots, in_step.ways, t.lengths);
      repeats = omega (arith, spots, in_step.repeats, t.repeats);
    }

turned-own : (old placed grown new : Builder) (head : Head) (next own : ℕ) (ways : Ways) → Places old placed head next own → Turned grown new (own - 1) ways →
    Turned grown new (length old.spots.items) ways
turned-own old placed grown new head next own ways p t =
    let e : own - 1 ≡ length old.spots.items = omega (arith, p.own_is) in
    let P : ℕ → Type 0 = λ n. Turned grown new n ways in
    subst P e t

-- a spot that is placed has its mark before those of the spots behind it
pub marks-own : (old placed grown new : Builder) (head : Head) (next own : ℕ) (mark : Mark) (inner : List Mark) → Places old placed head next own → mark_of (part_of_head head) ≡ mark →
    marks_in grown ≡ marks_in placed ++ inner → new.spots.items ≡ grown.spots.items → marks_in new ≡ marks_in old ++ (mark ∷ inner)
marks-own old placed grown new head next own mark inner p mark_is behind same =
    let placed_marks : marks_in placed ≡ marks_in old ++ (mark ∷ []) =
    ap marks_at p.spots ∙ map-append mark_of_spot old.spots.items (p.spot ∷ [])
    ∙ ap (λ h. marks_in old ++ (mark_of (part_of_head h) ∷ [])) p.head_is ∙ ap (λ m. marks_in old ++ (m ∷ [])) mark_is in
    ap marks_at same ∙ behind ∙ ap (λ ms. ms ++ inner) placed_marks ∙ append_assoc (marks_in old) (mark ∷ []) inner

-- the marks of two parts, one compiled behind the other
pub marks-both : (placed one grown : Builder) (first second : List Mark) → marks_in one ≡ marks_in placed ++ first → marks_in grown ≡ marks_in one ++ second →
    marks_in grown ≡ marks_in placed ++ (first ++ second)
marks-both placed one grown first second h k = k ∙ ap (λ ms. ms ++ second) h ∙ append_assoc (marks_in placed) first second

-- what stands at the positions stays where the ways of a spot are set
turned-layout : (grown new : Builder) (own : ℕ) (ways : Ways) → Turned grown new own ways → layout_in new ≡ layout_in grown
turned-layout grown new own ways t = layout-same (rests_in new) (rests_in grown) new.repeats grown.repeats (ap rests_of t.spots) t.repeats

-- a statement with its own spot
pub compiled-own : (old placed grown new : Builder) (head : Head) (s : Statement) (next own : ℕ) (ways : Ways) (inner : List Mark) →
    MayCompile old next → Places old placed head next own × IsInStep placed → Grows placed grown → IsInStep grown → Turned grown new (own - 1) ways →
    part_of_head head ≡ Runs s → ((rest : List Part) → opened_parts s rest ≡ Runs s ∷ rest) → marks_of s ≡ mark_of_statement s ∷ inner → marks_in grown ≡ marks_in placed ++ inner →
    ((rest : List Part) → StandsAt (rests_in old) next rest → layout_in grown ≡ laid_out s rest (layout_in old)) →
    ((rest : List Part) → StandsAt (rests_in old) next rest → PartLeads new.repeats (rests_in new) ways (Runs s) rest) →
    Compiles old new s next own
compiled-own old placed grown new head s next own ways inner m p g in_step t head_is opened own_marks behind layout leads =
    let known = rest_at old.spots.items next m.there in
    let turned = turned-own old placed grown new head next own ways p.0 t in
    let longer : length grown.spots.items ≡ length placed.spots.items + length g.added = ap length g.spots ∙ length-append placed.spots.items g.added in
    let spots : length new.spots.items ≡ length grown.spots.items = ap length t.spots in
    let P : Part → Type 0 = λ part. PartLeads new.repeats (rests_in new) ways part (get_or (rests_in old) next []) in
    record {
      in_step = turned-in_step grown new (own - 1) ways in_step t;
      grows = grows-own old placed grown new head next own ways _ m.in_step.ways p.0 g turned known (subst P (sym head_is) (leads _ known));
      there = omega (arith, spots, longer, placed-length old placed head next own p.0, p.0.own_is);
      opens = λ rest h.
          turned-keeps grown new _ ways t own _ (grows-keeps placed grown g own _ (placed-stands old placed head next own rest p.0 h))
          ∙ ap (λ part. Some (part ∷ rest)) head_is ∙ ap Some (sym (opened rest));
      marks = marks-own old placed grown new head next own (mark_of_statement s) inner p.0 (ap mark_of head_is) behind t.spots ∙ ap (λ ms. marks_in old ++ ms) (sym own_marks);
      layout = λ rest h. turned-layout grown new (own - 1) ways t ∙ layout rest h;
    }

at-way : (rests : List (List Part)) (one other : ℕ) (rest : List Part) → one ≡ other → StandsAt rests other rest → StandsAt rests one rest
at-way rests one other rest e h = ap (slice_get rests) e ∙ h

-- a statement whose body stands before the same rest
pub compiled-body : (old placed grown new : Builder) (head : Head) (s body : Statement) (next own inner : ℕ) (ways : Ways) →
    MayCompile old next → Places old placed head next own × IsInStep placed → Compiles placed grown body next inner → Turned grown new (own - 1) ways →
    part_of_head head ≡ Runs s → ((rest : List Part) → opened_parts s rest ≡ Runs s ∷ rest) → marks_of s ≡ mark_of_statement s ∷ marks_of body →
    ((rest : List Part) (layout : Layout) → laid_out s rest layout ≡ laid_out body rest (with_rest (Runs s ∷ rest) layout)) → ways.inner ≡ inner →
    ((rest : List Part) → StandsAt (rests_in new) ways.inner (opened_parts body rest) → PartLeads new.repeats (rests_in new) ways (Runs s) rest) →
    Compiles old new s next own
compiled-body old placed grown new head s body next own inner ways m p k t head_is opened own_marks own_layout inner_is leads =
    compiled-own old placed grown new head s next own ways (marks_of body) m p k.grows k.in_step t head_is opened own_marks k.marks
    (λ rest h. k.layout rest (placed-keeps old placed head next own p.0 next rest h)
    ∙ ap (laid_out body rest) (placed-layout old placed head (Runs s) next own rest p.0 head_is h) ∙ sym (own_layout rest (layout_in old)))
    (λ rest h. leads rest (at-way (rests_in new) ways.inner inner _ inner_is
    (turned-keeps grown new _ ways t inner _ (k.opens rest (placed-keeps old placed head next own p.0 next rest h)))))

-- a statement whose body stands before the statement itself
pub compiled-loop : (old placed grown new : Builder) (head : Head) (s body : Statement) (next own inner : ℕ) (ways : Ways) →
    MayCompile old next → Places old placed head next own × IsInStep placed → Compiles placed grown body own inner → Turned grown new (own - 1) ways →
    part_of_head head ≡ Runs s → ((rest : List Part) → opened_parts s rest ≡ Runs s ∷ rest) → marks_of s ≡ mark_of_statement s ∷ marks_of body →
    ((rest : List Part) (layout : Layout) → laid_out s rest layout ≡ laid_out body (Runs s ∷ rest) (with_rest (Runs s ∷ rest) layout)) → ways.inner ≡ inner →
    ((rest : List Part) → StandsAt (rests_in new) ways.inner (opened_parts body (Runs s ∷ rest)) → PartLeads new.repeats (rests_in new) ways (Runs s) rest) →
    Compiles old new s next own
compiled-loop old placed grown new head s body next own inner ways m p k t head_is opened own_marks own_layout inner_is leads =
    compiled-own old placed grown new head s next own ways (marks_of body) m p k.grows k.in_step t head_is opened own_marks k.marks
    (λ rest h. k.layout (Runs s ∷ rest) (placed-stands old placed head next own rest p.0 h ∙ ap (λ part. Some (part ∷ rest)) head_is)
    ∙ ap (laid_out body (Runs s ∷ rest)) (placed-layout old placed head (Runs s) next own rest p.0 head_is h) ∙ sym (own_layout rest (layout_in old)))
    (λ rest h. leads rest (at-way (rests_in new) ways.inner inner _ inner_is
    (turned-keeps grown new _ ways t inner _ (k.opens _ (placed-stands old placed head next own rest p.0 h ∙ ap (λ part. Some (part ∷ rest)) head_is)))))

-- a statement with two branches
pub compiled-branches : (old placed one grown new : Builder) (head : Head) (s first second : Statement) (next own inner other : ℕ) (ways : Ways) →
    MayCompile old next → Places old placed head next own × IsInStep placed → Compiles placed one first next inner → Compiles one grown second next other → Turned grown new (own - 1) ways →
    part_of_head head ≡ Runs s → ((rest : List Part) → opened_parts s rest ≡ Runs s ∷ rest) → marks_of s ≡ mark_of_statement s ∷ (marks_of first ++ marks_of second) →
    ((rest : List Part) (layout : Layout) → laid_out s rest layout ≡ laid_out second rest (laid_out first rest (with_rest (Runs s ∷ rest) layout))) → ways.inner ≡ inner → ways.other ≡ other →
    ((rest : List Part) → StandsAt (rests_in new) ways.inner (opened_parts first rest) → StandsAt (rests_in new) ways.other (opened_parts second rest) →
    PartLeads new.repeats (rests_in new) ways (Runs s) rest) →
    Compiles old new s next own
compiled-branches old placed one grown new head s first second next own inner other ways m p j k t head_is opened own_marks own_layout inner_is other_is leads =
    compiled-own old placed grown new head s next own ways (marks_of first ++ marks_of second) m p (grows-trans placed one grown p.1.ways j.grows k.grows) k.in_step t head_is opened
    own_marks (marks-both placed one grown (marks_of first) (marks_of second) j.marks k.marks)
    (λ rest h.
    let here = placed-keeps old placed head next own p.0 next rest h in
    k.layout rest (grows-keeps placed one j.grows next rest here)
    ∙ ap (laid_out second rest) (j.layout rest here ∙ ap (laid_out first rest) (placed-layout old placed head (Runs s) next own rest p.0 head_is h)) ∙ sym (own_layout rest (layout_in old)))
    (λ rest h.
    let here = placed-keeps old placed head next own p.0 next rest h in
    leads rest
    (at-way (rests_in new) ways.inner inner _ inner_is (turned-keeps grown new _ ways t inner _ (grows-keeps one grown k.grows inner _ (j.opens rest here))))
    (at-way (rests_in new) ways.other other _ other_is (turned-keeps grown new _ ways t other _ (k.opens rest (grows-keeps placed one j.grows next rest here)))))

-- the ways of a spot that is placed stay open while others are added behind it
pub turned-self : (old placed grown : Builder) (head : Head) (next own : ℕ) (p : Places old placed head next own) → length old.spots.items ≡ length old.ways.items → Grows placed grown →
    Turned grown grown (length old.spots.items) p.way
turned-self old placed grown head next own p in_step g =
    let there : slice_get placed.ways.items (length old.spots.items) ≡ Some p.way =
    ap (λ xs. slice_get xs (length old.spots.items)) p.ways ∙ ap (slice_get (old.ways.items ++ (p.way ∷ []))) in_step ∙ slice_get-last old.ways.items p.way in
    record {
      spots = refl;
      set = g.kept (length old.spots.items) (omega (arith, placed-length old placed head next own p)) ∙ there;
      kept = λ i other. refl;
      lengths = refl;
      repeats = refl;
    }

-- a statement without parts
pub compiled-leaf : (old placed : Builder) (head : Head) (s : Statement) (next own : ℕ) →
    MayCompile old next → Places old placed head next own × IsInStep placed → part_of_head head ≡ Runs s → ((rest : List Part) → opened_parts s rest ≡ Runs s ∷ rest) →
    marks_of s ≡ mark_of_statement s ∷ [] →
    ((rest : List Part) (layout : Layout) → laid_out s rest layout ≡ with_rest (Runs s ∷ rest) layout) →
    ((ways : Ways) (rest : List Part) → PartLeads placed.repeats (rests_in placed) ways (Runs s) rest) → Compiles old placed s next own
compiled-leaf old placed head s next own m p head_is opened own_marks own_layout leads =
    let t = turned-self old placed placed head next own p.0 m.in_step.ways (grows-refl placed) in
    let e : length old.spots.items ≡ own - 1 = omega (arith, p.0.own_is) in
    let P : ℕ → Type 0 = λ n. Turned placed placed n p.0.way in
    compiled-own old placed placed placed head s next own p.0.way [] m p (grows-refl placed) p.1 (subst P e t) head_is opened own_marks (sym (append-nil (marks_in placed)))
    (λ rest h. placed-layout old placed head (Runs s) next own rest p.0 head_is h ∙ sym (own_layout rest (layout_in old))) (λ rest h. leads p.0.way rest)

-- a null statement
pub compiled-null : (old : Builder) (next : ℕ) (s : Statement) → MayCompile old next → ((rest : List Part) → opened_parts s rest ≡ rest) → marks_of s ≡ [] →
    ((rest : List Part) (layout : Layout) → laid_out s rest layout ≡ layout) → Compiles old old s next next
compiled-null old next s m opened no_marks no_layout =
    record {
      in_step = m.in_step;
      grows = grows-refl old;
      there = m.there;
      opens = λ rest h. h ∙ ap Some (sym (opened rest));
      marks = sym (append-nil (marks_in old)) ∙ ap (λ ms. marks_in old ++ ms) (sym no_marks);
      layout = λ rest h. sym (no_layout rest (layout_in old));
    }

-- one more item of a case
pub items_lead-push : (rests : List (List Part)) (positions : List ℕ) (position : ℕ) (items : List CaseItem) (item : CaseItem) (rest : List Part) →
    ItemsLead rests positions (items_of items) rest → StandsAt rests position (opened_parts (statement_of item.statement) rest) →
    ItemsLead rests (positions ++ (position ∷ [])) (items_of (items ++ (item ∷ []))) rest
items_lead-push rests [] position [] item rest h k = (k, tt)
items_lead-push rests (p ∷ positions) position [] item rest h k = absurd h
items_lead-push rests [] position (x ∷ items) item rest h k = absurd h
items_lead-push rests (p ∷ positions) position (x ∷ items) item rest h k = (h.0, items_lead-push rests positions position items item rest h.1 k)

-- the marks of one more item
pub marks-push : (items : List CaseItem) (item : CaseItem) → marks_of_items (items_of (items ++ (item ∷ []))) ≡ marks_of_items (items_of items) ++ marks_of (statement_of item.statement)
marks-push [] item = append-nil (marks_of (statement_of item.statement))
marks-push (x ∷ items) item =
    ap (λ ms. marks_of (statement_of x.statement) ++ ms) (marks-push items item) ∙ sym (append_assoc (marks_of (statement_of x.statement)) (marks_of_items (items_of items))
    (marks_of (statement_of item.statement)))

-- the positions of one more item
pub layout-push : (items : List CaseItem) (item : CaseItem) (rest : List Part) (layout : Layout) →
    laid_out_items (items_of (items ++ (item ∷ []))) rest layout ≡ laid_out (statement_of item.statement) rest (laid_out_items (items_of items) rest layout)
layout-push [] item rest layout = refl
layout-push (x ∷ items) item rest layout = layout-push items item rest (laid_out (statement_of x.statement) rest layout)

-- a case
pub compiled-case : (old placed one grown new : Builder) (head : Head) (place : SourcePlace) (kind : CaseKind) (value : Expression) (items : CaseItems) (default : Statement)
    (next own other : ℕ) (positions : List ℕ) (ways : Ways) →
    MayCompile old next → Places old placed head next own × IsInStep placed → CompilesItems placed one items next positions → Compiles one grown default next other →
    Turned grown new (own - 1) ways → part_of_head head ≡ Runs (Case place kind value items default) → ways.items.items ≡ positions → ways.other ≡ other →
    Compiles old new (Case place kind value items default) next own
compiled-case old placed one grown new head place kind value items default next own other positions ways m p j k t head_is items_are other_is =
    compiled-own old placed grown new head (Case place kind value items default) next own ways (marks_of_items items ++ marks_of default) m p
    (grows-trans placed one grown p.1.ways j.grows k.grows) k.in_step t head_is
    (λ rest. refl) refl (marks-both placed one grown (marks_of_items items) (marks_of default) j.marks k.marks)
    (λ rest h.
    let here = placed-keeps old placed head next own p.0 next rest h in
    k.layout rest (grows-keeps placed one j.grows next rest here)
    ∙ ap (laid_out default rest) (j.layout rest here ∙ ap (laid_out_items items rest) (placed-layout old placed head (Runs (Case place kind value items default)) next own rest p.0 head_is h)))
    (λ rest h.
    let here = placed-keeps old placed head next own p.0 next rest h in
    let P : List ℕ → Type 0 = λ list. ItemsLead (rests_in new) list items rest in (
      subst P (sym items_are)
          (items_lead-more (rests_in grown) (rests_in new) positions items rest (turned-keeps grown new _ ways t)
          (items_lead-more (rests_in one) (rests_in grown) positions items rest (grows-keeps one grown k.grows) (j.lead rest here))),
      at-way (rests_in new) ways.other other _ other_is (turned-keeps grown new _ ways t other _ (k.opens rest (grows-keeps placed one j.grows next rest here))),
    ))

-- a builder that counts one more repeat
pub counts-more : (old new : Builder) → new.spots.items ≡ old.spots.items → new.ways.items ≡ old.ways.items → old.repeats ≤ new.repeats → length old.spots.items ≡ length old.ways.items → Grows old new
counts-more old new spots ways more in_step =
    record {
      added = [];
      spots = spots ∙ sym (append-nil old.spots.items);
      kept = λ i low. ap (λ xs. slice_get xs i) ways;
      repeats = more;
      led = λ i spot way low h w.
          let n : length new.spots.items ≡ length old.spots.items = ap length spots in
          absurd (omega (arith, n, low, slice_get_within new.spots.items i spot h));
      falls = λ i spot low h.
          let n : length new.spots.items ≡ length old.spots.items = ap length spots in
          absurd (omega (arith, n, low, slice_get_within new.spots.items i spot h));
    }

-- the numbers of the repeats around a repeat are below its own
below-counted : (old placed counted : Builder) (head : Head) (next own : ℕ) → MayCompile old next → Places old placed head next own → Grows placed counted →
    (rest : List Part) → StandsAt (rests_in counted) next rest → NumbersFall old.repeats rest
below-counted old placed counted head next own m p g rest h =
    let r0 = rest_at old.spots.items next m.there in
    let P : List Part → Type 0 = λ r. NumbersFall old.repeats r in
    subst P (one-rest (rests_in counted) next _ rest (grows-keeps placed counted g next _ (placed-keeps old placed head next own p next _ r0)) h) (m.below _ r0)

-- before the turns of a repeat
pub may-turns : (old placed counted turned : Builder) (head turns_head : Head) (place : SourcePlace) (body : Statement) (next own turns : ℕ) →
    MayCompile old next → Places old placed head next own × IsInStep placed → Grows placed counted → IsInStep counted → old.repeats < counted.repeats →
    Places counted turned turns_head next turns × IsInStep turned → part_of_head turns_head ≡ TurnsLeft old.repeats place body → MayCompile turned turns
may-turns old placed counted turned head turns_head place body next own turns m p gc counted_in more q turns_is =
    may-own counted turned turns_head next turns (may-grown placed counted next (may-placed old placed head next own m p) gc counted_in) q
    (λ rest h. let P : Part → Type 0 = λ part. NumbersFall counted.repeats (part ∷ rest) in subst P (sym turns_is) (more, below-counted old placed counted head next own m p.0 gc rest h))

-- a repeat: its own spot, and that of its turns
pub compiled-repeat : (old placed counted turned grown led new : Builder) (head turns_head : Head) (place : SourcePlace) (count : Expression) (body : Statement)
    (next own turns inner : ℕ) (turns_ways ways : Ways) →
    MayCompile old next → Places old placed head next own × IsInStep placed → Grows placed counted → counted.spots.items ≡ placed.spots.items → IsInStep counted → counted.repeats ≡ old.repeats + 1 →
    Places counted turned turns_head next turns × IsInStep turned → Compiles turned grown body turns inner →
    Turned grown led (turns - 1) turns_ways → Turned led new (own - 1) ways →
    part_of_head head ≡ Runs (Repeat place count body) → part_of_head turns_head ≡ TurnsLeft old.repeats place body →
    turns_ways.inner ≡ inner → ways.inner ≡ turns → ways.other ≡ old.repeats →
    Compiles old new (Repeat place count body) next own
compiled-repeat old placed counted turned grown led new head turns_head place count body next own turns inner turns_ways ways m p gc same_spots counted_in one_more q k t u head_is turns_is inner_is
    turns_at number_is =
    let more : old.repeats < counted.repeats = omega (arith, one_more) in
    let may_counted = may-grown placed counted next (may-placed old placed head next own m p) gc counted_in in
    let known = rest_at counted.spots.items next may_counted.there in
    let led_own = turned-own counted turned grown led turns_head next turns turns_ways q.0 t in
    let led_in = turned-in_step grown led (turns - 1) turns_ways k.in_step t in
    let more_led : old.repeats < led.repeats = omega (arith, more, q.0.repeats, k.grows.repeats, t.repeats) in
    let turns_lead : (rest : List Part) → StandsAt (rests_in counted) next rest → StandsAt (rests_in led) turns_ways.inner (opened_parts body (TurnsLeft old.repeats place body ∷ rest)) =
    λ rest h. at-way (rests_in led) turns_ways.inner inner _ inner_is
    (turned-keeps grown led _ turns_ways t inner _ (k.opens _ (placed-stands counted turned turns_head next turns rest q.0 h ∙ ap (λ part. Some (part ∷ rest)) turns_is))) in
    let P : Part → Type 0 = λ part. PartLeads led.repeats (rests_in led) turns_ways part (get_or (rests_in counted) next []) in
    let g : Grows counted led = grows-own counted turned grown led turns_head next turns turns_ways _ counted_in.ways q.0 k.grows led_own known
    (subst P (sym turns_is) (more_led, below-counted old placed counted head next own m p.0 gc _ known, turns_lead _ known)) in
    let N : ℕ → List Part → Type 0 = λ n rest. NumbersFall n rest in
    let behind : marks_in led ≡ marks_in counted ++ (turns_mark place ∷ marks_of body) =
    marks-own counted turned grown led turns_head next turns (turns_mark place) (marks_of body) q.0 (ap mark_of turns_is) k.marks t.spots in
    compiled-own old placed led new head (Repeat place count body) next own ways (turns_mark place ∷ marks_of body) m p (grows-trans placed counted led p.1.ways gc g) led_in u head_is (λ rest. refl)
    refl (behind ∙ ap (λ spots. marks_at spots ++ (turns_mark place ∷ marks_of body)) same_spots)
    (λ rest h.
    let here = grows-keeps placed counted gc next rest (placed-keeps old placed head next own p.0 next rest h) in
    let stands : StandsAt (rests_in turned) turns (TurnsLeft old.repeats place body ∷ rest) = placed-stands counted turned turns_head next turns rest q.0 here
    ∙ ap (λ part. Some (part ∷ rest)) turns_is in
    let one_repeat : layout_in counted ≡ with_repeat (layout_in placed) = layout-same (rests_in counted) (rests_in placed) counted.repeats (placed.repeats + 1) (ap rests_of same_spots)
    (omega (arith, one_more, p.0.repeats)) in
    turned-layout grown led (turns - 1) turns_ways t ∙ k.layout (TurnsLeft old.repeats place body ∷ rest) stands
    ∙ ap (laid_out body (TurnsLeft old.repeats place body ∷ rest)) (placed-layout counted turned turns_head (TurnsLeft old.repeats place body) next turns rest q.0 turns_is here
    ∙ ap (with_rest (TurnsLeft old.repeats place body ∷ rest)) (one_repeat ∙ ap with_repeat (placed-layout old placed head (Runs (Repeat place count body)) next own rest p.0 head_is h))))
    (λ rest h.
    let here = grows-keeps placed counted gc next rest (placed-keeps old placed head next own p.0 next rest h) in
    let stands : StandsAt (rests_in turned) turns (TurnsLeft old.repeats place body ∷ rest) = placed-stands counted turned turns_head next turns rest q.0 here
    ∙ ap (λ part. Some (part ∷ rest)) turns_is in
    let F : ℕ → Type 0 = λ n. NumbersFall n rest in (
      omega (arith, number_is, more_led, u.repeats),
      subst F (sym number_is) (m.below rest h),
      ap (slice_get (rests_in new)) turns_at
          ∙ turned-keeps led new _ ways u turns _ (turned-keeps grown led _ turns_ways t turns _ (grows-keeps turned grown k.grows turns _ stands))
          ∙ ap (λ n. Some (TurnsLeft n place body ∷ rest)) (sym number_is),
    ))

-- a for: its own spot, that of its test, and that of the assignment that ends a turn
pub compiled-for : (old placed tested advanced grown led new : Builder) (head test_head advance_head : Head) (place : SourcePlace) (first_targets : List Target) (first condition : Expression)
    (next_targets : List Target) (next_value : Expression) (body : Statement) (next own test advance inner : ℕ) (test_ways ways : Ways) →
    MayCompile old next → Places old placed head next own × IsInStep placed → Places placed tested test_head next test × IsInStep tested →
    Places tested advanced advance_head test advance × IsInStep advanced → Compiles advanced grown body advance inner →
    Turned grown led (test - 1) test_ways → Turned led new (own - 1) ways →
    part_of_head head ≡ Runs (For place first_targets first condition next_targets next_value body) → part_of_head test_head ≡ Runs (loop_of place condition next_targets next_value body) →
    part_of_head advance_head ≡ Runs (Blocking place next_targets None next_value) → test_ways.inner ≡ inner → ways.inner ≡ test →
    Compiles old new (For place first_targets first condition next_targets next_value body) next own
compiled-for old placed tested advanced grown led new head test_head advance_head place first_targets first condition next_targets next_value body next own test advance inner test_ways ways
    m p q r k t u head_is test_is advance_is inner_is test_at =
    let may_placed = may-placed old placed head next own m p in
    let known = rest_at tested.spots.items test (omega (arith, q.0.own_is, placed-length placed tested test_head next test q.0)) in
    let A : Part → Type 0 = λ part. PartLeads grown.repeats (rests_in grown) r.0.way part (get_or (rests_in tested) test []) in
    let g : Grows tested grown = grows-own tested advanced grown grown advance_head test advance r.0.way _ q.1.ways r.0 k.grows
    (turned-self tested advanced grown advance_head test advance r.0 q.1.ways k.grows) known (subst A (sym advance_is) tt) in
    let loop : Compiles placed led (loop_of place condition next_targets next_value body) next test =
    compiled-own placed tested grown led test_head (loop_of place condition next_targets next_value body) next test test_ways
    (assignment_mark place ∷ marks_of body) may_placed q g k.in_step t test_is (λ rest. refl)
    refl (marks-own tested advanced grown grown advance_head test advance (assignment_mark place) (marks_of body) r.0 (ap mark_of advance_is) k.marks refl)
    (λ rest h.
    let again : List Part = Runs (loop_of place condition next_targets next_value body) ∷ rest in
    let last : List Part = Runs (Blocking place next_targets None next_value) ∷ again in
    let tested_at : StandsAt (rests_in tested) test again = placed-stands placed tested test_head next test rest q.0 h ∙ ap (λ part. Some (part ∷ rest)) test_is in
    k.layout last (placed-stands tested advanced advance_head test advance again r.0 tested_at ∙ ap (λ part. Some (part ∷ again)) advance_is)
    ∙ ap (laid_out body last) (placed-layout tested advanced advance_head (Runs (Blocking place next_targets None next_value)) test advance again r.0 advance_is tested_at
    ∙ ap (with_rest last) (placed-layout placed tested test_head (Runs (loop_of place condition next_targets next_value body)) next test rest q.0 test_is h)))
    (λ rest h. at-way (rests_in led) test_ways.inner inner _ inner_is (turned-keeps grown led _ test_ways t inner _
    (k.opens _ (placed-stands tested advanced advance_head test advance _ r.0
    (placed-stands placed tested test_head next test rest q.0 h ∙ ap (λ part. Some (part ∷ rest)) test_is)
    ∙ ap (λ part. Some (part ∷ (Runs (loop_of place condition next_targets next_value body) ∷ rest))) advance_is)))) in
    compiled-body old placed led new head _ (loop_of place condition next_targets next_value body) next own test ways m p loop u head_is (λ rest. refl) refl (λ rest layout. refl) test_at (λ rest h. h)

-- Parts

-- a statement of a block is sized
pub sized-statement : (statements : List FlatStmt) (i : ℕ) (s : FlatStmt) → i < length statements → s ≡ get_or statements i s → AreSizedStatements (statements_of statements) →
    IsSizedStatement (statement_of s)
sized-statement [] i s h e k = absurd (omega (arith, h))
sized-statement (x ∷ xs) zero s h e k = subst (λ y. IsSizedStatement (statement_of y)) (sym e) k.0
sized-statement (x ∷ xs) (suc i) s h e k = sized-statement xs i s (omega (arith, h)) e k.1

-- the statement of a case's item is sized
pub sized-item : (items : List CaseItem) (i : ℕ) (item : CaseItem) (width : ℕ) (signed : Bool) → i < length items → item ≡ get_or items i item → AreSizedItems width signed (items_of items) →
    IsSizedStatement (statement_of item.statement)
sized-item [] i item width signed h e k = absurd (omega (arith, h))
sized-item (x ∷ xs) zero item width signed h e k = subst (λ (y : CaseItem). IsSizedStatement (statement_of y.statement)) (sym e) k.1
sized-item (x ∷ xs) (suc i) item width signed h e k = sized-item xs i item width signed (omega (arith, h)) e k.2

-- Measures

pub levels-statement : (statements : List FlatStmt) (i : ℕ) (s : FlatStmt) → i < length statements → s ≡ get_or statements i s →
    levels_of_statement (statement_of s) ≤ levels_of_statements (statements_of statements)
levels-statement [] i s h e = absurd (omega (arith, h))
levels-statement (x ∷ xs) zero s h e = let n = ap (λ y. levels_of_statement (statement_of y)) e in omega (arith, n)
levels-statement (x ∷ xs) (suc i) s h e = omega (arith, levels-statement xs i s (omega (arith, h)) e)

pub levels-item : (items : List CaseItem) (i : ℕ) (item : CaseItem) → i < length items → item ≡ get_or items i item →
    levels_of_statement (statement_of item.statement) ≤ levels_of_items (items_of items)
levels-item [] i item h e = absurd (omega (arith, h))
levels-item (x ∷ xs) zero item h e = let n = ap (λ (y : CaseItem). levels_of_statement (statement_of y.statement)) e in omega (arith, n)
levels-item (x ∷ xs) (suc i) item h e = omega (arith, levels-item xs i item (omega (arith, h)) e)

-- a builder that grows has no fewer spots
pub grows-longer : (old new : Builder) → Grows old new → length old.spots.items ≤ length new.spots.items
grows-longer old new g = let n : length new.spots.items ≡ length old.spots.items + length g.added = ap length g.spots ∙ length-append old.spots.items g.added in omega (arith, n)
