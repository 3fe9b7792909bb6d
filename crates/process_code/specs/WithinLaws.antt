-- What a step leaves to be run is within the body of the process (IEEE 1364-2001, clause 9).
use Rattle.std.proofs.Common.{◌≡◌, ℕ, zero, suc, ◌+◌, ◌<◌, ◌≤◌, Bool, true, false, List, [], ◌∷◌, ◌++◌, length, get_or, Option, Some, None, refl, sym, ap, ◌∙◌, subst, arith}
use Rattle.std.specs.Prelude.{if◌then◌else◌}
use Rattle.vf_base.specs.Base.{SourcePlace}
use Rattle.four_value.specs.Values.{LogicValue, is_true}
use Rattle.vf_base.specs.Lists.{AllHold}
use Rattle.v_design.specs.Trees.{Piece, Expression, Target, Statement, Null, Block, If, Case, For, While, Repeat, Forever, Delay, EventControl, Wait, Blocking, Nonblocking, Finish, Statements}
use Rattle.v_design.specs.Trees.{no_statements, more_statements, CaseItems, no_items, more_items}
use Rattle.v_design.specs.Reads.{named_in, named_in_parts, named_in_targets, named_by, named_by_all, named_by_items}
use Rattle.v_design.specs.Sized.{IsSizedStatement, AreSizedStatements, AreSizedItems}
use Rattle.v_design.specs.Expressions.{sign_of, width_of, Progress, Needs, Has, read_expression}
use Rattle.v_design.specs.Assignments.{ValueUpdate, read_assignment}
use Rattle.v_design.specs.Processes.{loop_of, read_case}
use Rattle.expr_eval.specs.WidthLaws.{AllHold-left, AllHold-right}
use Rattle.process_operands.specs.BoundsLaws.{AreBelow}
use Rattle.process_code.specs.Rests.{Part, Runs, TurnsLeft, opened_parts, opened_all_parts}
use Rattle.process_code.specs.Positions.{StandsAt, ItemsLead, PartLeads}
use Rattle.process_code.specs.Points.{Point, StepSaid, TakesFirst, TakesUpdate, after_turn}
use Rattle.process_code.specs.Acts.{Acts, Branches, Chooses, Counts, position_by, WaitsUnless, Assigns, ActsPart, filled}
use Rattle.process_code.specs.StatesOf.{IsWithin, IsPartWithin, IsRestAt}
use Rattle.process_code.specs.declared.code.Ways.{Ways}

-- Parts of statements

-- several statements are sized, and name no object that the body doesn't
record AreWithin (body : Statement) (statements : Statements) : Type 0 where
  pub sized : AreSizedStatements statements
  pub below : (limit : ℕ) → AreBelow limit (named_by body) → AreBelow limit (named_by_all statements)

mutual
  -- an opened statement is within the body
  pub opened-within : (body s : Statement) (rest : List Part) → IsWithin body s → AllHold (IsPartWithin body) rest → AllHold (IsPartWithin body) (opened_parts s rest)
  opened-within body Null rest w h = h
  opened-within body (Block many) rest w h = opened_all-within body many rest (record { sized = w.sized; below = w.below }) h
  opened-within body (If place condition first second) rest w h = (w, h)
  opened-within body (Case place kind value items default) rest w h = (w, h)
  opened-within body (For place first_targets first condition next_targets next inner) rest w h = (w, h)
  opened-within body (While place condition inner) rest w h = (w, h)
  opened-within body (Repeat place count inner) rest w h = (w, h)
  opened-within body (Forever place inner) rest w h = (w, h)
  opened-within body (Delay place delay inner) rest w h = (w, h)
  opened-within body (EventControl place entries inner) rest w h = (w, h)
  opened-within body (Wait place condition inner) rest w h = (w, h)
  opened-within body (Blocking place targets delay value) rest w h = (w, h)
  opened-within body (Nonblocking place targets delay value) rest w h = (w, h)
  opened-within body (Finish place) rest w h = (w, h)

  opened_all-within : (body : Statement) (ss : Statements) (rest : List Part) → AreWithin body ss → AllHold (IsPartWithin body) rest → AllHold (IsPartWithin body) (opened_all_parts ss rest)
  opened_all-within body no_statements rest w h = h
  opened_all-within body (more_statements first others) rest w h =
      opened-within body first (opened_all_parts others rest) (record { sized = w.sized.0; below = λ limit k. AllHold-left _ (named_by first) (named_by_all others) (w.below limit k) })
      (opened_all-within body others rest (record { sized = w.sized.1; below = λ limit k. AllHold-right _ (named_by first) (named_by_all others) (w.below limit k) }) h)

-- Positions

-- an opened statement stands there
goes-opened : (body s : Statement) (rests : List (List Part)) (position : ℕ) (after : List Part) → StandsAt rests position (opened_parts s after) → IsWithin body s →
    AllHold (IsPartWithin body) after → IsRestAt body rests position
goes-opened body s rests position after stands w h = record { rest = opened_parts s after; stands = stands; within = opened-within body s after w h }

-- a rest stands there
goes-rest : (body : Statement) (rests : List (List Part)) (position : ℕ) (rest : List Part) → StandsAt rests position rest → AllHold (IsPartWithin body) rest → IsRestAt body rests position
goes-rest body rests position rest stands h = record { rest = rest; stands = stands; within = h }

pub at-same : (body : Statement) (rests : List (List Part)) (one other : ℕ) → one ≡ other → IsRestAt body rests other → IsRestAt body rests one
at-same body rests one other e h = subst (IsRestAt body rests) (sym e) h

-- where a step reads, it stays
acts-ends : {A : Type 0} (body : Statement) (rests : List (List Part)) (values : List LogicValue) (progress : Progress A) (act : A → Point → StepSaid → Type 0) (old new : Point) (said : StepSaid) →
    IsRestAt body rests old.position → ((a : A) → act a new said → IsRestAt body rests new.position) → Acts values progress act old new said → IsRestAt body rests new.position
acts-ends body rests values (Needs object) act old new said here goes h = at-same body rests new.position old.position (ap (λ (p : Point). p.position) h.0) here
acts-ends body rests values (Has a left) act old new said here goes h = goes a h

either-ends : (body : Statement) (rests : List (List Part)) (chosen : Bool) (inner other position : ℕ) → position ≡ (if chosen then inner else other) → IsRestAt body rests inner →
    IsRestAt body rests other → IsRestAt body rests position
either-ends body rests true inner other position e h k = at-same body rests position inner e h
either-ends body rests false inner other position e h k = at-same body rests position other e k

pub takes-ends : (now : ℕ) (p new : Point) (said : StepSaid) (updates : List (Option ValueUpdate)) → TakesFirst now p new said updates → new.position ≡ p.position
takes-ends now p new said [] h = absurd h
takes-ends now p new said (update ∷ updates) h = ap (λ (q : Point). q.position) h.0

-- the position after the updates of an assignment are put in
assigns-ends : (now : ℕ) (old : Point) (place : SourcePlace) (delay : Option ℕ) (position : ℕ) (updates : List (Option ValueUpdate)) (new : Point) (said : StepSaid) →
    Assigns now old place delay position updates new said → new.position ≡ position
assigns-ends now old place None position updates new said h = takes-ends now (filled old place None position updates) new said updates h
assigns-ends now old place (Some delay) position updates new said h = ap (λ (q : Point). q.position) h.0

waits-ends : (body : Statement) (rests : List (List Part)) (holds : Bool) (old new : Point) (inner : ℕ) (said : StepSaid) → WaitsUnless old inner holds new said → IsRestAt body rests old.position →
    IsRestAt body rests inner → IsRestAt body rests new.position
waits-ends body rests true old new inner said h here there = at-same body rests new.position inner (ap (λ (q : Point). q.position) h.0) there
waits-ends body rests false old new inner said h here there = at-same body rests new.position old.position (ap (λ (q : Point). q.position) h.0) here

turn-ends : (p : Point) (number inner next count : ℕ) (body : Statement) (rests : List (List Part)) (position : ℕ) → position ≡ (after_turn p number inner next count).position →
    IsRestAt body rests inner → IsRestAt body rests next → IsRestAt body rests position
turn-ends p number inner next zero body rests position e h k = at-same body rests position next e k
turn-ends p number inner next (suc count) body rests position e h k = at-same body rests position inner e h

-- the items of a case are sized, and name no object that the body doesn't
record ItemsWithin (body : Statement) (items : CaseItems) : Type 0 where
  pub width : ℕ
  pub signed : Bool
  pub sized : AreSizedItems width signed items
  pub below : (limit : ℕ) → AreBelow limit (named_by body) → AreBelow limit (named_by_items items)

items-ends : (body : Statement) (rests : List (List Part)) (positions : List ℕ) (items : CaseItems) (other : ℕ) (after : List Part) (choice : Option ℕ) →
    ItemsLead rests positions items after → ItemsWithin body items → AllHold (IsPartWithin body) after → IsRestAt body rests other → IsRestAt body rests (position_by positions other choice)
items-ends body rests positions items other after None leads w h k = k
items-ends body rests [] no_items other after (Some n) leads w h k = k
items-ends body rests (p ∷ positions) no_items other after (Some n) leads w h k = absurd leads
items-ends body rests [] (more_items labels statement others) other after (Some n) leads w h k = absurd leads
items-ends body rests (p ∷ positions) (more_items labels statement others) other after (Some zero) leads w h k =
    goes-opened body statement rests p after leads.0
    (record {
      sized = w.sized.1;
      below = λ limit b. AllHold-left _ (named_by statement) (named_by_items others)
          (AllHold-right _ (named_in_parts labels) (named_by statement ++ named_by_items others) (w.below limit b));
    }) h
items-ends body rests (p ∷ positions) (more_items labels statement others) other after (Some (suc n)) leads w h k =
    items-ends body rests positions others other after (Some n) leads.1
    (record {
      width = w.width;
      signed = w.signed;
      sized = w.sized.2;
      below = λ limit b. AllHold-right _ (named_by statement) (named_by_items others)
          (AllHold-right _ (named_in_parts labels) (named_by statement ++ named_by_items others) (w.below limit b));
    }) h k

AllHold-both : {A : Type 0} (P : A → Type 0) (xs ys : List A) → AllHold P xs → AllHold P ys → AllHold P (xs ++ ys)
AllHold-both P [] ys h k = k
AllHold-both P (x ∷ xs) ys h k = (h.0, AllHold-both P xs ys h.1 k)

-- the loop that a for goes on as names nothing more
loop-below : (limit : ℕ) (p : SourcePlace) (condition : Expression) (next_targets : List Target) (last : Expression) (inner : Statement) →
    AreBelow limit (named_in condition ++ (named_in_targets next_targets ++ (named_in last ++ named_by inner))) → AreBelow limit (named_by (loop_of p condition next_targets last inner))
loop-below limit p condition next_targets last inner h =
    let below : Piece → Type 0 = λ piece. piece.object < limit in
    let rest = AllHold-right below (named_in condition) _ h in
    let more = AllHold-right below (named_in_targets next_targets) _ rest in
    AllHold-both below (named_in condition) (named_by inner ++ ((named_in_targets next_targets ++ named_in last) ++ [])) (AllHold-left below (named_in condition) _ h)
    (AllHold-both below (named_by inner) ((named_in_targets next_targets ++ named_in last) ++ []) (AllHold-right below (named_in last) _ more)
    (AllHold-both below (named_in_targets next_targets ++ named_in last) []
    (AllHold-both below (named_in_targets next_targets) (named_in last) (AllHold-left below (named_in_targets next_targets) _ rest) (AllHold-left below (named_in last) _ more)) tt))

-- after a step a rest of the body stands at the position
pub part-ends : (body : Statement) (now : ℕ) (values : List LogicValue) (rests : List (List Part)) (repeats : ℕ) (ways : Ways) (next : ℕ) (part : Part) (after : List Part) (old new : Point)
    (said : StepSaid) →
    StandsAt rests old.position (part ∷ after) → StandsAt rests next after → PartLeads repeats rests ways part after → AllHold (IsPartWithin body) (part ∷ after) →
    ActsPart now values part ways next old new said → IsRestAt body rests new.position
part-ends body now values rests repeats ways next (Runs Null) after old new said here stands leads within acts = absurd leads
part-ends body now values rests repeats ways next (Runs (Block many)) after old new said here stands leads within acts = absurd leads
part-ends body now values rests repeats ways next (Runs (If p condition first second)) after old new said here stands leads within acts =
    let w = within.0 in
    acts-ends body rests values (read_expression condition old.operands) (Branches old ways.inner ways.other) old new said (goes-rest body rests old.position _ here within)
    (λ value h. either-ends body rests (is_true value) ways.inner ways.other new.position (ap (λ (q : Point). q.position) h.0)
    (goes-opened body first rests ways.inner after leads.0 (record {
      sized = w.sized.1;
      below =
          λ limit b. AllHold-left _ (named_by first) (named_by second) (AllHold-right _ (named_in condition) _ (w.below limit b));
    }) within.1)
    (goes-opened body second rests ways.other after leads.1 (record {
      sized = w.sized.2;
      below =
          λ limit b. AllHold-right _ (named_by first) (named_by second) (AllHold-right _ (named_in condition) _ (w.below limit b));
    }) within.1)) acts
part-ends body now values rests repeats ways next (Runs (Case p kind value items default)) after old new said here stands leads within acts =
    let w = within.0 in
    let items_below : (limit : ℕ) → AreBelow limit (named_by body) → AreBelow limit (named_by_items items) =
    λ limit b. AllHold-left _ (named_by_items items) (named_by default) (AllHold-right _ (named_in value) _ (w.below limit b)) in
    acts-ends body rests values (read_case kind value items default old.operands) (Chooses items default ways.items.items ways.other old) old new said (goes-rest body rests old.position _ here within)
    (λ statement h. at-same body rests new.position _ (ap (λ (q : Point). q.position) h.goes.0)
    (items-ends body rests ways.items.items items ways.other after h.choice leads.0 (record { width = width_of value; signed = sign_of value; sized = w.sized.2; below = items_below }) within.1
    (goes-opened body default rests ways.other after leads.1 (record {
      sized = w.sized.3;
      below =
          λ limit b. AllHold-right _ (named_by_items items) (named_by default) (AllHold-right _ (named_in value) _ (w.below limit b));
    }) within.1))) acts
part-ends body now values rests repeats ways next (Runs (For p first_targets first condition next_targets last inner)) after old new said here stands leads within acts =
    let w = within.0 in
    let loop : IsWithin body (loop_of p condition next_targets last inner) =
    record {
      sized = (w.sized.1, (w.sized.3, ((w.sized.2, tt), tt)));
      below = λ limit b.
          let all = w.below limit b in
          let rest = AllHold-right _ (named_in first) _ (AllHold-right _ (named_in_targets first_targets) _ all) in
          loop-below limit p condition next_targets last inner rest;
    } in
    acts-ends body rests values (read_assignment p.line first_targets first old.operands) (Assigns now old p None ways.inner) old new said (goes-rest body rests old.position _ here within)
    (λ updates h. at-same body rests new.position ways.inner (assigns-ends now old p None ways.inner updates new said h) (goes-rest body rests ways.inner _ leads (loop, within.1))) acts
part-ends body now values rests repeats ways next (Runs (While p condition inner)) after old new said here stands leads within acts =
    let w = within.0 in
    acts-ends body rests values (read_expression condition old.operands) (Branches old ways.inner next) old new said (goes-rest body rests old.position _ here within)
    (λ value h. either-ends body rests (is_true value) ways.inner next new.position (ap (λ (q : Point). q.position) h.0)
    (goes-opened body inner rests ways.inner _ leads (record { sized = w.sized.1; below = λ limit b. AllHold-right _ (named_in condition) _ (w.below limit b) }) within)
    (goes-rest body rests next after stands within.1)) acts
part-ends body now values rests repeats ways next (Runs (Repeat p count inner)) after old new said here stands leads within acts =
    let w = within.0 in
    acts-ends body rests values (read_expression count old.operands) (Counts old ways.other ways.inner (sign_of count)) old new said (goes-rest body rests old.position _ here within)
    (λ value h. at-same body rests new.position ways.inner (ap (λ (q : Point). q.position) h.0)
    (goes-rest body rests ways.inner _ leads.2 (record { sized = w.sized.1; below = λ limit b. AllHold-right _ (named_in count) _ (w.below limit b) }, within.1))) acts
part-ends body now values rests repeats ways next (Runs (Forever p inner)) after old new said here stands leads within acts =
    let w = within.0 in
    at-same body rests new.position ways.inner (ap (λ (q : Point). q.position) acts.0) (goes-opened body inner rests ways.inner _ leads (record { sized = w.sized; below = w.below }) within)
part-ends body now values rests repeats ways next (Runs (Delay p d inner)) after old new said here stands leads within acts =
    let w = within.0 in
    at-same body rests new.position ways.inner (ap (λ (q : Point). q.position) acts.0) (goes-opened body inner rests ways.inner after leads (record { sized = w.sized.1; below = w.below }) within.1)
part-ends body now values rests repeats ways next (Runs (EventControl p entries inner)) after old new said here stands leads within acts =
    let w = within.0 in
    at-same body rests new.position ways.inner (ap (λ (q : Point). q.position) acts.0) (goes-opened body inner rests ways.inner after leads (record { sized = w.sized.1; below = w.below }) within.1)
part-ends body now values rests repeats ways next (Runs (Wait p condition inner)) after old new said here stands leads within acts =
    let w = within.0 in
    acts-ends body rests values (read_expression condition old.operands) (λ value. WaitsUnless old ways.inner (is_true value)) old new said (goes-rest body rests old.position _ here within)
    (λ value h. waits-ends body rests (is_true value) old new ways.inner said h (goes-rest body rests old.position _ here within)
    (goes-opened body inner rests ways.inner after leads (record { sized = w.sized.1; below = λ limit b. AllHold-right _ (named_in condition) _ (w.below limit b) }) within.1)) acts
part-ends body now values rests repeats ways next (Runs (Blocking p targets d value)) after old new said here stands leads within acts =
    acts-ends body rests values (read_assignment p.line targets value old.operands) (Assigns now old p d next) old new said (goes-rest body rests old.position _ here within)
    (λ updates h. at-same body rests new.position next (assigns-ends now old p d next updates new said h) (goes-rest body rests next after stands within.1)) acts
part-ends body now values rests repeats ways next (Runs (Nonblocking p targets d value)) after old new said here stands leads within acts =
    acts-ends body rests values (read_assignment p.line targets value old.operands) (λ updates. TakesUpdate now (filled old p (Some d) next updates)) old new said
    (goes-rest body rests old.position _ here within)
    (λ updates h. at-same body rests new.position next (takes-ends now (filled old p (Some d) next updates) new said updates h) (goes-rest body rests next after stands within.1)) acts
part-ends body now values rests repeats ways next (Runs (Finish p)) after old new said here stands leads within acts =
    at-same body rests new.position old.position (ap (λ (q : Point). q.position) acts.0) (goes-rest body rests old.position _ here within)
part-ends body now values rests repeats ways next (TurnsLeft number p inner) after old new said here stands leads within acts =
    turn-ends old number ways.inner next (get_or old.counts number 0) body rests new.position (ap (λ (q : Point). q.position) acts.0)
    (goes-opened body inner rests ways.inner _ leads.2 within.0 within) (goes-rest body rests next after stands within.1)
