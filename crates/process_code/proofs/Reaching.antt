-- Steps lead from points that steps lead to only to such points.
use Rattle.std.proofs.Common.{◌≡◌, ◌≢◌, ℕ, zero, suc, Bool, true, false, List, [], ◌∷◌, get_or, set, Option, Some, None, refl, sym, ap, ◌∙◌, subst, inl, inr, get_or-set_other}
use Rattle.std.specs.Prelude.{if◌then◌else◌}
use Rattle.std.proofs.lemmas.Bool.{cases_eq}
use Rattle.std.proofs.lemmas.Option.{get_or_from_slice_get}
use Rattle.vf_base.specs.Base.{SourcePlace}
use Rattle.four_value.specs.Values.{LogicValue, is_true}
use Rattle.v_design.specs.Trees.{Expression, Statement, Null, Block, If, Case, For, While, Repeat, Forever, Delay, EventControl, Wait, Blocking, Nonblocking, Finish, Statements, no_statements}
use Rattle.v_design.specs.Trees.{more_statements}
use Rattle.v_design.specs.Expressions.{sign_of, Progress, Needs, Has, read_expression}
use Rattle.v_design.specs.Assignments.{ValueUpdate, read_assignment}
use Rattle.v_design.specs.Processes.{loop_of, read_case, either_statement}
use Rattle.process_operands.specs.Choices.{chosen_by}
use Rattle.process_code.specs.Rests.{Part, Runs, TurnsLeft, opened_parts, opened_all_parts}
use Rattle.process_code.specs.Positions.{StandsAt, PartLeads}
use Rattle.process_code.specs.Points.{Point, StepSaid, TakesFirst, TakesUpdate, after_turn, stage_after}
use Rattle.process_code.specs.Acts.{Acts, GoesTo, IsDone, WaitsAt, Branches, Chooses, Counts, position_by, WaitsUnless, Assigns, ActsPart, filled}
use Rattle.process_code.specs.ActsLaws.{chosen-stands}
use Rattle.process_code.specs.StepLaws.{either-stands}
use Rattle.process_code.specs.Reached.{HasNoTurns, CountsOnly, BeginsWait, StopsWith, IsReached}
use Rattle.process_code.specs.declared.code.Ways.{Ways}
use Rattle.process_code.specs.declared.state.Stage.{Stage}
use Rattle.process_code.specs.declared.state.Stage.TheVariants.{Ready, Waiting, Done}

-- Counts

mutual
  -- an opened statement has no turns left
  no_turns-opened : (number : ℕ) (s : Statement) (rest : List Part) → HasNoTurns number (opened_parts s rest) → HasNoTurns number rest
  no_turns-opened number Null rest h = h
  no_turns-opened number (Block many) rest h = no_turns-opened_all number many rest h
  no_turns-opened number (If place condition first second) rest h = h
  no_turns-opened number (Case place kind value items default) rest h = h
  no_turns-opened number (For place first_targets first condition next_targets next body) rest h = h
  no_turns-opened number (While place condition body) rest h = h
  no_turns-opened number (Repeat place count body) rest h = h
  no_turns-opened number (Forever place body) rest h = h
  no_turns-opened number (Delay place delay body) rest h = h
  no_turns-opened number (EventControl place entries body) rest h = h
  no_turns-opened number (Wait place condition body) rest h = h
  no_turns-opened number (Blocking place targets delay value) rest h = h
  no_turns-opened number (Nonblocking place targets delay value) rest h = h
  no_turns-opened number (Finish place) rest h = h

  no_turns-opened_all : (number : ℕ) (ss : Statements) (rest : List Part) → HasNoTurns number (opened_all_parts ss rest) → HasNoTurns number rest
  no_turns-opened_all number no_statements rest h = h
  no_turns-opened_all number (more_statements first others) rest h =
      no_turns-opened_all number others rest (no_turns-opened number first (opened_all_parts others rest) h)

pub counts-opened : (s : Statement) (rest : List Part) (counts : List ℕ) → CountsOnly rest counts → CountsOnly (opened_parts s rest) counts
counts-opened s rest counts h number none = h number (no_turns-opened number s rest none)

-- the count of a repeat that begins, or of one whose turns go on
counts-set : (number count : ℕ) (place : SourcePlace) (body : Statement) (after : List Part) (counts : List ℕ) → ((other : ℕ) → other ≢ number → HasNoTurns other after → get_or counts other 0 ≡ 0) →
    CountsOnly (TurnsLeft number place body ∷ after) (set counts number count)
counts-set number count place body after counts h other none = get_or-set_other counts number other count 0 none.0 ∙ h other none.0 none.1

-- a repeat without turns leaves no count
counts-ended : (number : ℕ) (place : SourcePlace) (body : Statement) (after : List Part) (counts : List ℕ) → get_or counts number 0 ≡ 0 → CountsOnly (TurnsLeft number place body ∷ after) counts →
    CountsOnly after counts
counts-ended number place body after counts ended h other none =
    elim (cases_eq other number) [
      | inl e ↦ ap (λ n. get_or counts n 0) e ∙ ended
      | inr ne ↦ h other (ne, none)
    ]

-- Points

pub reached-at : (rests : List (List Part)) (p : Point) (rest : List Part) → StandsAt rests p.position rest → CountsOnly rest p.counts → StopsWith rests p.stage p.operands → IsReached rests p
reached-at rests p rest stands counts stops =
    record { counts = subst (λ r. CountsOnly r p.counts) (sym (get_or_from_slice_get rests p.position rest [] stands)) counts; stops = stops }

counts-at : (rests : List (List Part)) (p : Point) (rest : List Part) → StandsAt rests p.position rest → IsReached rests p → CountsOnly rest p.counts
counts-at rests p rest stands h = subst (λ r. CountsOnly r p.counts) (get_or_from_slice_get rests p.position rest [] stands) h.counts

pub moved : (rests : List (List Part)) (new p : Point) → new ≡ p → IsReached rests p → IsReached rests new
moved rests new p e h = subst (IsReached rests) (sym e) h

pub stops-ready : (rests : List (List Part)) (stage : Stage) (operands : List LogicValue) → stage ≡ Ready → StopsWith rests stage operands
stops-ready rests stage operands e = subst (λ (s : Stage). StopsWith rests s operands) (sym e) tt

stops-delay : (rests : List (List Part)) (now delay : ℕ) → StopsWith rests (stage_after now delay) []
stops-delay rests now zero = refl
stops-delay rests now (suc delay) = refl

pub goes-reached : (rests : List (List Part)) (old new : Point) (position : ℕ) (said : StepSaid) (rest : List Part) → old.stage ≡ Ready → GoesTo old position new said →
    StandsAt rests position rest → CountsOnly rest old.counts →
    IsReached rests new
goes-reached rests old new position said rest ready h stands counts =
    moved rests new (record old { position = position; operands = [] }) h.0 (reached-at rests (record old { position = position; operands = [] }) rest stands counts
    (stops-ready rests old.stage [] ready))

pub takes-reached : (rests : List (List Part)) (now : ℕ) (p new : Point) (said : StepSaid) (updates : List (Option ValueUpdate)) (rest : List Part) → p.stage ≡ Ready →
    TakesFirst now p new said updates →
    StandsAt rests p.position rest → CountsOnly rest p.counts → IsReached rests new
takes-reached rests now p new said [] rest ready h stands counts = absurd h
takes-reached rests now p new said (update ∷ others) rest ready h stands counts =
    moved rests new (record p { operands = []; updates = others }) h.0 (reached-at rests (record p { operands = []; updates = others }) rest stands counts (stops-ready rests p.stage [] ready))

assigns-reached : (rests : List (List Part)) (now : ℕ) (old : Point) (place : SourcePlace) (delay : Option ℕ) (position : ℕ) (updates : List (Option ValueUpdate)) (new : Point) (said : StepSaid)
    (rest : List Part) → old.stage ≡ Ready →
    Assigns now old place delay position updates new said → StandsAt rests position rest → CountsOnly rest old.counts → IsReached rests new
assigns-reached rests now old place None position updates new said rest ready h stands counts =
    takes-reached rests now (filled old place None position updates) new said updates rest ready h stands counts
assigns-reached rests now old place (Some delay) position updates new said rest ready h stands counts =
    let p = filled old place None position updates in
    moved rests new (record p { stage = stage_after now delay; position = position; operands = [] }) h.0
    (reached-at rests (record p { stage = stage_after now delay; position = position; operands = [] }) rest stands counts (stops-delay rests now delay))

-- it reads, else acts
acts-reached : {A : Type 0} (rests : List (List Part)) (values : List LogicValue) (progress : Progress A) (act : A → Point → StepSaid → Type 0) (old new : Point) (said : StepSaid) →
    old.stage ≡ Ready → IsReached rests old →
    ((a : A) → act a new said → IsReached rests new) → Acts values progress act old new said → IsReached rests new
acts-reached rests values (Needs object) act old new said ready here goes h =
    moved rests new _ h.0 (record { counts = here.counts; stops = stops-ready rests old.stage _ ready })
acts-reached rests values (Has a left) act old new said ready here goes h = goes a h

-- it begins to wait
begins-reached : (rests : List (List Part)) (old new : Point) (position : ℕ) (said : StepSaid) (waiting rest : List Part) → WaitsAt old old.position position new said →
    StandsAt rests old.position waiting → BeginsWait waiting → StandsAt rests position rest → CountsOnly rest old.counts → IsReached rests new
begins-reached rests old new position said waiting rest h here begins stands counts =
    let p : Point = record old { stage = Waiting old.position; position = position; operands = [] } in
    moved rests new p h.0 (reached-at rests p rest stands counts (refl, subst BeginsWait (sym (get_or_from_slice_get rests old.position waiting [] here)) begins))

waits-reached : (rests : List (List Part)) (holds : Bool) (old new : Point) (inner : ℕ) (said : StepSaid) (place : SourcePlace) (condition : Expression) (body : Statement) (after : List Part) →
    old.stage ≡ Ready →
    WaitsUnless old inner holds new said → StandsAt rests old.position (Runs (Wait place condition body) ∷ after) → StandsAt rests inner (opened_parts body after) → CountsOnly after old.counts →
    IsReached rests new
waits-reached rests true old new inner said place condition body after ready h here there counts =
    goes-reached rests old new inner said (opened_parts body after) ready h there (counts-opened body after old.counts counts)
waits-reached rests false old new inner said place condition body after ready h here there counts =
    begins-reached rests old new old.position said (Runs (Wait place condition body) ∷ after) (Runs (Wait place condition body) ∷ after) h here tt here counts

turn-reached : (rests : List (List Part)) (old new : Point) (number inner next count : ℕ) (place : SourcePlace) (body : Statement) (after : List Part) → old.stage ≡ Ready →
    get_or old.counts number 0 ≡ count →
    new ≡ after_turn old number inner next count → StandsAt rests inner (opened_parts body (TurnsLeft number place body ∷ after)) → StandsAt rests next after →
    CountsOnly (TurnsLeft number place body ∷ after) old.counts →
    IsReached rests new
turn-reached rests old new number inner next zero place body after ready left e there further counts =
    moved rests new _ e (reached-at rests (after_turn old number inner next zero) after further (counts-ended number place body after old.counts left counts) (stops-ready rests old.stage [] ready))
turn-reached rests old new number inner next (suc count) place body after ready left e there further counts =
    moved rests new _ e (reached-at rests (after_turn old number inner next (suc count)) (opened_parts body (TurnsLeft number place body ∷ after)) there
    (counts-opened body (TurnsLeft number place body ∷ after) (set old.counts number count) (counts-set number count place body after old.counts (λ other ne none. counts other (ne, none))))
    (stops-ready rests old.stage [] ready))

-- a step of what is first in the rest
pub part-reached : (now : ℕ) (values : List LogicValue) (rests : List (List Part)) (repeats : ℕ) (ways : Ways) (next : ℕ) (part : Part) (after : List Part) (old new : Point) (said : StepSaid) →
    old.stage ≡ Ready →
    StandsAt rests old.position (part ∷ after) → StandsAt rests next after → PartLeads repeats rests ways part after → IsReached rests old →
    ActsPart now values part ways next old new said → IsReached rests new
part-reached now values rests repeats ways next (Runs Null) after old new said ready here stands leads reached acts = absurd leads
part-reached now values rests repeats ways next (Runs (Block many)) after old new said ready here stands leads reached acts = absurd leads
part-reached now values rests repeats ways next (Runs (If p condition first second)) after old new said ready here stands leads reached acts =
    let counts = counts-at rests old _ here reached in
    acts-reached rests values (read_expression condition old.operands) (Branches old ways.inner ways.other) old new said ready reached
    (λ value h. goes-reached rests old new (if is_true value then ways.inner else ways.other) said (opened_parts (either_statement (is_true value) first second) after) ready h
    (either-stands rests (is_true value) first second ways.inner ways.other after leads.0 leads.1) (counts-opened (either_statement (is_true value) first second) after old.counts counts)) acts
part-reached now values rests repeats ways next (Runs (Case p kind value items default)) after old new said ready here stands leads reached acts =
    let counts = counts-at rests old _ here reached in
    acts-reached rests values (read_case kind value items default old.operands) (Chooses items default ways.items.items ways.other old) old new said ready reached
    (λ statement h. goes-reached rests old new (position_by ways.items.items ways.other h.choice) said (opened_parts (chosen_by items default h.choice) after) ready h.goes
    (chosen-stands rests ways.items.items items default ways.other after h.choice leads.0 leads.1) (counts-opened (chosen_by items default h.choice) after old.counts counts)) acts
part-reached now values rests repeats ways next (Runs (For p first_targets first condition next_targets last inner)) after old new said ready here stands leads reached acts =
    let counts = counts-at rests old _ here reached in
    acts-reached rests values (read_assignment p.line first_targets first old.operands) (Assigns now old p None ways.inner) old new said ready reached
    (λ updates h. assigns-reached rests now old p None ways.inner updates new said (Runs (loop_of p condition next_targets last inner) ∷ after) ready h leads counts) acts
part-reached now values rests repeats ways next (Runs (While p condition inner)) after old new said ready here stands leads reached acts =
    let counts = counts-at rests old _ here reached in
    let again : Statement = Block (more_statements inner (more_statements (While p condition inner) no_statements)) in
    acts-reached rests values (read_expression condition old.operands) (Branches old ways.inner next) old new said ready reached
    (λ value h. goes-reached rests old new (if is_true value then ways.inner else next) said (opened_parts (either_statement (is_true value) again Null) after) ready h
    (either-stands rests (is_true value) again Null ways.inner next after leads stands) (counts-opened (either_statement (is_true value) again Null) after old.counts counts)) acts
part-reached now values rests repeats ways next (Runs (Repeat p count inner)) after old new said ready here stands leads reached acts =
    let counts = counts-at rests old _ here reached in
    acts-reached rests values (read_expression count old.operands) (Counts old ways.other ways.inner (sign_of count)) old new said ready reached
    (λ value h. moved rests new _ h.0 (reached-at rests _ (TurnsLeft ways.other p inner ∷ after) leads.2 (counts-set ways.other _ p inner after old.counts (λ other ne none. counts other none))
    (stops-ready rests old.stage [] ready))) acts
part-reached now values rests repeats ways next (Runs (Forever p inner)) after old new said ready here stands leads reached acts =
    let counts = counts-at rests old _ here reached in
    goes-reached rests old new ways.inner said (opened_parts inner (Runs (Forever p inner) ∷ after)) ready acts leads (counts-opened inner (Runs (Forever p inner) ∷ after) old.counts counts)
part-reached now values rests repeats ways next (Runs (Delay p d inner)) after old new said ready here stands leads reached acts =
    let counts = counts-at rests old _ here reached in
    moved rests new _ acts.0 (reached-at rests _ (opened_parts inner after) leads (counts-opened inner after old.counts counts) (stops-delay rests now d))
part-reached now values rests repeats ways next (Runs (EventControl p entries inner)) after old new said ready here stands leads reached acts =
    let counts = counts-at rests old _ here reached in
    begins-reached rests old new ways.inner said (Runs (EventControl p entries inner) ∷ after) (opened_parts inner after) acts here tt leads (counts-opened inner after old.counts counts)
part-reached now values rests repeats ways next (Runs (Wait p condition inner)) after old new said ready here stands leads reached acts =
    let counts = counts-at rests old _ here reached in
    acts-reached rests values (read_expression condition old.operands) (λ value. WaitsUnless old ways.inner (is_true value)) old new said ready reached
    (λ value h. waits-reached rests (is_true value) old new ways.inner said p condition inner after ready h here leads counts) acts
part-reached now values rests repeats ways next (Runs (Blocking p targets d value)) after old new said ready here stands leads reached acts =
    let counts = counts-at rests old _ here reached in
    acts-reached rests values (read_assignment p.line targets value old.operands) (Assigns now old p d next) old new said ready reached
    (λ updates h. assigns-reached rests now old p d next updates new said after ready h stands counts) acts
part-reached now values rests repeats ways next (Runs (Nonblocking p targets d value)) after old new said ready here stands leads reached acts =
    let counts = counts-at rests old _ here reached in
    acts-reached rests values (read_assignment p.line targets value old.operands) (λ updates. TakesUpdate now (filled old p (Some d) next updates)) old new said ready reached
    (λ updates h. takes-reached rests now (filled old p (Some d) next updates) new said updates after ready h stands counts) acts
part-reached now values rests repeats ways next (Runs (Finish p)) after old new said ready here stands leads reached acts =
    moved rests new (record old { stage = Done; operands = [] }) acts.0 (record { counts = reached.counts; stops = refl })
part-reached now values rests repeats ways next (TurnsLeft number p inner) after old new said ready here stands leads reached acts =
    turn-reached rests old new number ways.inner next (get_or old.counts number 0) p inner after ready refl acts.0 leads.2 stands (counts-at rests old _ here reached)

-- a step of the first update that is left
pub update-reached : (now : ℕ) (rests : List (List Part)) (old new : Point) (said : StepSaid) → old.stage ≡ Ready → IsReached rests old → TakesUpdate now old new said → IsReached rests new
update-reached now rests old new said ready reached acts = by_updates old.updates acts
  where
    by_updates : (updates : List (Option ValueUpdate)) → TakesFirst now old new said updates → IsReached rests new
    by_updates [] h = absurd h
    by_updates (update ∷ others) h =
        moved rests new (record old { operands = []; updates = others }) h.0 (record { counts = reached.counts; stops = stops-ready rests old.stage [] ready })

-- the end of the body
pub end-reached : (rests : List (List Part)) (always : Bool) (body : Statement) (old new : Point) (start : ℕ) (said : StepSaid) → old.stage ≡ Ready → StandsAt rests old.position [] →
    StandsAt rests start (opened_parts body []) → IsReached rests old →
    (always ≡ true → GoesTo old start new said) → (always ≡ false → IsDone old new said) → IsReached rests new
end-reached rests true body old new start said ready here stands reached again done =
    goes-reached rests old new start said (opened_parts body []) ready (again refl) stands (counts-opened body [] old.counts (counts-at rests old [] here reached))
end-reached rests false body old new start said ready here stands reached again done =
    moved rests new (record old { stage = Done; operands = [] }) (done refl).0 (record { counts = reached.counts; stops = refl })
