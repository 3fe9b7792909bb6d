-- What a step does at a point, by the form of what is first in the rest (IEEE 1364-2001, clause 9).
use Rattle.std.specs.Prelude.{◌≡◌, ℕ, Bool, true, false, if◌then◌else◌, List, [], ◌∷◌, ◌++◌, get_or, set, Option, Some, None}
use Rattle.vf_base.specs.Base.{SourcePlace}
use Rattle.four_value.specs.Values.{LogicValue, is_true, natural_number}
use Rattle.v_design.specs.Trees.{Statement, Null, Block, If, Case, For, While, Repeat, Forever, Delay, EventControl, Wait, Blocking, Nonblocking, Finish}
use Rattle.v_design.specs.Expressions.{sign_of, Progress, Needs, Has, read_expression}
use Rattle.v_design.specs.Assignments.{ValueUpdate, value_at, read_assignment}
use Rattle.v_design.specs.Processes.{turns_of, read_case}
use Rattle.process_operands.specs.Choices.{chosen_by}
use Rattle.v_design.specs.Trees.{CaseItems}
use Rattle.process_code.specs.Rests.{Part, Runs, TurnsLeft}
use Rattle.process_code.specs.Points.{Point, StepSaid, SaysRead, SaysAwait, SaysFinished, SaysInner, TakesUpdate, after_turn, stage_after, said_delay}
use Rattle.process_code.specs.declared.code.Ways.{Ways}
use Rattle.process_code.specs.declared.state.Stage.{Stage}
use Rattle.process_code.specs.declared.state.Stage.TheVariants.{Ready, Waiting, Asleep, Postponed, Done}

-- it reads what is needed next, else acts with what the operands give
abbrev pub Acts : {A : Type 0} → List LogicValue → Progress A → (A → Point → StepSaid → Type 0) → Point → Point → StepSaid → Type 0
Acts values (Needs object) act old new said = (new ≡ record old { operands = old.operands ++ (value_at values object ∷ []) }) × (said ≡ SaysRead object)
Acts values (Has answer left) act old new said = act answer new said

-- it goes on at a position
abbrev pub GoesTo : Point → ℕ → Point → StepSaid → Type 0
GoesTo old position new said = (new ≡ record old { position = position; operands = [] }) × (said ≡ SaysInner)

-- it is done
abbrev pub IsDone : Point → Point → StepSaid → Type 0
IsDone old new said = (new ≡ record old { stage = Done; operands = [] }) × (said ≡ SaysFinished)

-- it waits for the entries of the statement at a position, and goes on at another
abbrev pub WaitsAt : Point → ℕ → ℕ → Point → StepSaid → Type 0
WaitsAt old at position new said = (new ≡ record old { stage = Waiting at; position = position; operands = [] }) × (said ≡ SaysAwait)

-- it stops for a delay, and goes on at a position
abbrev pub Delays : ℕ → Point → ℕ → ℕ → Point → StepSaid → Type 0
Delays now old delay position new said = (new ≡ record old { stage = stage_after now delay; position = position; operands = [] }) × (said ≡ said_delay now delay)

-- by a condition to the one position or the other
abbrev pub Branches : Point → ℕ → ℕ → LogicValue → Point → StepSaid → Type 0
Branches old inner other value new said = GoesTo old (if is_true value then inner else other) new said

-- the position of the item that is chosen, else that of the default
abbrev pub position_by : List ℕ → ℕ → Option ℕ → ℕ
position_by positions other None = other
position_by positions other (Some number) = get_or positions number other

-- to the position of the statement that is chosen
pub record Chooses (items : CaseItems) (default : Statement) (positions : List ℕ) (other : ℕ) (old : Point) (statement : Statement) (new : Point) (said : StepSaid) : Type 0 where
  pub choice : Option ℕ
  pub chosen : statement ≡ chosen_by items default choice
  pub goes : GoesTo old (position_by positions other choice) new said

-- it fixes the count of a repeat
abbrev pub Counts : Point → ℕ → ℕ → Bool → LogicValue → Point → StepSaid → Type 0
Counts old number inner signed value new said =
    (new ≡ record old { position = inner; operands = []; counts = set old.counts number (turns_of (natural_number signed value)) }) × (said ≡ SaysInner)

-- it goes on where the condition is true, else it waits and tests again
abbrev pub WaitsUnless : Point → ℕ → Bool → Point → StepSaid → Type 0
WaitsUnless old inner true new said = GoesTo old inner new said
WaitsUnless old inner false new said = WaitsAt old old.position old.position new said

-- a point with the updates of an assignment, before a position
abbrev pub filled : Point → SourcePlace → Option ℕ → ℕ → List (Option ValueUpdate) → Point
filled old place delay position updates = record old { position = position; operands = []; place = place; delay = delay; updates = updates }

-- a blocking assignment writes at once, or after a delay inside it
abbrev pub Assigns : ℕ → Point → SourcePlace → Option ℕ → ℕ → List (Option ValueUpdate) → Point → StepSaid → Type 0
Assigns now old place None position updates new said = TakesUpdate now (filled old place None position updates) new said
Assigns now old place (Some delay) position updates new said = Delays now (filled old place None position updates) delay position new said

-- what a step of a statement does; neither a null statement nor a block stands first
abbrev pub ActsBy : ℕ → List LogicValue → Statement → Ways → ℕ → Point → Point → StepSaid → Type 0
ActsBy now values Null ways next old new said = Unit {0}
ActsBy now values (Block many) ways next old new said = Unit {0}
ActsBy now values (If place condition first second) ways next old new said = Acts values (read_expression condition old.operands) (Branches old ways.inner ways.other) old new said
ActsBy now values (Case place kind value items default) ways next old new said =
    Acts values (read_case kind value items default old.operands) (Chooses items default ways.items.items ways.other old) old new said
ActsBy now values (For place first_targets first condition next_targets last body) ways next old new said =
    Acts values (read_assignment place.line first_targets first old.operands) (Assigns now old place None ways.inner) old new said
ActsBy now values (While place condition body) ways next old new said = Acts values (read_expression condition old.operands) (Branches old ways.inner next) old new said
ActsBy now values (Repeat place count body) ways next old new said = Acts values (read_expression count old.operands) (Counts old ways.other ways.inner (sign_of count)) old new said
ActsBy now values (Forever place body) ways next old new said = GoesTo old ways.inner new said
ActsBy now values (Delay place delay body) ways next old new said = (new ≡ record old { stage = stage_after now delay; position = ways.inner; operands = []; delay = None })
    × (said ≡ said_delay now delay)
ActsBy now values (EventControl place entries body) ways next old new said = WaitsAt old old.position ways.inner new said
ActsBy now values (Wait place condition body) ways next old new said = Acts values (read_expression condition old.operands) (λ value. WaitsUnless old ways.inner (is_true value)) old new said
ActsBy now values (Blocking place targets delay value) ways next old new said = Acts values (read_assignment place.line targets value old.operands) (Assigns now old place delay next) old new said
ActsBy now values (Nonblocking place targets delay value) ways next old new said =
    Acts values (read_assignment place.line targets value old.operands) (λ updates. TakesUpdate now (filled old place (Some delay) next updates)) old new said
ActsBy now values (Finish place) ways next old new said = IsDone old new said

-- what a step of a part does
abbrev pub ActsPart : ℕ → List LogicValue → Part → Ways → ℕ → Point → Point → StepSaid → Type 0
ActsPart now values (Runs statement) ways next old new said = ActsBy now values statement ways next old new said
ActsPart now values (TurnsLeft number place body) ways next old new said = (new ≡ after_turn old number ways.inner next (get_or old.counts number 0)) × (said ≡ SaysInner)
