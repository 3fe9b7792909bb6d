-- What marks a part of a rest: the place of its statement, and which part of that statement it is (IEEE 1364-2001, clause 9).
use Rattle.std.specs.Prelude.{◌≡◌, List, [], ◌∷◌, ◌++◌, map}
use Rattle.vf_base.specs.Base.{SourcePlace}
use Rattle.v_design.specs.Trees.{Statement, Null, Block, If, Case, For, While, Repeat, Forever, Delay, EventControl, Wait, Blocking, Nonblocking, Finish, Statements, no_statements, more_statements}
use Rattle.v_design.specs.Trees.{CaseItems, no_items, more_items}
use Rattle.process_code.specs.Rests.{Part, Runs, TurnsLeft}
use Rattle.process_code.specs.Positions.{part_of_head}
use Rattle.process_code.specs.declared.code.Spot.{Spot}

-- the forms in which one statement stands in a rest: a for also as its loop and as the assignment that ends a turn, a repeat also as its turns
pub data Form : Type 0 where
  Whole : Form
  Loop : Form
  Assignment : Form
  TurnsOf : Form

pub record Mark : Type 0 where
  pub place : SourcePlace
  pub form : Form

abbrev pub whole_mark : SourcePlace → Mark
whole_mark place = record { place = place; form = Whole }

abbrev pub loop_mark : SourcePlace → Mark
loop_mark place = record { place = place; form = Loop }

abbrev pub assignment_mark : SourcePlace → Mark
assignment_mark place = record { place = place; form = Assignment }

abbrev pub turns_mark : SourcePlace → Mark
turns_mark place = record { place = place; form = TurnsOf }

-- the mark of a statement that takes steps
abbrev pub mark_of_statement : Statement → Mark
mark_of_statement Null = whole_mark (record { line = 0; column = 0 })
mark_of_statement (Block many) = whole_mark (record { line = 0; column = 0 })
mark_of_statement (If place condition first second) = whole_mark place
mark_of_statement (Case place kind value items default) = whole_mark place
mark_of_statement (For place first_targets first condition next_targets next body) = whole_mark place
mark_of_statement (While place condition body) = loop_mark place
mark_of_statement (Repeat place count body) = whole_mark place
mark_of_statement (Forever place body) = whole_mark place
mark_of_statement (Delay place delay body) = whole_mark place
mark_of_statement (EventControl place entries body) = whole_mark place
mark_of_statement (Wait place condition body) = whole_mark place
mark_of_statement (Blocking place targets delay value) = assignment_mark place
mark_of_statement (Nonblocking place targets delay value) = whole_mark place
mark_of_statement (Finish place) = whole_mark place

abbrev pub mark_of : Part → Mark
mark_of (Runs statement) = mark_of_statement statement
mark_of (TurnsLeft number place body) = turns_mark place

-- the marks of what is first at some spots
abbrev pub mark_of_spot : Spot → Mark
mark_of_spot spot = mark_of (part_of_head spot.head)

abbrev pub marks_at : List Spot → List Mark
marks_at spots = map mark_of_spot spots

abbrev mutual
  -- the marks of the parts in which a statement can stand in a rest; of several statements the last one's stand first
  pub marks_of : Statement → List Mark
  marks_of Null = []
  marks_of (Block statements) = marks_of_all statements
  marks_of (If place condition first second) = whole_mark place ∷ (marks_of first ++ marks_of second)
  marks_of (Case place kind value items default) = whole_mark place ∷ (marks_of_items items ++ marks_of default)
  marks_of (For place first_targets first condition next_targets next body) = whole_mark place ∷ (loop_mark place ∷ (assignment_mark place ∷ marks_of body))
  marks_of (While place condition body) = loop_mark place ∷ marks_of body
  marks_of (Repeat place count body) = whole_mark place ∷ (turns_mark place ∷ marks_of body)
  marks_of (Forever place body) = whole_mark place ∷ marks_of body
  marks_of (Delay place delay body) = whole_mark place ∷ marks_of body
  marks_of (EventControl place entries body) = whole_mark place ∷ marks_of body
  marks_of (Wait place condition body) = whole_mark place ∷ marks_of body
  marks_of (Blocking place targets delay value) = assignment_mark place ∷ []
  marks_of (Nonblocking place targets delay value) = whole_mark place ∷ []
  marks_of (Finish place) = whole_mark place ∷ []

  pub marks_of_all : Statements → List Mark
  marks_of_all no_statements = []
  marks_of_all (more_statements first others) = marks_of_all others ++ marks_of first

  pub marks_of_items : CaseItems → List Mark
  marks_of_items no_items = []
  marks_of_items (more_items labels statement others) = marks_of statement ++ marks_of_items others
