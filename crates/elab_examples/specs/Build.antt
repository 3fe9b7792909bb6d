-- Short words for syntax trees, and a summary of a flat design.
use Rattle.std.specs.Prelude.{ℕ, Bool, true, false, List, [], ◌∷◌, map, Option, Result, Ok, Err}
use Rattle.vf_base.specs.Base.{SourcePlace}
use Rattle.v_design.specs.declared.logic.ObjectKind.{ObjectKind}
use Rattle.v_design.specs.declared.logic.ObjectKind.TheVariants.{Var, Word, Net}
use Rattle.v_design.specs.Designs.{FlatObject, NameJoined, FlatNodeKind, AssignNode, GateNode, BlockNode, FlatNode, FlatProcess, FlatDesign, TestPlan}
use Rattle.v_design.specs.Trees.{Piece, Entry, Statement, EventControl}
use Rattle.v_design.specs.Grades.{FaultGrade, grade}
use Rattle.v_tree.specs.Trees.{SourceExpression, SourceExpressions, no_parts, more_parts, SourceStatement, SourceStatements, no_source_statements, more_source_statements}
use Rattle.v_names.specs.Faults.{Wrong}
use Rattle.v_elab.specs.Refusals.{Refusal, Faulty}

-- a place in a text
abbrev pub at : ℕ → ℕ → SourcePlace
at line column = record { line = line; column = column }

abbrev pub parts : List SourceExpression → SourceExpressions
parts [] = no_parts
parts (e ∷ rest) = more_parts e (parts rest)

abbrev pub steps : List SourceStatement → SourceStatements
steps [] = no_source_statements
steps (s ∷ rest) = more_source_statements s (steps rest)

-- a fault of an item
abbrev pub faulty : ℕ → ℕ → Wrong → Refusal
faulty line column wrong = Faulty (record { place = at line column; wrong = wrong })

-- What a summary tells

pub record ObjectSummary : Type 0 where
  pub name : List ℕ
  pub kind : ObjectKind
  pub width : ℕ
  pub indexes : List ℕ
  pub place : SourcePlace

pub record NodeSummary : Type 0 where
  pub kind : ℕ
  pub name : List ℕ
  pub inputs : List ℕ
  pub outputs : List ℕ

pub record JoinedSummary : Type 0 where
  pub name : List ℕ
  pub objects : List ℕ

pub record Summary : Type 0 where
  pub objects : List ObjectSummary
  pub nodes : List NodeSummary
  pub processes : List Bool
  pub joined : List JoinedSummary

abbrev pub range_indexes : Bool → ℕ → ℕ → List ℕ
range_indexes true high low = high ∷ low ∷ []
range_indexes false high low = []

abbrev pub object_indexes : FlatObject → ObjectKind → List ℕ
object_indexes object Var = range_indexes object.ranged object.high object.low
object_indexes object Word = object.address ∷ []
object_indexes object Net = range_indexes object.ranged object.high object.low

abbrev pub object_summary : FlatObject → ObjectSummary
object_summary object = record { name = object.name; kind = object.kind; width = object.width; indexes = object_indexes object object.kind; place = object.place }

abbrev pub kind_number : FlatNodeKind → ℕ
kind_number (AssignNode value places) = 0
kind_number (GateNode kind terminals) = 1
kind_number (BlockNode statement) = 2

abbrev pub summary : FlatDesign → Summary
summary design = record {
  objects = map object_summary design.objects;
  nodes = map (λ (n : FlatNode). record { kind = kind_number n.kind; name = n.name; inputs = n.inputs; outputs = n.outputs }) design.nodes;
  processes = map (λ (p : FlatProcess). p.always) design.processes;
  joined = map (λ (j : NameJoined). record { name = j.name; objects = map (λ (piece : Piece). piece.object) j.vector.pieces }) design.joined;
}

abbrev pub summary_of : Result FlatDesign Refusal → Result Summary Refusal
summary_of (Ok design) = Ok (summary design)
summary_of (Err refusal) = Err refusal

-- the grades of a plan over a flat design
abbrev pub grades_of : Result FlatDesign Refusal → TestPlan → Result (List (Option FaultGrade)) Refusal
grades_of (Ok design) plan = Ok (map (grade design plan) plan.faults)
grades_of (Err refusal) plan = Err refusal

-- the objects of the entries of an event control
abbrev pub entry_objects : Statement → List ℕ
entry_objects (EventControl place entries body) = map (λ (e : Entry). e.object) entries
entry_objects _ = []

-- what each process waits for where it begins with an event control
abbrev pub waited_for : Result FlatDesign Refusal → Result (List (List ℕ)) Refusal
waited_for (Ok design) = Ok (map (λ (p : FlatProcess). entry_objects p.body) design.processes)
waited_for (Err refusal) = Err refusal
