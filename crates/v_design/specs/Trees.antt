-- Expressions and statements as plain data: sized trees over the objects of a design (IEEE 1364-2001, clause 4 and clause 9).
use Rattle.std.specs.Prelude.{ℕ, Bool, List, Option}
use Rattle.vf_base.specs.Base.{SourcePlace}
use Rattle.four_value.specs.Values.{LogicValue}
use Rattle.four_value.specs.declared.logic.Edge.{Edge}
use Rattle.four_value.specs.declared.operator.CaseKind.{CaseKind}
use Rattle.four_value.specs.declared.operator.UnaryOperator.{UnaryOperator}
use Rattle.four_value.specs.declared.operator.BinaryOperator.{BinaryOperator}

-- an object that holds some bits of a net, and how many
pub record Piece : Type 0 where
  pub object : ℕ
  pub width : ℕ

-- a name with its declared bounds, the first and the last index, and its pieces from the least significant
pub record Vector : Type 0 where
  pub high : ℕ
  pub low : ℕ
  pub pieces : List Piece

-- a memory with its declared bounds, the width of a word, and its words by address
pub record Memory : Type 0 where
  pub first : ℕ
  pub last : ℕ
  pub width : ℕ
  pub words : List ℕ

mutual
  -- each part has a width, and whether it is signed
  pub data Expression : Type 0 where
    Constant : (width : ℕ) (signed : Bool) (value : LogicValue) → Expression
    Name : (width : ℕ) (signed : Bool) (vector : Vector) → Expression
    BitSelect : (width : ℕ) (signed : Bool) (vector : Vector) (index : Expression) → Expression
    PartSelect : (width : ℕ) (signed : Bool) (vector : Vector) (from to : ℕ) → Expression
    WordSelect : (width : ℕ) (signed : Bool) (memory : Memory) (index : Expression) → Expression
    Unary : (width : ℕ) (signed : Bool) (operator : UnaryOperator) (operand : Expression) → Expression
    Binary : (width : ℕ) (signed : Bool) (operator : BinaryOperator) (left right : Expression) → Expression
    Conditional : (width : ℕ) (signed : Bool) (condition first second : Expression) → Expression
    Concatenation : (width : ℕ) (signed : Bool) (parts : Expressions) → Expression
    Replication : (width : ℕ) (signed : Bool) (count : ℕ) (parts : Expressions) → Expression

  pub data Expressions : Type 0 where
    no_expressions : Expressions
    more_expressions : (first : Expression) (rest : Expressions) → Expressions

-- a variable as a target, with its declared bounds
pub record Variable : Type 0 where
  pub object : ℕ
  pub width : ℕ
  pub high : ℕ
  pub low : ℕ

-- what an assignment writes
pub data Target : Type 0 where
  WholeTarget : (variable : Variable) → Target
  BitTarget : (variable : Variable) (index : Expression) → Target
  PartTarget : (variable : Variable) (from to : ℕ) → Target
  WordTarget : (memory : Memory) (index : Expression) → Target

-- an entry of a wait: a run of an object's bits and an edge
pub record Entry : Type 0 where
  pub object : ℕ
  pub low : ℕ
  pub width : ℕ
  pub edge : Edge

mutual
  -- each statement that takes a step has the place of its first token; the targets of an assignment stand from the left
  pub data Statement : Type 0 where
    Null : Statement
    Block : (statements : Statements) → Statement
    If : (place : SourcePlace) (condition : Expression) (first second : Statement) → Statement
    Case : (place : SourcePlace) (kind : CaseKind) (value : Expression) (items : CaseItems) (default : Statement) → Statement
    For : (place : SourcePlace) (first_targets : List Target) (first : Expression) (condition : Expression) (next_targets : List Target) (next : Expression) (body : Statement) → Statement
    While : (place : SourcePlace) (condition : Expression) (body : Statement) → Statement
    Repeat : (place : SourcePlace) (count : Expression) (body : Statement) → Statement
    Forever : (place : SourcePlace) (body : Statement) → Statement
    Delay : (place : SourcePlace) (delay : ℕ) (body : Statement) → Statement
    EventControl : (place : SourcePlace) (entries : List Entry) (body : Statement) → Statement
    Wait : (place : SourcePlace) (condition : Expression) (body : Statement) → Statement
    Blocking : (place : SourcePlace) (targets : List Target) (delay : Option ℕ) (value : Expression) → Statement
    Nonblocking : (place : SourcePlace) (targets : List Target) (delay : ℕ) (value : Expression) → Statement
    Finish : (place : SourcePlace) → Statement

  pub data Statements : Type 0 where
    no_statements : Statements
    more_statements : (first : Statement) (rest : Statements) → Statements

  pub data CaseItems : Type 0 where
    no_items : CaseItems
    more_items : (labels : Expressions) (statement : Statement) (rest : CaseItems) → CaseItems
