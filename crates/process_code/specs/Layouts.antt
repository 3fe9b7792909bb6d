-- Where the rests of a statement stand in code: a plain function of the statement (IEEE 1364-2001, clause 9).
use Rattle.std.specs.Prelude.{ℕ, ◌+◌, List, [], ◌∷◌, ◌++◌, None}
use Rattle.v_design.specs.Trees.{Statement, Null, Block, If, Case, For, While, Repeat, Forever, Delay, EventControl, Wait, Blocking, Nonblocking, Finish, Statements, no_statements, more_statements}
use Rattle.v_design.specs.Trees.{CaseItems, no_items, more_items}
use Rattle.v_design.specs.Processes.{loop_of}
use Rattle.process_code.specs.Rests.{Part, Runs, TurnsLeft, opened_all_parts}

-- the rests of the positions so far, and how many repeats have their turns there
pub record Layout : Type 0 where
  pub rests : List (List Part)
  pub repeats : ℕ

-- the end of a body alone, at position 0
abbrev pub end_layout : Layout
end_layout = record { rests = [] ∷ []; repeats = 0 }

-- one position more
abbrev pub with_rest : List Part → Layout → Layout
with_rest rest layout = record { rests = layout.rests ++ (rest ∷ []); repeats = layout.repeats }

-- one repeat more
abbrev pub with_repeat : Layout → Layout
with_repeat layout = record { rests = layout.rests; repeats = layout.repeats + 1 }

abbrev mutual
  -- the positions of a statement that stands before a rest come behind those so far, its own first; of several statements the last one's come first
  pub laid_out : Statement → List Part → Layout → Layout
  laid_out Null rest layout = layout
  laid_out (Block statements) rest layout = laid_out_all statements rest layout
  laid_out (If place condition first second) rest layout = laid_out second rest (laid_out first rest (with_rest (Runs (If place condition first second) ∷ rest) layout))
  laid_out (Case place kind value items default) rest layout =
      laid_out default rest (laid_out_items items rest (with_rest (Runs (Case place kind value items default) ∷ rest) layout))
  laid_out (For place first_targets first condition next_targets next body) rest layout =
      laid_out body (Runs (Blocking place next_targets None next) ∷ (Runs (loop_of place condition next_targets next body) ∷ rest))
      (with_rest (Runs (Blocking place next_targets None next) ∷ (Runs (loop_of place condition next_targets next body) ∷ rest))
      (with_rest (Runs (loop_of place condition next_targets next body) ∷ rest)
      (with_rest (Runs (For place first_targets first condition next_targets next body) ∷ rest) layout)))
  laid_out (While place condition body) rest layout =
      laid_out body (Runs (While place condition body) ∷ rest) (with_rest (Runs (While place condition body) ∷ rest) layout)
  laid_out (Repeat place count body) rest layout =
      laid_out body (TurnsLeft layout.repeats place body ∷ rest)
      (with_rest (TurnsLeft layout.repeats place body ∷ rest) (with_repeat (with_rest (Runs (Repeat place count body) ∷ rest) layout)))
  laid_out (Forever place body) rest layout = laid_out body (Runs (Forever place body) ∷ rest) (with_rest (Runs (Forever place body) ∷ rest) layout)
  laid_out (Delay place delay body) rest layout = laid_out body rest (with_rest (Runs (Delay place delay body) ∷ rest) layout)
  laid_out (EventControl place entries body) rest layout = laid_out body rest (with_rest (Runs (EventControl place entries body) ∷ rest) layout)
  laid_out (Wait place condition body) rest layout = laid_out body rest (with_rest (Runs (Wait place condition body) ∷ rest) layout)
  laid_out (Blocking place targets delay value) rest layout = with_rest (Runs (Blocking place targets delay value) ∷ rest) layout
  laid_out (Nonblocking place targets delay value) rest layout = with_rest (Runs (Nonblocking place targets delay value) ∷ rest) layout
  laid_out (Finish place) rest layout = with_rest (Runs (Finish place) ∷ rest) layout

  pub laid_out_all : Statements → List Part → Layout → Layout
  laid_out_all no_statements rest layout = layout
  laid_out_all (more_statements first others) rest layout = laid_out first (opened_all_parts others rest) (laid_out_all others rest layout)

  pub laid_out_items : CaseItems → List Part → Layout → Layout
  laid_out_items no_items rest layout = layout
  laid_out_items (more_items labels statement others) rest layout = laid_out_items others rest (laid_out statement rest layout)

-- the positions of a body
abbrev pub layout_of_body : Statement → Layout
layout_of_body body = laid_out body [] end_layout
