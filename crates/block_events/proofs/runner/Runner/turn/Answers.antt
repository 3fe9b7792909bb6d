-- The turn is that of the runner's state.
use Rattle.std.proofs.Common.{◌≡◌, ℕ, List, refl, Ok, Err}
use Rattle.std.specs.Prelude.{Option, Some, None, Result, IfOk}
use Rattle.std.proofs.lemmas.Result.{IfOk-weaker}
use Rattle.v_design.specs.Runs.{turned_by}
use Rattle.v_design.specs.States.{State, ProcessState, TurnKind, PostponedTurn, UpdatesTurn, TimeTurn, turn_of}
use Rattle.process_table.specs.Arranged.{table_of}
use Rattle.process_table.specs.Tables.{IsTableOf}
use Rattle.block_events.specs.declared.runner.Runner.{Runner}
use Rattle.block_events.specs.Runners.{IsWhole, machine_of, state_of}
use Rattle.block_events.proofs.runner.Runner.turn.Goals as goal

table-of : (runner : Runner) → IsWhole runner → IsTableOf (machine_of runner) (state_of runner) (table_of runner.table)
table-of runner whole = record { design = whole.design; time = refl; processes = refl }

-- a turn leaves the values and the nodes
turned-state : (turn : Option TurnKind) (state : State) (time : ℕ) (processes : List ProcessState) → time ≡ (turned_by turn state).time → processes ≡ (turned_by turn state).processes →
    record state { time = time; processes = processes } ≡ turned_by turn state
turned-state None state time processes t p = λ i. record state { time = t i; processes = p i }
turned-state (Some PostponedTurn) state time processes t p = λ i. record state { time = t i; processes = p i }
turned-state (Some UpdatesTurn) state time processes t p = λ i. record state { time = t i; processes = p i }
turned-state (Some (TimeTurn at)) state time processes t p = λ i. record state { time = t i; processes = p i }

both-ok : {T E : Type 0} (r : Result T E) (P Q : T → Type 0) → IfOk r P → IfOk r Q → IfOk r (λ x. P x × Q x)
both-ok (Ok x) P Q p q = (p, q)
both-ok (Err e) P Q p q = tt

pub returns-clause-kind : goal.returns-clause-kind
returns-clause-kind c =
    let runner = c.args.self.now in
    IfOk-weaker c.turn.result _ _ (λ turn h. h (machine_of runner) (state_of runner) (table-of runner c.requires.whole)) c.turn.ensures.kind

pub returns-clause-state : goal.returns-clause-state
returns-clause-state c =
    let runner = c.args.self.now in
    IfOk-weaker c.turn.result _ _
    (λ turn h.
    let is = h (machine_of runner) (state_of runner) (table-of runner c.requires.whole) in
    turned-state (turn_of (state_of runner)) (state_of runner) (table_of c.turn.new.self).time (table_of c.turn.new.self).processes is.time is.processes)
    c.turn.ensures.turned

pub returns-clause-whole : goal.returns-clause-whole
returns-clause-whole c =
    let runner = c.args.self.now in
    IfOk-weaker c.turn.result _ _
    (λ turn h. record { kept = h.0; design = (h.1 (machine_of runner) (state_of runner) (table-of runner c.requires.whole)).design })
    (both-ok c.turn.result _ _ c.turn.ensures.kept c.turn.ensures.turned)
