use Rattle.std.proofs.Common.{◌≡◌, ◌∙◌, ◌++◌, ◌∷◌, ◌+◌, ◌<◌, [], List, ℕ, ap, sym, subst, take, map, length, get_or}
use Rattle.std.proofs.lemmas.List.{take_more, take_all, map_push}
use Rattle.vf_base.specs.Lists.{AllHold}
use Rattle.v_design.specs.Plain.{process_of}
use Rattle.v_design.specs.declared.plan.Process.{Process}
use Rattle.process_table.specs.Rows.{IsGoodRow, row_text, row_state, row_states, new_state}
use Rattle.process_table.proofs.Steps.{hold-more}
use Rattle.process_table.proofs.rows.new_rows.Goals as goal

-- one process more
one-more : (xs : List Process) (i : ℕ) (x : Process) → i < length xs → x ≡ get_or xs i x → map process_of (take (i + 1) xs) ≡ map process_of (take i xs) ++ process_of x ∷ []
one-more xs i x low is = ap (map process_of) (take_more xs i x low ∙ ap (λ y. take i xs ++ y ∷ []) (sym is)) ∙ map_push process_of (take i xs) x

pub processes-preserved : goal.processes-preserved
processes-preserved c =
    let i = c.processes.process-index in
    let xs = c.args.processes.now in
    let row = c.in_ok-row.row in
    let pushed = c.in_ok-push.ensures.items in
    let more = one-more xs i c.process-item.result c.processes-test.true c.process-item.is in
    let text : row_text row ≡ process_of c.process-item.result = ap process_of c.in_ok-row.ensures.text in
    record {
      good = subst (AllHold IsGoodRow) (sym pushed) (hold-more IsGoodRow c.processes.rows.items (row ∷ []) c.processes.invariant.good (c.in_ok-row.ensures.good, tt));
      texts =
          ap (map row_text) pushed ∙ map_push row_text c.processes.rows.items row ∙ ap (λ l. l ++ row_text row ∷ []) c.processes.invariant.texts
          ∙ ap (λ t. map process_of (take i xs) ++ t ∷ []) text ∙ sym more;
      states =
          ap row_states pushed ∙ map_push row_state c.processes.rows.items row ∙ ap (λ l. l ++ row_state row ∷ []) c.processes.invariant.states
          ∙ ap (λ s. map new_state (map process_of (take i xs)) ++ s ∷ []) c.in_ok-row.ensures.state
          ∙ sym (ap (map new_state) more ∙ map_push new_state (map process_of (take i xs)) (process_of c.process-item.result));
    }

pub returns-clause-good : goal.returns-clause-good
returns-clause-good c = c.processes.invariant.good

pub returns-clause-texts : goal.returns-clause-texts
returns-clause-texts c = c.processes.invariant.texts ∙ ap (map process_of) (take_all c.processes.process-index c.args.processes.now c.processes-test.false)

pub returns-clause-states : goal.returns-clause-states
returns-clause-states c = c.processes.invariant.states ∙ ap (λ ps. map new_state (map process_of ps)) (take_all c.processes.process-index c.args.processes.now c.processes-test.false)
