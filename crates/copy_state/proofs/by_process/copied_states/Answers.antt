use Rattle.std.proofs.Common.{◌+◌, List, ℕ, ap, sym, ◌∙◌, subst, map, take}
use Rattle.std.proofs.lemmas.List.{take_all}
use Rattle.std.specs.List.{AllZip}
use Rattle.process_code.specs.declared.state.ProcState.{ProcState}
use Rattle.copy_state.specs.declared.entry.Entry.{Entry}
use Rattle.copy_state.specs.Copied.{IsSameState}
use Rattle.copy_state.specs.Entries.{Rise}
use Rattle.copy_state.specs.Listed.{entry_of}
use Rattle.copy_state.proofs.CopyLaws.{same-more, same-numbers}
use Rattle.copy_state.proofs.by_process.copied_states.Goals as goal

pub processes-preserved : goal.processes-preserved
processes-preserved c =
    let items = c.as_slice-own-items.result.now in
    subst (λ (l : List (Entry ProcState)). AllZip IsSameState (map entry_of (take (c.processes.own-index + 1) items)) (map entry_of l)) (sym c.in_ok-push.ensures.items)
    (same-more items c.processes.entries.items c.processes.own-index c.own-item.result c.in_ok-copy.copy c.processes-test.true c.own-item.is c.processes.invariant c.in_ok-copy.ensures)

pub invariant_of-result : goal.invariant_of-result
invariant_of-result c =
    let all = take_all c.processes.own-index c.as_slice-own-items.result.now c.processes-test.false ∙ c.as_slice-own-items.ensures.value in
    subst Rise
    (sym (same-numbers c.states.inside.entries.items c.processes.entries.items
    (subst (λ (l : List (Entry ProcState)). AllZip IsSameState (map entry_of l) (map entry_of c.processes.entries.items)) all c.processes.invariant)))
    c.states.invariant

pub returns : goal.returns
returns c =
    let all = take_all c.processes.own-index c.as_slice-own-items.result.now c.processes-test.false ∙ c.as_slice-own-items.ensures.value in
    subst (λ (l : List (ℕ × ProcState)). AllZip IsSameState l (map entry_of c.processes.entries.items)) (ap (map entry_of) all ∙ c.states.view_is) c.processes.invariant
