use Rattle.std.proofs.Common.{arith, ap, sym, ◌∙◌, ◌≤◌, ◌<◌, ℕ, List, subst, get_or, length}
use Rattle.vf_base.specs.Base.{process_number}
use Rattle.copy_state.specs.Entries.{first_from}
use Rattle.copy_state.specs.Listed.{numbers_of}
use Rattle.copy_state.specs.declared.entry.Entry.{Entry}
use Rattle.copy_state.proofs.ListLaws.{first-at, first-none}
use Rattle.copy_state.proofs.by_process.ByProcess.next.Goals as goal

pub returns-then-place-len : goal.returns-then-place-len
returns-then-place-len g c =
    let place = c.count_before-place.result in
    let from = process_number c.args.from in
    let before = subst (λ (l : List (Entry g.row.T.Denot)). (k : ℕ) → k < place → get_or (numbers_of l) k 0 < from) c.deref.ensures.value c.count_before-place.ensures.before in
    let behind = subst (λ (l : List (Entry g.row.T.Denot)). (k : ℕ) → place ≤ k → k < length l → from ≤ get_or (numbers_of l) k 0) c.deref.ensures.value c.count_before-place.ensures.after in
    sym (first-at c.self.inside.entries.items place from c.index.result.now before behind (omega arith) c.index.ensures) ∙ ap (first_from from) c.self.view_is

pub returns : goal.returns
returns g c =
    let place = c.count_before-place.result in
    let from = process_number c.args.from in
    let before = subst (λ (l : List (Entry g.row.T.Denot)). (k : ℕ) → k < place → get_or (numbers_of l) k 0 < from) c.deref.ensures.value c.count_before-place.ensures.before in
    sym (first-none c.self.inside.entries.items place from before (omega arith)) ∙ ap (first_from from) c.self.view_is
