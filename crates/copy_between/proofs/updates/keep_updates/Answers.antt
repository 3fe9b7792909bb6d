use Rattle.std.proofs.Common.{◌≡◌, true, false, map, refl, ap, sym, subst, ◌∙◌}
use Rattle.vf_base.specs.Base.{process_number}
use Rattle.v_design.specs.Plain.{due_of}
use Rattle.copy_state.specs.Entries.{with_entry}
use Rattle.copy_state.specs.Kept.{CopyKept}
use Rattle.copy_between.specs.Differing.{IsDifference, IsKeptAt}
use Rattle.copy_between.specs.DifferingLaws.{none-differs}
use Rattle.copy_between.proofs.Gone.{kept-with, kept-without, own-differs}
use Rattle.copy_between.proofs.updates.keep_updates.Goals as goal

pub returns-then-same_updates-clause-kept : goal.returns-then-same_updates-clause-kept
returns-then-same_updates-clause-kept c =
    let good = map due_of c.args.good.now in
    let own = map due_of c.args.own.now in
    let process = process_number c.args.process in
    let old = c.args.copy.now in
    subst (λ (k : CopyKept). IsKeptAt (IsDifference good own) process old.updates k.updates) (sym c.drop_updates.ensures)
    (kept-without (IsDifference good own) process old.updates (none-differs good own (sym (c.if-same_updates.ensures.0 refl))))

pub returns-clause-kept : goal.returns-clause-kept
returns-clause-kept c =
    let good = map due_of c.args.good.now in
    let own = map due_of c.args.own.now in
    let process = process_number c.args.process in
    let old = c.args.copy.now in
    let whole = c.in_ok-hold_updates.ensures.ok
    ∙ ap (λ items. record old { updates = with_entry process (map due_of items) old.updates }) c.in_ok-kept.ensures in
    subst (λ (k : CopyKept). IsKeptAt (IsDifference good own) process old.updates k.updates) (sym whole)
    (kept-with (IsDifference good own) process own old.updates
    (own-differs good own (λ same. let wrong : false ≡ true = c.if-same_updates.ensures.1 (sym same) in cc)))
