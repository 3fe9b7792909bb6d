-- The lane at the place has the process's updates, or the place is where its lane goes.
use Rattle.std.proofs.Common.{◌≡◌, ◌<◌, length, ◌∙◌, sym, arith, List, ap, ◌++◌, ◌∷◌, []}
use Rattle.std.proofs.lemmas.Result.{IfOk-weaker}
use Rattle.std.specs.List.{insert, slice_set}
use Rattle.std.proofs.lemmas.List.{get_or_default}
use Rattle.std.proofs.lemmas.List.Edits.{insert_end}
use Rattle.std.proofs.lemmas.Bool.{eqb-true, eqb-false}
use Rattle.vf_base.specs.declared.ids.ProcId.{ProcId}
use Rattle.v_design.specs.declared.plan.Update.{Update}
use Rattle.event_queue.proofs.Places.{update_at-set, update_at-insert}
use Rattle.event_queue.proofs.calendar.put_update_at.Goals as goal
use Rattle.event_queue.proofs.calendar.put_update_at.Goals.{else-place-len-via-then-place-len+else-eq, else-place-len-via-else-place-len}

pub returns-then-eq-clause-ok : goal.returns-then-eq-clause-ok
returns-then-eq-clause-ok c =
    let less : c.args.place < length c.args.lanes.now.items = omega (arith, c.len.ensures) in
    let lane : ProcId × List Update = c.index_mut-lane.result.now in
    let there = get_or_default c.args.lanes.now.items c.args.place lane c.index.result.now less in
    let same : lane ≡ c.index.result.now = c.index_mut-lane.ensures.value ∙ (there ∙ sym c.index.ensures) in
    let number : lane.0.0 ≡ c.args.process.0 = ap (λ (l : ProcId × List Update). l.0.0) same ∙ eqb-true _ _ (sym c.if-eq.ensures) in
    let ended : insert lane.1 (length c.as_slice-end.result.now) c.args.update ≡ lane.1 ++ c.args.update ∷ [] =
    ap (λ (xs : List Update). insert lane.1 (length xs) c.args.update) c.as_slice-end.ensures ∙ insert_end lane.1 c.args.update in
    IfOk-weaker c.insert_at.result _ _
    (λ x h. ap (λ xs. slice_set c.args.lanes.now.items c.args.place (lane.0, xs)) (h ∙ ended)
    ∙ update_at-set c.args.process c.args.update c.args.lanes.now.items c.args.place lane less c.index_mut-lane.ensures.value number)
    c.insert_at.ensures.ok

pub returns-clause-ok : goal.returns-clause-ok
returns-clause-ok c =
    let items : c.from_vec.result ≡ c.args.update ∷ [] = c.from_vec.ensures ∙ c.in_ok-push.ensures.items ∙ ap (λ xs. xs ++ c.args.update ∷ []) c.new-updates.ensures.items in
    elim c.else-place-len.branch [
      | else-place-len-via-then-place-len+else-eq w ↦ rw (c.in_ok-insert.ensures.items, items) (update_at-insert _ _ _ _ c.requires
          (λ d less e. eqb-false _ _ (sym w.if-eq.ensures) (ap (λ (l : ProcId × List Update). l.0.0) (w.index.ensures ∙ get_or_default c.args.lanes.now.items c.args.place w.index.result.now d less)
          ∙ e)))
      | else-place-len-via-else-place-len w ↦ rw (c.in_ok-insert.ensures.items, items) (update_at-insert _ _ _ _ c.requires (λ d less. absurd (omega (arith, c.len.ensures))))
    ]
