use Rattle.std.proofs.Common.{◌++◌, map, get_or, refl, sym, ap, subst, ◌∙◌, inl, inr, arith}
use Rattle.std.specs.Prelude.{filter}
use Rattle.std.proofs.lemmas.List.{map_push}
use Rattle.std.specs.List.Sorted.{IsNonDecreasing}
use Rattle.vf_base.specs.Base.{object_number}
use Rattle.vf_base.specs.Lists.{has}
use Rattle.v_design.specs.Expressions.{up_from}
use Rattle.object_reads.proofs.Ascents.{step-found, step-passed, same-found, found-more, none-left}
use Rattle.object_reads.proofs.inputs.objects_among.Goals as goal
use Rattle.object_reads.proofs.inputs.objects_among.Goals.{then-next-number+then-number-count+in_ok-push, else-next-number, else-next-number-via-then-next-number+else-number-count}
use Rattle.object_reads.proofs.inputs.objects_among.Goals.{else-next-number-via-else-next-number}

pub numbers-preserved : goal.numbers-preserved
numbers-preserved c =
    let numbers = c.deref-number-items.result.now in
    let i = c.numbers.number-index in
    let x = get_or numbers i 0 in
    let rises : IsNonDecreasing numbers = subst IsNonDecreasing (sym c.deref-number-items.ensures.value) c.in_ok-numbers.ensures.climbs in
    elim c.if-next-number.branch [
      | then-next-number+then-number-count+in_ok-push w ↦
          rw (w.among-is, w.next-is) (record {
            low = let h = w.if-number-count.true in omega (arith, h);
            left = found-more (map object_number c.numbers.among.items) x _ _ _ _
                (step-found numbers i x c.numbers.next c.args.count c.numbers-test.true refl rises w.if-next-number.true w.if-number-count.true) c.numbers.invariant.left
                (ap (map object_number) w.in_ok-push.ensures.items ∙ map_push object_number c.numbers.among.items _);
          })
      | else-next-number w ↦
          rw (w.among-is, w.next-is) (record {
            low = c.numbers.invariant.low;
            left = ap (λ l. map object_number c.numbers.among.items ++ l)
                (sym (step-passed numbers i x c.numbers.next c.args.count c.numbers-test.true refl c.numbers.invariant.low
                (elim w.else-next-number.branch [
                  | else-next-number-via-then-next-number+else-number-count w' ↦ inr w'.if-number-count.false
                  | else-next-number-via-else-next-number w' ↦ inl w'.if-next-number.false
                ])))
                ∙ c.numbers.invariant.left;
          })
    ]

pub returns : goal.returns
returns c =
    none-left (map object_number c.numbers.among.items) c.deref-number-items.result.now c.numbers.number-index c.numbers.next c.args.count _ c.numbers-test.false c.numbers.invariant.left
    ∙ (ap (λ l. filter (has l) (up_from 0 c.args.count)) c.deref-number-items.ensures.value
    ∙ same-found (map object_number c.args.objects.now) c.in_ok-numbers.numbers.items c.args.count c.in_ok-numbers.ensures.same)
