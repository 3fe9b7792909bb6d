use Rattle.std.proofs.Common.{rules, ◌≡◌, ◌+◌, ◌++◌, ◌∷◌, [], List, ℕ, ◌∙◌, ap, sym, subst, get_or, take, map}
use Rattle.std.proofs.lemmas.List.{take_more, take_all, map_push}
use Rattle.vf_base.specs.Base.{object_number, process_number}
use Rattle.wait_index.specs.Index.{process_lists}
use Rattle.wait_index.specs.Tables.{WaitersAdded}
use Rattle.wait_index.proofs.index.add_waiters.Goals as goal

pub objects-init : goal.objects-init
objects-init c = record { added = λ before h. h; alike = search rules }

pub objects-preserved : goal.objects-preserved
objects-preserved c = record {
  added = λ before h.
      let i = c.objects.object-index in
      let xs = c.args.objects.now in
      let more : map object_number (take (i + 1) xs) ≡ map object_number (take i xs) ++ object_number (get_or xs i (record { 0 = 0 })) ∷ [] =
      ap (map object_number) (take_more xs i (record { 0 = 0 }) (search rules)) ∙ map_push object_number (take i xs) (get_or xs i (record { 0 = 0 })) in
      subst (λ t. WaitersAdded (process_number c.args.process) t before c.add_waiter.new.seen.items (process_lists c.add_waiter.new.waiters.items)) (sym more)
      (c.in_ok-add_waiter.ensures.added (map object_number (take i xs)) before (c.objects.invariant.added before h));
  alike = search rules;
}

pub returns-clause-added : goal.returns-clause-added
returns-clause-added c = λ before h.
    subst (λ t. WaitersAdded (process_number c.args.process) (map object_number t) before c.objects.seen.items (process_lists c.objects.waiters.items))
    (take_all c.objects.object-index c.args.objects.now c.objects-test.false) (c.objects.invariant.added before h)
