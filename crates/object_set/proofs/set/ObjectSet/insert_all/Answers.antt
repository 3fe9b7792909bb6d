use Rattle.std.proofs.Common.{◌≡◌, ℕ, ◌+◌, ◌<◌, ◌∙◌, ◌∷◌, [], List, get_or, take, map, length, ap, sym}
use Rattle.std.proofs.lemmas.List.{map_more}
use Rattle.vf_base.specs.declared.ids.ObjectId.{ObjectId}
use Rattle.vf_base.specs.Base.{object_number}
use Rattle.object_set.specs.Ordered.{OrderedObjects, with_object, with_objects}
use Rattle.object_set.specs.OrderLaws.{with_objects-append}
use Rattle.object_set.proofs.set.ObjectSet.insert_all.Goals as goal

-- one more object of the list
stepped : (start : OrderedObjects) (objects : List ObjectId) (i : ℕ) (d : ObjectId) (between later : OrderedObjects) → i < length objects →
    between ≡ record start { objects = with_objects start.objects (map object_number (take i objects)) } →
    later ≡ record between { objects = with_object between.objects (object_number (get_or objects i d)) } →
    later ≡ record start { objects = with_objects start.objects (map object_number (take (i + 1) objects)) }
stepped start objects i d between later low had put =
    put ∙ ap (λ (k : OrderedObjects). record k { objects = with_object k.objects (object_number (get_or objects i d)) }) had
    ∙ ap (λ (l : List ℕ). record start { objects = l })
    (sym (ap (with_objects start.objects) (map_more object_number objects i d low)
    ∙ with_objects-append start.objects (map object_number (take i objects)) (object_number (get_or objects i d) ∷ [])))

pub objects-preserved : goal.objects-preserved
objects-preserved c =
    stepped c.args.self.now c.args.objects.now c.objects.object-index (record { 0 = 0 }) c.objects.self c.insert.new.self c.objects-test.true c.objects.invariant c.insert.ensures
