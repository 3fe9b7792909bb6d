use Rattle.std.proofs.Common.{arith, ℕ, ◌+◌, ◌<◌, false, Bool, List, get_or, set, take, map, length, vec_len}
use Rattle.std.proofs.lemmas.List.{map_more}
use Rattle.vf_base.specs.declared.ids.ObjectId.{ObjectId}
use Rattle.vf_base.specs.Base.{object_number}
use Rattle.object_set.specs.Members.{TakesOut}
use Rattle.object_set.proofs.Tables.{TakesOut-none, TakesOut-more}
use Rattle.object_set.proofs.set.take_out.Goals as goal

-- one more object of the list
stepped : (objects : List ObjectId) (i : ℕ) (d : ObjectId) (before later : List Bool) → i < length objects → TakesOut (map object_number (take i objects)) before later →
    object_number (get_or objects i d) < length later → TakesOut (map object_number (take (i + 1) objects)) before (set later (object_number (get_or objects i d)) false)
stepped objects i d before later within had low =
    rw (map_more object_number objects i d within) (TakesOut-more (map object_number (take i objects)) before later (object_number (get_or objects i d)) had low)

pub objects-init : goal.objects-init
objects-init c = TakesOut-none c.args.members.now.items

pub objects-preserved : goal.objects-preserved
objects-preserved c =
    let low : object_number (get_or c.args.objects.now c.objects.object-index (record { 0 = 0 })) < vec_len c.args.members.now =
    c.requires c.objects.object-index (record { 0 = 0 }) c.objects-test.true in
    stepped c.args.objects.now c.objects.object-index (record { 0 = 0 }) c.args.members.now.items c.objects.members.items c.objects-test.true c.objects.invariant
    (omega (arith, c.objects.invariant.same_length, c.args.members.now.ok.0))
