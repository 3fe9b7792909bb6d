use Rattle.std.proofs.Common.{map}
use Rattle.vf_base.specs.Base.{object_number}
use Rattle.object_waits.proofs.Firsts.{put_done}
use Rattle.object_waits.proofs.object_list.first_occurrences.Goals as goal

pub returns : goal.returns
returns c =
    put_done c.args.objects.now c.objects.object-index c.objects.list (map object_number c.in_ok-once.once.items) c.objects-test.false c.objects.invariant c.in_ok-once.ensures
