-- Fault by fault.
use Rattle.std.proofs.Common.{◌+◌, List, take, ap, refl, sym, subst, ◌∙◌}
use Rattle.std.specs.Prelude.{slice_get}
use Rattle.vf_base.specs.Base.{fault_number}
use Rattle.vf_base.specs.declared.ids.FaultId.{FaultId}
use Rattle.fault_shards.specs.Shards.{representatives_of}
use Rattle.kept_samples.specs.declared.kept.Kept.{Kept}
use Rattle.vf_dict.specs.Listings.{AreKept, AreLeft}
use Rattle.vf_dict.proofs.Left.{left-all}
use Rattle.vf_dict.proofs.Listing.{kept-more}
use Rattle.vf_dict.proofs.faults.keep_all.Goals as goal

pub faults-init : goal.faults-init
faults-init g c =
    let design = g.N.World.design in
    let plan = g.N.World.plan in
    record {
      listed = subst (λ (l : List Kept). AreKept design plan (take 0 plan.faults) l) (sym c.new-listed.ensures.items) (record { each = tt; numbered = refl });
      left =
          subst (λ (l : List Kept). AreLeft design plan 0 l) (sym c.into_iter-rest.ensures.rest)
          (left-all design plan (representatives_of c.args.shards.now) c.args.kept.items c.requires.shards.representatives c.requires.faults c.requires.whole);
    }

pub faults-preserved : goal.faults-preserved
faults-preserved g c =
    let design = g.N.World.design in
    let plan = g.N.World.plan in
    record {
      listed =
          subst (AreKept design plan (take (c.faults.place + 1) plan.faults)) (sym c.in_ok-push.ensures.items)
          (kept-more design plan plan.faults c.faults.listed.items c.faults.place c.in_ok-own.ensures.whole.fault c.in_ok-own.own
          (ap (λ (n : FaultId). slice_get plan.faults (fault_number n)) (sym c.in_ok-own.ensures.number) ∙ c.in_ok-own.ensures.whole.listed) c.faults.invariant.listed c.in_ok-own.ensures.whole.keeps
          (ap fault_number c.in_ok-own.ensures.number));
      left = c.in_ok-own.ensures.left;
    }
