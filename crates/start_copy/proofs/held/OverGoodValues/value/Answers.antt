use Rattle.std.proofs.Common.{◌<◌, ap, sym, subst, ◌∙◌, []}
use Rattle.std.proofs.lemmas.List.{get_or_default}
use Rattle.vf_base.specs.Base.{object_number}
use Rattle.v_design.specs.States.{found_or}
use Rattle.copy_laws.specs.Differences.{own_of}
use Rattle.copy_overlay.specs.FaultyLaws.{length-faulty, value-faulty}
use Rattle.start_copy.proofs.held.OverGoodValues.value.Goals as goal

pub bounds-self-object : goal.bounds-self-object
bounds-self-object c = subst (λ n. object_number c.args.object < n) (length-faulty c.args.self.now.good.now c.args.self.now.copy.now.values) c.requires

pub returns : goal.returns
returns c =
    let good = c.args.self.now.good.now in
    let own = c.args.self.now.copy.now.values in
    let within = subst (λ n. object_number c.args.object < n) (length-faulty good own) c.requires in
    c.value.ensures
    ∙ ap (λ v. found_or v (own_of own (object_number c.args.object))) (get_or_default good (object_number c.args.object) c.index-self-object.result [] within)
    ∙ sym (value-faulty good own (object_number c.args.object) within)
