-- Without wild net pieces no change settles one.
use Rattle.std.proofs.Common.{◌≡◌, [], ◌∷◌, List, length, map, refl, sym, ap, ◌∙◌, arith, rules}
use Rattle.vf_base.specs.Base.{object_number}
use Rattle.v_design.specs.Paths.{is_wild}
use Rattle.v_design.specs.Logs.{phase_changes}
use Rattle.v_design.specs.PlainDesigns.{design_of}
use Rattle.causal_monitor.proofs.TotalLaws.{settled-none}
use Rattle.causal_monitor.proofs.AddLaws.{nets_below}
use Rattle.causal_monitor.proofs.settled.fill_settled.Goals as goal

no-elements : {A : Type 0} (xs : List A) → length xs ≡ 0 → xs ≡ []
no-elements [] e = refl
no-elements (x ∷ xs) e = absurd (omega (arith, e))

pub returns-then-is_empty-clause-settled : goal.returns-then-is_empty-clause-settled
returns-then-is_empty-clause-settled c = λ object there.
    let design = design_of c.args.graph.now.design.now in
    let count : length c.fill_wild.new.nets.items ≡ 0 = search rules in
    let none : c.fill_wild.new.nets.items ≡ [] = no-elements c.fill_wild.new.nets.items count in
    c.clear_lists.ensures.empty object
    ∙ settled-none design (phase_changes design c.args.log.now.log) [] object (ap (map object_number) (sym none) ∙ c.in_ok-fill_wild.ensures) (λ net among path. cc)

pub reaching-requires : goal.reaching-requires
reaching-requires c = λ k d low.
    let design = design_of c.args.graph.now.design.now in
    nets_below design (is_wild design (phase_changes design c.args.log.now.log)) c.deref.result.now (ap (map object_number) c.deref.ensures.value ∙ c.in_ok-fill_wild.ensures) k d low
