-- The next one is there.
use Rattle.std.proofs.Common.{◌≡◌, ℕ, ◌∷◌, List, [], ap, sym, subst, ◌∙◌}
use Rattle.std.specs.Vec.Iter.{into_iter_items}
use Rattle.vf_base.specs.Base.{fault_number}
use Rattle.vf_base.specs.declared.ids.FaultId.{FaultId}
use Rattle.kept_samples.specs.declared.kept.Kept.{Kept}
use Rattle.vf_dict.specs.Listings.{AreLeft}
use Rattle.vf_dict.proofs.Left.{left-next, none-left, nothing-there}
use Rattle.vf_dict.proofs.faults.next_kept.Goals as goal

pub unreachable-requires : goal.unreachable-requires
unreachable-requires g c =
    let none : into_iter_items c.args.rest.now ≡ [] = nothing-there (into_iter_items c.args.rest.now) (sym c.args.rest.now.rest.ok.0 ∙ c.in-None.ensures.cases.0) in
    none-left g.N.World.design g.N.World.plan (fault_number c.args.number) c.requires.stands
    (subst (λ (l : List Kept). AreLeft g.N.World.design g.N.World.plan (fault_number c.args.number) l) none c.requires.left)

pub returns-clause-left : goal.returns-clause-left
returns-clause-left g c =
    let next : into_iter_items c.args.rest.now ≡ c.in-Some.own ∷ into_iter_items c.next.new.self = c.in-Some.ensures.cases.0 in
    let own =
    left-next g.N.World.design g.N.World.plan (fault_number c.args.number) c.in-Some.own (into_iter_items c.next.new.self) c.requires.stands
    (subst (λ (l : List Kept). AreLeft g.N.World.design g.N.World.plan (fault_number c.args.number) l) next c.requires.left) in
    own.left

pub returns-clause-number : goal.returns-clause-number
returns-clause-number g c =
    let next : into_iter_items c.args.rest.now ≡ c.in-Some.own ∷ into_iter_items c.next.new.self = c.in-Some.ensures.cases.0 in
    let own =
    left-next g.N.World.design g.N.World.plan (fault_number c.args.number) c.in-Some.own (into_iter_items c.next.new.self) c.requires.stands
    (subst (λ (l : List Kept). AreLeft g.N.World.design g.N.World.plan (fault_number c.args.number) l) next c.requires.left) in
    let id : ℕ → FaultId = λ n. record { 0 = n } in
    ap id own.number
