use Rattle.std.proofs.Common.{◌≡◌, ◌<◌, ℕ, List, length, get_or, map, ap, sym, subst, ◌∙◌, refl}
use Rattle.std.proofs.lemmas.List.{get_or-map, length-map}
use Rattle.vf_base.specs.Lists.{has}
use Rattle.v_design.specs.Designs.{FlatObject, FlatDesign}
use Rattle.v_design.specs.Paths.{is_net, net_pieces}
use Rattle.v_design.specs.Plain.{object_of}
use Rattle.v_design.specs.PlainDesigns.{design_of}
use Rattle.v_design.specs.declared.plan.Object.{Object}
use Rattle.vf_base.specs.Base.{object_number}
use Rattle.causal_monitor.proofs.ChangeLaws.{net_by_kind}
use Rattle.causal_monitor.proofs.changes.is_net_piece.Goals as goal

read_kind : (design : FlatDesign) (objects list : List Object) (o : ℕ) (object : Object) → map object_of objects ≡ design.objects → list ≡ objects → o < length (map object_of objects) →
    is_net (get_or list o object).kind ≡ has (net_pieces design) o
read_kind design objects list o object is same low =
    ap (λ l. is_net (get_or l o object).kind) same
    ∙ sym (ap (λ (x : FlatObject). is_net x.kind) (get_or-map object_of objects o object (object_of object) (rw (sym (length-map objects object_of)) low)))
    ∙ ap (λ l. is_net (get_or l o (object_of object)).kind) is
    ∙ sym (net_by_kind design o (object_of object) (subst (λ l. o < length l) is low))

pub returns : goal.returns
returns c =
    c.is_net_kind.ensures
    ∙ read_kind (design_of c.args.design.now) c.args.design.now.objects c.as_slice-objects.result.now
    (object_number c.args.object) c.index-objects-object.result refl c.as_slice-objects.ensures c.requires
