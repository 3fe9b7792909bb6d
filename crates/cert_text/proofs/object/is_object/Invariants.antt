use Rattle.std.proofs.Common.{◌≡◌, drop}
use Rattle.std.specs.List.{list_any}
use Rattle.v_design.specs.Plain.{object_of}
use Rattle.v_design.specs.PlainDesigns.{design_of}
use Rattle.cert_laws.specs.Claims.{is_object}
use Rattle.cert_text.specs.Behind.{prints_as}
use Rattle.cert_text.proofs.object.is_object.Given as goal

abbrev pub invariant-objects : goal.invariant-objects
invariant-objects l = is_object (design_of l.design) l.word ≡ list_any (λ object. prints_as (design_of l.design) l.word (object_of object)) (drop l.object-index l.objects)
