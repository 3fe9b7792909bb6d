use Rattle.std.proofs.Common.{◌≡◌, ◌∙◌, List, ℕ, IfOk, subst, sym, ap}
use Rattle.std.specs.Str.{bytes_eq}
use Rattle.std.proofs.lemmas.Bool.{ltb-true, ltb-false}
use Rattle.v_design.specs.PlainDesigns.{design_of}
use Rattle.grade_report.specs.Objects.{text_if}
use Rattle.cert_text.proofs.Objects.{object-there, object-missing, empty-word}
use Rattle.cert_text.proofs.object.prints_object.Goals as goal

pub returns-in-Some : goal.returns-in-Some
returns-in-Some c =
    let P : List ℕ → Type 0 = λ text. IfOk c.prints_found.result (λ same. same ≡ bytes_eq c.args.word.now text) in
    let objects : c.as_slice.result.now ≡ c.args.design.now.objects = c.as_slice.ensures in
    let lookup = rw objects at c.in-Some.ensures.lookup in
    let there = object-there c.args.design.now.objects c.args.object.0 c.in-Some.found.now (ltb-true _ _ (sym lookup.0)) lookup.1 in
    subst P (sym (ap (text_if (design_of c.args.design.now)) there)) c.prints_found.ensures

pub returns-in-None : goal.returns-in-None
returns-in-None c =
    let objects : c.as_slice.result.now ≡ c.args.design.now.objects = c.as_slice.ensures in
    let lookup = rw objects at c.in-None.ensures.lookup in
    let missing = object-missing c.args.design.now.objects c.args.object.0 (ltb-false _ _ (sym lookup.0)) in
    c.is_empty.ensures ∙ (empty-word c.args.word.now ∙ ap (bytes_eq c.args.word.now) (sym (ap (text_if (design_of c.args.design.now)) missing)))
