use Rattle.std.proofs.Common.{◌≡◌, List, ◌++◌, ◌∷◌, [], sym, ◌∙◌, ap, subst}
use Rattle.v_tree.specs.Tokens.{SourceToken}
use Rattle.v_tree.specs.Views.{unit_of}
use Rattle.v_readers.specs.Given.{Fails}
use Rattle.v_parse.specs.Items.{unit_reader}
use Rattle.v_parse.proofs.Turns.{some-left, none-left}
use Rattle.v_parse.proofs.Places.{found-goes, deep-goes, wrong-decides}
use Rattle.v_parse.proofs.text.goes_on.Goals as goal

pub returns-in-Ok : goal.returns-in-Ok
returns-in-Ok c =
    let same : c.deref.result.now ≡ c.args.front.now ++ c.args.next.now ∷ [] =
    c.deref.ensures.value ∙ c.in_ok-push.ensures.items ∙ ap (λ (ts : List SourceToken). ts ++ c.new.result ∷ []) c.in_ok-lexemes.ensures
    ∙ ap (λ (t : SourceToken). c.args.front.now ++ t ∷ []) c.new.ensures in
    found-goes 255 c.args.front.now c.args.next.now (unit_of c.in-Ok.field-0.0) c.in-Ok.field-0.1.now (sym (ap (unit_reader 255) same) ∙ c.in-Ok.ensures.reads)

pub returns-in-Err-Wrong : goal.returns-in-Err-Wrong
returns-in-Err-Wrong c =
    let same : c.deref.result.now ≡ c.args.front.now ++ c.args.next.now ∷ [] =
    c.deref.ensures.value ∙ c.in_ok-push.ensures.items ∙ ap (λ (ts : List SourceToken). ts ++ c.new.result ∷ []) c.in_ok-lexemes.ensures
    ∙ ap (λ (t : SourceToken). c.args.front.now ++ t ∷ []) c.new.ensures in
    let rest = c.in-Err-Wrong.rest.now in
    wrong-decides 255 c.args.front.now c.args.next.now rest c.is_empty.result (λ t. none-left rest (sym c.is_empty.ensures ∙ t)) (λ f. some-left rest (sym c.is_empty.ensures ∙ f))
    (sym (ap (unit_reader 255) same) ∙ subst (λ s. Fails s (unit_reader 255 c.deref.result.now)) c.in-Err-Wrong.field-0-is c.in-Err-Wrong.ensures.reads)

pub returns-in-Err-Deep : goal.returns-in-Err-Deep
returns-in-Err-Deep c =
    let same : c.deref.result.now ≡ c.args.front.now ++ c.args.next.now ∷ [] =
    c.deref.ensures.value ∙ c.in_ok-push.ensures.items ∙ ap (λ (ts : List SourceToken). ts ++ c.new.result ∷ []) c.in_ok-lexemes.ensures
    ∙ ap (λ (t : SourceToken). c.args.front.now ++ t ∷ []) c.new.ensures in
    deep-goes 255 c.args.front.now c.args.next.now c.in-Err-Deep.field-0-0.now c.requires
    (sym (ap (unit_reader 255) same) ∙ subst (λ s. Fails s (unit_reader 255 c.deref.result.now)) c.in-Err-Deep.field-0-is c.in-Err-Deep.ensures.reads)
