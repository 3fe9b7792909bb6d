use Rattle.std.proofs.Common.{sym, subst, ◌∙◌}
use Rattle.v_design.specs.PlainDesigns.{design_of}
use Rattle.v_tree.specs.Views.{unit_of}
use Rattle.v_scan.specs.Texts as texts
use Rattle.elaborate.proofs.Steps.{Answers, scan-told, parse-told, design-told, elab-told}
use Rattle.elaborate.proofs.read.read_design.Goals as goal

pub returns-in-Err : goal.returns-in-Err
returns-in-Err c =
    let text = c.args.text.now in let top = c.args.top.now in let mode = c.args.mode in let h = c.in-Err.ensures in
    subst (Answers text top mode) (sym c.scan_fault.ensures) (scan-told text top mode c.in-Err.fault h.fault h.each_text h.each_fault)

pub returns-in-Err-parse : goal.returns-in-Err-parse
returns-in-Err-parse c =
    let text = c.args.text.now in let top = c.args.top.now in let mode = c.args.mode in let h = c.in-Ok.ensures in let value = c.as_slice.ensures.value in
    let are = subst (texts.AreTokens text) (sym value) h.tokens in
    subst (Answers text top mode) (sym c.parse_fault.ensures)
    (parse-told text top mode c.as_slice.result.now are (λ other o. value ∙ h.each_text other o) h.each_fault c.in-Err-parse.fault c.in-Err-parse.ensures.fault c.in-Err-parse.ensures.only)

pub elaborate-requires : goal.elaborate-requires
elaborate-requires c =
    record {
      text = (
        c.args.text.now,
        c.as_slice.result.now,
        subst (texts.AreTokens c.args.text.now) (sym c.as_slice.ensures.value) c.in-Ok.ensures.tokens,
        c.in-Ok-parse.ensures.found,
        c.in-Ok-parse.ensures.within,
      );
    }

pub returns-in-Ok-elaborate : goal.returns-in-Ok-elaborate
returns-in-Ok-elaborate c =
    let text = c.args.text.now in let top = c.args.top.now in let mode = c.args.mode in let h = c.in-Ok.ensures in let value = c.as_slice.ensures.value in let p = c.in-Ok-parse.ensures in
    let are = subst (texts.AreTokens text) (sym value) h.tokens in
    design-told text top mode c.as_slice.result.now are (λ other o. value ∙ h.each_text other o) h.each_fault (unit_of c.in-Ok-parse.unit) p.found p.within p.only
    (design_of c.in-Ok-elaborate.design) c.in-Ok-elaborate.ensures

pub returns : goal.returns
returns c =
    let text = c.args.text.now in let top = c.args.top.now in let mode = c.args.mode in let h = c.in-Ok.ensures in let value = c.as_slice.ensures.value in let p = c.in-Ok-parse.ensures in
    let are = subst (texts.AreTokens text) (sym value) h.tokens in
    subst (Answers text top mode) (sym c.elab_fault.ensures)
    (elab-told text top mode c.as_slice.result.now are (λ other o. value ∙ h.each_text other o) h.each_fault
    (unit_of c.in-Ok-parse.unit) p.found p.within p.only c.in-Err-elaborate.fault c.in-Err-elaborate.ensures)
