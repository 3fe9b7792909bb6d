use Rattle.std.proofs.Common.{rules, ◌≡◌, ◌∙◌, [], not, ap}
use Rattle.std.proofs.lemmas.List.{get_or_read}
use Rattle.four_value.specs.Values.{same_value}
use Rattle.vf_base.specs.Base.{object_number}
use Rattle.v_design.specs.Assignments.{value_at}
use Rattle.v_design.specs.PlainDesigns.{design_of}
use Rattle.net_state.specs.Held.{marks_with}
use Rattle.net_state.specs.HeldLaws.{put-values, put-nodes}
use Rattle.net_state.proofs.objects.Objects.put.Goals as goal

pub returns-clause-holds : goal.returns-clause-holds
returns-clause-holds c machine state is h =
    let design = design_of c.args.self.now.settle.graph.now.design.now in
    let read : c.index-old.result.now ≡ value_at c.args.self.now.values.items (object_number c.args.object) =
    get_or_read c.args.self.now.values.items (object_number c.args.object) c.index-old.result.now (search rules) c.index-old.ensures [] in
    record {
      values = put-values c.args.self.now.values.items _ (object_number c.args.object) c.args.new machine state (search rules) h.values;
      nodes =
          put-nodes design c.args.self.now.values.items c.args.self.now.settle.marks.items c.mark_if.new.settle.marks.items (object_number c.args.object) c.args.new machine state is
          (c.mark_if.ensures.marks
          ∙ ap (λ b. marks_with (design_of c.args.self.now.settle.graph.now.design.now) (object_number c.args.object) (not b) c.args.self.now.settle.marks.items)
          (c.same.ensures ∙ ap (λ v. same_value v c.args.new) read))
          h.values h.nodes;
    }
