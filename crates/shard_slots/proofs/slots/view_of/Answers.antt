-- The parts are of one window.
use Rattle.std.proofs.Common.{sym, ap, ◌∙◌}
use Rattle.good_trace.specs.Traces.{WindowKept}
use Rattle.shard_slots.proofs.slots.view_of.Goals as goal

pub returns-clause-window : goal.returns-clause-window
returns-clause-window g c = c.window.ensures

pub returns-clause-one : goal.returns-clause-one
returns-clause-one g c = record {
  blocks_begin = c.blocks-2.ensures.begin ∙ sym (ap (λ (w : WindowKept). w.before) c.window.ensures);
  blocks_end = c.blocks-2.ensures.end ∙ sym (ap (λ (w : WindowKept). w.through) c.window.ensures);
  wakes_begin = c.wakes.ensures.begin ∙ sym (ap (λ (w : WindowKept). w.before) c.window.ensures);
  wakes_end = c.wakes.ensures.end ∙ sym (ap (λ (w : WindowKept). w.through) c.window.ensures);
}
