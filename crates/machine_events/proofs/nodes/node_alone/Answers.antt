-- The work is done, and wakes processes.
use Rattle.std.proofs.Common.{◌≡◌, ◌<◌, ◌∙◌, List, ◌++◌, length, map, sym, ap, subst}
use Rattle.std.specs.List.{All}
use Rattle.std.proofs.lemmas.List.Elements.{All-nil}
use Rattle.vf_base.specs.Base.{object_number, process_number, node_number}
use Rattle.vf_base.specs.declared.ids.ObjectId.{ObjectId}
use Rattle.vf_base.specs.declared.ids.ProcId.{ProcId}
use Rattle.vf_base.specs.Lists.{joined, map_numbered}
use Rattle.v_design.specs.Designs.{FlatDesign}
use Rattle.causal_monitor.specs.Notes.{noted_access}
use Rattle.causal_monitor.specs.declared.noted.Noted.{Noted}
use Rattle.event_queue.specs.Queues.{numbers_where}
use Rattle.value_change.specs.declared.change.Change.{Change}
use Rattle.value_change.specs.Changes.{change_seen, ended_by_changes}
use Rattle.net_state.specs.States.{machine_in}
use Rattle.process_table.specs.Tables.{is_woken}
use Rattle.process_table.specs.Arranged.{table_of}
use Rattle.process_table.specs.Noted.{AreNoted}
use Rattle.process_table.specs.Wakes.{IsWoken}
use Rattle.machine_events.specs.PartLaws.{table-count}
use Rattle.machine_events.proofs.Recorded.{state_both, both-of, one-after}
use Rattle.machine_events.proofs.NodesOn.{held-all, node-both, node-told}
use Rattle.machine_events.proofs.nodes.node_alone.Goals as goal

pub wake-requires-clause-kept : goal.wake-requires-clause-kept
wake-requires-clause-kept c = c.requires.one.kept

pub wake-requires-clause-objects : goal.wake-requires-clause-objects
wake-requires-clause-objects c =
    let objects : FlatDesign → List Change → Type 0 = λ d l. All (λ (change : Change). object_number change.object < length d.objects) l in
    subst (objects (table_of c.args.table.now).design) (sym c.deref.ensures.value)
    (subst (λ d. objects d c.work.new.changes.items) (sym c.requires.one.design)
    (held-all (λ (change : Change). object_number change.object < length (machine_in c.args.nets.now).design.objects) c.work.new.changes.items c.in_ok-work.ensures.objects))

pub returns : goal.returns
returns c =
    let nets = c.args.nets.now in
    let table = c.args.table.now in
    let node = node_number c.args.node in
    let design = (table_of table).design in
    let changes = c.work.new.changes.items in
    let accesses = map noted_access c.wake.new.accesses.items in
    let ended = map process_number c.wake.new.ended.items in
    let count : length (table_of table).processes ≡ length design.processes = table-count table c.requires.one.kept in
    let woken : IsWoken (map change_seen changes) (table_of table) (table_of c.wake.new.self) (map noted_access c.clear.new.self.accesses.items) accesses
    (map process_number c.clear.new.self.ended.items) ended =
    subst (λ (l : List Change). IsWoken (map change_seen l) (table_of table) (table_of c.wake.new.self) (map noted_access c.clear.new.self.accesses.items) accesses
    (map process_number c.clear.new.self.ended.items) ended) c.deref.ensures.value c.in_ok-wake.ensures.woken in
    let both = node-both nets c.work.new.self table c.wake.new.self node changes accesses ended c.requires.node c.in_ok-work.ensures.machine c.in_ok-work.ensures.after
    c.in_ok-work.ensures.changes woken.table in
    record {
      one = one-after _ _ c.work.new.self c.wake.new.self (both (machine_in nets) (state_both nets table) (both-of nets table c.requires.one)) c.in_ok-wake.ensures.kept;
      fits = record {
        noted = c.in_ok-wake.ensures.noted (subst (λ (l : List Noted). AreNoted design l) (sym c.clear.ensures.accesses)
            (record { noted = tt; objects = All-nil (λ (n : Noted). object_number n.access.object < length design.objects) }));
        changed = subst (λ (l : List ObjectId). All (λ (o : ObjectId). object_number o < length design.objects) l) (sym c.clear.ensures.changed)
            (All-nil (λ (o : ObjectId). object_number o < length design.objects));
        ended = subst (λ n. All (λ (p : ProcId). process_number p < n) c.wake.new.ended.items) count
            (c.in_ok-wake.ensures.ended
            (subst (λ (l : List ProcId). All (λ (p : ProcId). process_number p < length (table_of table).processes) l) (sym c.clear.ensures.ended)
            (All-nil (λ (p : ProcId). process_number p < length (table_of table).processes))));
      };
      objects = held-all (λ (change : Change). object_number change.object < length (machine_in nets).design.objects) changes c.in_ok-work.ensures.objects;
      widths = c.in_ok-work.ensures.widths;
      both = both;
      tells = λ machine state of. node-told nets c.work.new.self table c.wake.new.self node changes accesses ended c.requires.node c.in_ok-work.ensures.machine c.in_ok-work.ensures.after
          c.in_ok-work.ensures.changes woken.table machine state of
          (woken.entries ∙ ap (λ (l : List Noted). map noted_access l ++ joined (map_numbered (ended_by_changes (map change_seen changes)) 0 (table_of table).processes)) c.clear.ensures.accesses)
          (woken.ended ∙ ap (λ (l : List ProcId). map process_number l ++ numbers_where (is_woken (map change_seen changes)) 0 (table_of table).processes) c.clear.ensures.ended);
    }
