-- The write is done to the values, the nodes and the processes, and told.
use Rattle.std.proofs.Common.{◌≡◌, ◌<◌, ◌∙◌, List, [], ◌∷◌, ◌++◌, length, map, sym, ap, subst}
use Rattle.std.specs.List.{All}
use Rattle.std.proofs.lemmas.List.Elements.{All-nil, All-push}
use Rattle.vf_base.specs.Base.{object_number, process_number}
use Rattle.vf_base.specs.declared.ids.ObjectId.{ObjectId}
use Rattle.vf_base.specs.declared.ids.ProcId.{ProcId}
use Rattle.four_value.specs.Values.{same_value}
use Rattle.vf_base.specs.Lists.{joined, map_numbered}
use Rattle.v_design.specs.Plain.{update_of}
use Rattle.causal_monitor.specs.Notes.{noted_access}
use Rattle.causal_monitor.specs.declared.noted.Noted.{Noted}
use Rattle.value_change.specs.Changes.{ObjectChange, change_seen, ended_by_changes}
use Rattle.event_queue.specs.Queues.{numbers_where}
use Rattle.net_state.specs.States.{values_in}
use Rattle.process_table.specs.Tables.{is_woken}
use Rattle.process_table.specs.Arranged.{table_of}
use Rattle.process_table.specs.Noted.{AreNoted}
use Rattle.machine_laws.specs.WriteTells.{object_if}
use Rattle.machine_events.specs.PartLaws.{table-count}
use Rattle.machine_events.proofs.Written.{IsChange, both-written, told-written}
use Rattle.machine_events.proofs.write.write_update.Goals as goal

pub returns : goal.returns
returns c =
    let design = (table_of c.args.table.now).design in
    let change : ObjectChange = change_seen c.write-change.result in
    let is : IsChange c.args.nets.now c.write-change.new.self (update_of c.args.update.now) change = record {
      machine_is = c.write-change.ensures.machine;
      writes = c.write-change.ensures.written;
      object = ap object_number c.write-change.ensures.object;
      old = c.write-change.ensures.old;
      new = c.write-change.ensures.new;
    } in
    let first : c.push.new.self.items ≡ c.write_of.result ∷ [] = c.in_ok-push.ensures.items ∙ ap (λ (l : List Noted). l ++ c.write_of.result ∷ []) c.clear.ensures.accesses in
    let count : length (table_of c.args.table.now).processes ≡ length design.processes = table-count c.args.table.now c.requires.kept in
    let low : object_number c.write-change.result.object < length design.objects =
    subst (λ n. object_number c.write-change.result.object < n) (c.requires.values ∙ ap length (ap (λ d. d.objects) (sym c.requires.design)))
    (subst (λ o. object_number o < length (values_in c.args.nets.now)) (sym c.write-change.ensures.object) c.requires.object) in
    record {
      kept = c.in_ok-wake.ensures.kept;
      fits = record {
        noted = c.in_ok-wake.ensures.noted (subst (λ (l : List Noted). AreNoted design l) (sym first) (record {
          noted = (c.write_of.ensures.noted, tt);
          objects = All-push (λ (n : Noted). object_number n.access.object < length design.objects) [] c.write_of.result
              (All-nil (λ (n : Noted). object_number n.access.object < length design.objects))
              (subst (λ o. object_number o < length design.objects) (sym c.write_of.ensures.object) low);
        }));
        changed = c.in_ok-note_changed.ensures.there (length design.objects) low
            (subst (λ (l : List ObjectId). All (λ (o : ObjectId). object_number o < length design.objects) l) (sym c.clear.ensures.changed)
            (All-nil (λ (o : ObjectId). object_number o < length design.objects)));
        ended = subst (λ n. All (λ (p : ProcId). process_number p < n) c.wake.new.ended.items) count
            (c.in_ok-wake.ensures.ended
            (subst (λ (l : List ProcId). All (λ (p : ProcId). process_number p < length (table_of c.args.table.now).processes) l) (sym c.clear.ensures.ended)
            (All-nil (λ (p : ProcId). process_number p < length (table_of c.args.table.now).processes))));
      };
      both = λ machine state both. both-written machine state c.args.nets.now c.write-change.new.self c.args.table.now c.wake.new.self
          (update_of c.args.update.now) change is both c.in_ok-wake.ensures.woken.table;
      tells = λ machine state both.
          told-written machine state c.args.nets.now c.write-change.new.self c.args.table.now (update_of c.args.update.now) change
          (process_number c.args.process) c.args.line _ _ _ is both c.requires.object
          (c.in_ok-wake.ensures.woken.entries
          ∙ ap (λ l. l ++ joined (map_numbered (ended_by_changes (change ∷ [])) 0 (table_of c.args.table.now).processes)) (ap (map noted_access) first ∙ ap (λ a. a ∷ []) c.write_of.ensures.access))
          (c.in_ok-note_changed.ensures.changed ∙ ap (λ (l : List ObjectId). map object_number l ++ object_if (same_value change.old change.new) change.object) c.clear.ensures.changed)
          (c.in_ok-wake.ensures.woken.ended
          ∙ ap (λ (l : List ProcId). map process_number l ++ numbers_where (is_woken (change ∷ [])) 0 (table_of c.args.table.now).processes) c.clear.ensures.ended);
    }
