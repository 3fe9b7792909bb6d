-- So far the moments of the events before this one are listed, and the greatest process that took a step among them is known.
use Rattle.std.proofs.Common.{◌≡◌, ◌+◌, ◌++◌, [], map, take}
use Rattle.std.specs.Prelude.{option_map}
use Rattle.vf_base.specs.Base.{process_number}
use Rattle.slot_record.specs.Records.{event_of}
use Rattle.window_blocks.specs.Gathered.{IsGreatest, beginnings_from, firsts_from}
use Rattle.window_blocks.proofs.table.push_beginnings.Given as goal

abbrev pub invariant-events : goal.invariant-events
invariant-events l = record {
  moments : l.moments.items ≡ l.fn.moments.items ++ beginnings_from [] l.first (map event_of (take l.actor-index l.actors));
  firsts : map event_of l.firsts.items ≡ map event_of l.fn.firsts.items ++ firsts_from [] (map event_of (take l.actor-index l.actors));
  moment : l.moment ≡ l.first + l.actor-index;
  greatest : IsGreatest (option_map process_number l.greatest) (map event_of (take l.actor-index l.actors));
}
