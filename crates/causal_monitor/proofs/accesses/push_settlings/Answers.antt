use Rattle.std.proofs.Common.{◌≡◌, ◌<◌, ◌+◌, ◌++◌, ◌∷◌, [], ℕ, List, Some, map, take, length, get_or, ap, sym, subst, ◌∙◌}
use Rattle.std.proofs.lemmas.List.{take_more, map_push}
use Rattle.vf_base.specs.Base.{object_number}
use Rattle.vf_base.specs.declared.ids.ObjectId.{ObjectId}
use Rattle.v_design.specs.Accesses.{ObjectAccess}
use Rattle.v_design.specs.Logs.{PhaseAccess}
use Rattle.v_design.specs.PlainDesigns.{design_of}
use Rattle.causal_monitor.specs.declared.numbered.Numbered.{Numbered}
use Rattle.causal_monitor.specs.Notes.{noted_access}
use Rattle.causal_monitor.specs.Counted.{Adds, numbered_at, settling_of}
use Rattle.causal_monitor.proofs.AddLaws.{Adds-push, Adds-same, settling_numbered}
use Rattle.causal_monitor.proofs.accesses.push_settlings.Goals as goal

-- the settlings of one more net piece
one_more : (event : ℕ) (write : ObjectAccess) (nets : List ObjectId) (i : ℕ) (d : ObjectId) → i < length nets →
    map (numbered_at event) (map (settling_of write) (map object_number (take (i + 1) nets)))
    ≡ map (numbered_at event) (map (settling_of write) (map object_number (take i nets))) ++ numbered_at event (settling_of write (object_number (get_or nets i d))) ∷ []
one_more event write nets i d low =
    ap (λ l. map (numbered_at event) (map (settling_of write) (map object_number l))) (take_more nets i d low)
    ∙ ap (λ l. map (numbered_at event) (map (settling_of write) l)) (map_push object_number (take i nets) (get_or nets i d))
    ∙ ap (map (numbered_at event)) (map_push (settling_of write) (map object_number (take i nets)) (object_number (get_or nets i d)))
    ∙ map_push (numbered_at event) (map (settling_of write) (map object_number (take i nets))) (settling_of write (object_number (get_or nets i d)))

pub nets-preserved : goal.nets-preserved
nets-preserved c =
    let objects = length (design_of c.args.design.now).objects in
    let events = length c.args.log.now.log.events in
    let write : ObjectAccess = noted_access c.args.write.now in
    let net : ObjectId = get_or c.args.nets.now c.nets.net-index (record { 0 = 0 }) in
    let pushed : Numbered = record { event = Some c.args.event; noted = c.settling.result } in
    let more : List PhaseAccess = map (numbered_at c.args.event) (map (settling_of write) (map object_number (take c.nets.net-index c.args.nets.now))) in
    let low : object_number net < length (design_of c.args.design.now).objects = c.requires.objects c.nets.net-index (record { 0 = 0 }) c.nets-test.true in
    subst (λ later. Adds (length (design_of c.args.design.now).objects) (length c.args.log.now.log.events) c.args.list.now.items later
    (map (numbered_at c.args.event) (map (settling_of (noted_access c.args.write.now)) (map object_number (take (c.nets.net-index + 1) c.args.nets.now))))) (sym c.in_ok-push.ensures.items)
    (Adds-same objects events c.args.list.now.items (c.nets.list.items ++ pushed ∷ []) (more ++ numbered_at c.args.event (noted_access c.settling.result) ∷ []) _
    (ap (λ a. more ++ numbered_at c.args.event a ∷ []) c.settling.ensures.access ∙ sym (one_more c.args.event write c.args.nets.now c.nets.net-index (record { 0 = 0 }) c.nets-test.true))
    (Adds-push objects events c.args.list.now.items c.nets.list.items more pushed
    (subst (λ n. object_number n < length (design_of c.args.design.now).objects) (sym c.settling.ensures.object) low)
    (settling_numbered events c.args.event c.settling.result c.requires.event c.settling.ensures.kind) c.nets.invariant))
