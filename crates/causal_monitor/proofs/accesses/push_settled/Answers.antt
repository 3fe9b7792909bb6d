use Rattle.std.proofs.Common.{◌≡◌, ◌<◌, [], ◌∷◌, ℕ, map, length, get_or, true, List, Vec, Global, ap, sym, subst, ◌∙◌, rules, refl}
use Rattle.std.proofs.lemmas.List.{get_or-map}
use Rattle.std.proofs.lemmas.Bool.{eq-eqb, or_left}
use Rattle.std.specs.Prelude.{nat_eq}
use Rattle.vf_base.specs.declared.ids.ObjectId.{ObjectId}
use Rattle.vf_base.specs.Base.{object_number}
use Rattle.vf_base.specs.Lists.{has}
use Rattle.v_design.specs.Designs.{FlatDesign}
use Rattle.v_design.specs.Accesses.{ObjectAccess}
use Rattle.v_design.specs.Logs.{change_of, phase_changes}
use Rattle.v_design.specs.PlainDesigns.{design_of}
use Rattle.causal_monitor.specs.Notes.{noted_access}
use Rattle.causal_monitor.specs.Changes.{AreSettled, settled_nets}
use Rattle.causal_monitor.specs.Counted.{numbered_at, settling_of}
use Rattle.causal_monitor.proofs.AddLaws.{Adds-none, Adds-same, settles_of-none, settles_of-one, settled_below}
use Rattle.causal_monitor.proofs.accesses.push_settled.Goals as goal

pub returns-in_default : goal.returns-in_default
returns-in_default c =
    let design = design_of c.args.design.now in
    let changes = phase_changes design c.args.log.now.log in
    Adds-same (length design.objects) (length c.args.log.now.log.events) c.args.list.now.items c.args.list.now.items [] _
    (sym (ap (map (numbered_at c.args.event)) (settles_of-none design changes (noted_access c.args.noted.now) c.in_default.ensures)))
    (Adds-none (length design.objects) (length c.args.log.now.log.events) c.args.list.now.items)

-- the list of an object that an access changes
found : (design : FlatDesign) (changes : List ℕ) (lists : List (Vec ObjectId Global)) (access : ObjectAccess) (object : ℕ) (list : Vec ObjectId Global) → AreSettled design changes lists →
    ((o : ℕ) → has (change_of design access.act access.object) o ≡ true → has changes o ≡ true) → object ∷ [] ≡ change_of design access.act access.object → object < length lists →
    list ≡ get_or lists object list → map object_number list.items ≡ settled_nets design changes object
found design changes lists access object list settled changed is low read =
    ap (λ (l : Vec ObjectId Global). map object_number l.items) read ∙ sym (get_or-map (λ (l : Vec ObjectId Global). map object_number l.items) lists object list [] low)
    ∙ settled object (changed object (subst (λ l. has l object ≡ true) is (or_left (nat_eq object object) (has [] object) (eq-eqb object object refl))))

pub push_settlings-requires-clause-objects : goal.push_settlings-requires-clause-objects
push_settlings-requires-clause-objects c =
    let design = design_of c.args.design.now in
    let changes = phase_changes design c.args.log.now.log in
    settled_below design changes (object_number c.in-Some.object) c.deref.result.now
    (ap (map object_number) c.deref.ensures.value
    ∙ found design changes c.args.settled.now.items (noted_access c.args.noted.now) (object_number c.in-Some.object) c.index-nets.result.now c.requires.settled c.requires.changed c.in-Some.ensures
    (search rules) c.index-nets.ensures)

pub returns : goal.returns
returns c =
    let design = design_of c.args.design.now in
    let changes = phase_changes design c.args.log.now.log in
    let access : ObjectAccess = noted_access c.args.noted.now in
    Adds-same (length design.objects) (length c.args.log.now.log.events) c.args.list.now.items c.push_settlings.new.list.items
    (map (numbered_at c.args.event) (map (settling_of access) (map object_number c.deref.result.now))) _
    (ap (λ l. map (numbered_at c.args.event) (map (settling_of access) l))
    (ap (map object_number) c.deref.ensures.value
    ∙ found design changes c.args.settled.now.items access (object_number c.in-Some.object) c.index-nets.result.now c.requires.settled c.requires.changed c.in-Some.ensures
    (search rules) c.index-nets.ensures)
    ∙ sym (ap (map (numbered_at c.args.event)) (settles_of-one design changes access (object_number c.in-Some.object) c.in-Some.ensures)))
    c.in_ok-push_settlings.ensures
