-- The accesses of a wait's entries (IEEE 1364-2001, clauses 5 and 9.7).
use Rattle.std.proofs.Common.{◌≡◌, ℕ, ◌+◌, ◌<◌, Bool, true, false, List, [], ◌∷◌, ◌++◌, length, map, get_or, take, drop, Some, None, refl, sym, ap, ◌∙◌, subst}
use Rattle.std.proofs.Common.{append_assoc, append-nil}
use Rattle.std.specs.Prelude.{filter, cond}
use Rattle.std.specs.List.{All}
use Rattle.std.proofs.lemmas.List.{map-append, take_more, map_push}
use Rattle.std.proofs.lemmas.List.Elements.{All-append, All-nil, All-cons, filter-append}
use Rattle.vf_base.specs.Base.{object_number, process_number}
use Rattle.vf_base.specs.declared.ids.ProcId.{ProcId}
use Rattle.vf_base.specs.declared.finding.AccessKind.{AccessKind}
use Rattle.vf_base.specs.declared.finding.AccessKind.TheVariants as kind
use Rattle.vf_base.specs.Lists.{AllHold, has, first_place}
use Rattle.v_design.specs.Trees.{Entry}
use Rattle.v_design.specs.Processes.{Activity}
use Rattle.v_design.specs.States.{some_entry}
use Rattle.v_design.specs.Designs.{FlatDesign}
use Rattle.v_design.specs.Paths.{net_pieces}
use Rattle.v_design.specs.Plain.{entry_of}
use Rattle.v_design.specs.Accesses.{ObjectAccess, waiting_entries, waiting_line, ended_of, without_first}
use Rattle.v_design.specs.declared.tree.WaitEntry.{WaitEntry}
use Rattle.causal_monitor.specs.Notes.{IsNoted, IsHeld, noted_access, act_of}
use Rattle.causal_monitor.specs.declared.noted.Noted.{Noted}
use Rattle.value_change.specs.Changes.{ObjectChange, matches_one}
use Rattle.process_table.specs.Noted.{AreNoted, AreHeld, IsEntryIn, EndsWait, noted_entry, is_on_net}
use Rattle.process_table.proofs.Matching.{AllHold-others, others-left, found-some, none-some}

-- the access of an entry, as plain data
abbrev pub access_of : AccessKind → ℕ → ℕ → Entry → ObjectAccess
access_of k process line entry = record { act = act_of k None None entry; object = entry.object; process = process; line = line }

-- the accesses of some entries, as plain data
pub accesses-seen : (k : AccessKind) (process : ProcId) (line : ℕ) (entries : List WaitEntry) →
    map noted_access (map (noted_entry k process line) entries) ≡ map (access_of k (process_number process) line) (map entry_of entries)
accesses-seen k process line [] = refl
accesses-seen k process line (entry ∷ entries) = ap (λ xs. access_of k (process_number process) line (entry_of entry) ∷ xs) (accesses-seen k process line entries)

-- put behind others
pub accesses-behind : (k : AccessKind) (process : ProcId) (line : ℕ) (entries : List WaitEntry) (before after : List Noted) → after ≡ before ++ map (noted_entry k process line) entries →
    map noted_access after ≡ map noted_access before ++ map (access_of k (process_number process) line) (map entry_of entries)
accesses-behind k process line entries before after is =
    ap (map noted_access) is ∙ map-append noted_access before (map (noted_entry k process line) entries) ∙ ap (λ xs. map noted_access before ++ xs) (accesses-seen k process line entries)

-- the entries on net pieces
pub on-nets : (design : FlatDesign) (entries : List WaitEntry) → map entry_of (filter (is_on_net design) entries) ≡ filter (λ (entry : Entry). has (net_pieces design) entry.object)
    (map entry_of entries)
on-nets design [] = refl
on-nets design (entry ∷ entries) = go (is_on_net design entry) (on-nets design entries)
  where
    go : (b : Bool) → map entry_of (filter (is_on_net design) entries) ≡ filter (λ (entry : Entry). has (net_pieces design) entry.object) (map entry_of entries) →
        map entry_of (cond b (entry ∷ filter (is_on_net design) entries) (filter (is_on_net design) entries))
        ≡ cond b (entry_of entry ∷ filter (λ (entry : Entry). has (net_pieces design) entry.object) (map entry_of entries))
        (filter (λ (entry : Entry). has (net_pieces design) entry.object) (map entry_of entries))
    go true rest = ap (λ xs. entry_of entry ∷ xs) rest
    go false rest = rest

-- Facts of each

pub hold-both : {A : Type 0} (P : A → Type 0) (xs ys : List A) → AllHold P xs → AllHold P ys → AllHold P (xs ++ ys)
hold-both P [] ys h i = i
hold-both P (x ∷ xs) ys h i = (h.0, hold-both P xs ys h.1 i)

ended-noted : (design : FlatDesign) (process : ProcId) (line : ℕ) (entries : List WaitEntry) → AllHold (IsEntryIn design) (map entry_of entries) →
    AllHold IsNoted (map (noted_entry kind.Ended process line) entries)
ended-noted design process line [] h = tt
ended-noted design process line (entry ∷ entries) h = (h.0.width, ended-noted design process line entries h.1)

await-noted : (design : FlatDesign) (process : ProcId) (line : ℕ) (entries : List WaitEntry) → AllHold (IsEntryIn design) (map entry_of entries) →
    AllHold IsNoted (map (noted_entry kind.Await process line) entries)
await-noted design process line [] h = tt
await-noted design process line (entry ∷ entries) h = (h.0.width, await-noted design process line entries h.1)

held-held : (process : ProcId) (line : ℕ) (entries : List WaitEntry) → AllHold IsHeld (map (noted_entry kind.Held process line) entries)
held-held process line [] = tt
held-held process line (entry ∷ entries) = (refl, held-held process line entries)

there : (k : AccessKind) (design : FlatDesign) (process : ProcId) (line : ℕ) (entries : List WaitEntry) → AllHold (IsEntryIn design) (map entry_of entries) →
    All (λ (noted : Noted). object_number noted.access.object < length design.objects) (map (noted_entry k process line) entries)
there k design process line [] h = All-nil (λ (noted : Noted). object_number noted.access.object < length design.objects)
there k design process line (entry ∷ entries) h =
    All-cons (λ (noted : Noted). object_number noted.access.object < length design.objects) (noted_entry k process line entry) (map (noted_entry k process line) entries) h.0.there
    (there k design process line entries h.1)

-- accesses of waits that end behind others
pub ended-behind : (design : FlatDesign) (process : ProcId) (line : ℕ) (entries : List WaitEntry) (before after : List Noted) → after ≡ before ++ map (noted_entry kind.Ended process line) entries →
    AllHold (IsEntryIn design) (map entry_of entries) → AreNoted design before → AreNoted design after
ended-behind design process line entries before after is h old = subst (AreNoted design) (sym is) (record {
  noted = hold-both IsNoted before (map (noted_entry kind.Ended process line) entries) old.noted (ended-noted design process line entries h);
  objects = All-append (λ (noted : Noted). object_number noted.access.object < length design.objects) before (map (noted_entry kind.Ended process line) entries) old.objects
      (there kind.Ended design process line entries h);
})

-- accesses of a wait that begins
pub await-behind : (design : FlatDesign) (process : ProcId) (line : ℕ) (entries : List WaitEntry) (before after : List Noted) → after ≡ before ++ map (noted_entry kind.Await process line) entries →
    AllHold (IsEntryIn design) (map entry_of entries) → AreNoted design before → AreNoted design after
await-behind design process line entries before after is h old = subst (AreNoted design) (sym is) (record {
  noted = hold-both IsNoted before (map (noted_entry kind.Await process line) entries) old.noted (await-noted design process line entries h);
  objects = All-append (λ (noted : Noted). object_number noted.access.object < length design.objects) before (map (noted_entry kind.Await process line) entries) old.objects
      (there kind.Await design process line entries h);
})

-- entries that a phase holds
pub held-behind : (design : FlatDesign) (process : ProcId) (line : ℕ) (entries : List WaitEntry) (before after : List Noted) → after ≡ before ++ map (noted_entry kind.Held process line) entries →
    AllHold (IsEntryIn design) (map entry_of entries) → AreHeld design before → AreHeld design after
held-behind design process line entries before after is h old = subst (AreHeld design) (sym is) (record {
  held = hold-both IsHeld before (map (noted_entry kind.Held process line) entries) old.held (held-held process line entries);
  objects = All-append (λ (noted : Noted). object_number noted.access.object < length design.objects) before (map (noted_entry kind.Held process line) entries) old.objects
      (there kind.Held design process line entries h);
})

-- some of the entries
pub hold-filtered : {A B : Type 0} (f : A → B) (P : B → Type 0) (test : A → Bool) (xs : List A) → AllHold P (map f xs) → AllHold P (map f (filter test xs))
hold-filtered f P test [] h = tt
hold-filtered f P test (x ∷ xs) h = go (test x) (hold-filtered f P test xs h.1)
  where
    go : (b : Bool) → AllHold P (map f (filter test xs)) → AllHold P (map f (cond b (x ∷ filter test xs) (filter test xs)))
    go true rest = (h.0, rest)
    go false rest = rest

-- One entry more

pub entries-more : (k : AccessKind) (process : ProcId) (line : ℕ) (entries : List WaitEntry) (i : ℕ) (entry : WaitEntry) (old now new : List Noted) → i < length entries →
    entry ≡ get_or entries i entry →
    now ≡ old ++ map (noted_entry k process line) (take i entries) → new ≡ now ++ noted_entry k process line entry ∷ [] → new ≡ old ++ map (noted_entry k process line) (take (i + 1) entries)
entries-more k process line entries i entry old now new low is had pushed =
    pushed ∙ ap (λ xs. xs ++ noted_entry k process line entry ∷ []) had ∙ append_assoc old (map (noted_entry k process line) (take i entries)) (noted_entry k process line entry ∷ [])
    ∙ ap (λ xs. old ++ xs) (sym (ap (map (noted_entry k process line)) (take_more entries i entry low ∙ ap (λ e. take i entries ++ e ∷ []) (sym is))
    ∙ map_push (noted_entry k process line) (take i entries) entry))

-- the same of those that pass a test
pub passing-more : (test : WaitEntry → Bool) (k : AccessKind) (process : ProcId) (line : ℕ) (entries : List WaitEntry) (i : ℕ) (entry : WaitEntry) (old now new : List Noted) → i < length entries →
    entry ≡ get_or entries i entry →
    now ≡ old ++ map (noted_entry k process line) (filter test (take i entries)) → new ≡ now ++ map (noted_entry k process line) (filter test (entry ∷ [])) →
    new ≡ old ++ map (noted_entry k process line) (filter test (take (i + 1) entries))
passing-more test k process line entries i entry old now new low is had pushed =
    let note = noted_entry k process line in
    pushed ∙ ap (λ xs. xs ++ map note (filter test (entry ∷ []))) had ∙ append_assoc old (map note (filter test (take i entries))) (map note (filter test (entry ∷ [])))
    ∙ ap (λ xs. old ++ xs)
    (sym
    (ap (λ es. map note (filter test es)) (take_more entries i entry low ∙ ap (λ e. take i entries ++ e ∷ []) (sym is))
    ∙ ap (map note) (filter-append test (take i entries) (entry ∷ [])) ∙ map-append note (filter test (take i entries)) (filter test (entry ∷ []))))

-- A wait that some changes end

pub ends-none : (changes : List ObjectChange) (process : ℕ) (activity : Activity) (entries : List WaitEntry) (accesses : List Noted) → map entry_of entries ≡ waiting_entries activity →
    None ≡ first_place (matches_one changes) (map entry_of entries) → EndsWait changes process activity false accesses accesses
ends-none changes process activity entries accesses same none =
    let no : some_entry (matches_one changes) (waiting_entries activity) ≡ false = none-some (matches_one changes) (waiting_entries activity) (none ∙ ap (first_place (matches_one changes)) same) in
    record {
      told_is = sym no;
      accesses = sym (append-nil (map noted_access accesses)) ∙ ap (λ b. map noted_access accesses ++ ended_of b (matches_one changes) process (waiting_line activity) (waiting_entries activity))
          (sym no);
      noted = λ design there old. old;
    }

pub ends-some : (changes : List ObjectChange) (process : ProcId) (activity : Activity) (entries : List WaitEntry) (place line : ℕ) (before after : List Noted) →
    map entry_of entries ≡ waiting_entries activity → line ≡ waiting_line activity →
    Some place ≡ first_place (matches_one changes) (map entry_of entries) → after ≡ before ++ map (noted_entry kind.Ended process line) (take place entries ++ drop (place + 1) entries) →
    EndsWait changes (process_number process) activity true before after
ends-some changes process activity entries place line before after same lines found pushed =
    let test = matches_one changes in
    let others = take place entries ++ drop (place + 1) entries in
    let yes : some_entry test (waiting_entries activity) ≡ true = found-some test (waiting_entries activity) place (found ∙ ap (first_place test) same) in
    record {
      told_is = sym yes;
      accesses =
          accesses-behind kind.Ended process line others before after pushed
          ∙ ap (λ es. map noted_access before ++ map (access_of kind.Ended (process_number process) line) es) (others-left entry_of test entries place found ∙ ap (without_first test) same)
          ∙ ap (λ l. map noted_access before ++ map (access_of kind.Ended (process_number process) l) (without_first test (waiting_entries activity))) lines
          ∙ ap (λ b. map noted_access before ++ ended_of b test (process_number process) (waiting_line activity) (waiting_entries activity)) (sym yes);
      noted = λ design there old. ended-behind design process line others before after pushed
          (AllHold-others entry_of (IsEntryIn design) entries place (subst (AllHold (IsEntryIn design)) (sym same) there)) old;
    }
