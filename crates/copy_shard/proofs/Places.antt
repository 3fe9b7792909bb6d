-- The faults of a shard by their places in the plan, and their findings (nothing of the language).
use Rattle.std.proofs.Common.{◌≡◌, ◌≢◌, ℕ, ◌+◌, ◌<◌, ◌≤◌, List, [], ◌∷◌, ◌++◌, length, map, take, get_or, refl, sym, ap, subst, ◌∙◌, append_assoc, arith}
use Rattle.std.specs.Prelude.{Option, None, Some, option_map, slice_get}
use Rattle.std.specs.List.{All, Contains, cons_option}
use Rattle.std.specs.Option.{option_to_list}
use Rattle.std.proofs.lemmas.List.{append-nil, length-map, map_push, take_all, take_more}
use Rattle.std.proofs.lemmas.List.Elements.{All-push, filter_map-append}
use Rattle.std.proofs.lemmas.Option.{get_or_from_slice_get, same_Some, slice_get-map, slice_get_read, slice_get_within}
use Rattle.vf_base.specs.declared.finding.Finding.{Finding}
use Rattle.v_design.specs.Designs.{TestPlan}
use Rattle.v_design.specs.Plain.{fault_of}
use Rattle.v_design.specs.PlainDesigns.{plan_of}
use Rattle.v_design.specs.declared.plan.Fault.{Fault}
use Rattle.v_design.specs.declared.plan.Plan.{Plan}
use Rattle.copy_state.specs.Kept.{CopyKept}
use Rattle.shard_windows.specs.copy_window.declared.fault.ShardFault.{ShardFault}
use Rattle.copy_shard.specs.Kept.{fault_kept}
use Rattle.copy_shard.specs.Shards.{FaultKept, finding_of, findings_of, places_of}

-- a place among the plan's faults
pub listed-within : (plan : TestPlan) (own : Plan) (faults : List Fault) (place number : ℕ) → plan ≡ plan_of own → faults ≡ own.faults → number ≡ place → number < length plan.faults →
    place < length faults
listed-within plan own faults place number is are same low =
    let there : number < length (map fault_of own.faults) = subst (λ (p : TestPlan). number < length p.faults) is low in
    let count = length-map own.faults fault_of in
    subst (λ (l : List Fault). place < length l) (sym are) (omega (arith, there, count, same))

-- The faults of a shard

fault-at : (faults : List ShardFault) (place : ℕ) (own : ShardFault) → place < length faults → own ≡ get_or faults place own → slice_get (map fault_kept faults) place ≡ Some (fault_kept own)
fault-at faults place own low read =
    slice_get-map fault_kept faults place ∙ ap (option_map fault_kept) (slice_get_read faults (length faults) place own refl low read)

pub place-at : (faults : List ShardFault) (place : ℕ) (own : ShardFault) → place < length faults → own ≡ get_or faults place own →
    slice_get (places_of (map fault_kept faults)) place ≡ Some own.copy.fault
place-at faults place own low read =
    slice_get-map (λ (kept : FaultKept). kept.copy.fault) (map fault_kept faults) place ∙ ap (option_map (λ (kept : FaultKept). kept.copy.fault)) (fault-at faults place own low read)

place-within : (faults : List ShardFault) (place number : ℕ) → slice_get (places_of (map fault_kept faults)) place ≡ Some number → place < length faults
place-within faults place number is =
    let low = slice_get_within (places_of (map fault_kept faults)) place number is in
    omega (arith, low, length-map (map fault_kept faults) (λ (kept : FaultKept). kept.copy.fault), length-map faults fault_kept)

pub place-copy : (faults : List ShardFault) (place number : ℕ) (own : ShardFault) → slice_get (places_of (map fault_kept faults)) place ≡ Some number → own ≡ get_or faults place own →
    (own.copy.fault ≡ number) × Contains (map (λ (kept : FaultKept). kept.copy) (map fault_kept faults)) own.copy
place-copy faults place number own is read =
    let low = place-within faults place number is in
    let copies : List CopyKept = map (λ (kept : FaultKept). kept.copy) (map fault_kept faults) in
    let at : slice_get copies place ≡ Some own.copy =
    slice_get-map (λ (kept : FaultKept). kept.copy) (map fault_kept faults) place ∙ ap (option_map (λ (kept : FaultKept). kept.copy)) (fault-at faults place own low read) in
    (same_Some own.copy.fault number (sym (place-at faults place own low read) ∙ is), (place, slice_get_within copies place own.copy at, get_or_from_slice_get copies place own.copy own.copy at))

-- none so far is that of a number
abbrev pub NoneIs : ℕ → ℕ → List ShardFault → Type 0
NoneIs number place faults = All (λ other. other ≢ number) (places_of (map fault_kept (take place faults)))

pub none-more : (faults : List ShardFault) (number place : ℕ) (own : ShardFault) → place < length faults → own ≡ get_or faults place own → own.copy.fault ≢ number → NoneIs number place faults →
    NoneIs number (place + 1) faults
none-more faults number place own low read differs none =
    let front = take place faults in
    let last : take (place + 1) faults ≡ front ++ own ∷ [] = take_more faults place own low ∙ ap (λ (o : ShardFault). front ++ o ∷ []) (sym read) in
    let places : places_of (map fault_kept (take (place + 1) faults)) ≡ places_of (map fault_kept front) ++ own.copy.fault ∷ [] =
    ap (λ (l : List ShardFault). places_of (map fault_kept l)) last ∙ ap places_of (map_push fault_kept front own)
    ∙ map_push (λ (kept : FaultKept). kept.copy.fault) (map fault_kept front) (fault_kept own) in
    subst (All (λ other. other ≢ number)) (sym places) (All-push (λ other. other ≢ number) (places_of (map fault_kept front)) own.copy.fault none differs)

pub none-all : (faults : List ShardFault) (number place : ℕ) → length faults ≤ place → NoneIs number place faults → All (λ other. other ≢ number) (places_of (map fault_kept faults))
none-all faults number place past none = subst (λ (l : List ShardFault). All (λ other. other ≢ number) (places_of (map fault_kept l))) (take_all place faults past) none

-- Findings

-- those on so many faults stand behind others
abbrev pub FoundTo : List Finding → ℕ → List ShardFault → List Finding → Type 0
FoundTo before place faults found = found ≡ before ++ findings_of (map fault_kept (take place faults))

one-found : (finding : Option Finding) → cons_option finding [] ≡ option_to_list finding
one-found None = refl
one-found (Some finding) = refl

pub found-none : (before : List Finding) (faults : List ShardFault) → FoundTo before 0 faults before
found-none before faults = sym (append-nil before)

pub found-more : (before : List Finding) (place : ℕ) (faults : List ShardFault) (own : ShardFault) (found new : List Finding) → place < length faults → own ≡ get_or faults place own →
    FoundTo before place faults found → new ≡ found ++ option_to_list (finding_of (fault_kept own)) → FoundTo before (place + 1) faults new
found-more before place faults own found new low read so is =
    let front = take place faults in
    let last : take (place + 1) faults ≡ front ++ own ∷ [] = take_more faults place own low ∙ ap (λ (o : ShardFault). front ++ o ∷ []) (sym read) in
    let all : findings_of (map fault_kept (take (place + 1) faults)) ≡ findings_of (map fault_kept front) ++ findings_of (fault_kept own ∷ []) =
    ap (λ (l : List ShardFault). findings_of (map fault_kept l)) last ∙ ap findings_of (map_push fault_kept front own)
    ∙ filter_map-append finding_of (map fault_kept front) (fault_kept own ∷ []) in
    is
    ∙ ap (λ (l : List Finding). l ++ option_to_list (finding_of (fault_kept own))) so
    ∙ append_assoc before (findings_of (map fault_kept front)) (option_to_list (finding_of (fault_kept own)))
    ∙ ap (λ (l : List Finding). before ++ (findings_of (map fault_kept front) ++ l)) (sym (one-found (finding_of (fault_kept own))))
    ∙ ap (λ (l : List Finding). before ++ l) (sym all)

pub found-all : (before : List Finding) (place : ℕ) (faults : List ShardFault) (found : List Finding) → length faults ≤ place → FoundTo before place faults found →
    found ≡ before ++ findings_of (map fault_kept faults)
found-all before place faults found past so = so ∙ ap (λ (l : List ShardFault). before ++ findings_of (map fault_kept l)) (take_all place faults past)
