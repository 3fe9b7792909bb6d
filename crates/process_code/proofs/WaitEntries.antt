-- The entries of a wait, one piece more at a time (nothing of the language).
use Rattle.std.proofs.Common.{◌≡◌, ℕ, zero, suc, ◌+◌, ◌<◌, Bool, true, false, List, [], ◌∷◌, ◌++◌, length, get_or, drop, take, map, refl, ap, sym, subst, ◌∙◌, ◌-◌, ◌≤◌, inl, inr, append_assoc}
use Rattle.std.proofs.Common.{append-nil, length-append, arith}
use Rattle.std.specs.Prelude.{◌||◌, nat_eq, Vec, slice_get, Some}
use Rattle.std.specs.declared.alloc.Global.{Global}
use Rattle.std.proofs.lemmas.Bool.{cases_lt}
use Rattle.std.proofs.lemmas.List.{map_push, get_or_push, get_or_append_left, get_or_past, length-map, take_more}
use Rattle.std.proofs.lemmas.Option.{slice_get_within, get_or_from_slice_get}
use Rattle.v_design.specs.Trees.{Statement, Null, Block, If, Case, For, While, Repeat, Forever, Delay, EventControl, Wait, Blocking, Nonblocking, Finish}
use Rattle.v_design.specs.declared.plan.Process.{Process}
use Rattle.vf_base.specs.Lists.{has}
use Rattle.v_design.specs.Trees.{Piece, Entry}
use Rattle.v_design.specs.Plain.{piece_of, entry_of}
use Rattle.v_design.specs.Processes.{pieces_once, piece_unless}
use Rattle.v_design.specs.declared.tree.PieceRef.{PieceRef}
use Rattle.v_design.specs.declared.tree.WaitEntry.{WaitEntry}
use Rattle.process_code.specs.Rests.{Part, Runs, TurnsLeft}
use Rattle.process_code.specs.Positions.{part_of_head, rests_of, StandsAt}
use Rattle.process_code.specs.Points.{wait_entries}
use Rattle.process_code.specs.Codes.{IsCodeOf, rests_in_code}
use Rattle.process_code.specs.Waits.{change_entry, head_entries, AreWaits}
use Rattle.process_code.specs.declared.code.Spot.{Spot}
use Rattle.process_code.specs.declared.code.Code.{Code}
use Rattle.process_code.proofs.Growing.{slice_get-shorter, slice_get-last, rest_at, rests_of-length, some-same}
use Rattle.process_code.proofs.Spots.{rest-end, rest-spot}

-- the pieces up to the rest are entered, each object once
pub record EntersOnce (all rest : List PieceRef) (is_seen : ℕ → Bool) (entries : List WaitEntry) : Type 0 where
  pub seen : List ℕ
  pub same : (object : ℕ) → is_seen object ≡ has seen object
  pub left : map entry_of entries ++ map change_entry (pieces_once seen (map piece_of rest)) ≡ map change_entry (pieces_once [] (map piece_of all))

pub enters-none : (all : List PieceRef) (is_seen : ℕ → Bool) (entries : List WaitEntry) → ((object : ℕ) → is_seen object ≡ false) → entries ≡ [] → EntersOnce all all is_seen entries
enters-none all is_seen entries none empty = record {
  seen = [];
  same = none;
  left = ap (λ l. map entry_of l ++ map change_entry (pieces_once [] (map piece_of all))) empty;
}

unless : (b : Bool) (piece : Piece) (rest : List Piece) → map change_entry (piece_unless b piece []) ++ map change_entry rest ≡ map change_entry (piece_unless b piece rest)
unless true piece rest = refl
unless false piece rest = refl

pub enters-more : (all : List PieceRef) (piece : PieceRef) (rest before : List PieceRef) (is_seen now_seen : ℕ → Bool) (entries more : List WaitEntry) → before ≡ piece ∷ rest →
    ((object : ℕ) → now_seen object ≡ (nat_eq (piece_of piece).object object || is_seen object)) →
    map entry_of more ≡ map entry_of entries ++ map change_entry (piece_unless (is_seen (piece_of piece).object) (piece_of piece) []) →
    EntersOnce all before is_seen entries → EntersOnce all rest now_seen more
enters-more all piece rest before is_seen now_seen entries more front seen entered h = record {
  seen = (piece_of piece).object ∷ h.seen;
  same = λ object. seen object ∙ ap (λ b. nat_eq (piece_of piece).object object || b) (h.same object);
  left =
      let later : List Piece = pieces_once ((piece_of piece).object ∷ h.seen) (map piece_of rest) in
      ap (λ l. l ++ map change_entry later) (entered ∙ ap (λ b. map entry_of entries ++ map change_entry (piece_unless b (piece_of piece) [])) (h.same (piece_of piece).object))
      ∙ append_assoc (map entry_of entries) (map change_entry (piece_unless (has h.seen (piece_of piece).object) (piece_of piece) [])) (map change_entry later)
      ∙ ap (λ l. map entry_of entries ++ l) (unless (has h.seen (piece_of piece).object) (piece_of piece) later)
      ∙ ap (λ l. map entry_of entries ++ map change_entry (pieces_once h.seen (map piece_of l))) (sym front)
      ∙ h.left;
}

pub enters-all : (all rest : List PieceRef) (is_seen : ℕ → Bool) (entries : List WaitEntry) → rest ≡ [] → EntersOnce all rest is_seen entries →
    map entry_of entries ≡ map change_entry (pieces_once [] (map piece_of all))
enters-all all rest is_seen entries none h =
    sym (append-nil (map entry_of entries)) ∙ ap (λ l. map entry_of entries ++ map change_entry (pieces_once h.seen (map piece_of l))) (sym none) ∙ h.left

-- Spots

-- what stands in a list within its length
there : {A : Type 0} (xs : List A) (i : ℕ) → i < length xs → (x : A) × (slice_get xs i ≡ Some x)
there [] i low = absurd (omega arith)
there (x ∷ xs) zero low = (x, refl)
there (x ∷ xs) (suc i) low = there xs i (omega arith)

-- one spot more
waits-push : (spots : List Spot) (spot : Spot) (waits : List (List WaitEntry)) (entries : List WaitEntry) → map entry_of entries ≡ head_entries spot.head → AreWaits spots waits →
    AreWaits (spots ++ spot ∷ []) (waits ++ entries ∷ [])
waits-push spots spot waits entries own had = record {
  count = length-append waits (entries ∷ []) ∙ ap (λ n. n + 1) had.count ∙ sym (length-append spots (spot ∷ []));
  entries = λ i other at.
      elim (cases_lt i (length spots)) [
        | inl low ↦
            ap (map entry_of) (get_or_append_left waits (entries ∷ []) [] i (omega (arith, had.count)))
            ∙ had.entries i other (sym (slice_get-shorter spots (spot ∷ []) i low) ∙ at)
        | inr past ↦
            let all : length (spots ++ spot ∷ []) ≡ length spots + 1 = length-append spots (spot ∷ []) in
            let last : i ≡ length spots = omega (arith, past, all, slice_get_within (spots ++ spot ∷ []) i other at) in
            let same : spot ≡ other = some-same (sym (slice_get-last spots spot) ∙ ap (slice_get (spots ++ spot ∷ [])) (sym last) ∙ at) in
            ap (map entry_of) (get_or_push waits entries [] i (had.count ∙ sym last)) ∙ own ∙ ap (λ (s : Spot). head_entries s.head) same
      ];
}

pub waits-more : (spots : List Spot) (i : ℕ) (spot : Spot) (waits more : List (Vec WaitEntry Global)) (entries : Vec WaitEntry Global) → i < length spots → spot ≡ get_or spots i spot →
    more ≡ waits ++ entries ∷ [] → map entry_of entries.items ≡ head_entries spot.head → AreWaits (take i spots) (map (λ (e : Vec WaitEntry Global). e.items) waits) →
    AreWaits (take (i + 1) spots) (map (λ (e : Vec WaitEntry Global). e.items) more)
waits-more spots i spot waits more entries low is pushed own had =
    let longer : take (i + 1) spots ≡ take i spots ++ spot ∷ [] = take_more spots i spot low ∙ ap (λ s. take i spots ++ s ∷ []) (sym is) in
    let lists : map (λ (e : Vec WaitEntry Global). e.items) more ≡ map (λ (e : Vec WaitEntry Global). e.items) waits ++ entries.items ∷ [] =
    ap (map (λ (e : Vec WaitEntry Global). e.items)) pushed ∙ map_push (λ (e : Vec WaitEntry Global). e.items) waits entries in
    subst (λ s. AreWaits s (map (λ (e : Vec WaitEntry Global). e.items) more)) (sym longer)
    (subst (AreWaits (take i spots ++ spot ∷ [])) (sym lists) (waits-push (take i spots) spot (map (λ (e : Vec WaitEntry Global). e.items) waits) entries.items own had))

-- the entries are those of what is first
first-entries : (part : Part) (rest : List Part) → wait_entries (part ∷ rest) ≡ wait_entries (part ∷ [])
first-entries (Runs Null) rest = refl
first-entries (Runs (Block many)) rest = refl
first-entries (Runs (If place condition first second)) rest = refl
first-entries (Runs (Case place kind value items default)) rest = refl
first-entries (Runs (For place first_targets first condition next_targets next body)) rest = refl
first-entries (Runs (While place condition body)) rest = refl
first-entries (Runs (Repeat place count body)) rest = refl
first-entries (Runs (Forever place body)) rest = refl
first-entries (Runs (Delay place delay body)) rest = refl
first-entries (Runs (EventControl place entries body)) rest = refl
first-entries (Runs (Wait place condition body)) rest = refl
first-entries (Runs (Blocking place targets delay value)) rest = refl
first-entries (Runs (Nonblocking place targets delay value)) rest = refl
first-entries (Runs (Finish place)) rest = refl
first-entries (TurnsLeft number place body) rest = refl

-- nothing waits at the end
pub entries-end : (spots : List Spot) (position : ℕ) → position ≡ 0 → [] ≡ wait_entries (get_or (rests_of spots) position [])
entries-end spots position e =
    sym (ap (λ p. wait_entries (get_or (rests_of spots) p [])) e ∙ ap wait_entries (get_or_from_slice_get (rests_of spots) 0 [] [] (rest-end spots)))

-- nor past the last position
pub entries-past : (spots : List Spot) (position : ℕ) → length spots < position → [] ≡ wait_entries (get_or (rests_of spots) position [])
entries-past spots position past = sym (ap wait_entries (get_or_past (rests_of spots) position [] (omega (arith, past, rests_of-length spots))))

-- the entries that stand at a position
pub entries-here : (process : Process) (code : Code) (position : ℕ) (entries : Vec WaitEntry Global) (slice : List WaitEntry) → IsCodeOf process code → (position ≡ 0 → ⊥) →
    position ≤ length code.spots.items →
    entries ≡ get_or code.waits.items (position - 1) entries → slice ≡ entries.items → map entry_of slice ≡ wait_entries (get_or (rests_in_code code) position [])
entries-here process code position entries slice is some low read opened =
    let spots = code.spots.items in
    let i : ℕ = position - 1 in
    let n : i + 1 ≡ position = omega (arith, some) in
    let found = there spots i (omega (arith, some, low)) in
    let spot = found.0 in
    let falls = is.falls i spot found.1 in
    let after : List Part = get_or (rests_of spots) spot.next [] in
    let stands : StandsAt (rests_of spots) position (part_of_head spot.head ∷ get_or (rests_of spots) spot.next []) =
    subst (λ k. StandsAt (rests_of spots) k (part_of_head spot.head ∷ get_or (rests_of spots) spot.next [])) n
    (rest-spot spots i spot (get_or (rests_of spots) spot.next []) found.1 falls (rest_at spots spot.next (omega (arith, falls, low, some)))) in
    let listed : get_or (map (λ (e : Vec WaitEntry Global). e.items) code.waits.items) i [] ≡ entries.items =
    get_or-map-at (λ (e : Vec WaitEntry Global). e.items) code.waits.items i entries [] (omega
    (arith, low, some, sym (length-map code.waits.items (λ (e : Vec WaitEntry Global). e.items)) ∙ is.waits.count))
    ∙ ap (λ (e : Vec WaitEntry Global). e.items) (sym read) in
    ap (map entry_of) (opened ∙ sym listed) ∙ is.waits.entries i spot found.1 ∙ sym (first-entries (part_of_head spot.head) (get_or (rests_of spots) spot.next []))
    ∙ ap wait_entries (sym (get_or_from_slice_get (rests_of spots) position (part_of_head spot.head ∷ get_or (rests_of spots) spot.next []) [] stands))
  where
    get_or-map-at : {A B : Type 0} (f : A → B) (xs : List A) (i : ℕ) (d : A) (e : B) → i < length xs → get_or (map f xs) i e ≡ f (get_or xs i d)
    get_or-map-at f [] i d e low = absurd (omega arith)
    get_or-map-at f (x ∷ xs) zero d e low = refl
    get_or-map-at f (x ∷ xs) (suc i) d e low = get_or-map-at f xs i d e (omega arith)

-- there are entries for each spot
pub waits-length : (process : Process) (code : Code) → IsCodeOf process code → length code.waits.items ≡ length code.spots.items
waits-length process code is = sym (length-map code.waits.items (λ (e : Vec WaitEntry Global). e.items)) ∙ is.waits.count
