-- What is gathered, event by event and phase by phase.
use Rattle.std.proofs.Common.{◌≡◌, ℕ, ◌+◌, List, [], ◌∷◌, ◌++◌, length, map, Bool, true, false, refl, sym, ap, ◌∙◌, arith}
use Rattle.std.proofs.lemmas.List.{append-nil, append_assoc}
use Rattle.v_design.specs.Laws.{place_if}
use Rattle.v_design.specs.States.{Event}
use Rattle.slot_record.specs.Records.{event_of}
use Rattle.phase_blocks.specs.Blocks.{begins_block}
use Rattle.window_blocks.specs.Gathered.{one_if, beginnings_from, firsts_from, all_beginnings, all_firsts, all_ends, moment_behind, GathersBlocks}
use Rattle.window_blocks.specs.declared.table.BlockTable.{BlockTable}

pub placed-append : (b : Bool) (moment : ℕ) (xs ys : List ℕ) → place_if b moment (xs ++ ys) ≡ place_if b moment xs ++ ys
placed-append true moment xs ys = refl
placed-append false moment xs ys = refl

-- one event more
pub beginnings-push : (earlier xs : List Event) (moment : ℕ) (x : Event) →
    beginnings_from earlier moment (xs ++ x ∷ []) ≡ beginnings_from earlier moment xs ++ place_if (begins_block (earlier ++ xs) x) (moment + length xs) []
beginnings-push earlier [] moment x =
    let z : moment ≡ moment + length {A = Event} [] = omega arith in
    λ i. place_if (begins_block (sym (append-nil earlier) i) x) (z i) []
beginnings-push earlier (y ∷ ys) moment x =
    let z : moment + 1 + length ys ≡ moment + length (y ∷ ys) = omega arith in
    ap (place_if (begins_block earlier y) moment)
    (beginnings-push (earlier ++ y ∷ []) ys (moment + 1) x
    ∙ (λ i. beginnings_from (earlier ++ y ∷ []) (moment + 1) ys ++ place_if (begins_block (append_assoc earlier (y ∷ []) ys i) x) (z i) []))
    ∙ placed-append (begins_block earlier y) moment (beginnings_from (earlier ++ y ∷ []) (moment + 1) ys) (place_if (begins_block (earlier ++ (y ∷ ys)) x) (moment + length (y ∷ ys)) [])

kept-append : {A : Type 0} (b : Bool) (x : A) (xs ys : List A) → one_if b x (xs ++ ys) ≡ one_if b x xs ++ ys
kept-append true x xs ys = refl
kept-append false x xs ys = refl

pub firsts-push : (earlier xs : List Event) (x : Event) → firsts_from earlier (xs ++ x ∷ []) ≡ firsts_from earlier xs ++ one_if (begins_block (earlier ++ xs) x) x []
firsts-push earlier [] x = ap (λ l. one_if (begins_block l x) x []) (sym (append-nil earlier))
firsts-push earlier (y ∷ ys) x =
    ap (one_if (begins_block earlier y) y)
    (firsts-push (earlier ++ y ∷ []) ys x ∙ ap (λ l. firsts_from (earlier ++ y ∷ []) ys ++ one_if (begins_block l x) x []) (append_assoc earlier (y ∷ []) ys))
    ∙ kept-append (begins_block earlier y) y (firsts_from (earlier ++ y ∷ []) ys) (one_if (begins_block (earlier ++ (y ∷ ys)) x) x [])

-- some phases more
pub firsts-append : (xs ys : List (List Event)) → all_firsts (xs ++ ys) ≡ all_firsts xs ++ all_firsts ys
firsts-append [] ys = refl
firsts-append (x ∷ xs) ys = ap (λ l. firsts_from [] x ++ l) (firsts-append xs ys) ∙ sym (append_assoc (firsts_from [] x) (all_firsts xs) (all_firsts ys))

pub beginnings-append : (moment : ℕ) (xs ys : List (List Event)) → all_beginnings moment (xs ++ ys) ≡ all_beginnings moment xs ++ all_beginnings (moment_behind moment xs) ys
beginnings-append moment [] ys = refl
beginnings-append moment (x ∷ xs) ys =
    ap (λ l. beginnings_from [] moment x ++ l) (beginnings-append (moment + length x) xs ys)
    ∙ sym (append_assoc (beginnings_from [] moment x) (all_beginnings (moment + length x) xs) (all_beginnings (moment_behind (moment + length x) xs) ys))

pub ends-append : (moment : ℕ) (xs ys : List (List Event)) → all_ends moment (xs ++ ys) ≡ all_ends moment xs ++ all_ends (moment_behind moment xs) ys
ends-append moment [] ys = refl
ends-append moment (x ∷ xs) ys = ap (λ l. (moment + length x) ∷ l) (ends-append (moment + length x) xs ys)

pub behind-append : (moment : ℕ) (xs ys : List (List Event)) → moment_behind moment (xs ++ ys) ≡ moment_behind (moment_behind moment xs) ys
behind-append moment [] ys = refl
behind-append moment (x ∷ xs) ys = behind-append (moment + length x) xs ys

pub GathersBlocks-none : (table : BlockTable) → GathersBlocks [] table table
GathersBlocks-none table = record { moments = sym (append-nil table.moments.items); firsts = sym (append-nil (map event_of table.actors.items)); ends = sym (append-nil table.ends.items); moment = refl }

pub GathersBlocks-more : (xs ys : List (List Event)) (old between new : BlockTable) → GathersBlocks xs old between → GathersBlocks ys between new → GathersBlocks (xs ++ ys) old new
GathersBlocks-more xs ys old between new had grown = record {
  moments =
      grown.moments ∙ (λ i. had.moments i ++ all_beginnings (had.moment i) ys)
      ∙ append_assoc old.moments.items (all_beginnings old.moment xs) (all_beginnings (moment_behind old.moment xs) ys)
      ∙ ap (λ l. old.moments.items ++ l) (sym (beginnings-append old.moment xs ys));
  firsts =
      grown.firsts ∙ ap (λ l. l ++ all_firsts ys) had.firsts ∙ append_assoc (map event_of old.actors.items) (all_firsts xs) (all_firsts ys)
      ∙ ap (λ l. map event_of old.actors.items ++ l) (sym (firsts-append xs ys));
  ends =
      grown.ends ∙ (λ i. had.ends i ++ all_ends (had.moment i) ys) ∙ append_assoc old.ends.items (all_ends old.moment xs) (all_ends (moment_behind old.moment xs) ys)
      ∙ ap (λ l. old.ends.items ++ l) (sym (ends-append old.moment xs ys));
  moment = grown.moment ∙ ap (λ m. moment_behind m ys) had.moment ∙ sym (behind-append old.moment xs ys);
}

-- one phase
pub GathersBlocks-one : (events : List Event) (end : ℕ) (old new : BlockTable) → new.moments.items ≡ old.moments.items ++ beginnings_from [] old.moment events →
    map event_of new.actors.items ≡ map event_of old.actors.items ++ firsts_from [] events → new.ends.items ≡ old.ends.items ++ end ∷ [] → new.moment ≡ end → end ≡ old.moment + length events → GathersBlocks (events ∷ []) old new
GathersBlocks-one events end old new moments firsts ends moment end_is = record {
  moments = moments ∙ ap (λ l. old.moments.items ++ l) (sym (append-nil (beginnings_from [] old.moment events)));
  firsts = firsts ∙ ap (λ l. map event_of old.actors.items ++ l) (sym (append-nil (firsts_from [] events)));
  ends = ends ∙ ap (λ e. old.ends.items ++ e ∷ []) end_is;
  moment = moment ∙ end_is;
}
