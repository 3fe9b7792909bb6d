-- Workers as they are hired, and as they come back.
use Rattle.std.proofs.Common.{◌≡◌, ℕ, ◌+◌, ◌*◌, ◌-◌, ◌^◌, ◌<◌, List, [], ◌∷◌, ◌++◌, length, refl, sym, ap, subst, ◌∙◌, arith, length-append}
use Rattle.std.specs.List.{All, range_with_len}
use Rattle.std.proofs.lemmas.List.{map-append, map-id}
use Rattle.std.proofs.lemmas.List.FromFn.{map-range_with_len_more}
use Rattle.std.specs.Prelude.{MatchOption, None, Option, Some, vec_len}
use Rattle.std.specs.Global.{Global}
use Rattle.std.specs.declared.vec.Vec.{Vec}
use Rattle.std.proofs.lemmas.List.Elements.{All-push, All-pop}
use Rattle.verdict_words.specs.Seats.{view, IsSeatOf}
use Rattle.verdict_words.specs.Views.{first_view, lent_share, without_lent, newcomer}
use Rattle.verdict_words.specs.declared.board.Board.{Board}
use Rattle.verdict_words.specs.declared.board.Seat.{Seat}
use Rattle.verdict_words.specs.declared.view.View.{View}
use Rattle.shard_claims.specs.declared.worker.Worker.{Worker}
use Rattle.shard_claims.specs.Workers.{IsNewSeat, IsWorkerAt}
use Rattle.shard_findings.specs.AllWorkers.{AreWorkersAt, IsRest, worker_numbers}

-- numbers from 0, one more
numbers-on : (count : ℕ) → range_with_len 0 (count + 1) ≡ range_with_len 0 count ++ count ∷ []
numbers-on count =
    sym (map-id (range_with_len 0 (count + 1)))
    ∙ (map-range_with_len_more (λ (n : ℕ). n) 0 count count (omega arith) ∙ ap (λ (l : List ℕ). l ++ count ∷ []) (map-id (range_with_len 0 count)))

module _ {N : Type 0} where
  -- a seat that is split off
  pub newcomer-new : (board : Board N) (old new : Seat N) → IsSeatOf board new → view new ≡ newcomer (view old) → IsNewSeat board new
  newcomer-new board old new own is = record {
    own = own;
    share = ap (λ (v : View). v.share) is;
    calls = ap (λ (v : View). v.calls) is;
    claimed = ap (λ (v : View). v.claimed) is;
    moved = ap (λ (v : View). v.moved) is;
  }

  -- before the first worker
  pub rest-first : (board : Board N) (seat : Seat N) → IsSeatOf board seat → view seat ≡ first_view → IsRest board 0 seat
  rest-first board seat own first = record {
    own = own;
    share = (let s : (view seat).share ≡ 2 ^ 62 = ap (λ (v : View). v.share) first in omega (arith, s));
    calls = ap (λ (v : View). v.calls) first;
    claimed = ap (λ (v : View). v.claimed) first;
    moved = ap (λ (v : View). v.moved) first;
  }

  -- there is enough of it for one more
  pub rest-enough : (board : Board N) (count : ℕ) (seat : Seat N) → count < 64 → IsRest board count seat → (view seat).calls + lent_share < (view seat).share
  rest-enough board count seat few rest =
      let share : (view seat).share + count * lent_share ≡ 2 ^ 62 = rest.share in
      let calls : (view seat).calls ≡ 0 = rest.calls in
      omega (arith, share, calls, few)

  -- after one more
  pub rest-more : (board : Board N) (count : ℕ) (seat old : Seat N) → count < 64 → IsRest board count seat → IsSeatOf board old → view old ≡ without_lent (view seat) →
      IsRest board (count + 1) old
  rest-more board count seat old few rest own is = record {
    own = own;
    share =
        (let share : (view seat).share + count * lent_share ≡ 2 ^ 62 = rest.share in
        let less : (view old).share ≡ (view seat).share - lent_share = ap (λ (v : View). v.share) is in
        omega (arith, share, less, few));
    calls = ap (λ (v : View). v.calls) is ∙ rest.calls;
    claimed = ap (λ (v : View). v.claimed) is ∙ rest.claimed;
    moved = ap (λ (v : View). v.moved) is ∙ rest.moved;
  }

  -- one worker more
  pub workers-more : (representatives : List ℕ) (board : Board N) (gone count : ℕ) (workers : List (Worker N)) (worker : Worker N) → AreWorkersAt representatives board gone count workers →
      IsWorkerAt representatives board gone worker → AreWorkersAt representatives board gone (count + 1) (workers ++ worker ∷ [])
  workers-more representatives board gone count workers worker are is = record {
    count_is = (let c : length workers ≡ count = are.count_is in let l : length (workers ++ worker ∷ []) ≡ length workers + 1 = length-append workers (worker ∷ []) in omega (arith, c, l));
    each = All-push (IsWorkerAt representatives board gone) workers worker are.each is;
  }

  -- which has the next number
  pub numbers-more : (workers : List (Worker N)) (worker : Worker N) (count : ℕ) → worker_numbers workers ≡ range_with_len 0 count → worker.number ≡ count →
      worker_numbers (workers ++ worker ∷ []) ≡ range_with_len 0 (count + 1)
  numbers-more workers worker count are is =
      map-append (λ (w : Worker N). w.number) workers (worker ∷ [])
      ∙ (ap (λ (l : List ℕ). l ++ worker.number ∷ []) are ∙ (ap (λ (n : ℕ). range_with_len 0 count ++ n ∷ []) is ∙ sym (numbers-on count)))

  -- no worker
  pub workers-none : (representatives : List ℕ) (board : Board N) (gone : ℕ) → AreWorkersAt representatives board gone 0 []
  workers-none representatives board gone = record { count_is = refl; each = λ k d low. absurd (omega (arith, low)) }

  -- of some workers one is taken
  pub workers-last : (representatives : List ℕ) (board : Board N) (gone count : ℕ) (workers others : List (Worker N)) (worker : Worker N) → AreWorkersAt representatives board gone count workers →
      workers ≡ others ++ worker ∷ [] → (length others + 1 ≡ count) × AreWorkersAt representatives board gone (length others) others × IsWorkerAt representatives board gone worker
  workers-last representatives board gone count workers others worker are is = (
    (let c : length workers ≡ count = are.count_is in let l : length workers ≡ length others + 1 = ap length is ∙ length-append others (worker ∷ []) in omega (arith, c, l)),
    record { count_is = refl; each = both.0 },
    both.1,
  )
    where
      both : All (IsWorkerAt representatives board gone) others × IsWorkerAt representatives board gone worker
      both = All-pop (IsWorkerAt representatives board gone) workers others (Some worker) is are.each

  -- where none can be taken there is none
  pub workers-no : (representatives : List ℕ) (board : Board N) (gone through count : ℕ) (workers others : List (Worker N)) → AreWorkersAt representatives board gone count workers →
      length workers ≡ 0 → length others ≡ 0 → AreWorkersAt representatives board through count others
  workers-no representatives board gone through count workers others are none left = record {
    count_is = (let c : length workers ≡ count = are.count_is in omega (arith, c, none, left));
    each = λ k d low. absurd (omega (arith, low, left));
  }

  -- where nothing was popped nothing was there
  pub none-popped : (popped : Option (Worker N)) (old new : Vec (Worker N) Global) → popped ≡ None →
      MatchOption popped ((vec_len old ≡ 0) × (vec_len new ≡ 0)) (λ _. vec_len new + 1 ≡ vec_len old) → (length old.items ≡ 0) × (length new.items ≡ 0)
  none-popped popped old new is cases =
      let none : (vec_len old ≡ 0) × (vec_len new ≡ 0) =
      subst (λ (o : Option (Worker N)). MatchOption o ((vec_len old ≡ 0) × (vec_len new ≡ 0)) (λ _. vec_len new + 1 ≡ vec_len old)) is cases in
      let before = old.ok.0 in
      let after = new.ok.0 in
      let was = none.0 in
      let gone = none.1 in
      (omega (arith, before, was), omega (arith, after, gone))
