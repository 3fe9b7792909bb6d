use Rattle.std.proofs.Common.{◌≡◌, ℕ, ◌+◌, ◌<◌, List, [], ◌∷◌, ◌++◌, length, map, get_or, below_more, refl, sym, ap, ◌∙◌, arith}
use Rattle.std.proofs.Math.ListN.{get_or-append}
use Rattle.std.proofs.lemmas.List.{length_push, get_or_read}
use Rattle.v_design.specs.Plain.{due_of}
use Rattle.v_design.specs.declared.plan.Due.{Due}
use Rattle.process_code.specs.declared.state.RunEnd.{RunEnd}
use Rattle.window_runs.specs.Through.{pending_through}
use Rattle.window_runs.proofs.updates.updates_after.Goals as goal

get-last : (xs : List (List Due)) (v d : List Due) → get_or (xs ++ v ∷ []) (length xs) d ≡ v
get-last [] v d = refl
get-last (x ∷ xs) v d = get-last xs v d

-- one process more
more : (updates later : List (List Due)) (number phase time : ℕ) (runs : List RunEnd) (pending first : List Due) → length later ≡ number → number < length updates → first ≡ get_or updates number [] →
    ((process : ℕ) → process < number → map due_of (get_or later process []) ≡ pending_through process phase time (map due_of (get_or updates process [])) runs) →
    map due_of pending ≡ pending_through number phase time (map due_of first) runs → (process : ℕ) → process < number + 1 →
    map due_of (get_or (later ++ pending ∷ []) process []) ≡ pending_through process phase time (map due_of (get_or updates process [])) runs
more updates later number phase time runs pending first count low read had is =
    below_more (λ process. map due_of (get_or (later ++ pending ∷ []) process []) ≡ pending_through process phase time (map due_of (get_or updates process [])) runs) number
    (λ process below. ap (map due_of) (get_or-append later (pending ∷ []) [] process (omega (arith, count, below))) ∙ had process below)
    (ap (map due_of) (ap (λ n. get_or (later ++ pending ∷ []) n []) (sym count) ∙ get-last later pending []) ∙ is
    ∙ ap (λ l. pending_through number phase time (map due_of l) runs) read)

pub processes-preserved : goal.processes-preserved
processes-preserved c = rw c.in_ok-push.ensures.items record {
  count = let long = length_push c.processes.later.items c.from_vec.result in omega (arith, long, c.processes.invariant.count);
  each =
      more c.args.updates.now c.processes.later.items c.processes.number c.args.phase c.args.time c.args.runs.now c.from_vec.result c.as_slice-first.result.now c.processes.invariant.count
      c.processes-test.true
      (c.as_slice-first.ensures ∙ get_or_read c.args.updates.now c.processes.number c.index-updates-number.result c.processes-test.true c.index-updates-number.is [])
      c.processes.invariant.each (ap (map due_of) c.from_vec.ensures ∙ c.in_ok-pending.ensures);
}
