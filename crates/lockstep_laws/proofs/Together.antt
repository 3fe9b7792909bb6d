-- States in lockstep stand side by side, and a phase that begins in them holds the same entries.
use Rattle.std.proofs.Common.{◌≡◌, ℕ, suc, ◌+◌, List, [], ◌∷◌, length, refl, sym, ap, subst, arith}
use Rattle.std.specs.Prelude.{Option, Some, None, slice_get}
use Rattle.vf_base.specs.Lists.{joined, map_numbered}
use Rattle.v_design.specs.Processes.{Activity}
use Rattle.v_design.specs.States.{State, ProcessState, process_at, found_or, idle_process, is_ready}
use Rattle.v_design.specs.Accesses.{ObjectAccess, held_by}
use Rattle.copy_laws.specs.Beside.{AreBeside, FirstEventsAreOne}
use Rattle.copy_laws.specs.Moves.{Within, MayJump, apart_within, WithinIsBeside}
use Rattle.lockstep_laws.specs.Lockstep.{DiffersInWrites, AreInLockstep, LockstepIsBeside, LockstepHolds}
use Rattle.lockstep_laws.proofs.Updates.{any-alike, same-writes}

-- each process, kept or not
pub each-differs : (d : Within) (good faulty : State) → AreInLockstep d good faulty → (p : ℕ) → DiffersInWrites (process_at good p) (process_at faulty p)
each-differs d good faulty l p = go (d.processes p) refl (l.within.processes p)
  where
    go : (own : Option ProcessState) → d.processes p ≡ own → process_at faulty p ≡ found_or (process_at good p) own → DiffersInWrites (process_at good p) (process_at faulty p)
    go None e is = subst (DiffersInWrites (process_at good p)) (sym is) (same-writes (process_at good p))
    go (Some own) e is = subst (DiffersInWrites (process_at good p)) (sym is) (l.processes p own e)

pub may-jump : (d : Within) (good faulty : State) → AreInLockstep d good faulty → MayJump d good faulty
may-jump d good faulty l = record {
  times = l.time;
  nodes = l.nodes;
  ready = λ p own e. ap is_ready (sym (l.processes p own e).activity);
  lanes = λ p own e. sym (any-alike own.lane (process_at good p).lane (l.processes p own e).lane);
}

pub lockstep_is_beside : FirstEventsAreOne → WithinIsBeside → LockstepIsBeside
lockstep_is_beside first law d good faulty l =
    let b : AreBeside (apart_within d) good faulty = law d good faulty l.within (may-jump d good faulty l) in
    record {
      beside = b;
      jump = may-jump d good faulty l;
      first = sym (first (apart_within d) good faulty b);
      processes = each-differs d good faulty l;
    }

-- Held entries

-- lists of processes that do the same give the same, by number
numbered-alike : (give : ℕ → ProcessState → List ObjectAccess) → ((n : ℕ) (one other : ProcessState) → one.activity ≡ other.activity → give n one ≡ give n other) →
    (n : ℕ) (xs ys : List ProcessState) → length xs ≡ length ys →
    ((p : ℕ) → (found_or idle_process (slice_get xs p)).activity ≡ (found_or idle_process (slice_get ys p)).activity) → map_numbered give n xs ≡ map_numbered give n ys
numbered-alike give same n [] [] e h = refl
numbered-alike give same n [] (y ∷ ys) e h = absurd (omega (arith, e))
numbered-alike give same n (x ∷ xs) [] e h = absurd (omega (arith, e))
numbered-alike give same n (x ∷ xs) (y ∷ ys) e h = λ i. same n x y (h 0) i ∷ numbered-alike give same (n + 1) xs ys (omega (arith, e)) (λ p. h (suc p)) i

pub lockstep_holds : LockstepHolds
lockstep_holds design fault d good faulty l =
    ap joined
    (numbered-alike (held_by design) (λ n one other e. ap (λ (a : Activity). held_by design n (record one { activity = a })) e) 0 good.processes faulty.processes (sym l.within.process_count)
    (λ p. sym (each-differs d good faulty l p).activity))
