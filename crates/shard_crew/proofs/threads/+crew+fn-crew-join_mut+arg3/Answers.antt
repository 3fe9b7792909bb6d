-- All workers come back.
use Rattle.std.proofs.Common.{◌≡◌, ◌+◌, ◌*◌, ◌<◌, ◌++◌, ◌∷◌, [], length, refl, sym, ap, subst, ◌∙◌, arith, rules}
use Rattle.fault_shards.specs.Shards.{representatives_of}
use Rattle.std.specs.Prelude.{sum, Some}
use Rattle.verdict_words.specs.declared.view.View.{View}
use Rattle.shard_findings.specs.shard_claims.Workers.{HasVisited, IsWorkerAt, visit_steps, visited_by}
use Rattle.shard_findings.specs.shard_claims.declared.worker.Seated.{Seated}
use Rattle.shard_findings.specs.shard_turns.declared.backups.BackupSeat.{BackupSeat}
use Rattle.shard_findings.specs.AllWorkers.{AreWorkersAt, crew_steps}
use Rattle.shard_crew.specs.Crews.{CrewRose, HasCrewVisited, IsCrewSeat, WorkerRose}
use contract.Lifetimes.{Lfts}
use denote.Exit.{no}
use denote.Param.{param}
use denote.Param.Send.{IsSend, IsSync, param_send, param_sync, arg_send, arg_sync, recorded_send, struct_send, shr_send, mut_send, mut_slice_send}
use Rattle.std.proofs.Crossing as std
use Rattle.vf_base.proofs.steps.Steps.TheSendSync as steps_crosses
use Rattle.shard_findings.proofs.shard_claims.worker.Seated.TheSendSync as seated_crosses
use Rattle.shard_crew.proofs.Crossing.{option_send, round_sync}
use Rattle.shard_findings.proofs.Manning.{none-popped, workers-last, workers-more, workers-no}
use Rattle.shard_crew.proofs.Visiting.{crew-alone, crew-enough, crew-joined, crew-last, crew-nobody, crew-one, crew-rest}
use Rattle.shard_findings.specs.graded_steps.Behind.{RisesWithin}
use Rattle.shard_crew.proofs.Ticks.{crew-more, none-at, nothing-rises, some-at}
use Rattle.shard_crew.proofs.threads.+crew+fn-crew-join_mut+arg3.Given.{Over}
use Rattle.shard_crew.proofs.threads.+crew+fn-crew-join_mut+arg3.Lts-crew.{arg-15-1}
use Rattle.shard_crew.proofs.threads.+crew+fn-crew-join_mut+arg3.Goals as goal

some-is : {A : Type 0} (x y : A) → Some x ≡ Some y → x ≡ y
some-is x y e = cc

pub unreachable-requires : goal.unreachable-requires
unreachable-requires g t c =
    none-at (IsCrewSeat c.args.round.now.backups.now (length c.args.steps.now)) c.args.seat.now (sym c.take.ensures.value ∙ c.in_default.is) c.requires.seat

pub returns-in_default-pop-clause-through : goal.returns-in_default-pop-clause-through
returns-in_default-pop-clause-through g t c =
    let none = none-popped _ c.args.workers.now c.pop.new.self c.in_default-pop.is c.pop.ensures.cases in
    workers-no (representatives_of c.args.round.now.shards.now) c.args.round.now.board.now c.args.round.now.window.now.before c.args.round.now.window.now.through (length c.args.steps.now)
    c.args.workers.now.items c.pop.new.self.items c.requires.at none.0 none.1

pub returns-in_default-pop-clause-visited : goal.returns-in_default-pop-clause-visited
returns-in_default-pop-clause-visited g t c one is =
    let none = none-popped _ c.args.workers.now c.pop.new.self c.in_default-pop.is c.pop.ensures.cases in
    let came : c.args.seat.now ≡ Some c.in-Some.all = sym c.take.ensures.value ∙ c.in-Some.is in
    let seat : IsCrewSeat c.args.round.now.backups.now (length c.args.steps.now) c.in-Some.all =
    some-at (IsCrewSeat c.args.round.now.backups.now (length c.args.steps.now)) c.args.seat.now c.in-Some.all came c.requires.seat in
    let nobody : length c.args.steps.now ≡ 0 = (let count = c.requires.at.count_is in let empty = none.0 in omega (arith, count, empty)) in
    subst (λ (s : BackupSeat _). HasCrewVisited c.args.round.now.backups.now (length c.args.steps.now) s c.in-Some.all) (some-is c.in-Some.all one (sym came ∙ is))
    (crew-nobody c.args.round.now.backups.now (length c.args.steps.now) c.in-Some.all nobody seat)

pub returns-in_default-pop-clause-ticks : goal.returns-in_default-pop-clause-ticks
returns-in_default-pop-clause-ticks g t c =
    let none = none-popped _ c.args.workers.now c.pop.new.self c.in_default-pop.is c.pop.ensures.cases in
    let came : c.args.seat.now ≡ Some c.in-Some.all = sym c.take.ensures.value ∙ c.in-Some.is in
    let seat : IsCrewSeat c.args.round.now.backups.now (length c.args.steps.now) c.in-Some.all =
    some-at (IsCrewSeat c.args.round.now.backups.now (length c.args.steps.now)) c.args.seat.now c.in-Some.all came c.requires.seat in
    record {
      rises = λ tally. nothing-rises g.N.World.design g.N.World.plan tally (representatives_of c.args.round.now.shards.now) c.args.round.now.window.now.before c.args.round.now.window.now.through
          c.args.workers.now.items c.pop.new.self.items (visited_by c.in-Some.all) (sum c.args.steps.now) none.0 seat.none;
    }

captured_send : (g : Over) (κs : Lfts 22) → IsSend (param 0 g.row.N) → IsSync (param 0 g.row.N) → IsSync (param 2 g.row.G) → IsSend (param 3 g.row.L) →
    IsSend (arg-15-1 g.row.N g.row.R g.row.G g.row.L g.N.laws g.R.laws g.G.laws g.L.laws g.N.World g.N.World-dict g.R.Threads g.R.Threads-dict g.G.Gate g.G.Gate-dict
    g.L.Ledger g.L.Ledger-dict κs)
captured_send g κs sn yn yg sl = search (arg_send, recorded_send, struct_send, shr_send, mut_send, mut_slice_send, option_send, round_sync, seated_crosses.the_send, steps_crosses.the_send, std.sync) depth 20

pub join_mut-a-requires-send-F : goal.join_mut-a-requires-send-F
join_mut-a-requires-send-F g t c κs within =
    let may = c.requires.bounds in
    param_send 1 _ (captured_send g κs may.0 may.1 may.3 may.4)

pub split-rest-requires-clause-own : goal.split-rest-requires-clause-own
split-rest-requires-clause-own g t c κs within =
    (some-at (IsCrewSeat c.args.round.now.backups.now (length c.args.steps.now)) c.args.seat.now c.in-Some.all (sym c.take.ensures.value ∙ c.in-Some.is) c.requires.seat).own

pub work_alone-requires-clause-at : goal.work_alone-requires-clause-at
work_alone-requires-clause-at g t c κs within =
    let seat : IsCrewSeat c.args.round.now.backups.now (length c.args.steps.now) c.in-Some.all =
    some-at (IsCrewSeat c.args.round.now.backups.now (length c.args.steps.now)) c.args.seat.now c.in-Some.all (sym c.take.ensures.value ∙ c.in-Some.is) c.requires.seat in
    let last =
    workers-last (representatives_of c.args.round.now.shards.now) c.args.round.now.board.now c.args.round.now.window.now.before (length c.args.steps.now) c.args.workers.now.items
    c.pop.new.self.items c.in-Some-pop.worker c.requires.at c.in-Some-pop.ensures.items in
    record { at = last.2; fresh = crew-last c.args.round.now.backups.now (length c.args.steps.now) c.in-Some.all (let one = last.0 in omega (arith, one)) seat }

pub split-rest-requires-clause-share : goal.split-rest-requires-clause-share
split-rest-requires-clause-share g t c κs within =
    let seat : IsCrewSeat c.args.round.now.backups.now (length c.args.steps.now) c.in-Some.all =
    some-at (IsCrewSeat c.args.round.now.backups.now (length c.args.steps.now)) c.args.seat.now c.in-Some.all (sym c.take.ensures.value ∙ c.in-Some.is) c.requires.seat in
    let last =
    workers-last (representatives_of c.args.round.now.shards.now) c.args.round.now.board.now c.args.round.now.window.now.before (length c.args.steps.now) c.args.workers.now.items
    c.pop.new.self.items c.in-Some-pop.worker c.requires.at c.in-Some-pop.ensures.items in
    crew-enough c.args.round.now.backups.now (length c.args.steps.now) c.in-Some.all (omega (arith, last.0, c.if-count-eq0.false, c.len-count.ensures, c.pop.new.self.ok.0)) seat

pub returns-then-count-eq0-clause-visited : goal.returns-then-count-eq0-clause-visited
returns-then-count-eq0-clause-visited g t c one is =
    let came : c.args.seat.now ≡ Some c.in-Some.all = sym c.take.ensures.value ∙ c.in-Some.is in
    subst (λ (s : BackupSeat _). HasCrewVisited c.args.round.now.backups.now (length c.args.steps.now) s c.in_ok-alone.alone.backup) (some-is c.in-Some.all one (sym came ∙ is))
    (crew-alone c.args.round.now.backups.now (length c.args.steps.now) c.in-Some.all c.in_ok-alone.alone.backup
    (c.in_ok-alone.ensures.visited (record { worker = c.in-Some-pop.worker; backup = c.in-Some.all }) refl))

pub returns-then-count-eq0-clause-ticks : goal.returns-then-count-eq0-clause-ticks
returns-then-count-eq0-clause-ticks g t c =
    let others = c.split_at_mut-others.result.0.now in
    let reps = representatives_of c.args.round.now.shards.now in
    let from = c.args.round.now.window.now.before in
    let to = c.args.round.now.window.now.through in
    record {
      rises = λ tally.
          (let nothing : RisesWithin (crew_steps tally c.pop.new.self.items + visit_steps tally reps from []) (crew_steps tally c.pop.new.self.items + visit_steps tally reps to []) (sum others) (sum others) =
          omega arith in
          crew-more g.N.World.design g.N.World.plan tally reps from to c.args.workers.now.items c.pop.new.self.items c.pop.new.self.items c.push.new.self.items c.in-Some-pop.worker c.in_ok-alone.alone.worker
          (visited_by c.in_ok-alone.alone.backup) [] (visited_by c.in_ok-alone.alone.backup) c.args.steps.now others c.split_at_mut-others.result.1.now others c.work_alone.new.mine
          c.in-Some-pop.ensures.items c.in_ok-push.ensures.items refl c.split_at_mut-others.ensures.value (c.in_ok-alone.ensures.ticks.rises tally) nothing);
    }

pub returns-clause-through : goal.returns-clause-through
returns-clause-through g t c =
    let last =
    workers-last (representatives_of c.args.round.now.shards.now) c.args.round.now.board.now c.args.round.now.window.now.before (length c.args.steps.now) c.args.workers.now.items
    c.pop.new.self.items c.in-Some-pop.worker c.requires.at c.in-Some-pop.ensures.items in
    let count : length c.split_at_mut-others.result.0.now + 1 ≡ length c.args.steps.now =
    omega (arith, c.split_at_mut-others.ensures.front_len, c.len-count.ensures, c.pop.new.self.ok.0, last.0) in
    let others : AreWorkersAt (representatives_of c.args.round.now.shards.now) c.args.round.now.board.now c.args.round.now.window.now.through
    (length c.split_at_mut-others.result.0.now) c.workers-1.given.0.items = search rules in
    let mine : IsWorkerAt (representatives_of c.args.round.now.shards.now) c.args.round.now.board.now c.args.round.now.window.now.through c.in_ok-came.came.worker = search rules in
    subst (AreWorkersAt (representatives_of c.args.round.now.shards.now) c.args.round.now.board.now c.args.round.now.window.now.through (length c.args.steps.now)) (sym c.in_ok-push-2.ensures.items)
    (subst (λ n. AreWorkersAt (representatives_of c.args.round.now.shards.now) c.args.round.now.board.now c.args.round.now.window.now.through n
    (c.workers-1.given.0.items ++ c.in_ok-came.came.worker ∷ [])) count
    (workers-more (representatives_of c.args.round.now.shards.now) c.args.round.now.board.now c.args.round.now.window.now.through (length c.split_at_mut-others.result.0.now)
    c.workers-1.given.0.items c.in_ok-came.came.worker others mine))

pub returns-clause-visited : goal.returns-clause-visited
returns-clause-visited g t c one is =
    let backups = c.args.round.now.backups.now in
    let came : c.args.seat.now ≡ Some c.in-Some.all = sym c.take.ensures.value ∙ c.in-Some.is in
    let seat : IsCrewSeat backups (length c.args.steps.now) c.in-Some.all = some-at (IsCrewSeat backups (length c.args.steps.now)) c.args.seat.now c.in-Some.all came c.requires.seat in
    let last =
    workers-last (representatives_of c.args.round.now.shards.now) c.args.round.now.board.now c.args.round.now.window.now.before (length c.args.steps.now) c.args.workers.now.items
    c.pop.new.self.items c.in-Some-pop.worker c.requires.at c.in-Some-pop.ensures.items in
    let count : length c.split_at_mut-others.result.0.now + 1 ≡ length c.args.steps.now =
    omega (arith, c.split_at_mut-others.ensures.front_len, c.len-count.ensures, c.pop.new.self.ok.0, last.0) in
    let more : 1 < length c.args.steps.now = omega (arith, last.0, c.if-count-eq0.false, c.len-count.ensures, c.pop.new.self.ok.0) in
    let mine : (own : Seated _) → Some (record { worker = c.in-Some-pop.worker; backup = c.split-rest.result.1 }) ≡ Some own → HasVisited backups own.backup c.in_ok-came.came.backup = search rules in
    let others : (own : BackupSeat _) → Some c.split-rest.result.0 ≡ Some own → HasCrewVisited backups (length c.split_at_mut-others.result.0.now) own c.in_ok-rest.rest = search rules in
    subst (λ (s : BackupSeat _). HasCrewVisited backups (length c.args.steps.now) s c.join.result) (some-is c.in-Some.all one (sym came ∙ is))
    (crew-joined backups (length c.args.steps.now) (length c.split_at_mut-others.result.0.now) c.in-Some.all c.split-rest.result.0 c.split-rest.result.1 c.in_ok-rest.rest c.in_ok-came.came.backup
    c.join.result count more seat c.split-rest.ensures.old c.split-rest.ensures.new (others c.split-rest.result.0 refl)
    (mine (record { worker = c.in-Some-pop.worker; backup = c.split-rest.result.1 }) refl) c.join.ensures.own c.join.ensures.both)

pub returns-clause-ticks : goal.returns-clause-ticks
returns-clause-ticks g t c =
    let reps = representatives_of c.args.round.now.shards.now in
    let from = c.args.round.now.window.now.before in
    let to = c.args.round.now.window.now.through in
    let mine : WorkerRose g.N.World.design g.N.World.plan reps from to (Some (record { worker = c.in-Some-pop.worker; backup = c.split-rest.result.1 }))
    c.in_ok-came.came c.split_at_mut-others.result.1.now c.mine-2-1.given.0 = search rules in
    let others : CrewRose g.N.World.design g.N.World.plan reps from to c.pop.new.self.items c.workers-1.given.0.items c.in_ok-rest.rest
    c.split_at_mut-others.result.0.now c.others-1.given.0 = search rules in record {
      rises = λ tally.
          crew-more g.N.World.design g.N.World.plan tally reps from to c.args.workers.now.items c.pop.new.self.items c.workers-1.given.0.items c.push-2.new.self.items c.in-Some-pop.worker
          c.in_ok-came.came.worker (visited_by c.in_ok-came.came.backup) (visited_by c.in_ok-rest.rest) (visited_by c.join.result) c.args.steps.now c.split_at_mut-others.result.0.now
          c.split_at_mut-others.result.1.now c.others-1.given.0 c.mine-2-1.given.0 c.in-Some-pop.ensures.items c.in_ok-push-2.ensures.items (ap (λ (v : View). v.claimed) c.join.ensures.both)
          c.split_at_mut-others.ensures.value (mine.rises tally) (others.rises tally);
    }

pub join_mut-a-requires-after_bounds : goal.join_mut-a-requires-after_bounds
join_mut-a-requires-after_bounds g t c κs within =
    let backups = c.args.round.now.backups.now in
    let seat : IsCrewSeat backups (length c.args.steps.now) c.in-Some.all =
    some-at (IsCrewSeat backups (length c.args.steps.now)) c.args.seat.now c.in-Some.all (sym c.take.ensures.value ∙ c.in-Some.is) c.requires.seat in
    let last =
    workers-last (representatives_of c.args.round.now.shards.now) c.args.round.now.board.now c.args.round.now.window.now.before (length c.args.steps.now) c.args.workers.now.items
    c.pop.new.self.items c.in-Some-pop.worker c.requires.at c.in-Some-pop.ensures.items in
    let same : length c.pop.new.self.items ≡ length c.split_at_mut-others.result.0.now = omega (arith, c.split_at_mut-others.ensures.front_len, c.len-count.ensures, c.pop.new.self.ok.0) in
    let at : AreWorkersAt (representatives_of c.args.round.now.shards.now) c.args.round.now.board.now c.args.round.now.window.now.before (length c.split_at_mut-others.result.0.now)
    c.pop.new.self.items =
    subst (λ n. AreWorkersAt (representatives_of c.args.round.now.shards.now) c.args.round.now.board.now c.args.round.now.window.now.before n c.pop.new.self.items) same last.1 in
    let one : length c.split_at_mut-others.result.1.now ≡ 1 = omega (arith, c.split_at_mut-others.ensures.back_len, c.len-count.ensures, c.pop.new.self.ok.0, last.0) in
    let count : length c.split_at_mut-others.result.0.now + 1 ≡ length c.args.steps.now = omega (arith, same, last.0) in
    let less : 2 * length c.split_at_mut-others.result.0.now + 1 < t = omega (arith, c.decreases, same, last.0) in
    let rest = crew-rest backups (length c.args.steps.now) (length c.split_at_mut-others.result.0.now) c.in-Some.all c.split-rest.result.0 count seat c.split-rest.ensures.own.0 c.split-rest.ensures.old in
    let mine = crew-one backups c.in-Some.all c.split-rest.result.1 c.split-rest.ensures.own.1 c.split-rest.ensures.new in
    let may = c.requires.bounds in (
      (
        c.requires.place,
        (
          c.requires.backups,
          (
            record { at = last.2; fresh = mine },
            (
              one,
              (
                param_send 0 _ (arg_send _ no _ may.0),
                param_send 2 _ (arg_send _ no _ may.4),
                param_sync 0 _ (arg_sync _ no _ may.1),
                param_sync 1 _ (arg_sync _ no _ may.3),
                param_sync 2 _ (arg_sync _ no _ may.5),
              ),
            ),
          ),
        ),
      ),
      (less, (λ a m. m, (λ a m. m, (λ a m. m, (λ a m. m, (c.requires.place, (c.requires.backups, (at, (rest, (may, (may.0, may.4, may.1, may.2, may.3, may.5))))))))))),
    )
