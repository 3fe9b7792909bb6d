use Rattle.std.proofs.Common.{rules, arith, refl, ◌≡◌, ℕ, ◌+◌, ◌<◌, ◌≤◌, ◌∙◌, ◌++◌, ◌∷◌, [], List, ap, sym, subst, take, map, length, get_or, vec_len, replicate}
use Rattle.std.specs.Prelude.{slice_get, Some}
use Rattle.std.specs.Option.{option_map}
use Rattle.std.proofs.lemmas.List.{take_more, take_all, length-map, length-take-le}
use Rattle.std.proofs.lemmas.Option.{get_or_from_slice_get, slice_get_within, slice_get-map, slice_get_read}
use Rattle.std.specs.Prelude.{Vec}
use Rattle.std.specs.declared.alloc.Global.{Global}
use Rattle.vf_base.specs.declared.ids.ProcId.{ProcId}
use Rattle.vf_base.specs.Base.{object_number, process_number}
use Rattle.v_design.specs.Plain.{object_of, process_of, statement_of}
use Rattle.v_design.specs.Designs.{FlatProcess}
use Rattle.v_design.specs.declared.plan.Process.{Process}
use Rattle.v_design.specs.PlainDesigns.{design_of}
use Rattle.wait_index.specs.Waits.{waited_objects, IsIndexOf}
use Rattle.wait_index.specs.Index.{process_lists}
use Rattle.wait_index.specs.Tables.{WaitersAdded, WaitersAdded-none, TablesBuilt, TablesBuilt-none, TablesBuilt-more}
use Rattle.wait_index.proofs.index.WaitIndex.new.Goals as goal

-- a process of the code's list, as one of the design
process_in : (processes list : List Process) (k : ℕ) (p : Process) → list ≡ processes → k < length list → p ≡ get_or list k p → slice_get (map process_of processes) k ≡ Some (process_of p)
process_in processes list k p same low at =
    subst (λ l. slice_get (map process_of l) k ≡ Some (process_of p)) same (slice_get-map process_of list k ∙ ap (option_map process_of) (slice_get_read list (length list) k p refl low at))

-- a process begins with no object taken
begun : (processes : List FlatProcess) (k : ℕ) (process : FlatProcess) (seen : List ℕ) (lists : List (List ℕ)) → slice_get processes k ≡ Some process → TablesBuilt (take k processes) seen lists →
    WaitersAdded k [] lists seen lists
begun processes k process seen lists at had =
    let within : k < length processes = slice_get_within processes k process at in
    let counted : length (take k processes) ≡ k = length-take-le k processes (omega arith) in
    WaitersAdded-none k lists seen (λ o h. subst (λ n. get_or seen o 0 ≤ n) counted (had.bounded o h)) had.alike

-- the tables of one process more
stepped : (processes : List FlatProcess) (k : ℕ) (process : FlatProcess) (seen : List ℕ) (lists : List (List ℕ)) (later : List ℕ) (now : List (List ℕ)) →
    slice_get processes k ≡ Some process → TablesBuilt (take k processes) seen lists →
    ((before : List (List ℕ)) → WaitersAdded k [] before seen lists → WaitersAdded k (waited_objects process.body) before later now) → TablesBuilt (take (k + 1) processes) later now
stepped processes k process seen lists later now at had adds =
    let within : k < length processes = slice_get_within processes k process at in
    let more : take (k + 1) processes ≡ take k processes ++ process ∷ [] = take_more processes k process within
    ∙ ap (λ p. take k processes ++ p ∷ []) (get_or_from_slice_get processes k process process at) in
    let counted : length (take k processes) ≡ k = length-take-le k processes (omega arith) in
    let first : WaitersAdded k [] lists seen lists = begun processes k process seen lists at had in
    rw more (TablesBuilt-more (take k processes) seen lists process later now had (subst (λ n. WaitersAdded n (waited_objects process.body) lists later now) (sym counted) (adds lists first)))

-- all processes
finished : (processes : List FlatProcess) (k : ℕ) (seen : List ℕ) (lists : List (List ℕ)) → TablesBuilt (take k processes) seen lists → length processes ≤ k → TablesBuilt processes seen lists
finished processes k seen lists had all = subst (λ ps. TablesBuilt ps seen lists) (take_all k processes all) had

pub processes-preserved : goal.processes-preserved
processes-preserved c = record {
  built =
      stepped (design_of c.args.design.now).processes c.processes.number (process_of c.process-item.result) c.processes.seen.items (process_lists c.processes.waiters.items)
      c.add_waiters.new.seen.items (process_lists c.add_waiters.new.waiters.items)
      (process_in c.args.design.now.processes c.as_slice-process-items.result.now c.processes.number c.process-item.result c.as_slice-process-items.ensures c.processes-test.true c.process-item.is)
      c.processes.invariant.built
      (λ before h.
      subst (λ t. WaitersAdded c.processes.number t before c.add_waiters.new.seen.items (process_lists c.add_waiters.new.waiters.items))
      (ap (map object_number) c.deref.ensures.value ∙ c.in_ok-add_statement.ensures ∙ ap (λ l. map object_number l ++ waited_objects (statement_of c.process-item.result.body)) c.clear.ensures.items)
      (c.in_ok-add_waiters.ensures.added before h));
  waiters_length =
      let added = c.in_ok-add_waiters.ensures.added (process_lists c.processes.waiters.items)
      (begun (design_of c.args.design.now).processes c.processes.number (process_of c.process-item.result) c.processes.seen.items (process_lists c.processes.waiters.items)
      (process_in c.args.design.now.processes c.as_slice-process-items.result.now c.processes.number c.process-item.result c.as_slice-process-items.ensures c.processes-test.true c.process-item.is)
      c.processes.invariant.built) in
      omega (
        arith,
        added.same_length,
        length-map c.processes.waiters.items (λ (list : Vec ProcId Global). map process_number list.items),
        length-map c.add_waiters.new.waiters.items (λ (list : Vec ProcId Global). map process_number list.items),
        c.processes.invariant.waiters_length,
      );
}

pub returns : goal.returns
returns c =
    let built = finished (design_of c.args.design.now).processes c.processes.number c.processes.seen.items (process_lists c.processes.waiters.items) c.processes.invariant.built
    (let same = ap length c.as_slice-process-items.ensures in omega (arith, length-map c.args.design.now.processes process_of, c.processes-test.false)) in
    record {
      objects = omega (
        arith,
        length-map c.processes.waiters.items (λ (list : Vec ProcId Global). map process_number list.items),
        length-map c.args.design.now.objects object_of,
        c.processes.invariant.waiters_length,
      );
      listed = built.listed;
    }
