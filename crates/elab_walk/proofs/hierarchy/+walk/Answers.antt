use Rattle.std.proofs.Common.{◌≡◌, ◌<◌, ◌+◌, ℕ, true, false, None, ◌-◌, List, [], ◌∷◌, ◌++◌, Some, Ok, length, map, flat_map, drop, refl, sym, ap, subst, ◌∙◌, arith}
use Rattle.std.proofs.lemmas.List.{length-map}
use Rattle.std.proofs.lemmas.Result.{err_from_is_err_and}
use Rattle.vf_base.specs.Base.{source_place}
use Rattle.v_tree.specs.Trees.{SourceModule, SourceConnection, SourceInstance, ParameterItem}
use Rattle.v_tree.specs.Views.{module_of, parameters_of, item_of, connection_of, instance_of}
use Rattle.v_tree.specs.declared.item.Instance.{Instance}
use Rattle.v_tree.specs.declared.item.Connection.{Connection}
use Rattle.v_tree.specs.declared.item.Params.{Params}
use Rattle.v_tree.specs.declared.item.Item.{Item}
use Rattle.v_names.specs.Faults.{Fault, first_fault}
use Rattle.v_names.specs.Scopes.{Scope}
use Rattle.v_names.specs.Names.{GivenParameter, names, scope_of}
use Rattle.v_elab.specs.Parts.{Part, InstancePart}
use Rattle.v_elab.specs.Connections as plain
use Rattle.v_elab.specs.ReadCounts.{some_reads_over, connections_reads}
use Rattle.v_elab.specs.Connections.{open_parameters, given_faults, given_parameters, instance_faults, connections_parts}
use Rattle.v_elab.specs.Refusals.{then_go}
use Rattle.v_elab.specs.Walk.{Here, Walker, walked, walked_module, walked_item, walked_items, walked_instance, walked_instances, walked_instance_item, not_port_faults, head_items, module_named, child_of}
use Rattle.v_elab.specs.Walk.{paths_of, entered, added}
use Rattle.module_scope.specs.Givens.{given_parameter}
use Rattle.module_scope.specs.declared.given.Given.{Given}
use Rattle.instance_checks.specs.Offered.{AreFormals}
use Rattle.elab_parts.specs.PartViews.{part_of}
use Rattle.elab_items.specs.Heres.{IsHere}
use Rattle.elab_connections.specs.PathViews.{ArePaths}
use Rattle.elab_connections.specs.NodeCounts.{CountsNodes}
use Rattle.elab_connections.specs.WidePorts.{connects_wide_port}
use Rattle.elab_connections.specs.OutputRuns.{ConnectionsTakeRuns}
use Rattle.flat_laws.specs.Hierarchy.Visited.{instance-depth}
use Rattle.elab_walk.specs.WalkFaults.{IsWalkFault}
use Rattle.elab_walk.specs.Leaves.{parts_in, Grows}
use Rattle.name_checks.specs.Rows.{drop-past}
use Rattle.elab_walk.proofs.Turns.{fault-of, fault-goes, goes-end, goes-first, goes-turn, goes-wrong, turn-of, then-clean, clean-of, wrong-of, grows-counted, leaves-last, leaves-same, leaves-memory}
use Rattle.elab_walk.proofs.WideLaws.{wide-leaves, never-wide, instance-clean, faults-none}
use Rattle.elab_walk.proofs.ReadLaws.{instance-few, instance-over, reads-wrong}
use Rattle.elab_walk.proofs.Steps.{enter-is, enter-wrong, heads-split, item-plain, item-known, pushed-instance, behind_parameters}
use Rattle.elab_walk.proofs.Within.{holds-of, module-within}
use Rattle.elab_walk.proofs.RunLaws.{instance-runs}
use Rattle.elab_walk.specs.Within.{IsWithin, AreWithin}
use Rattle.elab_walk.proofs.hierarchy.+walk.Goals as goal

pub enter-returns-in_err-scope : goal.enter-returns-in_err-scope
enter-returns-in_err-scope t c all e modules is before counted =
    let p = err_from_is_err_and c.from_residual.result c.from_residual.ensures.1 in
    let some : 0 < c.args.levels = omega arith in
    rw (p.1, p.2)
    (enter-wrong all c.args.mode c.args.levels e (module_of c.args.entrance.module.now) (map given_parameter c.args.entrance.given.now) c.in_err-scope.field-0.0 before some is.inner_is is.given_are
    c.in_err-scope.ensures)

pub enter-returns : goal.enter-returns
enter-returns t c all e modules is before counted =
    let some : 0 < c.args.levels = omega arith in
    let h : Here = record { modules = all; mode = c.args.mode; instance = e; scope = c.in_ok-scope.scope } in
    let m : SourceModule = module_of c.args.entrance.module.now in
    let given : List GivenParameter = map given_parameter c.args.entrance.given.now in
    let named : names e.inner e.given ≡ Ok c.in_ok-scope.scope = rw (← is.inner_is, ← is.given_are) c.in_ok-scope.ensures in
    let here : IsHere h c.in_ok-here.here = c.in_ok-here.ensures.here h refl (sym is.path_is) (sym is.depth_is) (sym c.in_ok-new.ensures.ok) (sym is.joins_are) (sym is.inner_is) named in
    let formals : AreFormals m c.args.entrance.formals.now = subst (λ (inner : SourceModule). AreFormals inner c.args.entrance.formals.now) (sym is.inner_is) is.formals_are in
    leaves-same before _ _ _ _ _
    (ap (λ (inner : SourceModule). walked_module (walked all c.args.mode (c.args.levels - 1)) h inner before) is.inner_is
    ∙ sym (enter-is all c.args.mode c.args.levels e m given c.in_ok-scope.scope before some is.inner_is is.given_are c.in_ok-scope.ensures))
    (c.walk_module.ensures h (record { modules_are = modules; here_is = here }) formals before counted)

pub walk_instance-returns-in_err-refuse_reads : goal.walk_instance-returns-in_err-refuse_reads
walk_instance-returns-in_err-refuse_reads t c h m given is inner faultless before counted =
    let p = err_from_is_err_and c.from_residual-in_err-refuse_reads.result c.from_residual-in_err-refuse_reads.ensures.1 in
    let walker : Walker = walked h.modules h.mode c.args.levels in
    let i : SourceInstance = instance_of c.args.instance.now in
    let reads : c.in_ok-connection_reads_over.field-0 ≡ some_reads_over h.scope (connections_reads (child_of h m given) 0 i.connections) =
    c.in_ok-connection_reads_over.ensures (child_of h m given) inner.child_is ∙ ap (λ (cs : List Connection).
    some_reads_over h.scope (connections_reads (child_of h m given) 0 (map connection_of cs))) c.as_slice-connections.ensures in
    rw (p.1, p.2)
    (reads-wrong (walked_instance walker h m given i before) c.in_ok-connection_reads_over.field-0 _ c.in_err-refuse_reads.ensures (λ e. instance-over walker h m given i before (sym reads ∙ e)))

pub walk_instance-returns : goal.walk_instance-returns
walk_instance-returns t c h m given is inner faultless before counted =
    let walker : Walker = walked h.modules h.mode c.args.levels in
    let i : SourceInstance = instance_of c.args.instance.now in
    let paths : ArePaths (paths_of h i) c.in_ok-paths.paths = c.in_ok-paths.ensures h is.here_is.path_is in
    let runs : ConnectionsTakeRuns (child_of h m given) 0 (map connection_of c.as_slice-connections.result.now) =
    subst (λ (cs : List Connection). ConnectionsTakeRuns (child_of h m given) 0 (map connection_of cs)) (sym c.as_slice-connections.ensures)
    (instance-runs (child_of h m given) (h.instance.depth + 1) i faultless) in
    let more : List Part = InstancePart ∷ connections_parts (child_of h m given) (paths_of h i) 0 i.connections in
    let pushed : parts_in (record c.args.walked.now { parts = c.push_connection_parts.new.parts }) ≡ parts_in c.args.walked.now ++ more =
    pushed-instance c.args.walked.now.parts.items c.push.new.self.items (parts_in (record c.args.walked.now { parts = c.push_connection_parts.new.parts }))
    (connections_parts (child_of h m given) (paths_of h i) 0 i.connections) c.in_ok-push.ensures.items
    (c.in_ok-push_connection_parts.ensures (child_of h m given) inner.child_is (sym (c.connects_wide_port.ensures (child_of h m given) inner.child_is) ∙ c.if-connects_wide_port.false)
    runs (paths_of h i) paths
    ∙ ap (λ (cs : List Connection). parts_in (record c.args.walked.now { parts = c.push.new.self }) ++ connections_parts (child_of h m given) (paths_of h i) 0 (map connection_of cs))
    c.as_slice-connections.ensures) in
    let at : c.len-start.result ≡ length (parts_in c.args.walked.now) = omega (arith, length-map c.args.walked.now.parts.items part_of) in
    let few : some_reads_over h.scope (connections_reads (child_of h m given) 0 i.connections) ≡ false =
    ap (λ (cs : List Connection). some_reads_over h.scope (connections_reads (child_of h m given) 0 (map connection_of cs))) (sym c.as_slice-connections.ensures)
    ∙ sym (c.in_ok-connection_reads_over.ensures (child_of h m given) inner.child_is) ∙ c.in_ok-refuse_reads.ensures in
    leaves-last before _ (walker (entered h m given i)) c.args.walked.now c.count_from.new.self c.walk_inside-2.new.walked c.walk_inside-2.result
    (λ all k. c.walk_inside-2.ensures h m given is inner paths all k)
    (goes-turn before _ (walked_instance walker h m given i) (walker (entered h m given i)) (λ all. added all more) c.args.walked.now c.args.walked.now c.count_from.new.self
    (λ all. instance-few walker h m given i all few)
    (λ all k. grows-counted all more c.args.walked.now (record c.args.walked.now { parts = c.push_connection_parts.new.parts }) c.count_from.new.self pushed
    (c.in_ok-count_from.ensures all (parts_in c.args.walked.now) more k pushed at))
    (goes-first before (walked_instance walker h m given i) c.args.walked.now counted))

pub walk_instance-returns-in_err-count_from : goal.walk_instance-returns-in_err-count_from
walk_instance-returns-in_err-count_from t c h m given is inner faultless before counted =
    let p = err_from_is_err_and c.from_residual-in_err-count_from.result c.from_residual-in_err-count_from.ensures.1 in
    let walker : Walker = walked h.modules h.mode c.args.levels in
    let i : SourceInstance = instance_of c.args.instance.now in
    let paths : ArePaths (paths_of h i) c.in_ok-paths.paths = c.in_ok-paths.ensures h is.here_is.path_is in
    let runs : ConnectionsTakeRuns (child_of h m given) 0 (map connection_of c.as_slice-connections.result.now) =
    subst (λ (cs : List Connection). ConnectionsTakeRuns (child_of h m given) 0 (map connection_of cs)) (sym c.as_slice-connections.ensures)
    (instance-runs (child_of h m given) (h.instance.depth + 1) i faultless) in
    let more : List Part = InstancePart ∷ connections_parts (child_of h m given) (paths_of h i) 0 i.connections in
    let pushed : parts_in (record c.args.walked.now { parts = c.push_connection_parts.new.parts }) ≡ parts_in c.args.walked.now ++ more =
    pushed-instance c.args.walked.now.parts.items c.push.new.self.items (parts_in (record c.args.walked.now { parts = c.push_connection_parts.new.parts }))
    (connections_parts (child_of h m given) (paths_of h i) 0 i.connections) c.in_ok-push.ensures.items
    (c.in_ok-push_connection_parts.ensures (child_of h m given) inner.child_is (sym (c.connects_wide_port.ensures (child_of h m given) inner.child_is) ∙ c.if-connects_wide_port.false)
    runs (paths_of h i) paths
    ∙ ap (λ (cs : List Connection). parts_in (record c.args.walked.now { parts = c.push.new.self }) ++ connections_parts (child_of h m given) (paths_of h i) 0 (map connection_of cs))
    c.as_slice-connections.ensures) in
    let at : c.len-start.result ≡ length (parts_in c.args.walked.now) = omega (arith, length-map c.args.walked.now.parts.items part_of) in
    let few : some_reads_over h.scope (connections_reads (child_of h m given) 0 i.connections) ≡ false =
    ap (λ (cs : List Connection). some_reads_over h.scope (connections_reads (child_of h m given) 0 (map connection_of cs))) (sym c.as_slice-connections.ensures)
    ∙ sym (c.in_ok-connection_reads_over.ensures (child_of h m given) inner.child_is) ∙ c.in_ok-refuse_reads.ensures in
    rw (p.1, p.2)
    (fault-of (then_go (added before more) (walker (entered h m given i))) (walked_instance walker h m given i before) _ (sym (instance-few walker h m given i before few))
    (fault-goes (added before more) (walker (entered h m given i)) _ (c.in_err-count_from.ensures before (parts_in c.args.walked.now) more counted pushed at)))

pub walk_instance-returns-then-connects_wide_port : goal.walk_instance-returns-then-connects_wide_port
walk_instance-returns-then-connects_wide_port t c h m given is inner faultless before counted =
    let walker : Walker = walked h.modules h.mode c.args.levels in
    let i : SourceInstance = instance_of c.args.instance.now in
    let child : plain.Child = child_of h m given in
    let paths : ArePaths (paths_of h i) c.in_ok-paths.paths = c.in_ok-paths.ensures h is.here_is.path_is in
    let more : List Part = InstancePart ∷ connections_parts child (paths_of h i) 0 i.connections in
    let few : some_reads_over h.scope (connections_reads child 0 i.connections) ≡ false =
    ap (λ (cs : List Connection). some_reads_over h.scope (connections_reads child 0 (map connection_of cs))) (sym c.as_slice-connections.ensures)
    ∙ sym (c.in_ok-connection_reads_over.ensures child inner.child_is) ∙ c.in_ok-refuse_reads.ensures in
    let nodes : CountsNodes (connections_parts child (paths_of h i) 0 i.connections) c.in_ok-connection_nodes.field-0 =
    subst (λ (cs : List Connection). CountsNodes (connections_parts child (paths_of h i) 0 (map connection_of cs)) c.in_ok-connection_nodes.field-0) c.as_slice-connections.ensures
    (c.in_ok-connection_nodes.ensures child inner.child_is (paths_of h i)) in
    let within = c.in_ok-count_instance.ensures before (connections_parts child (paths_of h i) 0 i.connections) counted nodes in
    let wide : connects_wide_port child 0 i.connections ≡ true =
    ap (λ (cs : List Connection). connects_wide_port child 0 (map connection_of cs)) (sym c.as_slice-connections.ensures)
    ∙ sym (c.connects_wide_port.ensures child inner.child_is) ∙ c.if-connects_wide_port.true in
    let low = instance-depth child (h.instance.depth + 1) i faultless in
    let depth = is.here_is.depth_is in
    let some : 0 < c.args.levels = omega (arith, low, depth, c.requires) in
    wide-leaves before _ (walker (entered h m given i)) more c.args.walked.now c.count_instance.new.self c.walk_inside.new.walked c.walk_inside.result
    (instance-few walker h m given i before few) within.few
    (never-wide h.modules h.mode c.args.levels h m given i (before ++ more) wide some) (c.walk_inside.ensures h m given is inner paths (before ++ more) within.counted)

pub walk_instance_item-returns-in_err-given : goal.walk_instance_item-returns-in_err-given
walk_instance_item-returns-in_err-given t c h is before place counted =
    let p = err_from_is_err_and c.from_residual-in_err-given.result c.from_residual-in_err-given.ensures.1 in
    leaves-memory before _ c.args.walked.now c.args.walked.now c.from_residual-in_err-given.result p.0 p.1 p.2

pub walk_instance_item-returns-in_err-scope : goal.walk_instance_item-returns-in_err-scope
walk_instance_item-returns-in_err-scope t c h is before place counted =
    let p = err_from_is_err_and c.from_residual-in_err-scope.result c.from_residual-in_err-scope.ensures.1 in
    leaves-memory before _ c.args.walked.now c.args.walked.now c.from_residual-in_err-scope.result p.0 p.1 p.2

pub walk_instance_item-returns-in_err-instance_fault : goal.walk_instance_item-returns-in_err-instance_fault
walk_instance_item-returns-in_err-instance_fault t c h is before place counted =
    let p = err_from_is_err_and c.from_residual-in_err-instance_fault.result c.from_residual-in_err-instance_fault.ensures.1 in
    leaves-memory before _ c.args.walked.now c.args.walked.now c.from_residual-in_err-instance_fault.result p.0 p.1 p.2

pub walk_instance_item-returns-in_err-refuse : goal.walk_instance_item-returns-in_err-refuse
walk_instance_item-returns-in_err-refuse t c h is before place counted =
    let p = err_from_is_err_and c.from_residual-in_err-refuse.result c.from_residual-in_err-refuse.ensures.1 in
    let m : SourceModule = module_of c.args.module.now in
    let parameters : List SourceConnection = map connection_of c.args.parameters.now in
    let instances : List SourceInstance = map instance_of c.args.instances.now in
    let given : List GivenParameter = given_parameters h.scope (open_parameters m) 0 parameters in
    let given-is : map given_parameter c.in_ok-given.given.items ≡ given =
    c.in_ok-given.ensures m c.in_ok-formals.ensures ∙ ap (λ (s : Scope). given_parameters s (open_parameters m) 0 parameters) (c.deref.ensures ∙ is.here_is.scope_is) in
    let scope-is : c.in_ok-scope.scope ≡ scope_of m given = c.in_ok-scope.ensures ∙ ap (λ (gs : List Given). scope_of m (map given_parameter gs)) c.deref-2.ensures.value ∙ ap (scope_of m) given-is in
    let child : plain.Child = child_of h m given in
    rw (p.1, p.2)
    (wrong-of _ (λ (depth : ℕ). given_faults h.scope (open_parameters m) 0 [] parameters ++ flat_map (instance_faults child depth) instances) (c.from-depth.result + 1) (h.instance.depth + 1) given
    (λ gs. walked_instances (walked h.modules h.mode c.args.levels) h m gs instances before) _ (ap (λ (n : ℕ). n + 1) (c.from-depth.ensures ∙ is.here_is.depth_is))
    (c.in_ok-instance_fault.ensures child (record { formals_are = c.in_ok-formals.ensures; inner_is = scope-is; outer_is = c.deref-3.ensures ∙ is.here_is.scope_is })) c.in_err-refuse.ensures)

pub walk_instance_item-returns : goal.walk_instance_item-returns
walk_instance_item-returns t c h is before place counted =
    let m : SourceModule = module_of c.args.module.now in
    let parameters : List SourceConnection = map connection_of c.args.parameters.now in
    let instances : List SourceInstance = map instance_of c.args.instances.now in
    let given : List GivenParameter = given_parameters h.scope (open_parameters m) 0 parameters in
    let given-is : map given_parameter c.in_ok-given.given.items ≡ given =
    c.in_ok-given.ensures m c.in_ok-formals.ensures ∙ ap (λ (s : Scope). given_parameters s (open_parameters m) 0 parameters) (c.deref.ensures ∙ is.here_is.scope_is) in
    let scope-is : c.in_ok-scope.scope ≡ scope_of m given = c.in_ok-scope.ensures ∙ ap (λ (gs : List Given). scope_of m (map given_parameter gs)) c.deref-2.ensures.value ∙ ap (scope_of m) given-is in
    let child : plain.Child = child_of h m given in
    let faults : ℕ → List Fault = λ depth. given_faults h.scope (open_parameters m) 0 [] parameters ++ flat_map (instance_faults child depth) instances in
    let clean : first_fault (faults (h.instance.depth + 1)) ≡ None = clean-of _ faults (c.from-depth.result + 1) (h.instance.depth + 1) (ap (λ (n : ℕ). n + 1)
    (c.from-depth.ensures ∙ is.here_is.depth_is))
    (c.in_ok-instance_fault.ensures child (record { formals_are = c.in_ok-formals.ensures; inner_is = scope-is; outer_is = c.deref-3.ensures ∙ is.here_is.scope_is })) c.in_ok-refuse.ensures in
    leaves-same before _ _ _ _ _
    (sym (then-clean (faults (h.instance.depth + 1)) given (λ gs. walked_instances (walked h.modules h.mode c.args.levels) h m gs instances before) clean))
    (c.walk_instances.ensures h m given is (record {
      inner_is = refl;
      given_are = ap (map given_parameter) c.deref-4.ensures.value ∙ given-is;
      child_is = record { formals_are = c.in_ok-formals.ensures; inner_is = scope-is; outer_is = c.deref-3.ensures ∙ is.here_is.scope_is };
    }) (faults-none (given_faults h.scope (open_parameters m) 0 [] parameters) (flat_map (instance_faults child (h.instance.depth + 1)) instances) clean) before counted)

pub walk_instances-returns-in_err-walk_instance : goal.walk_instances-returns-in_err-walk_instance
walk_instances-returns-in_err-walk_instance t c h m given is inner faultless before counted =
    let p = err_from_is_err_and c.from_residual.result c.from_residual.ensures.1 in
    let walker : Walker = walked h.modules h.mode c.args.levels in
    rw (p.1, p.2)
    (goes-wrong before _ (walked_instances walker h m given (map instance_of (drop c.instances.instance-index c.args.instances.now)))
    (walked_instances walker h m given (map instance_of (drop (c.instances.instance-index + 1) c.args.instances.now)))
    (walked_instance walker h m given (instance_of c.instance-item.result)) _ _ _
    (turn-of (λ (i : Instance). walked_instance walker h m given (instance_of i)) (λ (is : List Instance). walked_instances walker h m given (map instance_of is))
    (λ (is : List Instance). walked_instances walker h m given (map instance_of is))
    c.args.instances.now c.instances.instance-index c.instance-item.result (λ ys all. refl) c.instances-test.true c.instance-item.is)
    (c.in_err-walk_instance.ensures h m given is inner
    (instance-clean (child_of h m given) (h.instance.depth + 1) c.args.instances.now c.instances.instance-index c.instance-item.result faultless c.instances-test.true c.instance-item.is)) (c.instances.invariant h m given is inner faultless before counted))

pub walk_instances-returns : goal.walk_instances-returns
walk_instances-returns t c h m given is inner faultless before counted =
    let walker : Walker = walked h.modules h.mode c.args.levels in
    goes-end before _ (walked_instances walker h m given (map instance_of (drop c.instances.instance-index c.args.instances.now))) c.args.walked.now c.instances.walked
    (λ all. ap (λ (is : List Instance). walked_instances walker h m given (map instance_of is) all) (drop-past c.args.instances.now c.instances.instance-index c.instances-test.false))
    (c.instances.invariant h m given is inner faultless before counted)

pub walk_instances-instances-preserved : goal.walk_instances-instances-preserved
walk_instances-instances-preserved t c h m given is inner faultless before counted =
    let walker : Walker = walked h.modules h.mode c.args.levels in
    goes-turn before _ (walked_instances walker h m given (map instance_of (drop c.instances.instance-index c.args.instances.now)))
    (walked_instances walker h m given (map instance_of (drop (c.instances.instance-index + 1) c.args.instances.now)))
    (walked_instance walker h m given (instance_of c.instance-item.result)) _ _ _
    (turn-of (λ (i : Instance). walked_instance walker h m given (instance_of i)) (λ (is : List Instance). walked_instances walker h m given (map instance_of is))
    (λ (is : List Instance). walked_instances walker h m given (map instance_of is))
    c.args.instances.now c.instances.instance-index c.instance-item.result (λ ys all. refl) c.instances-test.true c.instance-item.is)
    (c.in_ok-walk_instance.ensures h m given is inner
    (instance-clean (child_of h m given) (h.instance.depth + 1) c.args.instances.now c.instances.instance-index c.instance-item.result faultless c.instances-test.true c.instance-item.is)) (c.instances.invariant h m given is inner faultless before counted)

pub walk_item-returns-in-Some : goal.walk_item-returns-in-Some
walk_item-returns-in-Some t c h is before counted =
    let walker : Walker = walked h.modules h.mode c.args.levels in
    leaves-same before _ _ _ _ _
    (ap (λ (ps : List Connection). walked_instance_item walker h (Some (module_of c.in-Some.module.now)) (source_place c.in-Instance.place) (map connection_of ps)
    (map instance_of c.as_slice-instances.result.now) before) c.as_slice-parameters.ensures
    ∙ ap (λ (is : List Instance). walked_instance_item walker h (Some (module_of c.in-Some.module.now)) (source_place c.in-Instance.place) (map connection_of c.in-Instance.parameters)
    (map instance_of is) before) c.as_slice-instances.ensures
    ∙ item-known walker h c.args.gates c.args.item.now c.in-Instance.place c.in-Instance.module_name c.in-Instance.parameters c.in-Instance.instances before c.named.result c.in-Some.module
    c.in-Instance.is
    (c.named.ensures h.modules is.modules_are ∙ ap (module_named h.modules) c.as_bytes.ensures) c.in-Some.is)
    (c.walk_instance_item.ensures h is before (source_place c.in-Instance.place) counted)

pub walk_item-returns-in_default : goal.walk_item-returns-in_default
walk_item-returns-in_default t c h is before counted =
    leaves-same before _ _ _ _ _ (item-plain (walked h.modules h.mode c.args.levels) h c.args.gates c.args.item.now before c.in_default.not-Instance) (c.walk_plain_item.ensures h is before counted)

pub walk_module-returns-in_err-walk_param_groups : goal.walk_module-returns-in_err-walk_param_groups
walk_module-returns-in_err-walk_param_groups t c h is formals before counted =
    let p = err_from_is_err_and c.from_residual.result c.from_residual.ensures.1 in
    let m : SourceModule = module_of c.args.module.now in
    let walker : Walker = walked h.modules h.mode c.args.levels in
    rw (p.1, p.2)
    (goes-wrong before _ (walked_module walker h m) (behind_parameters walker h m) (walked_items walker h 0 (map ParameterItem m.parameters)) c.args.walked.now c.args.walked.now _ (λ all. refl)
    (λ all k. subst (λ (ps : List Params). IsWalkFault (walked_items walker h 0 (map ParameterItem (map parameters_of ps)) all) c.in_err-walk_param_groups.field-0.0) c.as_slice.ensures
    (c.in_err-walk_param_groups.ensures h walker is all k))
    (goes-first before (walked_module walker h m) c.args.walked.now counted))

pub walk_module-returns-in_err-walk_heads : goal.walk_module-returns-in_err-walk_heads
walk_module-returns-in_err-walk_heads t c h is formals before counted =
    let p = err_from_is_err_and c.from_residual-in_err-walk_heads.result c.from_residual-in_err-walk_heads.ensures.1 in
    let m : SourceModule = module_of c.args.module.now in
    let walker : Walker = walked h.modules h.mode c.args.levels in
    rw (p.1, p.2)
    (goes-wrong before _ (behind_parameters walker h m) (walked_items walker h 0 m.items) (walked_items walker h 0 (head_items m.heads)) c.args.walked.now c.walk_param_groups.new.walked _
    (λ all. then-clean (not_port_faults m m.heads) all (walked_items walker h 0 (head_items m.heads ++ m.items))
    (clean-of _ (λ (n : ℕ). not_port_faults m m.heads) 0 0 refl (c.not_port_fault.ensures m formals) c.in_ok-refuse.ensures) ∙ heads-split walker h m.heads m.items all)
    (c.in_err-walk_heads.ensures h walker is)
    (goes-turn before _ (walked_module walker h m) (behind_parameters walker h m) (walked_items walker h 0 (map ParameterItem m.parameters)) c.args.walked.now c.args.walked.now
    c.walk_param_groups.new.walked (λ all. refl)
    (λ all k. subst (λ (ps : List Params). Grows all (walked_items walker h 0 (map ParameterItem (map parameters_of ps)) all) c.args.walked.now c.walk_param_groups.new.walked) c.as_slice.ensures
    (c.in_ok-walk_param_groups.ensures h walker is all k))
    (goes-first before (walked_module walker h m) c.args.walked.now counted)))

pub walk_module-returns : goal.walk_module-returns
walk_module-returns t c h is formals before counted =
    let m : SourceModule = module_of c.args.module.now in
    let walker : Walker = walked h.modules h.mode c.args.levels in
    leaves-last before _ (walked_items walker h 0 m.items) c.args.walked.now c.walk_heads.new.walked c.walk_items.new.walked c.walk_items.result
    (λ all k. leaves-same all _ _ _ _ _ (ap (λ (is : List Item). walked_items walker h 0 (map item_of is) all) c.as_slice-2.ensures) (c.walk_items.ensures h is all k))
    (goes-turn before _ (behind_parameters walker h m) (walked_items walker h 0 m.items) (walked_items walker h 0 (head_items m.heads)) c.args.walked.now c.walk_param_groups.new.walked
    c.walk_heads.new.walked
    (λ all. then-clean (not_port_faults m m.heads) all (walked_items walker h 0 (head_items m.heads ++ m.items))
    (clean-of _ (λ (n : ℕ). not_port_faults m m.heads) 0 0 refl (c.not_port_fault.ensures m formals) c.in_ok-refuse.ensures) ∙ heads-split walker h m.heads m.items all)
    (c.in_ok-walk_heads.ensures h walker is)
    (goes-turn before _ (walked_module walker h m) (behind_parameters walker h m) (walked_items walker h 0 (map ParameterItem m.parameters)) c.args.walked.now c.args.walked.now
    c.walk_param_groups.new.walked (λ all. refl)
    (λ all k. subst (λ (ps : List Params). Grows all (walked_items walker h 0 (map ParameterItem (map parameters_of ps)) all) c.args.walked.now c.walk_param_groups.new.walked) c.as_slice.ensures
    (c.in_ok-walk_param_groups.ensures h walker is all k))
    (goes-first before (walked_module walker h m) c.args.walked.now counted)))

pub walk_items-walk_item-requires : goal.walk_items-walk_item-requires
walk_items-walk_item-requires t c =
    let few = c.items.invariant.few in
    let within = holds-of (IsWithin c.args.site.here.now.scope.value) item_of c.args.items.now c.items.item-index c.item-item.result c.requires.within c.items-test.true c.item-item.is in
    (omega (arith, c.decreases), (c.requires.levels, (omega (arith, few), within)))

pub walk_items-items-preserved : goal.walk_items-items-preserved
walk_items-items-preserved t c =
    let few = c.items.invariant.few in
    record {
      few = omega (arith, few);
      goes = λ h is before counted.
          let walker : Walker = walked h.modules h.mode c.args.levels in
          goes-turn before _ (walked_items walker h c.items.gates (map item_of (drop c.items.item-index c.args.items.now)))
          (walked_items walker h (c.items.gates + c.gates_in.result) (map item_of (drop (c.items.item-index + 1) c.args.items.now)))
          (walked_item walker h c.items.gates (item_of c.item-item.result)) _ _ _
          (turn-of (λ (i : Item). walked_item walker h c.items.gates (item_of i)) (λ (is : List Item). walked_items walker h c.items.gates (map item_of is))
          (λ (is : List Item). walked_items walker h (c.items.gates + c.gates_in.result) (map item_of is))
          c.args.items.now c.items.item-index c.item-item.result
          (λ ys all. ap (λ n. then_go (walked_item walker h c.items.gates (item_of c.item-item.result) all) (walked_items walker h (c.items.gates + n) (map item_of ys))) (sym c.gates_in.ensures))
          c.items-test.true c.item-item.is)
          (c.in_ok-walk_item.ensures h is) (c.items.invariant.goes h is before counted);
    }

pub walk_module-walk_heads-requires : goal.walk_module-walk_heads-requires
walk_module-walk_heads-requires t c = (module-within (module_of c.args.module.now) c.args.site.here.now.scope.value c.requires.scope).0

pub walk_module-walk_items-requires : goal.walk_module-walk_items-requires
walk_module-walk_items-requires t c =
    let scope : Scope = c.args.site.here.now.scope.value in
    let within = subst (λ (is : List Item). AreWithin scope (map item_of is)) (sym c.as_slice-2.ensures) (module-within (module_of c.args.module.now) scope c.requires.scope).1 in
    (omega (arith, c.decreases), (c.requires.levels, within))

pub enter-walk_module-requires : goal.enter-walk_module-requires
enter-walk_module-requires t c =
    let m : SourceModule = module_of c.args.entrance.module.now in
    let given : List GivenParameter = map given_parameter c.args.entrance.given.now in
    let named = subst (λ (s : Scope). names m given ≡ Ok s) (sym (c.in_ok-here.ensures.scope ∙ c.in_ok-new.ensures.ok)) c.in_ok-scope.ensures in
    let deep = c.in_ok-here.ensures.depth in
    let levels = c.requires in
    let some : 0 < c.args.levels = omega arith in
    (omega (arith, some, c.decreases), (omega (arith, some, deep, levels), (given, named)))
