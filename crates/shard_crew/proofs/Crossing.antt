-- What workers look at in a round may be looked at by several threads.
use denote.RattleType.{RattleType}
use denote.Param.Send.{IsSend, IsSync, view_sync, sendable}
use denote.Param.SendFields.{declared_sync, variants_sync}
use denote.Ref.{NamedLft}
use Rattle.std.specs.contracts.option.Option.{the_row as OptionOf}
use Rattle.four_value.proofs.operator.BinaryOperator.TheSendSync as binary_operator_crosses
use Rattle.four_value.proofs.operator.UnaryOperator.TheSendSync as unary_operator_crosses
use Rattle.four_value.proofs.value.Vec4.TheSendSync as vec4_crosses
use Rattle.std.proofs.Crossing as std
use Rattle.v_design.proofs.tree.FlatExpr.TheLaws.TheKnot as expressions
use Rattle.v_design.proofs.tree.FlatStmt.TheLaws.TheKnot as statements
use Rattle.v_design.proofs.tree.MemoryRef.TheSendSync as memory_ref_crosses
use Rattle.v_design.proofs.tree.VectorRef.TheSendSync as vector_ref_crosses
use Rattle.v_design.proofs.tree.WaitEntry.TheSendSync as wait_entry_crosses
use Rattle.v_design.proofs.plan.Plan.TheSendSync as plan_crosses
use Rattle.process_code.proofs.code.Ways.TheSendSync as ways_crosses
use Rattle.fault_shards.proofs.shards.Shards.TheSendSync as shards_crosses
use Rattle.verdict_words.proofs.board.Board.TheSendSync as board_crosses
use Rattle.run_trace.proofs.window.RunWindow.TheSendSync as window_crosses
use Rattle.shard_findings.proofs.shard_turns.backups.Backups.TheSendSync as backups_crosses
use Rattle.v_design.specs.declared.world.World.{Ghosts}
use Rattle.v_design.specs.contracts.tree.FlatStmt as statement
use Rattle.v_design.specs.contracts.plan.Design as design
use Rattle.v_design.specs.contracts.plan.Node as node
use Rattle.v_design.specs.contracts.plan.Process as process
use Rattle.net_graph.specs.contracts.graph.Graph as graph
use Rattle.process_code.specs.contracts.code.Head as head
use Rattle.process_code.specs.contracts.code.Spot as spot
use Rattle.process_code.specs.contracts.code.Code as code
use Rattle.good_trace.specs.contracts.setup.Setup as setup
use Rattle.good_trace.specs.contracts.setup.Setup.TheInside as inside
use Rattle.shard_findings.specs.shard_turns.contracts.round.Round as round

nodes : IsSync node.the_row
nodes = search (
  binary_operator_crosses.the_field_sync,
  unary_operator_crosses.the_field_sync,
  vec4_crosses.the_sync,
  memory_ref_crosses.the_field_sync,
  vector_ref_crosses.the_field_sync,
  std.crosses,
  expressions.crosses,
  statements.crosses,
  sendable,
) depth 60 fits 20000

processes : IsSync process.the_row
processes = search (
  binary_operator_crosses.the_field_sync,
  unary_operator_crosses.the_field_sync,
  vec4_crosses.the_sync,
  memory_ref_crosses.the_field_sync,
  vector_ref_crosses.the_field_sync,
  std.crosses,
  expressions.crosses,
  statements.crosses,
  sendable,
) depth 60 fits 20000

design_sync : IsSync design.the_row
design_sync = search (nodes, processes, vec4_crosses.the_sync, std.crosses, expressions.crosses, statements.crosses, sendable) depth 60 fits 20000

graph_sync : (a : NamedLft) → IsSync (graph.the_row a)
graph_sync a = search (design_sync, std.crosses, sendable) depth 60 fits 20000

statement_sync : IsSync statement.the_row
statement_sync = search (
  binary_operator_crosses.the_field_sync,
  unary_operator_crosses.the_field_sync,
  vec4_crosses.the_sync,
  memory_ref_crosses.the_field_sync,
  vector_ref_crosses.the_field_sync,
  wait_entry_crosses.the_sync,
  std.crosses,
  expressions.crosses,
  statements.crosses,
  sendable,
) depth 60 fits 20000

head_sync : (a : NamedLft) → IsSync (head.the_row a)
head_sync a = variants_sync (head.enum a) (
  (search (statement_sync, sendable), tt),
  ((search (statement_sync, sendable), tt), ((search (statement_sync, sendable), tt), ((search (statement_sync, sendable), (search sendable, tt)), tt))),
)

spot_sync : (a : NamedLft) → IsSync (spot.the_row a)
spot_sync a = declared_sync (spot.the_type a) (head_sync a, (search sendable, tt))

code_sync : (a : NamedLft) → IsSync (code.the_row a)
code_sync a = search (processes, spot_sync, ways_crosses.the_sync, wait_entry_crosses.the_sync, std.crosses, sendable) depth 60 fits 20000

setup_sync : (d : NamedLft) (N : RattleType) (world : Ghosts N.Denot) → IsSync N → IsSync (setup.the_row d N world)
setup_sync d N world n = view_sync _ _ _ _ _ (declared_sync (inside.the_type d N world) (
  search (design_sync, sendable),
  (search (graph_sync, sendable), (search (plan_crosses.the_sync, sendable), (search (code_sync, std.crosses, sendable), (search sendable, tt)))),
))

-- what may be there or not
pub option_send : (R : RattleType) → IsSend R → IsSend (OptionOf R)
option_send R s = search sendable depth 12

-- what workers look at in a round
pub round_sync : (r d : NamedLft) (N G : RattleType) (world : Ghosts N.Denot) → IsSync N → IsSync G → IsSync (round.the_row r d N G world)
round_sync r d N G world n gate = declared_sync (round.the_type r d N G world) (
  search (setup_sync d N world n, sendable),
  (
    search (shards_crosses.the_sync, sendable),
    (search (board_crosses.the_sync N world, sendable), (search (gate, sendable), (search (window_crosses.the_sync N world, sendable), (search (backups_crosses.the_sync N world, n, sendable), tt)))),
  ),
)
