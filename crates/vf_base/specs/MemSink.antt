-- What the fields of a sink in memory stand for (nothing of the language).
use Rattle.vf_base.specs.Sink.{MemorySink}
use Rattle.vf_base.specs.declared.sink.MemSink.TheInside.{Inside}

-- the sink as plain data
abbrev pub memory_sink : Inside → MemorySink
memory_sink s = record { bytes = s.bytes.items; most = s.most; faults = s.faults; puts = s.puts }
