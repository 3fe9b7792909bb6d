-- What the fields of a shelf in memory stand for (nothing of the language).
use Rattle.vf_base.specs.Shelf.{MemoryShelf, plain_files}
use Rattle.vf_base.specs.declared.shelf.MemShelf.TheInside.{Inside}

-- the shelf as plain data
abbrev pub memory_shelf : Inside → MemoryShelf
memory_shelf s = record { files = plain_files s.files.items; failing = s.failing.items; reads = s.reads; faults = s.faults; long_answers = s.long_answers }
