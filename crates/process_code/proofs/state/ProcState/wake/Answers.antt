use Rattle.process_code.proofs.state.ProcState.wake.Goals as goal

pub returns-clause-state : goal.returns-clause-state
returns-clause-state c code h = record { rest = h.rest; counts = h.counts; reached = record { counts = h.reached.counts; stops = tt } }

pub returns-clause-room : goal.returns-clause-room
returns-clause-room c code h = h
