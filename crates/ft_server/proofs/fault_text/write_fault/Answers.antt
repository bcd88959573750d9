use Rattle.ft_server.proofs.fault_text.write_fault.Goals as goal

pub returns-in-MultiLength-clause-sent : goal.returns-in-MultiLength-clause-sent
returns-in-MultiLength-clause-sent g c = rw c.in-MultiLength.is c.write_all.ensures.bytes

pub returns-in-BulkLength-clause-sent : goal.returns-in-BulkLength-clause-sent
returns-in-BulkLength-clause-sent g c = rw c.in-BulkLength.is c.write_all-in-BulkLength.ensures.bytes
