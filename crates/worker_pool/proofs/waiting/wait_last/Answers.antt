use Rattle.worker_pool.proofs.waiting.wait_last.Goals as goal

pub returns-in-Some-clause-done : goal.returns-in-Some-clause-done
returns-in-Some-clause-done g c = rw c.in-Some.is (c.wait.result, c.push_reserved.ensures.items, c.wait.ensures.done)
