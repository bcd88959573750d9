use Rattle.system_ports.proofs.sleep_pace.SleepPace.rest.Given as goal

abbrev pub decreases-loop-left : goal.decreases-loop-left
decreases-loop-left g l = l.left
