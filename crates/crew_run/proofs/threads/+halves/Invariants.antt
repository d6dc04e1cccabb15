use Rattle.std.proofs.Common.{length, ◌+◌, ◌-◌, ◌*◌}
use Rattle.crew_run.proofs.threads.+halves.Given as goal

abbrev pub decreases-run_halves-others : goal.decreases-run_halves-others
decreases-run_halves-others g l = 4 * length l.there.now + 1

abbrev pub decreases-run_halves-these : goal.decreases-run_halves-these
decreases-run_halves-these g l = 4 * length l.here.now + 1

abbrev pub decreases-run_each : goal.decreases-run_each
decreases-run_each g l = 4 * length l.slots.now

abbrev pub decreases-run_halves : goal.decreases-run_halves
decreases-run_halves g l = 4 * (length l.here.now + length l.there.now) - 1
