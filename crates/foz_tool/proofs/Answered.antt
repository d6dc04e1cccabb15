-- The status of a replay that leaves no item unanswered.
use Rattle.std.proofs.Common.{◌≡◌, ◌≢◌, ℕ, refl}
use Rattle.replay_text.specs.declared.overall.Overall.{Overall}
use Rattle.replay_text.specs.declared.overall.Overall.TheVariants.{Flawless, Flawed, Unanswered}
use Rattle.foz_tool.specs.CheckRun.{IsStatusOf}
use Rattle.foz_tool.specs.Outcome.{status_of_overall}

pub answered_status : (went : Overall) (status : ℕ) → went ≢ Unanswered → status ≡ status_of_overall went → IsStatusOf went status
answered_status Flawless status answered is = is
answered_status Flawed status answered is = is
answered_status Unanswered status answered is = answered refl
