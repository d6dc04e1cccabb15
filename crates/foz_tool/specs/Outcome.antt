-- How a command that replays ends.
use Rattle.std.specs.Prelude.{ℕ}
use Rattle.replay_text.specs.declared.overall.Overall.{Overall}
use Rattle.replay_text.specs.declared.overall.Overall.TheVariants.{Flawless, Flawed, Unanswered}

-- the status of a replay
abbrev pub status_of_overall : Overall → ℕ
status_of_overall Flawless = 0
status_of_overall Flawed = 1
status_of_overall Unanswered = 9
