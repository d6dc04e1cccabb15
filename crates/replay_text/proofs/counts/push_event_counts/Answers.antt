use Rattle.std.proofs.Common.{◌∙◌, append_assoc}
use Rattle.replay_text.specs.Counted.{event_counts}
use Rattle.replay_text.proofs.counts.push_event_counts.Goals as goal

pub returns-clause-line : goal.returns-clause-line
unfolding event_counts
returns-clause-line c =
    c.in_ok-extend_from_slice.ensures.items
    ∙ rw (c.as_bytes.ensures.value, c.in_ok-text.ensures.ok, c.deaths_among-deaths.ensures, c.restarts_among-restarts.ensures, c.retired_among-retired.ensures) (simp append_assoc)
