use Rattle.std.proofs.Common.{ℕ, List, ◌++◌, length, ap, ◌∙◌}
use Rattle.std.specs.Prelude.{codes, decimal, count_by, is_none}
use Rattle.replay_core.specs.Counting.{is_success, is_refused, is_blamed, is_missing}
use Rattle.replay_text.specs.Counted.{verdict_counts}
use Rattle.replay_text.proofs.Rows.{eleven_in_a_row}
use Rattle.replay_text.proofs.counts.push_verdict_counts.Goals as goal

pub returns-clause-line : goal.returns-clause-line
unfolding verdict_counts
returns-clause-line c =
    let verdicts = c.args.verdicts.now in
    c.in_ok-extend_from_slice.ensures.items
    ∙ rw (
      c.as_bytes.ensures.value,
      c.in_ok-text.ensures.ok,
      c.done_among-done.ensures,
      c.refused_among-refused.ensures,
      c.blamed_among-blamed.ensures,
      c.missing_among-missing.ensures,
      c.unanswered_among-unanswered.ensures,
    ) (ap (λ (l : List ℕ). c.args.out.now.items ++ (codes "items " ++ (l ++ codes "\n"))) (
    eleven_in_a_row
    (decimal (length verdicts))
    (codes " done ")
    (decimal (count_by is_success verdicts))
    (codes " refused ")
    (decimal (count_by is_refused verdicts))
    (codes " blamed ")
    (decimal (count_by is_blamed verdicts))
    (codes " missing ")
    (decimal (count_by is_missing verdicts))
    (codes " unanswered ")
    (decimal (count_by is_none verdicts))
    ))
