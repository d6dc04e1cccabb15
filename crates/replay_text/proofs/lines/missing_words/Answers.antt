use Rattle.std.proofs.Common.{append_assoc}
use Rattle.replay_text.proofs.lines.missing_words.Goals as goal

pub returns-in_ok-format-in-Some : goal.returns-in_ok-format-in-Some
returns-in_ok-format-in-Some c = rw (c.in_ok-format-in-Some.ensures.ok, c.in-Some.is) (simp append_assoc)
