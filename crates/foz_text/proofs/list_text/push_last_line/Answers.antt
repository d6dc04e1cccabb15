use Rattle.std.proofs.Common.{◌∙◌, append_assoc}
use Rattle.foz_text.proofs.list_text.push_last_line.Goals as goal

pub returns-clause-line : goal.returns-clause-line
returns-clause-line c = c.in_ok-extend_from_slice.ensures.items ∙ rw (c.as_bytes.ensures.value, c.in_ok-text.ensures.ok, c.rest_word-word.ensures, c.len-count.ensures) (simp append_assoc)
