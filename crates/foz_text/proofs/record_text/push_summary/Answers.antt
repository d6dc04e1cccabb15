use Rattle.std.proofs.Common.{◌∙◌, append_assoc}
use Rattle.foz_text.proofs.record_text.push_summary.Goals as goal

pub returns-clause-line : goal.returns-clause-line
returns-clause-line g c =
    c.in_ok-extend_from_slice.ensures.items
    ∙ rw (c.as_bytes.ensures.value, c.in_ok-text.ensures.ok, c.new_among-new.ensures, c.known_among-known.ensures, c.refused_among-refused.ensures) (simp append_assoc)
