use Rattle.std.proofs.Common.{◌≡◌, List, ℕ, sym, ap, ◌∙◌, subst}
use Rattle.std.specs.Str.{IsUtf8}
use Rattle.serde_json.specs.Read.{read}
use Rattle.serde_json.specs.View.{view}
use Rattle.serde_json.specs.Written.{compact_text}
use Rattle.float_fold.proofs.Folds.{folded_stays}
use Rattle.float_fold.proofs.CompactText.{compact_text-plain}
use Rattle.state_json.specs.Parsed.{parsed, of_folded, or_json}
use Rattle.state_json.proofs.InText.{read_in_text}
use Rattle.capture_lines.proofs.writing.text_of.Goals as goal

pub returns-clause-read_again : goal.returns-clause-read_again
unfolding parsed
returns-clause-read_again c =
    let value = view c.args.value.now in
    let is = c.in_ok-text.ensures.text c.requires.no_float in
    let utf8 : IsUtf8 (compact_text value) = rw (← is) (rw (← c.as_str-text.ensures.value) c.as_str-text.utf8) in
    let back = rw is at (c.in_ok-text.ensures.reads_back c.requires.flat) in
    ap of_folded (folded_stays (compact_text value) (compact_text-plain value c.requires.no_float)) ∙ ap or_json (read_in_text (compact_text value) value utf8 back)
