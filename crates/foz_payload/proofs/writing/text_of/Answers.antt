use Rattle.std.proofs.Common.{ap, ◌∙◌}
use Rattle.std.proofs.lemmas.Str.{is_utf8-from_IsUtf8, IsUtf8-string_bytes}
use Rattle.serde_json.specs.View.{view}
use Rattle.serde_json.specs.Written.{compact_text, has_float}
use Rattle.foz_payload.proofs.NoFloats.{payload_has_none}
use Rattle.foz_payload.proofs.writing.text_of.Goals as goal

pub returns-clause-text : goal.returns-clause-text
returns-clause-text c =
    let none = ap has_float c.in_ok-value.ensures ∙ payload_has_none c.args.member.now c.args.hash (view c.args.object) c.requires in
    rw c.into_bytes.ensures.value (c.in_ok-text.ensures.text none ∙ ap compact_text c.in_ok-value.ensures)

pub returns-clause-again : goal.returns-clause-again
returns-clause-again c =
    let none = ap has_float c.in_ok-value.ensures ∙ payload_has_none c.args.member.now c.args.hash (view c.args.object) c.requires in
    let text = c.in_ok-text.ensures.text none in
    rw (← c.in_ok-value.ensures) record {
      utf8 = is_utf8-from_IsUtf8 _ (rw (← text) (IsUtf8-string_bytes c.in_ok-text.text));
      read = λ flat. rw text at (c.in_ok-text.ensures.reads_back flat);
    }
