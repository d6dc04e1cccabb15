use Rattle.std.proofs.Common.{◌<◌, ◌^◌, ap, subst, ◌∙◌}
use Rattle.std.specs.Prelude.{All}
use Rattle.serde_json.specs.Written.{has_float}
use Rattle.spirv_varint.specs.Varint.{spelling}
use Rattle.vk_form.specs.Shape.{struct}
use Rattle.json_fold.proofs.Floats.{written_has_no_float}
use Rattle.foz_payload.specs.Tables as table
use Rattle.foz_payload.specs.Payload.{module_object}
use Rattle.foz_payload.proofs.Written.{module_written, module_means}
use Rattle.foz_payload.proofs.writing.module_payload.Goals as goal

pub text_of-requires : goal.text_of-requires
unfolding module_object
text_of-requires c = ap has_float c.in_ok-object.ensures.object ∙ written_has_no_float (struct table.module_head) _

pub returns-clause-written : goal.returns-clause-written
returns-clause-written c =
    module_written c.args.shader.now _ _ _ _ _ c.requires.hash c.in_ok-object.ensures.object (c.from_vec-bytes.ensures ∙ c.in_ok-text_of.ensures.text) c.in_ok-put_varints.ensures (c.as_slice-2.ensures ∙ c.in_ok-varints.ensures.spelled ∙ ap spelling c.as_slice.ensures)

pub returns-clause-read_back : goal.returns-clause-read_back
returns-clause-read_back c =
    module_means c.args.shader.now _ _ _ _ _ c.requires.hash c.in_ok-object.ensures.object (c.from_vec-bytes.ensures ∙ c.in_ok-text_of.ensures.text) c.in_ok-put_varints.ensures (c.as_slice-2.ensures ∙ c.in_ok-varints.ensures.spelled ∙ ap spelling c.as_slice.ensures)
    (subst (All (λ word. word < 2 ^ 32)) c.as_slice.ensures c.in_ok-varints.ensures.in_range) c.in_ok-object.ensures.flags c.in_ok-text_of.ensures.again
