use Rattle.std.specs.Option.{option_map}
use Rattle.std.proofs.Common.{ap, sym}
use Rattle.vk_form.specs.Words.{field_words, flagged}
use Rattle.vk_form.proofs.Writing.{fields_written, then_written, written_as}
use Rattle.vk_form.proofs.writer.WordWriter.optional.Goals as goal

pub returns-in-Some : goal.returns-in-Some
returns-in-Some g c =
    let behind = fields_written g.S.Structure.fields (g.S.Structure.plain c.in-Some.item) _ _ c.put_words.ensures in
    written_as (ap (λ o. flagged (field_words g.S.Structure.fields) (option_map g.S.Structure.plain o)) (sym c.in-Some.is)) (then_written c.word-in-Some.ensures behind)
