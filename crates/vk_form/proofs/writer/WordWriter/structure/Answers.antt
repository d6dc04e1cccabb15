use Rattle.vk_form.proofs.Writing.{fields_written}
use Rattle.vk_form.proofs.writer.WordWriter.structure.Goals as goal

pub returns : goal.returns
returns g c = fields_written g.S.Structure.fields (g.S.Structure.plain c.args.item.now) _ _ c.put_words.ensures
