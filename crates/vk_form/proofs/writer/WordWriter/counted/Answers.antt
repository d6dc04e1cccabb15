use Rattle.std.proofs.Common.{◌≡◌, take, ap, ◌∙◌}
use Rattle.std.specs.List.{flat_map}
use Rattle.std.proofs.lemmas.List.{take_all}
use Rattle.vk_form.specs.Shape.{number}
use Rattle.vk_form.specs.Words.{words}
use Rattle.vk_form.proofs.Writing.{then_written, written_as, numbers_are_words}
use Rattle.vk_form.proofs.writer.WordWriter.counted.Goals as goal

pub returns : goal.returns
returns c =
    let all : take c.loop-byte.byte-index c.args.content.now ≡ c.args.content.now = take_all _ _ c.loop-byte-test.false in
    then_written c.word.ensures (written_as (ap (flat_map (words number)) all ∙ numbers_are_words c.args.content.now) c.loop-byte.invariant)
