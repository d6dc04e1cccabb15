use Rattle.std.proofs.Common.{ℕ, List, [], ◌∷◌, length, ap, ◌∙◌, sym}
use Rattle.std.specs.List.{flat_map}
use Rattle.std.proofs.lemmas.List.{take_all, length-map}
use Rattle.vk_form.specs.Words.{field_words}
use Rattle.vk_form.specs.Ordinary.{AreOrdinary}
use Rattle.vk_form.proofs.Elements.{at_map}
use Rattle.vk_form.proofs.Writing.{then_written, written_as, one_more, fields_written, words_of_each}
use Rattle.vk_form.proofs.writer.WordWriter.structures.Goals as goal

pub put_words-requires : goal.put_words-requires
put_words-requires g c =
    let ordinary = rw (← c.as_slice-items.ensures) at c.requires.1 in
    at_map (AreOrdinary g.S.Structure.fields) g.S.Structure.plain _ ordinary _ _ c.loop-item-test.true c.item-item.is

pub loop-item-preserved : goal.loop-item-preserved
loop-item-preserved g c =
    one_more (λ x. field_words g.S.Structure.fields (g.S.Structure.plain x)) _ _ c.item-item.result c.loop-item.invariant (fields_written g.S.Structure.fields _ _ _ c.put_words.ensures) c.loop-item-test.true c.item-item.is

pub returns : goal.returns
returns g c =
    let w : g.row.S.Denot → List ℕ = λ x. field_words g.S.Structure.fields (g.S.Structure.plain x) in
    let all = ap (flat_map w) (take_all c.loop-item.item-index c.as_slice-items.result.now c.loop-item-test.false ∙ c.as_slice-items.ensures) ∙ words_of_each (field_words g.S.Structure.fields) g.S.Structure.plain c.args.items.now in
    let counted = ap (λ n. n ∷ []) (ap length c.as_slice-items.ensures ∙ sym (length-map c.args.items.now g.S.Structure.plain)) in
    then_written (written_as counted c.word.ensures) (written_as all c.loop-item.invariant)
