use Rattle.std.proofs.Common.{take}
use Rattle.std.specs.List.{flat_map}
use Rattle.vk_form.specs.Words.{field_words}
use Rattle.vk_form.specs.Writes.{Writes}
use Rattle.vk_form.proofs.writer.WordWriter.structures.Given as goal

abbrev pub invariant-loop-item : goal.invariant-loop-item
invariant-loop-item g l = Writes l.initial.self (flat_map (λ x. field_words g.S.Structure.fields (g.S.Structure.plain x)) (take l.item-index l.items)) l.self
