use Rattle.std.proofs.Common.{take}
use Rattle.std.specs.List.{flat_map}
use Rattle.vk_form.specs.Shape.{number}
use Rattle.vk_form.specs.Words.{words}
use Rattle.vk_form.specs.Writes.{Writes}
use Rattle.vk_form.proofs.writer.WordWriter.numbers.Given as goal

abbrev pub invariant-loop-n : goal.invariant-loop-n
invariant-loop-n l = Writes l.initial.self (flat_map (words number) (take l.n-index l.items)) l.self
