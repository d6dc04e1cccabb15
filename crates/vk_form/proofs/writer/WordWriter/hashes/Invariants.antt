use Rattle.std.proofs.Common.{take}
use Rattle.std.specs.List.{flat_map}
use Rattle.vk_form.specs.Shape.{hash}
use Rattle.vk_form.specs.Words.{words}
use Rattle.vk_form.specs.Writes.{Writes}
use Rattle.vk_form.proofs.writer.WordWriter.hashes.Given as goal

abbrev pub invariant-loop-h : goal.invariant-loop-h
invariant-loop-h l = Writes l.initial.self (flat_map (words hash) (take l.h-index l.items)) l.self
