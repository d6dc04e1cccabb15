use Rattle.std.proofs.Common.{◌≡◌, map, take}
use Rattle.std.specs.Prelude.{All}
use Rattle.serde_json.specs.View.{view}
use Rattle.vk_form.specs.Shape.{struct}
use Rattle.json_fold.specs.Written.{written, AreInRange}
use Rattle.json_fold.proofs.writer.ObjectWriter.structures.Given as goal

abbrev pub invariant-loop-item : goal.invariant-loop-item
invariant-loop-item g l = record { so_far : map view l.values.items ≡ map (written (struct g.S.Structure.fields)) (map g.S.Structure.plain (take l.item-index l.item-items)); in_range : All (AreInRange g.S.Structure.fields) (map g.S.Structure.plain (take l.item-index l.item-items)) }
