use Rattle.std.proofs.Common.{◌≡◌, map, take}
use Rattle.std.specs.Prelude.{All}
use Rattle.serde_json.specs.View.{view}
use Rattle.vk_form.specs.Shape.{number}
use Rattle.json_fold.specs.Written.{written, IsInRange}
use Rattle.json_fold.proofs.writer.ObjectWriter.numbers.Given as goal

abbrev pub invariant-loop-n : goal.invariant-loop-n
invariant-loop-n l = record { so_far : map view l.values.items ≡ map (written number) (take l.n-index l.n-items); in_range : All (IsInRange number) (take l.n-index l.n-items) }
