use Rattle.std.proofs.Common.{◌≡◌, map, take}
use Rattle.std.specs.Prelude.{All}
use Rattle.serde_json.specs.View.{view}
use Rattle.vk_form.specs.Shape.{hash}
use Rattle.json_fold.specs.Written.{written, IsInRange}
use Rattle.json_fold.proofs.writer.ObjectWriter.hashes.Given as goal

abbrev pub invariant-loop-h : goal.invariant-loop-h
invariant-loop-h l = record { so_far : map view l.values.items ≡ map (written hash) (take l.h-index l.h-items); in_range : All (IsInRange hash) (take l.h-index l.h-items) }
