use Rattle.std.proofs.Common.{◌≡◌, map}
use Rattle.vk_form.specs.Shape.{struct}
use Rattle.json_fold.specs.Reading.{reading}
use Rattle.json_fold.proofs.Loop.{with_front, each_from}
use Rattle.json_fold.proofs.lists.structures_in.Given as goal

abbrev pub invariant-loop-place : goal.invariant-loop-place
invariant-loop-place g l = with_front (map g.S.Structure.plain l.row) (each_from (reading (struct g.S.Structure.fields)) l.items l.place l.at) ≡ each_from (reading (struct g.S.Structure.fields)) l.items 0 l.at
