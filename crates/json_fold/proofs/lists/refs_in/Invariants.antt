use Rattle.std.proofs.Common.{◌≡◌}
use Rattle.vk_form.specs.Shape.{hash}
use Rattle.json_fold.specs.Reading.{reading}
use Rattle.json_fold.proofs.Loop.{with_front, each_from}
use Rattle.json_fold.proofs.lists.refs_in.Given as goal

abbrev pub invariant-loop-place : goal.invariant-loop-place
invariant-loop-place l = with_front l.row (each_from (reading hash) l.items l.place l.at) ≡ each_from (reading hash) l.items 0 l.at
