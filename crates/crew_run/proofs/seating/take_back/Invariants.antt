use Rattle.std.proofs.Common.{◌≡◌, ◌++◌, List, length}
use Rattle.replay_board.specs.declared.asker.Asker.{Asker}
use Rattle.replay_board.specs.Seats.{setup_seen, desk_view, IsRootSeat}
use Rattle.replay_crew.specs.declared.kit.Kit.{Kit}
use Rattle.crew_run.specs.Roots.{HasAllKits}
use Rattle.crew_run.proofs.seating.take_back.Given as goal

abbrev pub invariant-loop-kit : goal.invariant-loop-kit
invariant-loop-kit l = record {
  is_root : IsRootSeat l.board l.root;
  knows : setup_seen l.root ≡ setup_seen l.fn.root;
  done : List (Kit Asker);
  cut : l.fn.kits.items ≡ done ++ l.kits.items;
  out : (desk_view l.root).out ≡ length l.kits.items;
  back : HasAllKits l.root done;
}

abbrev pub decreases-loop-kit : goal.decreases-loop-kit
decreases-loop-kit l = length l.kits.items
