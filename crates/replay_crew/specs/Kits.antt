-- What contracts say of a kit.
use Rattle.std.specs.Prelude.{Bool, List}
use Rattle.replay_crew.specs.declared.kit.Kit.{Kit}

module _ {T : Type 0} where
  abbrev pub seat_in : Kit T → T
  seat_in kit = kit.seat

  abbrev pub marks_in : Kit T → List Bool
  marks_in kit = kit.loader
