-- The parts of loading a worker.
use Rattle.std.specs.Prelude.{ℕ, ◌≡◌, ◌<◌, Bool, if◌then◌else◌, List, Some, slice_get}
use Rattle.replay_core.specs.declared.plan.Dep.{Dep}
use Rattle.replay_core.specs.declared.plan.Dep.TheVariants.{Item, Absent}
use Rattle.slot_log.specs.Works.{Work, load_frame, do_frame}

-- the dependency is one of the first n items
abbrev pub IsItemIn : ℕ → Dep → Type 0
IsItemIn n (Item j) = j < n
IsItemIn n (Absent key) = ⊥

-- item j is among the dependencies
abbrev pub IsAmong : ℕ → List Dep → Type 0
IsAmong j deps = (place : ℕ) × (slice_get deps place ≡ Some (Item j))

-- a Load of the work, or a Do
abbrev pub work_frame : Bool → Work → List ℕ
work_frame load work = if load then load_frame work else do_frame work
