-- What statuses say of the end that a worker's bytes come to.
use Rattle.std.proofs.Common.{◌≡◌, ℕ, ◌≤◌, List, ap, ◌∙◌, arith}
use Rattle.worker_node.specs.Ends.{IsEnd, IsToEnd}
use Rattle.worker_node.specs.declared.served.Served.{Served}
use Rattle.worker_node.specs.declared.served.Served.TheVariants.{Quit, InputEnded, ReadFault, WriteFault, BadFrame, Memory}
use Rattle.foz_tool.specs.WorkerRun.{status_of_served}

-- bytes come to one end
abbrev pub OneEnd : Type 0
OneEnd = (stream left : List ℕ) (end other : Served) → IsEnd stream left end → IsEnd stream left other → end ≡ other

-- a status of at most 1 has an end that the bytes come to
small_to_end : (outcome : Served) (status : ℕ) → status ≡ status_of_served outcome → status ≤ 1 → IsToEnd outcome
small_to_end Quit status is le = tt
small_to_end (InputEnded size) status is le = tt
small_to_end (BadFrame at) status is le = tt
small_to_end ReadFault status is le = absurd (omega (arith, is, le))
small_to_end WriteFault status is le = absurd (omega (arith, is, le))
small_to_end Memory status is le = absurd (omega (arith, is, le))

-- and it is the status of whatever end they come to
pub exactly : OneEnd → (stream left : List ℕ) (outcome end : Served) (status : ℕ) → (IsToEnd outcome → IsEnd stream left outcome) → status ≡ status_of_served outcome → status ≤ 1 → IsEnd stream left end
    → status ≡ status_of_served end
exactly one_end stream left outcome end status comes is le ends = is ∙ ap (λ (e : Served). status_of_served e) (one_end stream left outcome end (comes (small_to_end outcome status is le)) ends)
