-- The command `worker`.
use Rattle.std.specs.Prelude.{◌≡◌, ℕ, List, ◌++◌}
use Rattle.disk_model.specs.Faults.{Rose}
use Rattle.foz_words.specs.declared.key.Key.{Key}
use Rattle.state_words.specs.declared.state.State.{State}
use Rattle.worker_node.specs.Ends.{IsEnd, IsToEnd}
use Rattle.worker_node.specs.Steps.{IsServedBehind}
use Rattle.worker_node.specs.declared.served.Served.{Served}
use Rattle.worker_node.specs.declared.served.Served.TheVariants.{Quit, InputEnded, ReadFault, WriteFault, BadFrame, Memory}
use Rattle.foz_base.specs.declared.stop.Stop.TheVariants as stop
use Rattle.foz_base.specs.Status.{status_of_stop}
use Rattle.foz_base.specs.Outside.{Outside, Tells}

-- 0 where all was well, 1 where a bad frame came, else the status of why it stopped
abbrev pub status_of_served : Served → ℕ
status_of_served Quit = 0
status_of_served (InputEnded left) = 0
status_of_served (BadFrame at) = 1
status_of_served ReadFault = status_of_stop stop.ReadFault
status_of_served WriteFault = status_of_stop stop.WriteFault
status_of_served Memory = status_of_stop stop.Memory

-- what the cause of an end by a fault is: that the input failed, and that the output did
abbrev pub HasFault : (input output : Type 0) → Served → Type 0
HasFault input output ReadFault = input
HasFault input output WriteFault = output
HasFault input output end = Unit {0}

-- it served so, and answered the status of that
pub record IsSession {M : Type 0} (creates : M → Key → State → ℕ → M → Type 0) (before after : Outside M) (status : ℕ) : Type 0 where
  pub outcome : Served
  -- the bytes that were taken from the input
  pub taken : List ℕ
  pub parts : before.input ≡ taken ++ after.input
  pub session : IsServedBehind creates before.driver before.written taken after.written after.driver outcome
  pub comes : IsToEnd outcome → IsEnd taken after.input outcome
  pub fault : HasFault (Rose before.input_faults after.input_faults) (Rose before.output_faults after.output_faults) outcome
  pub answered : status ≡ status_of_served outcome

-- the status tells what the bytes come to that were taken from the input, where no call failed and memory sufficed
pub record EndsAs (before after : List ℕ) (status : ℕ) : Type 0 where
  pub outcome : Served
  pub comes : IsToEnd outcome → (taken : List ℕ) × (before ≡ taken ++ after) × IsEnd taken after outcome
  pub answered : status ≡ status_of_served outcome

-- `worker` ended with this status
pub record Serves {M : Type 0} (creates : M → Key → State → ℕ → M → Type 0) (tells : Tells) (before after : Outside M) (status : ℕ) : Type 0 where
  pub session : tells.input → tells.output → IsSession creates before after status
  pub ends : tells.input → EndsAs before.input after.input status
