-- What the driver answers to an item's state.
use Rattle.std.proofs.Common.{◌≡◌, ℕ, List, Some, Result, Ok, Err}
use Rattle.std.specs.Prelude.{slice_get, IfOk}
use Rattle.foz_words.specs.declared.key.Key.{Key}
use Rattle.foz_words.specs.declared.memory.NoMemory.{NoMemory}
use Rattle.foz_entry.specs.declared.cut.Entry.{Entry}
use Rattle.state_words.specs.declared.state.State.{State}
use Rattle.dep_graph.specs.declared.class.Class.{Class}
use Rattle.dep_graph.specs.Classes.{HoldsState}
use Rattle.dep_graph.specs.Items.{item_entries}
use Rattle.check_run.specs.Checks.{IsAnswered}

module _ {M : Type 0} (creates : M → Key → State → ℕ → M → Type 0) (before after : M) where
  pub is_answered : (entries : List Entry) (classes : List Class) (item : ℕ) (entry : Entry) (state : State) (answer : Result ℕ NoMemory) → slice_get (item_entries entries classes) item ≡ Some entry → HoldsState entry state
      → IfOk answer (λ code. creates before entry.head.key state code after) → IfOk answer (λ code. IsAnswered creates before entries classes item code after)
  is_answered entries classes item entry state (Ok code) stands means called = record { entry = entry; state = state; stands = stands; means = means; called = called }
  is_answered entries classes item entry state (Err cause) stands means called = tt
