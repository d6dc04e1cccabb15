-- What a worker does with the messages that it takes, and what it answers.
use Rattle.std.specs.Prelude.{ℕ, ◌≡◌, ◌≢◌, Bool, true, false, List, [], ◌∷◌, ◌++◌, Option, Some, None, Ok, Err}
use Rattle.foz_words.specs.declared.key.Key.{Key}
use Rattle.state_words.specs.declared.state.State.{State}
use Rattle.foz_payload.specs.Meaning.{Means}
use Rattle.foz_payload.specs.declared.unreadable.Unreadable.{Unreadable}
use Rattle.foz_payload.specs.declared.unreadable.Unreadable.TheVariants.{Memory}
use Rattle.worker_msg.specs.declared.msg.Msg.{Msg}
use Rattle.worker_msg.specs.declared.msg.Msg.TheVariants.{Load, Do, Reply}

-- the answer to a Do after a Load that created nothing, and that to a Do which can't be read
abbrev pub after_failed_load : ℕ
after_failed_load = 200

abbrev pub not_read : ℕ
not_read = 201

-- the payload is no state under this key
pub record IsUnreadable (key : Key) (payload : List ℕ) : Type 0 where
  pub cause : Unreadable
  pub told : cause ≢ Memory
  pub means : Means key payload (Err cause)

-- where a worker stands between two messages; `meaning` is what its driver tells
pub record Standing (M : Type 0) : Type 0 where
  -- a Load created nothing, and no Do came since then
  pub marked : Bool
  pub meaning : M

-- the payload is a state, and the driver is called for it
pub record CallsDriver {M : Type 0} (creates : M → Key → State → ℕ → M → Type 0) (before : M) (key : Key) (payload : List ℕ) (code : ℕ) (after : M) : Type 0 where
  pub state : State
  pub means : Means key payload (Ok state)
  pub called : creates before key state code after

-- what comes of a payload: a code, or none where it is no state
abbrev pub IsCreated : {M : Type 0} (creates : M → Key → State → ℕ → M → Type 0) (before : M) (key : Key) (payload : List ℕ) (answer : Option ℕ) (after : M) → Type 0
IsCreated creates before key payload (Some code) after = CallsDriver creates before key payload code after
IsCreated creates before key payload None after = IsUnreadable key payload × (after ≡ before)

-- one message, what it is answered, and where the worker stands then
pub data Works {M : Type 0} (creates : M → Key → State → ℕ → M → Type 0) : Standing M → Msg → List Msg → Standing M → Type 0 where
  loads : (marked : Bool) (key : Key) (payload : List ℕ) (before after : M) → CallsDriver creates before key payload 0 after
      → Works creates (record { marked = marked; meaning = before }) (Load key payload) [] (record { marked = marked; meaning = after })
  refused_load : (marked : Bool) (key : Key) (payload : List ℕ) (code : ℕ) (before after : M) → code ≢ 0 → CallsDriver creates before key payload code after
      → Works creates (record { marked = marked; meaning = before }) (Load key payload) [] (record { marked = true; meaning = after })
  unreadable_load : (marked : Bool) (key : Key) (payload : List ℕ) (before : M) → IsUnreadable key payload
      → Works creates (record { marked = marked; meaning = before }) (Load key payload) [] (record { marked = true; meaning = before })
  marked_do : (key : Key) (payload : List ℕ) (before : M)
      → Works creates (record { marked = true; meaning = before }) (Do key payload) (Reply key after_failed_load ∷ []) (record { marked = false; meaning = before })
  unreadable_do : (key : Key) (payload : List ℕ) (before : M) → IsUnreadable key payload
      → Works creates (record { marked = false; meaning = before }) (Do key payload) (Reply key not_read ∷ []) (record { marked = false; meaning = before })
  does : (key : Key) (payload : List ℕ) (code : ℕ) (before after : M) → CallsDriver creates before key payload code after
      → Works creates (record { marked = false; meaning = before }) (Do key payload) (Reply key code ∷ []) (record { marked = false; meaning = after })

-- the messages one after the other, from a worker without a mark
pub data WorksAll {M : Type 0} (creates : M → Key → State → ℕ → M → Type 0) (before : M) : List Msg → List Msg → Standing M → Type 0 where
  starts : WorksAll creates before [] [] (record { marked = false; meaning = before })
  goes_on : (messages replies more : List Msg) (message : Msg) (between after : Standing M) → WorksAll creates before messages replies between → Works creates between message more after
      → WorksAll creates before (messages ++ message ∷ []) (replies ++ more) after
