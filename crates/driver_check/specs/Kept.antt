-- The states that a driver has created, by their keys.
use Rattle.std.specs.Prelude.{◌≡◌, if◌then◌else◌, List, Option, Some, None}
use Rattle.std.specs.List.{All}
use Rattle.std.specs.Map.{lookup}
use Rattle.foz_words.specs.declared.key.Key.{Key}
use Rattle.foz_words.specs.Key.{is_key}
use Rattle.state_words.specs.declared.state.State.{State}

-- what was created under each key, with the code 0
abbrev pub KeptStates : Type 0
KeptStates = Key → Option State

abbrev pub nothing_kept : KeptStates
nothing_kept key = None

-- one more, or another one under this key
abbrev pub with_state : KeptStates → Key → State → KeptStates
with_state kept key state = λ q. if is_key key q then Some state else kept q

-- what stands under each key among these
abbrev pub kept_in : List (Key × State) → KeptStates
kept_in created = λ key. lookup (is_key key) created

-- both have the same under these keys
abbrev pub AgreeOn : List Key → KeptStates → KeptStates → Type 0
AgreeOn keys kept other = All (λ key. kept key ≡ other key) keys
