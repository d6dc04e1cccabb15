-- What the walk over the instructions has seen so far.
use Rattle.std.specs.Prelude.{ℕ, ◌≡◌, ◌+◌, ◌==◌, ◌⊎◌, if◌then◌else◌, List, [], ◌∷◌, ◌++◌, count_by, None, Result, Err}
use Rattle.std.specs.Option.{option_or}
use Rattle.std.specs.List.{filter_map}
use Rattle.spirv_check.specs.Modules.{Instruction, IsModule, IsBadLength, is_model, turn_fault, first_turn, opened_next, opened_after, bad_name_at, first_bad_name, entry_at, turns_of}
use Rattle.spirv_check.specs.declared.seen.Seen.{Seen}
use Rattle.spirv_check.specs.declared.shape.Shape.{Shape}
use Rattle.spirv_check.specs.declared.error.SpirvError.{SpirvError}
use Rattle.spirv_check.specs.declared.error.SpirvError.TheVariants.{BadLength, MemoryModels, Memory}

-- what these instructions are together
unfoldable pub seen_in : List Instruction → Seen
seen_in is = record { models = count_by is_model is; turn = first_turn None is; opened = opened_after None is; bad_name = first_bad_name is; entries = filter_map entry_at is }

-- and with one more
unfoldable pub seen_next : Seen → Instruction → Seen
seen_next seen i = record {
  models = if is_model i then seen.models + 1 else seen.models;
  turn = option_or seen.turn (turn_fault seen.opened i);
  opened = opened_next seen.opened i;
  bad_name = option_or seen.bad_name (bad_name_at i);
  entries = seen.entries ++ filter_map entry_at (i ∷ []);
}

-- what that comes to
unfoldable pub judged_of : Seen → Result Shape SpirvError
judged_of seen = if seen.models == 1 then turns_of seen.turn seen.opened seen.bad_name seen.entries else Err (MemoryModels seen.models)

-- all instructions were seen
pub record IsWalked (words : List ℕ) (seen : Seen) : Type 0 where
  pub instructions : List Instruction
  pub whole : IsModule words instructions
  pub is : seen ≡ seen_in instructions

-- why not
abbrev pub IsUnwalked : List ℕ → SpirvError → Type 0
IsUnwalked words fault = (fault ≡ Memory) ⊎ ((at : ℕ) × (fault ≡ BadLength at) × IsBadLength words at)
