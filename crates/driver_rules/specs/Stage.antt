-- The rules of a stage of a pipeline.
use Rattle.std.specs.Prelude.{ℕ, ◌+◌, ◌==◌, ◌&&◌, nat_le, Bool, true, false, if◌then◌else◌, List, length, Option, Some, None, bytes_eq}
use Rattle.std.specs.Option.{option_map_or}
use Rattle.std.specs.List.{list_all, list_any}
use Rattle.vk_pipe.specs.declared.stage.Stage.{Stage}
use Rattle.vk_pipe.specs.declared.stage.SpecInfo.{SpecInfo}
use Rattle.spirv_check.specs.declared.shape.EntryPoint.{EntryPoint}

-- each constant lies within the data
abbrev pub constants_fit : SpecInfo → Bool
constants_fit info = list_all (λ entry. nat_le (entry.offset + entry.size) (length info.data_bytes)) info.map_entries

abbrev pub has_data : Stage → Bool
has_data s = option_map_or constants_fit s.specialization_info true

-- the execution model of a stage
abbrev pub model_of : ℕ → Option ℕ
model_of stage =
    if stage == 1 then Some 0
    else if stage == 2 then Some 1
    else if stage == 4 then Some 2
    else if stage == 8 then Some 3
    else if stage == 16 then Some 4
    else if stage == 32 then Some 5
    else None

-- an entry point has this model and this name
abbrev pub has_entry : List EntryPoint → ℕ → List ℕ → Bool
has_entry entries model name = list_any (λ entry. (entry.model == model) && bytes_eq entry.name name) entries

-- the entry point that the stage names is among those of its module
abbrev pub starts_in : List EntryPoint → Stage → Bool
starts_in entries s = option_map_or (λ model. has_entry entries model s.name) (model_of s.stage) false
