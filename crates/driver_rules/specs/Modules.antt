-- What a shader module answers: the code of its first fault, or its entry points.
use Rattle.std.specs.Prelude.{ℕ, List, [], Result, Ok, Err}
use Rattle.spirv_check.specs.Answered.{answer_of}
use Rattle.spirv_check.specs.declared.shape.EntryPoint.{EntryPoint}
use Rattle.spirv_check.specs.declared.shape.Shape.{Shape}
use Rattle.spirv_check.specs.declared.error.SpirvError.{SpirvError}
use Rattle.spirv_check.specs.declared.error.SpirvError.TheVariants.{Short, BadMagic, BadReserved, BadLength, MemoryModels, Nested, Unopened, Unclosed, BadName, NoEntryPoint, Memory}

abbrev pub fault_code : SpirvError → ℕ
fault_code (Short len) = 15
fault_code (BadMagic found) = 15
fault_code (BadReserved found) = 15
fault_code (BadLength at) = 16
fault_code (MemoryModels count) = 17
fault_code (Nested at) = 18
fault_code (Unopened at) = 18
fault_code (Unclosed at) = 18
fault_code (BadName at) = 19
fault_code NoEntryPoint = 19
fault_code Memory = 0

abbrev pub code_of : Result Shape SpirvError → ℕ
code_of (Ok shape) = 0
code_of (Err fault) = fault_code fault

abbrev pub shape_entries : Result Shape SpirvError → List EntryPoint
shape_entries (Ok shape) = shape.entries
shape_entries (Err fault) = []

-- the code of a module with these words
unfoldable pub module_code : List ℕ → ℕ
module_code words = code_of (answer_of words)

-- the entry points of such a module
unfoldable pub entries_in : List ℕ → List EntryPoint
entries_in words = shape_entries (answer_of words)
