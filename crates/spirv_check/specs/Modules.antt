-- A module as its header and its instructions, and what they are together.
use Rattle.std.specs.Prelude.{ℕ, ◌≡◌, ◌+◌, ◌/◌, ◌%◌, ◌<◌, ◌≤◌, ◌==◌, ◌⊎◌, Bool, if◌then◌else◌, List, [], ◌∷◌, ◌++◌, length, drop, fold, count_by, slice_index, Option, Some, None, is_none, Result, Ok, Err}
use Rattle.std.specs.Option.{option_or}
use Rattle.std.specs.List.{filter_map}
use Rattle.spirv_check.specs.Names.{entry_in}
use Rattle.spirv_check.specs.declared.shape.EntryPoint.{EntryPoint}
use Rattle.spirv_check.specs.declared.shape.Shape.{Shape}
use Rattle.spirv_check.specs.declared.error.SpirvError.{SpirvError}
use Rattle.spirv_check.specs.declared.error.SpirvError.TheVariants.{MemoryModels, Nested, Unopened, Unclosed, BadName, NoEntryPoint}

abbrev pub magic : ℕ
magic = 0x07230203

pub record HasHeader (words : List ℕ) : Type 0 where
  pub long : 5 ≤ length words
  pub first : slice_index words 0 ≡ magic
  pub reserved : slice_index words 4 ≡ 0

-- the words of an instruction, and the place of the first of them in the module
pub record Instruction : Type 0 where
  pub at : ℕ
  pub words : List ℕ

-- the halves of an instruction's first word
abbrev pub count_of : ℕ → ℕ
count_of first = first / 65536

abbrev pub opcode_of : Instruction → ℕ
opcode_of i = slice_index i.words 0 % 65536

-- as many words as the first of them says
pub record IsFramed (words : List ℕ) : Type 0 where
  pub some : 0 < length words
  pub count : count_of (slice_index words 0) ≡ length words

-- the words are these instructions in a row, the first of them at this place, and then the rest
unfoldable pub Splits : ℕ → List ℕ → List Instruction → List ℕ → Type 0
Splits at words [] rest = words ≡ rest
Splits at words (i ∷ is) rest = (after : List ℕ) × (words ≡ i.words ++ after) × IsFramed i.words × (i.at ≡ at) × Splits (at + length i.words) after is rest

-- no instruction stands at the beginning
pub record IsUnframed (words : List ℕ) : Type 0 where
  pub some : 0 < length words
  pub count : (count_of (slice_index words 0) ≡ 0) ⊎ (length words < count_of (slice_index words 0))

-- after framed instructions one isn't, at this place
pub record IsBadLength (words : List ℕ) (at : ℕ) : Type 0 where
  pub header : HasHeader words
  pub instructions : List Instruction
  pub rest : List ℕ
  pub split : Splits 5 (drop 5 words) instructions rest
  pub unframed : IsUnframed rest
  pub place : at + length rest ≡ length words

-- the module is its header and these instructions
pub record IsModule (words : List ℕ) (instructions : List Instruction) : Type 0 where
  pub header : HasHeader words
  pub split : Splits 5 (drop 5 words) instructions []

-- ---- kinds of instructions

abbrev pub is_model : Instruction → Bool
is_model i = opcode_of i == 14

abbrev pub is_entry : Instruction → Bool
is_entry i = opcode_of i == 15

abbrev pub is_begin : Instruction → Bool
is_begin i = opcode_of i == 54

abbrev pub is_end : Instruction → Bool
is_end i = opcode_of i == 56

-- ---- functions: the last beginning or end decides which one is open

unfoldable pub opened_next : Option ℕ → Instruction → Option ℕ
opened_next opened i = if is_begin i then Some i.at else if is_end i then None else opened

-- a function begins at this place where this one is open
abbrev pub begin_fault : Option ℕ → ℕ → Option SpirvError
begin_fault None at = None
begin_fault (Some outer) at = Some (Nested at)

-- a function ends at this place where this one is open
abbrev pub end_fault : Option ℕ → ℕ → Option SpirvError
end_fault None at = Some (Unopened at)
end_fault (Some outer) at = None

unfoldable pub turn_fault : Option ℕ → Instruction → Option SpirvError
turn_fault opened i = if is_begin i then begin_fault opened i.at else if is_end i then end_fault opened i.at else None

-- the first fault of beginnings and ends
unfoldable pub first_turn : Option ℕ → List Instruction → Option SpirvError
first_turn opened [] = None
first_turn opened (i ∷ is) = option_or (turn_fault opened i) (first_turn (opened_next opened i) is)

abbrev pub opened_after : Option ℕ → List Instruction → Option ℕ
opened_after opened instructions = fold opened_next opened instructions

-- ---- entry points

unfoldable pub entry_at : Instruction → Option EntryPoint
entry_at i = if is_entry i then entry_in i.words else None

unfoldable pub bad_name_at : Instruction → Option ℕ
bad_name_at i = if is_entry i then (if is_none (entry_in i.words) then Some i.at else None) else None

unfoldable pub first_bad_name : List Instruction → Option ℕ
first_bad_name [] = None
first_bad_name (i ∷ is) = option_or (bad_name_at i) (first_bad_name is)

-- ---- what all instructions come to

unfoldable pub shape_of : List EntryPoint → Result Shape SpirvError
shape_of [] = Err NoEntryPoint
shape_of (entry ∷ entries) = Ok (record { entries = entry ∷ entries })

unfoldable pub named_of : Option ℕ → List EntryPoint → Result Shape SpirvError
named_of (Some at) entries = Err (BadName at)
named_of None entries = shape_of entries

unfoldable pub closed_of : Option ℕ → Option ℕ → List EntryPoint → Result Shape SpirvError
closed_of (Some at) bad_name entries = Err (Unclosed at)
closed_of None bad_name entries = named_of bad_name entries

unfoldable pub turns_of : Option SpirvError → Option ℕ → Option ℕ → List EntryPoint → Result Shape SpirvError
turns_of (Some fault) opened bad_name entries = Err fault
turns_of None opened bad_name entries = closed_of opened bad_name entries

-- the first fault of a module whose instructions are framed, or its shape
unfoldable pub judged : List Instruction → Result Shape SpirvError
judged is =
    if count_by is_model is == 1
    then turns_of (first_turn None is) (opened_after None is) (first_bad_name is) (filter_map entry_at is)
    else Err (MemoryModels (count_by is_model is))
