-- What checking a module answers.
use Rattle.std.specs.Prelude.{ℕ, ◌≡◌, ◌≢◌, ◌<◌, ◌≤◌, List, length, slice_index, Result, Err}
use Rattle.spirv_check.specs.Modules.{magic, IsBadLength, Instruction, IsModule, judged}
use Rattle.spirv_check.specs.declared.shape.Shape.{Shape}
use Rattle.spirv_check.specs.declared.error.SpirvError.{SpirvError}
use Rattle.spirv_check.specs.declared.error.SpirvError.TheVariants.{Short, BadMagic, BadReserved, BadLength, MemoryModels, Nested, Unopened, Unclosed, BadName, NoEntryPoint, Memory}

-- the instructions are framed, and this is what comes of them
pub record IsJudged (words : List ℕ) (answer : Result Shape SpirvError) : Type 0 where
  pub instructions : List Instruction
  pub whole : IsModule words instructions
  pub is : answer ≡ judged instructions

pub record IsShort (words : List ℕ) (len : ℕ) : Type 0 where
  pub short : length words < 5
  pub size : len ≡ length words

pub record HasBadMagic (words : List ℕ) (found : ℕ) : Type 0 where
  pub long : 5 ≤ length words
  pub first : found ≡ slice_index words 0
  pub other : found ≢ magic

pub record HasBadReserved (words : List ℕ) (found : ℕ) : Type 0 where
  pub long : 5 ≤ length words
  pub first : slice_index words 0 ≡ magic
  pub reserved : found ≡ slice_index words 4
  pub other : found ≢ 0

-- what the answer comes from
pub data Answers (words : List ℕ) (answer : Result Shape SpirvError) : Type 0 where
  short : (len : ℕ) → IsShort words len → answer ≡ Err (Short len) → Answers words answer
  bad_magic : (found : ℕ) → HasBadMagic words found → answer ≡ Err (BadMagic found) → Answers words answer
  bad_reserved : (found : ℕ) → HasBadReserved words found → answer ≡ Err (BadReserved found) → Answers words answer
  bad_length : (at : ℕ) → IsBadLength words at → answer ≡ Err (BadLength at) → Answers words answer
  framed : IsJudged words answer → Answers words answer
  no_memory : answer ≡ Err Memory → Answers words answer

-- a fault of the header
abbrev pub IsBadHeader : List ℕ → SpirvError → Type 0
IsBadHeader words (Short len) = IsShort words len
IsBadHeader words (BadMagic found) = HasBadMagic words found
IsBadHeader words (BadReserved found) = HasBadReserved words found
IsBadHeader words (BadLength at) = ⊥
IsBadHeader words (MemoryModels count) = ⊥
IsBadHeader words (Nested at) = ⊥
IsBadHeader words (Unopened at) = ⊥
IsBadHeader words (Unclosed at) = ⊥
IsBadHeader words (BadName at) = ⊥
IsBadHeader words NoEntryPoint = ⊥
IsBadHeader words Memory = ⊥
