-- The one answer of a module, computed from its words.
use Rattle.std.specs.Prelude.{ℕ, zero, suc, ◌+◌, ◌-◌, ◌==◌, ◌&&◌, nat_le, nat_lt, Bool, if◌then◌else◌, List, [], ◌∷◌, length, take, drop, slice_index, Result, Err}
use Rattle.spirv_check.specs.Modules.{magic, count_of, Instruction, judged}
use Rattle.spirv_check.specs.declared.shape.Shape.{Shape}
use Rattle.spirv_check.specs.declared.error.SpirvError.{SpirvError}
use Rattle.spirv_check.specs.declared.error.SpirvError.TheVariants.{Short, BadMagic, BadReserved, BadLength}

-- how many words the first instruction says that it has
abbrev pub first_count : List ℕ → ℕ
first_count words = count_of (slice_index words 0)

-- it has as many
abbrev pub begins_framed : List ℕ → Bool
begins_framed words = nat_lt 0 (first_count words) && nat_le (first_count words) (length words)

-- the framed instructions that the words begin with, at most so many, the first of them at this place
unfoldable pub instructions_in : ℕ → ℕ → List ℕ → List Instruction
instructions_in zero at words = []
instructions_in (suc most) at words =
    if begins_framed words
    then record { at = at; words = take (first_count words) words } ∷ instructions_in most (at + first_count words) (drop (first_count words) words)
    else []

-- the words after them
unfoldable pub words_after : ℕ → List ℕ → List ℕ
words_after zero words = words
words_after (suc most) words = if begins_framed words then words_after most (drop (first_count words) words) else words

-- the answer of a module with a header, by the words after its framed instructions
unfoldable pub body_answer : List ℕ → List ℕ → Result Shape SpirvError
body_answer words [] = judged (instructions_in (length words) 5 (drop 5 words))
body_answer words (w ∷ ws) = Err (BadLength (length words - length (w ∷ ws)))

-- the answer of a module: the one that fits these words, but for running out of memory
unfoldable pub answer_of : List ℕ → Result Shape SpirvError
answer_of words =
    if nat_lt (length words) 5 then Err (Short (length words))
    else if slice_index words 0 == magic
    then (if slice_index words 4 == 0 then body_answer words (words_after (length words) (drop 5 words)) else Err (BadReserved (slice_index words 4)))
    else Err (BadMagic (slice_index words 0))
