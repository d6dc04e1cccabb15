-- A log that is kept as stamps and bytes.
use Rattle.std.specs.Prelude.{ℕ, ◌≡◌, ◌+◌, ◌-◌, ◌<◌, ◌≤◌, Bool, true, List, [], ◌∷◌, ◌++◌, length, take, drop, replicate}
use Rattle.mem_slot.specs.declared.tape.Stamp.{Stamp}
use Rattle.mem_slot.specs.declared.tape.Stamp.TheVariants.{Started, NotStarted, Sent, Got, Died, Stopped}
use Rattle.slot_log.specs.declared.note.SlotNote.{SlotNote}
use Rattle.slot_log.specs.declared.note.SlotNote.TheVariants as notes

-- what contracts see of a tape
pub record Taped : Type 0 where
  pub log : List SlotNote
  pub running : Bool
  -- for how many notes more there is room, and for how many bytes
  pub notes_left : ℕ
  pub bytes_left : ℕ

-- how many bytes belong to a stamp
abbrev pub size_of : Stamp → ℕ
size_of Started = 0
size_of NotStarted = 0
size_of (Sent n) = n
size_of (Got n) = n
size_of Died = 0
size_of Stopped = 0

abbrev pub total : List Stamp → ℕ
total [] = 0
total (s ∷ ss) = size_of s + total ss

-- the note of a stamp and its bytes
abbrev pub note_of : Stamp → List ℕ → SlotNote
note_of Started bytes = notes.Started
note_of NotStarted bytes = notes.NotStarted
note_of (Sent n) bytes = notes.Sent bytes
note_of (Got n) bytes = notes.Got bytes
note_of Died bytes = notes.Died
note_of Stopped bytes = notes.Stopped

abbrev pub notes_of : List Stamp → List ℕ → List SlotNote
notes_of [] bytes = []
notes_of (s ∷ ss) bytes = note_of s (take (size_of s) bytes) ∷ notes_of ss (drop (size_of s) bytes)

-- the notes, and then the starts that failed when there was no room for a note
abbrev pub log_with : List SlotNote → ℕ → List SlotNote
log_with told late = told ++ replicate late notes.NotStarted

-- what contracts see of stamps and bytes, in room for so many
abbrev pub taped : List Stamp → List ℕ → ℕ → Bool → ℕ → ℕ → Taped
taped stamps bytes late running notes_room bytes_room = record { log = log_with (notes_of stamps bytes) late; running = running; notes_left = notes_room - length stamps; bytes_left = bytes_room - length bytes }

-- the bytes are those of the stamps; while a worker runs there is room for one note more; and a start fails late only where there is no room
pub record IsTape (stamps : List Stamp) (bytes : List ℕ) (late : ℕ) (running : Bool) (capacity : ℕ) : Type 0 where
  pub sized : total stamps ≡ length bytes
  pub early : running ≡ true → late ≡ 0
  pub aside : running ≡ true → length stamps < capacity
  pub full : 0 < late → capacity < length stamps + 2

-- the bytes are within their room, which was taken
pub record HasByteRoom (room len capacity : ℕ) : Type 0 where
  pub within : len ≤ room
  pub taken : room ≤ capacity
