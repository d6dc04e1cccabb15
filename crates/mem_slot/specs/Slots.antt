-- What contracts say of a slot in memory.
use Rattle.std.specs.Prelude.{ℕ, Bool, true, false, List, count_by}
use Rattle.foz_words.specs.declared.key.Key.{Key}
use Rattle.slot_log.specs.declared.note.SlotNote.{SlotNote}
use Rattle.slot_log.specs.declared.note.SlotNote.TheVariants.{Started, NotStarted, Sent, Got, Died, Stopped}
use Rattle.mem_slot.specs.declared.mem.Act.{Act}
use Rattle.mem_slot.specs.declared.mem.MemSlot.{MemSlot}
use Rattle.mem_slot.specs.Tapes.{Taped}

abbrev pub acts_of : MemSlot → List (Key × Act)
acts_of slot = slot.acts.items

-- the numbers of the starts that fail
abbrev pub failing_of : MemSlot → List ℕ
failing_of slot = slot.failing_starts.items

-- how many starts were tried, over the slot's whole life
abbrev pub starts_of : MemSlot → ℕ
starts_of slot = slot.starts

-- what is left of the answer to the last frame
abbrev pub left_of : MemSlot → List ℕ
left_of slot = slot.answer

-- the log, and the room for more
abbrev pub tape_of : MemSlot → Taped
tape_of slot = slot.tape

abbrev pub log_of : MemSlot → List SlotNote
log_of slot = slot.tape.log

abbrev pub is_running : MemSlot → Bool
is_running slot = slot.tape.running

-- how many starts failed
abbrev pub faults_of : MemSlot → ℕ
faults_of slot = slot.start_faults

abbrev pub is_death_note : SlotNote → Bool
is_death_note Started = false
is_death_note NotStarted = false
is_death_note (Sent frame) = false
is_death_note (Got bytes) = false
is_death_note Died = true
is_death_note Stopped = false

-- how many workers died
abbrev pub deaths_of : MemSlot → ℕ
deaths_of slot = count_by is_death_note (log_of slot)
