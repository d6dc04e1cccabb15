-- A shelf: a book with the notes of its calls.
use Rattle.std.specs.Prelude.{◌≡◌, ℕ, ◌<◌, ⊤, All, List, [], ◌∷◌, ◌++◌, length, map, Option, Some, None, Result, Ok, Err}
use Rattle.foz_entry.specs.declared.cut.Entry.{Entry}
use Rattle.record_words.specs.declared.note.FullNote.{FullNote}
use Rattle.record_words.specs.declared.note.RecordNote.{RecordNote}
use Rattle.record_words.specs.declared.note.RecordReply.{RecordReply}
use Rattle.record_words.specs.declared.note.RecordReply.TheVariants.{New, Known, Collision}
use Rattle.record_words.specs.declared.state.RecorderState.{RecorderState}
use Rattle.record_words.specs.Entries.{payload_at}
use Rattle.record_words.specs.Story.{leads, Legal}
use Rattle.record_dedup.specs.Kept.{Booked, recorder_of}

-- the payload that the entries hold at a reply's index
abbrev pub payload_of : List Entry → RecordReply → List ℕ
payload_of entries (New i) = payload_at entries i
payload_of entries (Known i) = payload_at entries i
payload_of entries (Collision i) = payload_at entries i
payload_of entries reply = []

abbrev pub full_note : List Entry → RecordNote → FullNote
full_note entries note = record { note = note; payload = payload_of entries note.reply }

abbrev pub full_story : List Entry → List RecordNote → List FullNote
full_story entries notes = map (full_note entries) notes

-- a reply's index is below n
abbrev pub IsWithin : ℕ → RecordReply → Type 0
IsWithin n (New i) = i < n
IsWithin n (Known i) = i < n
IsWithin n (Collision i) = i < n
IsWithin n reply = ⊤

-- The story is legal from what the first book was, and leads to the second, which was opened as the first was.
pub record LeadsTo {D : Type 0} (origin : Booked D) (story : List FullNote) (book : Booked D) : Type 0 where
  pub legal : Legal (recorder_of origin) story
  pub leads_is : leads (recorder_of origin) story ≡ recorder_of book
  pub began : book.began ≡ origin.began
  pub opened : book.opened ≡ origin.opened

-- the same of stored notes, of which each index is that of an entry
pub record AreNotesOf {D : Type 0} (origin book : Booked D) (notes : List RecordNote) : Type 0 where
  pub within : All (λ n. IsWithin (length book.entries) n.reply) notes
  pub leads_to : LeadsTo origin (full_story book.entries notes) book

-- what contracts see of a shelf
pub record Shelved (D : Type 0) : Type 0 where
  -- the book as it was when the story began
  pub origin : Booked D
  pub story : List FullNote
  pub book : Booked D

-- The story has one note more, of this seat, which is such a note in the state to which the story led.
pub record IsNoted {D : Type 0} (before : Shelved D) (seat : ℕ) (IsNote : RecorderState → FullNote → Type 0) (later : Shelved D) : Type 0 where
  pub note : FullNote
  pub story : later.story ≡ before.story ++ note ∷ []
  pub seat_is : note.note.seat ≡ seat
  pub is_note : IsNote (leads (recorder_of before.origin) before.story) note
