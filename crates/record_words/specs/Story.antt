-- Histories of a recorder.
use Rattle.std.specs.Prelude.{◌≡◌, ◌≢◌, ℕ, ◌<◌, ◌≤◌, true, List, [], ◌∷◌, ◌++◌, length, slice_get, Some, All}
use Rattle.foz_words.specs.declared.key.Key.{Key}
use Rattle.foz_entry.specs.declared.cut.Entry.{Entry}
use Rattle.foz_entry.specs.Entries.{is_undamaged}
use Rattle.record_words.specs.declared.note.FullNote.{FullNote}
use Rattle.record_words.specs.declared.note.RecordCall.{RecordCall}
use Rattle.record_words.specs.declared.note.RecordCall.TheVariants.{Record, Flush}
use Rattle.record_words.specs.declared.note.RecordReply.{RecordReply}
use Rattle.record_words.specs.declared.note.RecordReply.TheVariants.{New, Known, Collision, DiskFault}
use Rattle.record_words.specs.Entries.{payload_at}
use Rattle.record_words.specs.declared.state.RecorderState.{RecorderState}
use Rattle.record_words.specs.Recorder.{record_reply, FlushReply, after}

-- x stands at place i
abbrev pub At : {X : Type 0} → List X → ℕ → X → Type 0
At xs i x = slice_get xs i ≡ Some x

-- the state after a note
abbrev pub after_note : RecorderState → FullNote → RecorderState
after_note s n = after s n.note.call n.note.reply n.payload

-- the state to which a story leads
abbrev pub leads : RecorderState → List FullNote → RecorderState
leads s [] = s
leads s (n ∷ ns) = leads (after_note s n) ns

-- the payload that the book holds at the reply's index, where this one was given
abbrev pub payload_held : List Entry → List ℕ → RecordReply → List ℕ
payload_held entries given (New i) = given
payload_held entries given (Known i) = payload_at entries i
payload_held entries given (Collision i) = payload_at entries i
payload_held entries given reply = []

-- the note is that of `record` with this key and this payload
pub record Records (s : RecorderState) (key : Key) (given : List ℕ) (n : FullNote) : Type 0 where
  pub call : n.note.call ≡ Record key
  pub reply : n.note.reply ≡ record_reply s key given
  pub payload : n.payload ≡ payload_held s.entries given n.note.reply

-- the note's reply is one of the recorder's
abbrev pub AnswersCall : RecorderState → FullNote → RecordCall → Type 0
AnswersCall s n (Record key) = (given : List ℕ) × Records s key given n
AnswersCall s n Flush = FlushReply s n.note.reply

abbrev pub Answers : RecorderState → FullNote → Type 0
Answers s n = AnswersCall s n n.note.call

-- each note answers the state to which the notes before it lead
abbrev pub Legal : RecorderState → List FullNote → Type 0
Legal origin story = (before : List FullNote) (n : FullNote) (rest : List FullNote) → story ≡ before ++ n ∷ rest → Answers (leads origin before) n

-- the disk never failed
abbrev pub HasNoFault : List FullNote → Type 0
HasNoFault story = All (λ n. n.note.reply ≢ DiskFault) story

-- each entry after the first ones has a key that no undamaged entry before it has
abbrev pub AreApart : List Entry → List Entry → Type 0
AreApart before later = (i : ℕ) (x y : Entry) (j : ℕ) → length before ≤ i → j < i → At later i x → At later j y → is_undamaged y ≡ true → y.head.key ≢ x.head.key
