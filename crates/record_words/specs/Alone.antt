-- The record of one thread, line by line.
use Rattle.std.specs.Prelude.{ℕ, List, [], ◌∷◌, ◌++◌, length}
use Rattle.foz_words.specs.declared.key.Key.{Key}
use Rattle.foz_entry.specs.declared.cut.Entry.{Entry}
use Rattle.foz_entry.specs.Entries.{end_of, entry_of}
use Rattle.record_words.specs.declared.note.RecordReply.{RecordReply}
use Rattle.record_words.specs.declared.note.RecordReply.TheVariants.{New}
use Rattle.record_words.specs.Recorder.{reply_of}
use Rattle.record_words.specs.Recorded.{Line, Answer, skipped, refused, read, passed, declined, replied}

-- the entries after a reply
abbrev pub grown_by : RecordReply → List Entry → Key → List ℕ → List Entry
grown_by (New i) entries key payload = entries ++ entry_of (end_of entries) key payload ∷ []
grown_by reply entries key payload = entries

abbrev pub after_record : List Entry → Key → List ℕ → List Entry
after_record entries key payload = grown_by (reply_of entries key payload) entries key payload

module _ {Cause : Type 0} where
  abbrev pub entries_alone : List Entry → List (Line Cause) → List Entry
  entries_alone entries [] = entries
  entries_alone entries (skipped ∷ lines) = entries_alone entries lines
  entries_alone entries (refused cause ∷ lines) = entries_alone entries lines
  entries_alone entries (read key payload ∷ lines) = entries_alone (after_record entries key payload) lines

  abbrev pub answers_alone : List Entry → List (Line Cause) → List (Answer Cause)
  answers_alone entries [] = []
  answers_alone entries (skipped ∷ lines) = passed ∷ answers_alone entries lines
  answers_alone entries (refused cause ∷ lines) = declined cause ∷ answers_alone entries lines
  answers_alone entries (read key payload ∷ lines) = replied (reply_of entries key payload) (length entries) ∷ answers_alone (after_record entries key payload) lines
