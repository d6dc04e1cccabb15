-- Lines recorded in a file.
use Rattle.std.proofs.Common.{◌≡◌, ◌⊎◌, inl, inr, ⊎_elim, ℕ, ◌+◌, ◌*◌, ◌≤◌, false, List, [], ◌∷◌, Option, Some, None, Result, Ok, Err, sym, ap, ◌∙◌, subst, refl, arith}
use Rattle.std.proofs.lemmas.Bool.{cases_lt}
use Rattle.std.proofs.lemmas.List.{take_all}
use Rattle.std.specs.Prelude.{IfErr, IfOk}
use Rattle.disk_model.specs.Disk.{History, MightHaveLeft}
use Rattle.foz_words.specs.declared.key.Key.{Key}
use Rattle.foz_entry.specs.declared.cut.Entry.{Entry}
use Rattle.foz_archive.specs.Reading.{Holds}
use Rattle.record_words.specs.declared.note.RecordReply.{RecordReply}
use Rattle.record_words.specs.declared.answered.Answered.{Answered}
use Rattle.record_words.specs.Recorder.{reply_of}
use Rattle.record_words.specs.Recorded.{Line, Answer, Recorded, AreAnswers, read}
use Rattle.record_words.specs.Answered.{answered_from}
use Rattle.record_words.specs.Added.{added_to}
use Rattle.record_words.specs.Alone.{after_record, entries_alone, answers_alone}
use Rattle.record_words.specs.Story.{AreApart}
use Rattle.record_dedup.specs.Kept.{IsArchiveOf}
use Rattle.record_lines.specs.declared.recording.Report.{Report}
use Rattle.record_lines.specs.Batches.{LeavesBatches, after_batches, records_of}
use Rattle.record_lines.specs.Capture.{AreAnswered, CaptureLeaves, IsCaptured}
use Rattle.record_lines.specs.Recording.{AreRecorded}
use Rattle.foz_text.specs.RecordText.{record_text}
use Rattle.foz_text.specs.PutText.{put_text}
use Rattle.foz_base.specs.declared.ending.Printout.{Printout}
use Rattle.foz_base.specs.declared.stop.Stop.{Stop}
use Rattle.foz_base.specs.declared.stop.Stop.TheVariants.{Memory, Full, TooMany}
use Rattle.foz_base.specs.Ending.{Makes}
use Rattle.foz_base.specs.FileWork.{bytes_of, IsWorkedOn, FileLeaves}
use Rattle.foz_base.specs.InputRead.{IsInputRead}
use Rattle.foz_base.specs.Outside.{File}
use Rattle.foz_tool.specs.PutRun.{IsPut, IsPutTold, IsUntold, StopsPut, LeavesRecord, status_of_reply}
use Rattle.record_words.specs.Replies.{is_full}
use Rattle.foz_tool.specs.RecordRun.{IsRecordTold, status_of_answers}
use Rattle.foz_base.specs.Recording.{Captures, only_reply}

pub input_read : (input rest payload : List ℕ) → IsInputRead input rest payload → IsInputRead input rest input
input_read input rest payload all = record { whole = refl; short = all.short; none_left = all.none_left }

-- what the law of one thread says: it has one record
abbrev pub HasOneRecord : Type 0 → Type 0
HasOneRecord Cause = (before later : List Entry) (lines : List (Line Cause)) (answers : List (Answer Cause)) → AreAnswers before lines 1 later answers
    → (answers ≡ answers_alone before lines) × (later ≡ entries_alone before lines)

-- what the law of all threads says: no key is added that is held already
abbrev pub AddEachKeyOnce : Type 0 → Type 0
AddEachKeyOnce Cause = (before later : List Entry) (lines : List (Line Cause)) (threads : ℕ) (answers : List (Answer Cause)) → AreAnswers before lines threads later answers → AreApart before later

-- ---- one line

module _ (Cause : Type 0) (entries : List Entry) (key : Key) (payload : List ℕ) where
  abbrev one : List (Line Cause)
  one = read key payload ∷ []

  one_reply : HasOneRecord Cause → (later : List Entry) (answered : List (Answered Cause)) → AreRecorded entries one 1 later answered → (later ≡ after_record entries key payload) × (only_reply answered ≡ Some (reply_of entries key payload))
  one_reply law later answered are =
      let only = law entries later one are.answers are.are in (
        only.1,
        ap only_reply (are.told ∙ ap (answered_from 1 one) only.0),
      )

  -- the batches of one line: none, or that line
  after_one : (n : ℕ) → (after_batches entries one n ≡ entries) ⊎ (after_batches entries one n ≡ after_record entries key payload)
  after_one n = elim (cases_lt n 1) [
    | inl none ↦ let same : n ≡ 0 = omega arith in inl (ap (after_batches entries one) same)
    | inr some ↦ inr (ap (added_to entries) (take_all (n * 64) (records_of one) (let g : 1 ≤ n * 64 = omega arith in g)))
  ]

  held_after : (bytes : List ℕ) (n : ℕ) → Holds bytes (after_batches entries one n) → Holds bytes entries ⊎ Holds bytes (after_record entries key payload)
  held_after bytes n holds = elim (after_one n) [
    | inl none ↦ inl (subst (Holds bytes) none holds)
    | inr all ↦ inr (subst (Holds bytes) all holds)
  ]

  pub leaves_one : (old new : History) → LeavesBatches entries one old new → (bytes : List ℕ) → MightHaveLeft new old.moment bytes → Holds bytes entries ⊎ Holds bytes (after_record entries key payload)
  leaves_one old new batches bytes (moment, from, (until, image)) =
      let at = batches.each moment from until in
      ⊎_elim (held_after bytes at.0) (held_after bytes (at.0 + 1)) (at.1 bytes image)

leaves_record : {Cause : Type 0} (key : Key) (payload bytes : List ℕ) (old new : History) → CaptureLeaves {Cause = Cause} bytes old new (read key payload ∷ []) 1 → LeavesRecord key payload bytes old new
leaves_record key payload bytes old new left = record {
  goes_on = left.goes_on;
  each = λ entries held image might. leaves_one _ entries key payload old new (left.batches refl entries held) image might;
}

pub put_leaves : {Cause : Type 0} (key : Key) (payload : List ℕ) (lines : List (Line Cause)) → lines ≡ read key payload ∷ [] → (before : File) (old new : Option History)
    → FileLeaves (λ bytes start history. CaptureLeaves bytes start history lines 1) before old new → FileLeaves (LeavesRecord key payload) before old new
put_leaves key payload lines is before old new left settled = elim (left settled) [
  | inl same ↦ inl same
  | inr work ↦ inr (record {
    start = work.start;
    began = work.began;
    history = work.history;
    is_there = work.is_there;
    left = leaves_record key payload (bytes_of before) work.start work.history (subst (λ (l : List (Line _)). CaptureLeaves (bytes_of before) work.start work.history l 1) is work.left);
  })
]

pub is_put : {Cause : Type 0} → HasOneRecord Cause → (input rest : List ℕ) (all : IsInputRead input rest input) (before after : File) (key : Key) (report : Report Cause) (reply : RecordReply) (lines : List (Line Cause)) → lines ≡ read key input ∷ []
    → IsWorkedOn (Captures lines 1) before after (Ok report) → only_reply report.answers ≡ Some reply → IsPut input rest before after key reply
is_put law input rest all before after key report reply lines is did only =
    let captured : IsCaptured (bytes_of before) did.bytes (read key input ∷ []) 1 report = subst (λ (l : List (Line _)). IsCaptured (bytes_of before) did.bytes l 1 report) is did.done in
    let told = one_reply _ captured.entries key input law captured.later report.answers captured.recorded in
    let same : Some reply ≡ Some (reply_of captured.entries key input) = sym only ∙ told.1 in
    record {
      read = all;
      entries = captured.entries;
      held = captured.held;
      reply_is = let is : reply ≡ reply_of captured.entries key input = cc in is;
      archive = record { bytes = did.bytes; is_there = did.is_there; archive = subst (λ (es : List Entry). IsArchiveOf did.bytes es) told.0 captured.archive };
    }

-- one line that is read has one answer
pub always_replied : {Cause : Type 0} → HasOneRecord Cause → (key : Key) (payload : List ℕ) (lines : List (Line Cause)) → lines ≡ read key payload ∷ [] → (report : Report Cause) → AreAnswered lines 1 report → only_reply report.answers ≡ None → ⊥
always_replied law key payload lines is report answered none =
    let told = one_reply _ answered.before key payload law answered.later report.answers (subst (λ (l : List (Line _)). AreRecorded answered.before l 1 answered.later report.answers) is answered.recorded) in
    some_not_none _ (sym told.1 ∙ none)
  where
    some_not_none : (reply : RecordReply) → Some reply ≡ None → ⊥
    some_not_none reply same = cc

-- what is told of the reply
pub put_makes : (input rest : List ℕ) (unread : Type 0) (before after : File) (disk : Type 0) (key : Key) (reply : RecordReply) → IsPut input rest before after key reply → (made : Result Printout Stop)
    → IfOk made (λ printout. (is_full reply ≡ false) × (printout.text ≡ put_text reply) × (printout.status ≡ status_of_reply reply)) → IfErr made (IsUntold reply)
    → Makes (IsPutTold input rest before after key) (StopsPut input rest unread before after disk key) made
put_makes input rest unread before after disk key reply put (Ok printout) told untold = record { reply = reply; put = put; has_room = told.0; text_is = told.1; status_is = told.2 }
put_makes input rest unread before after disk key reply put (Err (Full end need)) told untold = subst (λ (r : RecordReply). IsPut input rest before after key r) untold put
put_makes input rest unread before after disk key reply put (Err (TooMany count)) told untold = subst (λ (r : RecordReply). IsPut input rest before after key r) untold put
put_makes input rest unread before after disk key reply put (Err Memory) told untold = tt
put_makes input rest unread before after disk key reply put (Err stop) told untold = absurd untold

-- ---- many lines

module _ {Cause : Type 0} (cause_text : Cause → List ℕ) (lines_of : List ℕ → List (Line Cause)) where
  pub is_record_told : (input rest : List ℕ) (all : IsInputRead input rest input) (threads : ℕ) (before after : File) (report : Report Cause) (lines : List (Line Cause)) → lines ≡ lines_of input → IsWorkedOn (Captures lines threads) before after (Ok report)
      → AddEachKeyOnce Cause → (text : List ℕ) (status : ℕ) → text ≡ record_text cause_text report.answers report.entries
      → status ≡ status_of_answers report.answers → IsRecordTold cause_text lines_of input rest threads before after text status
  is_record_told input rest all threads before after report lines is did are_apart text status text_is status_is =
      let captured : IsCaptured (bytes_of before) did.bytes (lines_of input) threads report = subst (λ (l : List (Line Cause)). IsCaptured (bytes_of before) did.bytes l threads report) is did.done in
      let recorded = captured.recorded in
      record {
        read = all;
        entries = captured.entries;
        held = captured.held;
        later = captured.later;
        recorded = record {
          answers = recorded.answers;
          are = recorded.are;
          told = text_is ∙ ap (λ (answered : List (Answered Cause)). record_text cause_text answered report.entries) recorded.told ∙ ap (record_text cause_text (answered_from 1 (lines_of input) recorded.answers)) captured.counted;
        };
        apart = are_apart captured.entries captured.later (lines_of input) threads recorded.answers recorded.are;
        archive = record { bytes = did.bytes; is_there = did.is_there; archive = captured.archive };
        status_is = status_is ∙ ap status_of_answers recorded.told;
      }
