-- A book's answers, as a recorder's replies.
use Rattle.std.proofs.Common.{◌≡◌, ◌≢◌, ◌+◌, ◌<◌, ◌≤◌, ℕ, Bool, true, false, if◌then◌else◌, bytes_eq, List, length, Some, None, Result, Ok, Err, OnOk, IfErr, refl, sym, ap, ◌∙◌, subst, arith}
use Rattle.foz_words.specs.declared.key.Key.{Key}
use Rattle.foz_entry.specs.declared.cut.Entry.{Entry}
use Rattle.foz_entry.specs.Entries.{end_of}
use Rattle.foz_entry.specs.Limits.{payload_limit, end_limit, count_limit}
use Rattle.foz_archive.specs.declared.push.PushError.{PushError}
use Rattle.foz_archive.specs.declared.push.PushError.TheVariants as push_errors
use Rattle.foz_archive.specs.Kept.{Archived}
use Rattle.foz_archive.specs.Pushed.{HasRoom, HasNoRoom}
use Rattle.foz_archive.specs.Reading.{writing, SomeFileHolds}
use Rattle.record_words.specs.declared.note.RecordReply.TheVariants as replies
use Rattle.record_words.specs.declared.state.RecorderState.{RecorderState}
use Rattle.record_words.specs.Entries.{holder, payload_at}
use Rattle.record_words.specs.Recorder.{record_reply}
use Rattle.record_words.proofs.Rows.{row_too_large, row_known, row_collision, row_full, row_too_many, row_new}
use Rattle.record_dedup.specs.declared.ack.Ack.{Ack}
use Rattle.record_dedup.specs.declared.ack.Ack.TheVariants.{Known}
use Rattle.record_dedup.specs.declared.ack.RecordError.{RecordError}
use Rattle.record_dedup.specs.declared.ack.RecordError.TheVariants.{Collision, Memory}
use Rattle.record_dedup.specs.Kept.{Booked, booked}
use Rattle.record_dedup.proofs.Kept.{EndsAreSums, CountsAreBounded}
use Rattle.record_dedup.specs.Steps.{IsStep, record_error_of, reply_told, too_large}

-- where the entries end
pub ends_of : EndsAreSums → (entries : List Entry) (end : ℕ) → SomeFileHolds entries end → end ≡ end_of entries
ends_of sums entries end some = sums writing some.file entries end some.accepted

-- what the archive knows by its end, known of the book by its entries
pub as_booked : {D : Type 0} (P : ℕ → ℕ → Type 0) (sums : EndsAreSums) (book : Booked D) (archive : Archived D) (began : D) (opened : ℕ) → booked archive began opened ≡ book → SomeFileHolds archive.entries archive.end
    → P archive.end (length archive.entries) → P (end_of book.entries) (length book.entries)
as_booked P sums book archive began opened is some known =
    subst (λ b. P (end_of b.entries) (length b.entries)) is (subst (λ n. P n (length archive.entries)) (ends_of sums archive.entries archive.end some) known)

pub book_is_few : {D : Type 0} (few : CountsAreBounded) (book : Booked D) (archive : Archived D) (began : D) (opened : ℕ) → booked archive began opened ≡ book → SomeFileHolds archive.entries archive.end → length book.entries ≤ count_limit
book_is_few few book archive began opened is some = subst (λ b. length b.entries ≤ count_limit) is (few writing some.file archive.entries archive.end some.accepted)

-- a payload that has room, or is refused for another reason, isn't too large
pub small_enough : (e n size : ℕ) (room : Result (Unit {0}) PushError) → OnOk room (HasRoom e n size) → IfErr room (HasNoRoom e n size) → ((x : ℕ) → too_large room ≡ Some x → ⊥) → size ≤ payload_limit
small_enough e n size (Ok u) ok none other = ok.small
small_enough e n size (Err (push_errors.TooLarge is)) ok none other = absurd (other is refl)
small_enough e n size (Err (push_errors.Full end need)) ok none other = none.2
small_enough e n size (Err (push_errors.TooMany count)) ok none other = none.1
small_enough e n size (Err push_errors.Memory) ok none other = absurd none

pub no_room_is_no_memory : (e n size : ℕ) (error : PushError) → HasNoRoom e n size error → record_error_of error ≢ Memory
no_room_is_no_memory e n size (push_errors.TooLarge is) none same = absurd cc
no_room_is_no_memory e n size (push_errors.Full end need) none same = absurd cc
no_room_is_no_memory e n size (push_errors.TooMany count) none same = absurd cc
no_room_is_no_memory e n size push_errors.Memory none same = absurd none

module _ (s : RecorderState) (key : Key) (p : List ℕ) (whole : s.broken ≡ false) where
  -- the answer where the key is held
  pub held_step : (fits : length p ≤ payload_limit) (i : ℕ) → holder key s.entries ≡ Some i
      → (r : Result Ack RecordError) → r ≡ (if bytes_eq (payload_at s.entries i) p then Ok (Known i) else Err (Collision i)) → IsStep s key p (reply_told r) s
  held_step fits i held r is = by_test (bytes_eq (payload_at s.entries i) p) refl r is
    where
      by_test : (b : Bool) → bytes_eq (payload_at s.entries i) p ≡ b → (r : Result Ack RecordError) → r ≡ (if b then Ok (Known i) else Err (Collision i)) → IsStep s key p (reply_told r) s
      by_test true t r e = subst (λ (z : Result Ack RecordError). IsStep s key p (reply_told z) s) (sym e) (sym (row_known s key p whole fits i held t), refl)
      by_test false t r e = subst (λ (z : Result Ack RecordError). IsStep s key p (reply_told z) s) (sym e) (sym (row_collision s key p whole fits i held t), refl)

  too_large_reply : (e n size : ℕ) → HasNoRoom e n (length p) (push_errors.TooLarge size) → replies.TooLarge size ≡ record_reply s key p
  too_large_reply e n size none = ap replies.TooLarge none.0 ∙ sym (row_too_large s key p whole none.1)

  -- the answer where the payload is too large
  pub too_large_step : (e n size : ℕ) (room : Result (Unit {0}) PushError) → IfErr room (HasNoRoom e n (length p)) → too_large room ≡ Some size → replies.TooLarge size ≡ record_reply s key p
  too_large_step e n size (Ok u) none is = absurd cc
  too_large_step e n size (Err (push_errors.TooLarge found)) none is = let same : found ≡ size = cc in ap replies.TooLarge (sym same) ∙ too_large_reply e n found none
  too_large_step e n size (Err (push_errors.Full end need)) none is = absurd cc
  too_large_step e n size (Err (push_errors.TooMany count)) none is = absurd cc
  too_large_step e n size (Err push_errors.Memory) none is = absurd cc

  -- the answer where there is no room
  pub no_room_step : (free : holder key s.entries ≡ None) (few : length s.entries ≤ count_limit) (error : PushError)
      → HasNoRoom (end_of s.entries) (length s.entries) (length p) error → IsStep s key p (reply_told (Err (record_error_of error))) s
  no_room_step free few (push_errors.TooLarge size) none = (too_large_reply (end_of s.entries) (length s.entries) size none, refl)
  no_room_step free few (push_errors.Full end need) none =
      (ap (λ n. replies.Full n need) none.0 ∙ (ap (λ n. replies.Full (end_of s.entries) n) none.1 ∙ sym (row_full s key p whole none.2 free (subst (λ n. end_limit < end_of s.entries + n) none.1 none.3))), refl)
  no_room_step free few (push_errors.TooMany count) none =
      let many = none.3 in
      (ap replies.TooMany none.0 ∙ sym (row_too_many s key p whole none.1 free none.2 (omega arith)), refl)
  no_room_step free few push_errors.Memory none = absurd none

  pub new_reply : (free : holder key s.entries ≡ None) → HasRoom (end_of s.entries) (length s.entries) (length p) → record_reply s key p ≡ replies.New (length s.entries)
  new_reply free room = let few = room.few in row_new s key p whole room.small free room.near (λ e. absurd (omega arith))
