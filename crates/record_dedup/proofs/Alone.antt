-- What the steps of a book that isn't broken do to its entries.
use Rattle.std.proofs.Common.{◌≡◌, false, List, ℕ, Some, refl, ap, ◌∙◌}
use Rattle.foz_words.specs.declared.key.Key.{Key}
use Rattle.record_words.specs.declared.note.RecordCall.TheVariants.{Record}
use Rattle.record_words.specs.declared.note.RecordReply.{RecordReply}
use Rattle.record_words.specs.declared.note.RecordReply.TheVariants.{New, Known, Collision, TooLarge, Full, TooMany, Flushed, DiskFault, Broken}
use Rattle.record_words.specs.declared.state.RecorderState.{RecorderState}
use Rattle.record_words.specs.Recorder.{reply_of, after}
use Rattle.record_words.specs.Alone.{grown_by, after_record}
use Rattle.record_dedup.specs.Steps.{IsStep}

after_entries : (s : RecorderState) (key : Key) (payload : List ℕ) (reply : RecordReply) → (after s (Record key) reply payload).entries ≡ grown_by reply s.entries key payload
after_entries s key payload (New index) = refl
after_entries s key payload (Known index) = refl
after_entries s key payload (Collision index) = refl
after_entries s key payload (TooLarge size) = refl
after_entries s key payload (Full end need) = refl
after_entries s key payload (TooMany count) = refl
after_entries s key payload (Flushed count) = refl
after_entries s key payload DiskFault = refl
after_entries s key payload Broken = refl

pub step_replies : (s t : RecorderState) (key : Key) (payload : List ℕ) (reply : RecordReply) → s.broken ≡ false → IsStep s key payload (Some reply) t
    → (reply ≡ reply_of s.entries key payload) × (t.entries ≡ after_record s.entries key payload)
step_replies s t key payload reply whole step =
    let is : reply ≡ reply_of s.entries key payload = rw whole at step.0 in
    (is, ap (λ (z : RecorderState). z.entries) step.1 ∙ (after_entries s key payload reply ∙ ap (λ (r : RecordReply). grown_by r s.entries key payload) is))
