-- How many records of a seat wait after one more of its notes.
use Rattle.std.proofs.Common.{ℕ, ◌+◌, ◌<◌, List, [], ◌∷◌, ◌++◌, refl, sym, subst}
use Rattle.record_words.specs.declared.note.FullNote.{FullNote}
use Rattle.record_words.specs.declared.note.RecordCall.{RecordCall}
use Rattle.record_words.specs.declared.note.RecordReply.{RecordReply}
use Rattle.foz_words.specs.declared.key.Key.{Key}
use Rattle.turn_desk.specs.declared.view.View.{View}
use Rattle.record_dedup.specs.Kept.{Booked}
use Rattle.record_threads.specs.Calls.{HasNoted}
use Rattle.record_threads.specs.Ties.{IsRecordNote, IsFlushNote}
use Rattle.record_team.specs.Batched.{IsStep, Waits}

waits_more : (notes : List FullNote) (n : FullNote) (a b c : ℕ) → Waits a notes b → IsStep b n.note.call c → Waits a (notes ++ n ∷ []) c
waits_more [] n a b c w step = (c, subst (λ (z : ℕ). IsStep z n.note.call c) w step, refl)
waits_more (x ∷ xs) n a b c w step = (w.0, w.1, waits_more xs n w.0 b c w.2 step)

module _ {D : Type 0} (before later : View FullNote (Booked D)) where
  pub waits_flushed : (reply : RecordReply) → HasNoted before (IsFlushNote reply) later → Waits 0 before.mine 64 → Waits 0 later.mine 0
  waits_flushed reply h w =
      subst (λ (l : List FullNote). Waits 0 l 0) (sym h.mine)
      (waits_more before.mine h.note 0 64 0 w (subst (λ (call : RecordCall). IsStep 64 call 0) (sym h.is_note.call) (refl, refl)))

  pub waits_recorded : (key : Key) (payload : List ℕ) (reply : RecordReply) → HasNoted before (IsRecordNote key payload reply) later → (waiting : ℕ) → Waits 0 before.mine waiting → waiting < 64 → Waits 0 later.mine (waiting + 1)
  waits_recorded key payload reply h waiting w few =
      subst (λ (l : List FullNote). Waits 0 l (waiting + 1)) (sym h.mine)
      (waits_more before.mine h.note 0 waiting (waiting + 1) w (subst (λ (call : RecordCall). IsStep waiting call (waiting + 1)) (sym h.is_note.records.call) (few, refl)))
