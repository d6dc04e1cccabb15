-- One turn at the desk, as a call of a seat.
use Rattle.std.proofs.Common.{◌≡◌, ◌≢◌, ℕ, ◌+◌, All, MatchOption, List, [], ◌∷◌, ◌++◌, length, Option, Some, None, Result, Ok, refl, sym, ap, ◌∙◌, subst, append-nil, length-append}
use Rattle.std.proofs.lemmas.List.Elements.{All-nil, All-cons}
use mathlib.Core.List.{IsPrefix}
use Rattle.turn_desk.specs.declared.view.View.{View}
use Rattle.turn_desk.specs.Story.{notes_of, entered, left, Adds}
use Rattle.record_words.specs.declared.note.FullNote.{FullNote}
use Rattle.record_words.specs.declared.note.RecordReply.{RecordReply}
use Rattle.record_words.specs.declared.note.RecordReply.TheVariants as replies
use Rattle.record_words.specs.declared.state.RecorderState.{RecorderState}
use Rattle.record_words.specs.Story.{leads}
use Rattle.record_dedup.specs.declared.ack.Ack.{Ack}
use Rattle.record_dedup.specs.declared.ack.Ack.TheVariants.{New, Known}
use Rattle.record_dedup.specs.Kept.{Booked, recorder_of}
use Rattle.record_dedup.specs.Steps.{reply_told}
use Rattle.record_threads.specs.Shelves.{Shelved, IsNoted}
use Rattle.record_threads.specs.Calls.{seat_of, HasNoted}

-- the story goes on with notes of this seat
pub goes_on : {D : Type 0} (o : Option RecordReply) (before later : Shelved D) (seat : ℕ) (IsNote : RecordReply → RecorderState → FullNote → Type 0) → MatchOption o (later ≡ before) (λ reply. IsNoted before seat (IsNote reply) later)
    → (more : List FullNote) × (later.story ≡ before.story ++ more) × All (λ n. n.note.seat ≡ seat) more
goes_on None before later seat IsNote m = ([], ap (λ (z : Shelved _). z.story) m ∙ sym (append-nil before.story), All-nil (λ (n : FullNote). n.note.seat ≡ seat))
goes_on (Some reply) before later seat IsNote m = (m.note ∷ [], m.story, All-cons (λ (n : FullNote). n.note.seat ≡ seat) m.note [] m.seat_is (All-nil (λ (n : FullNote). n.note.seat ≡ seat)))

-- what the desk's law says
abbrev pub OthersAfter : Type 0
OthersAfter = (k : ℕ) (seen story : List FullNote) → IsPrefix seen story → notes_of seat_of k story ≡ notes_of seat_of k seen → (more : List FullNote) × (story ≡ seen ++ more) × All (λ n. seat_of n ≢ k) more

abbrev pub TurnAdds : Type 0 → Type 0
TurnAdds D = (v during after : View FullNote (Booked D)) (found more told : List FullNote) → during ≡ entered v found → IsPrefix v.seen found
    → notes_of seat_of v.number found ≡ v.mine → notes_of seat_of v.number v.seen ≡ v.mine → told ≡ found ++ more → after ≡ left during told → Adds seat_of v more after

module _ {D : Type 0} where
  -- what a call in a turn adds
  pub called : OthersAfter → TurnAdds D → (o : Option RecordReply) (v during after : View FullNote (Booked D)) (before later : Shelved D) (IsNote : RecordReply → RecorderState → FullNote → Type 0)
      → MatchOption o (later ≡ before) (λ reply. IsNoted before v.number (IsNote reply) later)
      → during ≡ entered v before.story → IsPrefix v.seen before.story → notes_of seat_of v.number before.story ≡ v.mine → notes_of seat_of v.number v.seen ≡ v.mine
      → after ≡ left during later.story → v.origin ≡ Some before.origin → MatchOption o (Adds seat_of v [] after) (λ reply. HasNoted v (IsNote reply) after)
  called others turn None v during after before later IsNote m went begins own own_seen came origin =
      turn v during after before.story [] later.story went begins own own_seen (ap (λ (z : Shelved D). z.story) m ∙ sym (append-nil before.story)) came
  called others turn (Some reply) v during after before later IsNote m went begins own own_seen came origin =
      let a = turn v during after before.story (m.note ∷ []) later.story went begins own own_seen m.story came in
      let past = others v.number v.seen before.story begins (own ∙ sym own_seen) in record {
        origin = before.origin;
        origin_is = origin;
        between = past.0;
        others = past.2;
        note = m.note;
        seen = ap (λ (z : View FullNote (Booked D)). z.seen) came ∙ (m.story ∙ ap (λ (z : List FullNote). z ++ m.note ∷ []) past.1);
        mine = a.3;
        seat_is = m.seat_is;
        is_note = subst (λ (z : List FullNote). IsNote reply (leads (recorder_of before.origin) z) m.note) past.1 m.is_note;
      }

last_place : {D : Type 0} (before later : Shelved D) (seat : ℕ) (IsNote : RecorderState → FullNote → Type 0) → IsNoted before seat IsNote later → length later.story ≡ length before.story + 1
last_place before later seat IsNote m = ap length m.story ∙ length-append before.story (m.note ∷ [])

-- the note of a receipt is the last one
pub receipt_place : {D : Type 0} (ack : Ack) (before later : Shelved D) (seat : ℕ) (IsNote : RecordReply → RecorderState → FullNote → Type 0) → MatchOption (reply_told (Ok ack)) (later ≡ before) (λ reply. IsNoted before seat (IsNote reply) later)
    → length later.story ≡ length before.story + 1
receipt_place (New i) before later seat IsNote m = last_place before later seat (IsNote (replies.New i)) m
receipt_place (Known i) before later seat IsNote m = last_place before later seat (IsNote (replies.Known i)) m
