-- What a turn does to a seat.
use Rattle.std.proofs.Common.{ℕ, ◌≡◌, ◌≢◌, ◌+◌, ◌-◌, ◌<◌, ◌≤◌, ◌==◌, ◌↔◌, Bool, true, cond, List, [], ◌∷◌, ◌++◌, length, drop, All, Option, None, ap, sym, ◌∙◌, subst, append-nil, arith}
use mathlib.Core.List.{IsPrefix}
use Rattle.std.specs.List.{filter, fold}
use Rattle.std.proofs.lemmas.List.{map-append}
use Rattle.std.proofs.lemmas.List.Sums.{fold-append, length-filter, count_by-le-length}
use Rattle.std.proofs.Math.Seq.{drop-append_seam}
use Rattle.replay_core.specs.declared.answer.Next.{Next}
use Rattle.replay_core.specs.declared.answer.Next.TheVariants as answers
use Rattle.replay_core.specs.declared.event.Event.{Event}
use Rattle.replay_core.specs.declared.event.Event.TheVariants.{Start, Reply}
use Rattle.replay_core.specs.declared.event.SlotState.TheVariants.{Holds, Idle}
use Rattle.replay_core.specs.Runs.{Setup, AllDecided, names, slot_at, next_state, state_after}
use Rattle.replay_core.specs.Histories.{History, with_events}
use Rattle.replay_core.specs.Turns.{started, state_told}
use Rattle.replay_core.specs.Laws.{SlotEvents}
use Rattle.turn_desk.specs.declared.view.View.{View}
use Rattle.turn_desk.specs.declared.view.Joined.{Joined}
use Rattle.turn_desk.specs.Story.{entered, left, HasKept, AreApart}
use Rattle.replay_board.specs.declared.note.BoardNote.{BoardNote}
use Rattle.replay_board.specs.declared.origin.BoardOrigin.{BoardOrigin}
use Rattle.replay_board.specs.declared.seat.BoardSeat.{BoardSeat}
use Rattle.replay_board.specs.Notes.{events_in, signed, setup_known, history_of, AreByMakers}
use Rattle.replay_board.specs.Seats.{desk_view, notes_seen, own_notes, number_of, turns_of, slot_of, setup_seen, events_seen, own_events}
use Rattle.replay_board.specs.Steps.{Adds, Answers, Asks}
use Rattle.replay_board.specs.Turns.{turned, TakesStep, IsSameSlot, IsSlotStory}
use Rattle.replay_board.proofs.Signing.{made_by, made_by_it, events_made, events_signed, slot_of_seat}

-- the events of the seat's slot, by the law of events that name a slot
pub own_asked : SlotEvents → (before after : BoardSeat) (answer : Next) → TakesStep (Asks (slot_of before) answer) before after → own_events after ≡ own_events before ++ started (slot_of before) answer
own_asked law before after answer t = sym t.own_after ∙ (law.turn _ _ (slot_of before) answer t.step.turn ∙ ap (λ (z : List Event). z ++ started (slot_of before) answer) t.own_before)

pub own_added : SlotEvents → (before after : BoardSeat) (e : Event) → names (slot_of before) e ≡ true → TakesStep (Adds e) before after → own_events after ≡ own_events before ++ e ∷ []
own_added law before after e named t = sym t.own_after ∙ (law.event _ _ (slot_of before) e named t.step ∙ ap (λ (z : List Event). z ++ e ∷ []) t.own_before)

held_one : (a b : ℕ) → Holds a ≡ Holds b → a ≡ b
held_one a b e = cc

pub own_answered : SlotEvents → (before after : BoardSeat) (code i : ℕ) → TakesStep (Answers (slot_of before) code) before after → names (slot_of before) (Reply (slot_of before) i code) ≡ true → slot_at (own_events before) (slot_of before) ≡ Holds i
    → own_events after ≡ own_events before ++ Reply (slot_of before) i code ∷ []
own_answered law before after code i t named held =
    let w = slot_of before in
    let found : List Event = events_in (notes_seen before ++ t.others) in
    let same : slot_at (own_events before) w ≡ slot_at found w = ap (λ (z : List Event). slot_at z w) (sym t.own_before) ∙ law.state found w in
    let it : t.step.0 ≡ i = held_one t.step.0 i (sym t.step.1 ∙ (sym same ∙ held)) in
    let added = subst (λ n. Adds (Reply w n code) (history_of (setup_seen before) (notes_seen before ++ t.others)) (history_of (setup_seen before) (notes_seen after))) it t.step.2 in
    sym t.own_after ∙ (law.event _ _ w (Reply w i code) named added ∙ ap (λ (z : List Event). z ++ Reply w i code ∷ []) t.own_before)

pub same_slot : (step : History → History → Type 0) (before after : BoardSeat) → TakesStep step before after → IsSameSlot before after
same_slot step before after t = (ap (λ (v : View BoardNote BoardOrigin). v.number - 1) t.view, ap (λ (v : View BoardNote BoardOrigin). setup_known v.origin) t.view)

pub finished_after : (before after : BoardSeat) (answer : Next) → TakesStep (Asks (slot_of before) answer) before after → (answer ≡ answers.Finished) ↔ AllDecided (setup_seen after) (events_seen after)
finished_after before after answer t = subst (λ s. (answer ≡ answers.Finished) ↔ AllDecided s (events_seen after)) (sym (same_slot (Asks (slot_of before) answer) before after t).1) t.step.finished

pub one_turn : (step : History → History → Type 0) (before after : BoardSeat) → TakesStep step before after → turns_of after ≡ turns_of before + 1
one_turn step before after t = ap (λ (v : View BoardNote BoardOrigin). v.turns) t.view

abbrev V : Type 0
V = View BoardNote BoardOrigin

-- the view after a turn that found this story and added this to it
left_turned : (v : V) (found more others : List BoardNote) → v.inside ≡ None → v.seen ++ others ≡ found → left (entered v found) (found ++ more) ≡ turned v ((v.seen ++ others) ++ more) (v.mine ++ more)
left_turned v found more others out p =
    let m : v.mine ++ drop (length found) (found ++ more) ≡ v.mine ++ more = ap (λ (z : List BoardNote). v.mine ++ z) (drop-append_seam found more) in
    let s : found ++ more ≡ (v.seen ++ others) ++ more = ap (λ (z : List BoardNote). z ++ more) (sym p) in
    ap (λ (z : List BoardNote). record v { turns = v.turns + 1; inside = None; seen = found ++ more; mine = z }) m
    ∙ (ap (λ (z : List BoardNote). record v { turns = v.turns + 1; inside = None; seen = z; mine = v.mine ++ more }) s
    ∙ ap (λ (i : Option (List BoardNote)). record v { turns = v.turns + 1; inside = i; seen = (v.seen ++ others) ++ more; mine = v.mine ++ more }) (sym out))

-- the events that name the seat's slot are its own ones
own_is : (s : BoardSeat) (notes : List BoardNote) → AreByMakers notes → 0 < number_of s → filter (λ n. n.seat == number_of s) notes ≡ own_notes s → filter (names (slot_of s)) (events_in notes) ≡ own_events s
own_is s notes by nonzero own =
    let n : number_of s ≡ slot_of s + 1 = omega arith in
    let mine : filter (λ m. m.seat == slot_of s + 1) notes ≡ own_notes s = subst (λ k. filter (λ (m : BoardNote). m.seat == k) notes ≡ own_notes s) n own in
    slot_of_seat (slot_of s) notes by ∙ ap (λ (z : List BoardNote). filter (names (slot_of s)) (events_in z)) mine

-- what the slot does, by the seat's own notes and by the events that a turn finds
pub state_at : SlotEvents → (s : BoardSeat) (makers : List ℕ) (events : List Event) (n : ℕ) → length makers ≡ length events → AreByMakers (signed makers events) → 0 < number_of s
    → filter (λ m. m.seat == number_of s) (signed makers events) ≡ own_notes s → n ≡ number_of s → slot_at (own_events s) (slot_of s) ≡ slot_at events (n - 1)
state_at law s makers events n paired by nonzero own is =
    let story : List BoardNote = signed makers events in
    ap (λ (z : List Event). slot_at z (slot_of s)) (sym (own_is s story by nonzero own))
    ∙ (law.state (events_in story) (slot_of s)
    ∙ (ap (λ (z : List Event). slot_at z (slot_of s)) (events_signed makers events paired) ∙ ap (λ k. slot_at events (k - 1)) (sym is)))

-- a history, as notes tell it
pub history_is : (s : Setup) (h : History) (notes : List BoardNote) → s ≡ h.setup → events_in notes ≡ h.events → h ≡ history_of s notes
history_is s h notes a b = sym (ap (λ (x : Setup). history_of x notes) a ∙ ap (λ (x : List Event). with_events (record { setup = h.setup; events = [] }) x) b)

pub grown_history : (s : Setup) (old new : History) (found : List BoardNote) (k : ℕ) (added : List Event) → s ≡ old.setup → events_in found ≡ old.events → new ≡ with_events old added → new ≡ history_of s (found ++ made_by k added)
grown_history s old new found k added a b is = is ∙ history_is s (with_events old added) (found ++ made_by k added) a
    (map-append (λ (n : BoardNote). n.event) found (made_by k added) ∙ (ap (λ (z : List Event). z ++ events_in (made_by k added)) b ∙ ap (λ (z : List Event). old.events ++ z) (events_made k added)))

pub few_own : (test : Event → Bool) (events own : List Event) (n : ℕ) → filter test events ≡ own → length events ≤ n → length own ≤ n
few_own test events own n is few =
    let same : length (filter test events) ≡ length own = ap (λ (z : List Event). length z) is in
    let count = length-filter test events in
    let most = count_by-le-length test events in
    omega arith

-- what the two halves of a turn make of a seat
pub takes_step : (step : History → History → Type 0) (before after : BoardSeat) (during : V) (found : List BoardNote) (old new : History) (added : List Event)
    → during ≡ entered (desk_view before) found → (p : IsPrefix (notes_seen before) found) → All (λ n. n.seat ≢ number_of before) p.0
    → filter (λ n. n.seat == number_of before) found ≡ own_notes before → (desk_view before).inside ≡ None → 0 < number_of before
    → desk_view after ≡ left during (found ++ made_by (number_of before) added) → filter (λ n. n.seat == number_of after) (notes_seen after) ≡ own_notes after
    → old ≡ history_of (setup_seen before) found → new ≡ history_of (setup_seen before) (found ++ made_by (number_of before) added)
    → AreByMakers found → AreByMakers (found ++ made_by (number_of before) added) → step old new → TakesStep step before after
takes_step step before after during found old new added went p apart own out nonzero came own_new old_is new_is by by_new st =
    let more : List BoardNote = made_by (number_of before) added in
    let view : desk_view after ≡ turned (desk_view before) ((notes_seen before ++ p.0) ++ more) (own_notes before ++ more) = came ∙ (ap (λ (d : V). left d (found ++ more)) went ∙ left_turned (desk_view before) found more p.0 out p.1) in
    let seen : notes_seen after ≡ found ++ more = ap (λ (v : V). v.seen) view ∙ ap (λ (z : List BoardNote). z ++ more) p.1 in
    let number : number_of after ≡ number_of before = ap (λ (v : V). v.number) view in
    let nonzero_new : 0 < number_of after = subst (λ n. 0 < n) (sym number) nonzero in
    let slot : slot_of before ≡ slot_of after = ap (λ n. n - 1) (sym number) in
    let old_at : old ≡ history_of (setup_seen before) (notes_seen before ++ p.0) = old_is ∙ ap (history_of (setup_seen before)) (sym p.1) in
    let new_at : new ≡ history_of (setup_seen before) (notes_seen after) = new_is ∙ ap (history_of (setup_seen before)) (sym seen) in
    let here = history_of (setup_seen before) (notes_seen after) in
    record {
      others = p.0;
      added = more;
      view = view;
      by_others = apart;
      by_it = made_by_it (number_of before) added;
      step = subst (λ (h : History). step h here) old_at (subst (λ (h : History). step old h) new_at st);
      own_before = ap (λ (z : List BoardNote). filter (names (slot_of before)) (events_in z)) p.1 ∙ own_is before found by nonzero own;
      own_after = ap (λ w. filter (names w) (events_seen after)) slot ∙ own_is after (notes_seen after) (subst AreByMakers (sym seen) by_new) nonzero_new own_new;
    }

-- the events of the slots of seats that were joined
pub slot_story : (joined : List (Joined BoardNote)) (story : List BoardNote) (events : List Event) (made : ℕ) → AreByMakers story → events ≡ events_in story → HasKept (λ n. n.seat) joined story → AreApart made joined → IsSlotStory joined events
slot_story joined story events made by is kept apart = λ p j at.
    let given : 0 < j.number = (apart.given p j at).0 in
    let n : j.number ≡ (j.number - 1) + 1 = omega arith in
    let mine : filter (λ m. m.seat == (j.number - 1) + 1) story ≡ j.notes = subst (λ k. filter (λ (m : BoardNote). m.seat == k) story ≡ j.notes) n (kept p j at) in
    ap (filter (names (j.number - 1))) is ∙ (slot_of_seat (j.number - 1) story by ∙ ap (λ (z : List BoardNote). filter (names (j.number - 1)) (events_in z)) mine)

-- what a slot does after an event that names it
pub state_added : (es : List Event) (w : ℕ) (e : Event) → names w e ≡ true → slot_at (es ++ e ∷ []) w ≡ state_after e
unfolding slot_at
state_added es w e named = fold-append (next_state w) Idle es (e ∷ []) ∙ ap (λ b. cond b (state_after e) (fold (next_state w) Idle es)) named

-- what a slot does that was idle and asked
pub state_asked : (es : List Event) (w : ℕ) (answer : Next) → slot_at es w ≡ Idle → names w (Start w 0) ≡ true → slot_at (es ++ started w answer) w ≡ state_told answer
state_asked es w answers.Finished idle own = ap (λ (z : List Event). slot_at z w) (append-nil es) ∙ idle
state_asked es w (answers.Work item) idle own = state_added es w (Start w item) own
state_asked es w answers.Idle idle own = ap (λ (z : List Event). slot_at z w) (append-nil es) ∙ idle

-- a slot without events is idle
pub idle_first : (es : List Event) (w : ℕ) → es ≡ [] → slot_at es w ≡ Idle
unfolding slot_at
idle_first es w e = ap (λ (z : List Event). fold (next_state w) Idle z) e
