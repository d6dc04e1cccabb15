-- What a replay leaves at a slot, by what its seat knows.
use Rattle.std.proofs.Common.{◌≡◌, ⊎_elim, ℕ, List, [], ◌∷◌, ◌++◌, refl, sym, ap, ◌∙◌, subst}
use Rattle.std.specs.List.{filter}
use mathlib.Core.List.{IsPrefix}
use Rattle.replay_core.specs.declared.event.Event.{Event}
use Rattle.replay_core.specs.declared.event.SlotState.{SlotState}
use Rattle.replay_core.specs.declared.event.SlotState.TheVariants.{Idle, Retired}
use Rattle.replay_core.specs.Histories.{History}
use Rattle.replay_core.specs.Laws.{DecidedStays, SlotEvents}
use Rattle.replay_core.specs.Runs.{Setup, AllDecided, names, slot_at}
use Rattle.slot_log.specs.Views.{SlotView}
use Rattle.slot_log.specs.Works.{Orders}
use Rattle.replay_board.specs.declared.asker.Asker.{Asker}
use Rattle.replay_board.specs.declared.board.Board.{Board}
use Rattle.replay_board.specs.declared.note.BoardNote.{BoardNote}
use Rattle.replay_board.specs.declared.seat.BoardSeat.{BoardSeat}
use Rattle.replay_board.specs.Notes.{events_in}
use Rattle.replay_board.specs.Seats.{desk_view, notes_seen, slot_of, setup_seen, events_seen, own_events}
use Rattle.replay_board.specs.Turns.{IsSlotStory}
use Rattle.replay_crew.specs.declared.kit.Kit.{Kit}
use Rattle.replay_crew.specs.Kits.{seat_in}
use Rattle.replay_crew.specs.Steps.{IsTold}
use Rattle.crew_run.specs.Crews.{IsPlayed}
use Rattle.crew_run.specs.Kits.{HasRun}
use Rattle.crew_run.specs.Roots.{HasBack}

events_then : (a b : List BoardNote) → events_in (a ++ b) ≡ events_in a ++ events_in b
events_then [] b = refl
events_then (n ∷ ns) b = ap (λ (l : List Event). n.event ∷ l) (events_then ns b)

-- once all was decided before a seat's eyes, it is so in the end
decided_in_all : (s : Setup) (seat root : BoardSeat) → DecidedStays → IsPrefix (notes_seen seat) (notes_seen root) → AllDecided s (events_seen seat) → AllDecided s (events_seen root)
decided_in_all s seat root law prefix decided =
    subst (AllDecided s) (sym (events_then (notes_seen seat) prefix.0) ∙ ap events_in prefix.1) (law s (events_seen seat) (events_in prefix.0) decided)

idle_not_retired : (state : SlotState) → state ≡ Idle → state ≡ Retired → ⊥
idle_not_retired state idle retired = cc

pub is_played : (board : Board) (orders : Orders) (first second : Kit Asker) (before after : SlotView) (w : ℕ) (root : BoardSeat) (core : History) → SlotEvents → DecidedStays
    → HasRun board orders first second before after → slot_of (seat_in first).seat ≡ w → setup_seen (seat_in first).seat ≡ core.setup
    → core.events ≡ events_seen root → IsSlotStory (desk_view root).joined core.events → HasBack (desk_view root) (desk_view (seat_in second).seat) → IsPlayed orders core w before after
is_played board orders first second before after w root core slot_law decided_law run slot knows events story back =
    let seat = (seat_in second).seat in
    let own : filter (names (slot_of seat)) core.events ≡ own_events seat = story back.0.0 _ back.0.1 in
    let at_w : slot_of seat ≡ w = run.slot ∙ slot in
    let own_w : filter (names w) core.events ≡ own_events seat = ap (λ (k : ℕ). filter (names k) core.events) (sym at_w) ∙ own in
    let state : slot_at (own_events seat) w ≡ slot_at core.events w = ap (λ (es : List Event). slot_at es w) (sym own_w) ∙ slot_law.state core.events w in
    let in_all : AllDecided (setup_seen seat) (events_seen seat) → AllDecided core.setup core.events = λ d.
    subst (λ (es : List Event). AllDecided core.setup es) (sym events) (decided_in_all core.setup seat root decided_law back.1 (subst (λ (s : Setup). AllDecided s (events_seen seat)) (run.knows ∙ knows) d)) in
    let told : IsTold orders w (own_events seat) before.log after.log = subst (λ (k : ℕ). IsTold orders k (own_events seat) before.log after.log) slot run.told in
    let ended = run.ended in
    record {
      told = subst (λ (es : List Event). IsTold orders w es before.log after.log) (sym own_w) told;
      stopped = run.stopped;
      retired = λ retired.
          ⊎_elim (λ h. absurd (idle_not_retired (slot_at core.events w) (sym state ∙ (ap (slot_at (own_events seat)) (sym slot) ∙ h.1)) retired))
          (λ h. h.1) ended;
      finished = λ kept.
          ⊎_elim (λ h. in_all h.0)
          (λ h. absurd (kept (sym state ∙ (ap (slot_at (own_events seat)) (sym slot) ∙ h.0)))) ended;
    }
