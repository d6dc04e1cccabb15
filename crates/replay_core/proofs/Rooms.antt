-- The events never pass the room that was taken for them.
use Rattle.std.proofs.Common.{◌≡◌, ◌+◌, ◌≤◌, List, [], ◌∷◌, ◌++◌, length, Option, ap, ◌∙◌, arith}
use Rattle.std.proofs.lemmas.List.{length_push}
use Rattle.replay_core.specs.declared.plan.Plan.{Plan}
use Rattle.replay_core.specs.declared.event.Event.{Event}
use Rattle.replay_core.specs.declared.event.Verdict.{Verdict}
use Rattle.replay_core.specs.declared.event.SlotState.{SlotState}
use Rattle.replay_core.specs.Runs.{setup_of, Allowed}
use Rattle.replay_core.specs.Histories.{room_of}
use Rattle.replay_core.specs.Notes.{states_with, Keeps}
use Rattle.replay_core.proofs.Keeping.{event_fits, length-states_with}

pub room_kept : (plan : Plan) (states new_states : List SlotState) (verdicts : List (Option Verdict)) (es new_es : List Event) (e : Event) → Keeps (setup_of plan (length states)) es states verdicts → Allowed (setup_of plan (length states)) es e →
    new_states ≡ states_with states e → new_es ≡ es ++ e ∷ [] → length new_es ≤ room_of (setup_of plan (length new_states))
room_kept plan states new_states verdicts es new_es e k a hs he =
    let fits = event_fits (setup_of plan (length states)) es states verdicts e k a in
    let longer : length new_es ≡ length es + 1 = ap length he ∙ length_push es e in
    let same : length new_states ≡ length states = ap length hs ∙ length-states_with states e in
    omega (arith, fits, longer, same)
