use Rattle.std.proofs.Common.{◌≡◌, ◌<◌, ◌≤◌, length, sym, subst, ap, ◌∙◌, arith}
use Rattle.std.specs.Vec.{vec_len, vec_capacity}
use Rattle.replay_core.specs.Runs.{Allowed, setup_of}
use Rattle.replay_core.specs.Histories.{History}
use Rattle.replay_core.specs.Notes.{judged, states_with, decide}
use Rattle.replay_core.specs.Counting.{with_decided, with_event}
use Rattle.replay_core.proofs.Keeping.{written, fits_push, tally_push, judged_inside, event_fits, length-states_with, length-decide}
use Rattle.replay_core.proofs.Rooms.{room_kept}
use Rattle.replay_core.proofs.record.Record.add.Goals as goal
use Rattle.replay_core.proofs.record.Record.add.Goals.{After-as_mut_slice}

allowed : (c : After-as_mut_slice) → Allowed (setup_of c.self.inside.plan (length c.self.inside.states.items)) c.self.inside.events.items c.args.event
allowed c = subst (λ (h : History). Allowed h.setup h.events c.args.event) (sym c.self.view_is) c.requires

decided : (c : After-as_mut_slice) → c.judge-decided.result ≡ judged c.self.inside.states.items c.args.event
decided c = c.judge-decided.ensures ∙ ap (λ s. judged s c.args.event) c.as_slice.ensures.value

pub note_verdict-requires : goal.note_verdict-requires
note_verdict-requires c = λ v h.
    subst (λ xs. v.0 < length xs) (sym c.as_mut_slice.ensures.value)
    (judged_inside _ _ _ _ _ v c.self.invariant.0.keeps (allowed c) (sym (decided c) ∙ h))

pub unreachable-requires : goal.unreachable-requires
unreachable-requires c =
    let fits = event_fits _ _ _ _ _ c.self.invariant.0.keeps (allowed (goal.at.unreachable-requires c).After-as_mut_slice) in
    let room = c.self.invariant.0.room in
    let len : vec_len c.self.inside.events ≡ length c.self.inside.events.items = c.self.inside.events.ok.0 in
    let full : vec_capacity c.self.inside.events ≤ vec_len c.self.inside.events = c.in-Err.ensures.full in
    absurd (omega (arith, fits, room, len, full))

pub invariant_of-self : goal.invariant_of-self
invariant_of-self c =
    let at = (goal.at.invariant_of-self c).After-as_mut_slice in
    let states_are : c.note_state.new.states ≡ states_with c.self.inside.states.items c.args.event = c.note_state.ensures ∙ ap (λ s. states_with s c.args.event) c.as_mut_slice-2.ensures.value in
    let verdicts_are : c.note_verdict.new.verdicts ≡ decide c.self.inside.verdicts.items (judged c.self.inside.states.items c.args.event) =
    c.note_verdict.ensures ∙ (ap (λ vs. decide vs c.judge-decided.result) c.as_mut_slice.ensures.value ∙ ap (decide c.self.inside.verdicts.items) (decided at)) in
    let new_verdicts = written _ _ _ c.self.inside.verdicts.ok.0 (ap length verdicts_are ∙ length-decide _ _) ∙ verdicts_are in
    let counts_are : c.counts_with_decided-self-inside.result ≡ with_decided (with_event c.self.inside.counts c.args.event) (judged c.self.inside.states.items c.args.event) =
    c.counts_with_decided-self-inside.ensures ∙ (ap (λ x. with_decided x c.judge-decided.result) c.counts_with_event.ensures ∙ ap (with_decided (with_event c.self.inside.counts c.args.event)) (decided at)) in (
      fits_push _ _ _ _ _ _ _ _ _ _ c.args.event c.self.invariant.0 (allowed at)
          (written _ _ _ c.self.inside.states.ok.0 (ap length states_are ∙ length-states_with _ c.args.event) ∙ states_are)
          new_verdicts
          c.in-Ok.ensures.items
          c.push.ensures.capacity,
      tally_push _ _ _ _ _ _ c.args.event _ _ c.self.invariant.0.keeps (allowed at) c.self.invariant.1 new_verdicts c.in-Ok.ensures.items counts_are,
    )

pub returns-clause-never_passed : goal.returns-clause-never_passed
returns-clause-never_passed c =
    let at = (goal.at.returns-clause-never_passed c).After-as_mut_slice in
    let states_are : c.note_state.new.states ≡ states_with c.self.inside.states.items c.args.event = c.note_state.ensures ∙ ap (λ s. states_with s c.args.event) c.as_mut_slice-2.ensures.value in
    room_kept _ c.self.inside.states.items _ _ c.self.inside.events.items _ c.args.event c.self.invariant.0.keeps (allowed at)
    (written _ _ _ c.self.inside.states.ok.0 (ap length states_are ∙ length-states_with _ c.args.event) ∙ states_are)
    c.in-Ok.ensures.items
