-- One group of notes after another, and what the events say of the slot.
use Rattle.std.proofs.Common.{ℕ, suc, ◌≡◌, ◌+◌, ◌<◌, ◌≤◌, Bool, true, cond, eqb, List, [], ◌∷◌, ◌++◌, length, length-append, Option, refl, ap, sym, ◌∙◌, subst, subst₂, inl, inr, append_assoc, arith}
use Rattle.std.proofs.lemmas.List.{append-nil}
use Rattle.std.proofs.lemmas.List.Sums.{fold_push}
use Rattle.std.proofs.lemmas.Bool.{eq-eqb}
use Rattle.replay_core.specs.declared.event.Event.{Event}
use Rattle.replay_core.specs.declared.event.Event.TheVariants.{Start, Reply, Death, Restart, Retire}
use Rattle.replay_core.specs.declared.event.SlotState.TheVariants.{Idle, Holds, Dead, Retired}
use Rattle.replay_core.specs.Runs.{slot_at, names, next_state, state_after}
use Rattle.slot_log.specs.declared.note.SlotNote.{SlotNote}
use Rattle.slot_log.specs.declared.note.SlotNote.TheVariants.{Started, NotStarted, Sent, Died, Stopped}
use Rattle.slot_log.specs.Works.{Orders, quit_frame}
use Rattle.slot_log.specs.Logs.{grown}
use Rattle.slot_log.specs.Loads.{none_created}
use Rattle.slot_log.specs.Telling.{Phase, NotYet, Working, Fallen, Over, Group, first_start, no_start, restarted, not_restarted, quit, died_at_quit, Tells, nothing, more}
use Rattle.replay_crew.specs.declared.asking.Outcome.{Outcome}
use Rattle.replay_crew.specs.declared.asking.Outcome.TheVariants.{Answered, Gone, Wrong}
use Rattle.replay_crew.specs.Asking.{GrewBy, ended, phase_after}
use Rattle.replay_crew.specs.Steps.{GrewTelling, Carried, Quits, HasTurns, IsTold}
use Rattle.replay_crew.proofs.Loading.{grown_nothing, grown_on}

one : (orders : Orders) (w : ℕ) (from : Phase) (events : List Event) (notes : List SlotNote) (next : Phase) → Group orders w from events notes next → Tells orders w from events notes next
one orders w from events notes next g = more [] [] from events notes next nothing g

tells_then : (orders : Orders) (w : ℕ) (from mid next : Phase) (es fs : List Event) (ns ms : List SlotNote) → Tells orders w from es ns mid → Tells orders w mid fs ms next → Tells orders w from (es ++ fs) (ns ++ ms) next
tells_then orders w from mid next es fs ns ms t nothing = subst₂ (λ xs ys. Tells orders w from xs ys mid) (sym (append-nil es)) (sym (append-nil ns)) t
tells_then orders w from mid next es fs ns ms t (more events notes phase these group last u g) =
    subst₂ (λ xs ys. Tells orders w from xs ys last) (append_assoc es events these) (append_assoc ns notes group) (more (es ++ events) (ns ++ notes) phase these group last (tells_then orders w from mid phase es events ns notes t u) g)

-- one group is added
tell : (orders : Orders) (w : ℕ) (from next : Phase) (events : List Event) (notes : List SlotNote) (before now : Option (List SlotNote)) → now ≡ grown before notes → Group orders w from events notes next → GrewTelling orders w from events before now next
tell orders w from next events notes before now e g = record { notes = notes; log_is = e; tells = one orders w from events notes next g }

-- what is told twice is told once
tell_then : (orders : Orders) (w : ℕ) (from mid next : Phase) (es fs : List Event) (before log now : Option (List SlotNote)) → GrewTelling orders w from es before log mid → GrewTelling orders w mid fs log now next → GrewTelling orders w from (es ++ fs) before now next
tell_then orders w from mid next es fs before log now t u = record {
  notes = t.notes ++ u.notes;
  log_is = grown_on before log now t.notes u.notes t.log_is u.log_is;
  tells = tells_then orders w from mid next es fs t.notes u.notes t.tells u.tells;
}

last_state : (es : List Event) (e : Event) (w : ℕ) → names w e ≡ true → slot_at (es ++ e ∷ []) w ≡ state_after e
unfolding slot_at
last_state es e w h = fold_push (next_state w) Idle es e ∙ ap (λ b. cond b (state_after e) (slot_at es w)) h

own : (w : ℕ) → eqb w w ≡ true
own w = eq-eqb w w refl

pub idle_after_reply : (es now : List Event) (w i c : ℕ) → now ≡ es ++ Reply w i c ∷ [] → slot_at now w ≡ Idle
idle_after_reply es now w i c e = ap (λ x. slot_at x w) e ∙ last_state es (Reply w i c) w (own w)

pub idle_after_restart : (es now : List Event) (w : ℕ) → now ≡ es ++ Restart w ∷ [] → slot_at now w ≡ Idle
idle_after_restart es now w e = ap (λ x. slot_at x w) e ∙ last_state es (Restart w) w (own w)

pub retired_after_retire : (es now : List Event) (w : ℕ) → now ≡ es ++ Retire w ∷ [] → slot_at now w ≡ Retired
retired_after_retire es now w e = ap (λ x. slot_at x w) e ∙ last_state es (Retire w) w (own w)

pub dead_after_death : (es now : List Event) (v w : ℕ) → v ≡ w → now ≡ es ++ Death w ∷ [] → slot_at now v ≡ Dead
dead_after_death es now v w same e = ap (slot_at now) same ∙ (ap (λ x. slot_at x w) e ∙ last_state es (Death w) w (own w))

pub holds_after_start : (es now : List Event) (v w i : ℕ) → v ≡ w → now ≡ es ++ Start w i ∷ [] → slot_at now v ≡ Holds i
holds_after_start es now v w i same e = ap (slot_at now) same ∙ (ap (λ x. slot_at x w) e ∙ last_state es (Start w i) w (own w))

pub idle_at_first : (es : List Event) (w : ℕ) → es ≡ [] → slot_at es w ≡ Idle
unfolding slot_at
idle_at_first es w e = ap (λ x. slot_at x w) e

-- a turn that adds an event, and a wait, leave room for further turns
pub turn_taken : (turns after heard later : ℕ) (es now : List Event) (e : Event) → HasTurns turns heard es → after ≡ turns + 1 → later ≡ heard → now ≡ es ++ e ∷ [] → length now ≤ 3145744 → HasTurns after later now
turn_taken turns after heard later es now e t a h n few =
    let long : length now ≡ length es + 1 = ap length n ∙ length-append es (e ∷ []) in
    let used = t.used in
    let most = t.most in
    record { used = omega arith; few = few; most = omega arith }

pub turn_waited : (turns asked after heard last later : ℕ) (es mid now : List Event) → HasTurns turns heard es → asked ≡ turns + 1 → after ≡ asked → last ≡ heard → last < later → later ≤ 2147483647 → mid ≡ es ++ [] → now ≡ mid → HasTurns after later now
turn_waited turns asked after heard last later es mid now t a b h rose most m n =
    let long : length now ≡ length es = ap length (n ∙ (m ∙ append-nil es)) in
    let used = t.used in
    let few = t.few in
    record { used = omega arith; few = omega arith; most = most }

pub has_turn : (turns heard : ℕ) (es : List Event) → HasTurns turns heard es → turns < 4294967294
has_turn turns heard es t = let used = t.used in let few = t.few in let most = t.most in omega arith

pub no_turn_yet : (turns heard : ℕ) (es : List Event) → turns ≡ 0 → heard ≤ 2147483647 → es ≡ [] → HasTurns turns heard es
no_turn_yet turns heard es z most none = let long : length es ≡ 0 = ap length none in record { used = omega arith; few = omega arith; most = most }

pub not_revived : (orders : Orders) (w : ℕ) (before now : List Event) (log after : Option (List SlotNote)) → now ≡ before ++ Retire w ∷ [] → after ≡ grown log (NotStarted ∷ []) → Carried orders w Fallen [] before now log after Over
not_revived orders w before now log after e l = record { events = Retire w ∷ []; events_are = e; grew = tell orders w Fallen Over (Retire w ∷ []) (NotStarted ∷ []) log after l not_restarted }

pub revived : (orders : Orders) (w : ℕ) (before now : List Event) (log after : Option (List SlotNote)) (created : List Bool) → now ≡ before ++ Restart w ∷ [] → after ≡ grown log (Started ∷ []) → created ≡ none_created orders.plan → Carried orders w Fallen [] before now log after (Working created)
revived orders w before now log after created e l m = record {
  events = Restart w ∷ [];
  events_are = e;
  grew = subst (λ c. GrewTelling orders w Fallen (Restart w ∷ []) log after (Working c)) (sym m) (tell orders w Fallen (Working (none_created orders.plan)) (Restart w ∷ []) (Started ∷ []) log after l restarted);
}

pub carried_reply : (orders : Orders) (w i code : ℕ) (created after : List Bool) (before now : List Event) (log next : Option (List SlotNote)) → GrewBy orders created i (Answered code) log next after → now ≡ before ++ Reply w i code ∷ [] → Carried orders w (Working created) (Start w i ∷ []) before now log next (Working after)
carried_reply orders w i code created after before now log next g e = record {
  events = Reply w i code ∷ [];
  events_are = e;
  grew = tell orders w (Working created) (Working after) (Start w i ∷ Reply w i code ∷ []) g.notes log next g.log_is (g.tells w);
}

-- a death, and then a worker again or none
after_death : (orders : Orders) (v w i : ℕ) (created : List Bool) (notes : List SlotNote) (before mid now : List Event) (log dead last : Option (List SlotNote)) (next : Phase) → dead ≡ grown log notes → Group orders w (Working created) (Start w i ∷ Death w ∷ []) notes Fallen →
    v ≡ w → mid ≡ before ++ Death w ∷ [] → Carried orders v Fallen [] mid now dead last next → Carried orders w (Working created) (Start w i ∷ []) before now log last next
after_death orders v w i created notes before mid now log dead last next l g same e carried =
    let c = subst (λ x. Carried orders x Fallen [] mid now dead last next) same carried in record {
      events = Death w ∷ c.events;
      events_are = c.events_are ∙ (ap (λ x. x ++ c.events) e ∙ append_assoc before (Death w ∷ []) c.events);
      grew = tell_then orders w (Working created) Fallen next (Start w i ∷ Death w ∷ []) c.events log dead last (tell orders w (Working created) Fallen (Start w i ∷ Death w ∷ []) notes log dead l g) c.grew;
    }

pub carried_gone : (orders : Orders) (v w i : ℕ) (created after : List Bool) (before mid now : List Event) (log dead last : Option (List SlotNote)) (next : Phase) → GrewBy orders created i Gone log dead after → v ≡ w → mid ≡ before ++ Death w ∷ [] → Carried orders v Fallen [] mid now dead last next →
    Carried orders w (Working created) (Start w i ∷ []) before now log last next
carried_gone orders v w i created after before mid now log dead last next g = after_death orders v w i created g.notes before mid now log dead last next g.log_is (g.tells w)

pub carried_wrong : (orders : Orders) (v w i : ℕ) (created after : List Bool) (before mid now : List Event) (log dead last : Option (List SlotNote)) (next : Phase) → GrewBy orders created i Wrong log dead after → v ≡ w → mid ≡ before ++ Death w ∷ [] → Carried orders v Fallen [] mid now dead last next →
    Carried orders w (Working created) (Start w i ∷ []) before now log last next
carried_wrong orders v w i created after before mid now log dead last next g = after_death orders v w i created g.notes before mid now log dead last next g.log_is (g.tells w)

-- the beginning, the middle and the end of a slot's loop

pub tell_no_start : (orders : Orders) (w : ℕ) (before now : List Event) (log after : Option (List SlotNote)) → before ≡ [] → now ≡ before ++ Retire w ∷ [] → after ≡ grown log (NotStarted ∷ []) → IsTold orders w now log after
tell_no_start orders w before now log after none e l = record {
  notes = NotStarted ∷ [];
  log_is = l;
  told = subst (λ es. Tells orders w NotYet es (NotStarted ∷ []) Over) (sym (e ∙ ap (λ x. x ++ Retire w ∷ []) none)) (one orders w NotYet (Retire w ∷ []) (NotStarted ∷ []) Over no_start);
}

pub tell_whole : (orders : Orders) (w : ℕ) (events : List Event) (log started after : Option (List SlotNote)) (created : List Bool) → started ≡ grown log (Started ∷ []) → created ≡ none_created orders.plan → GrewTelling orders w (Working created) events started after Over → IsTold orders w events log after
tell_whole orders w events log started after created l m t =
    let rest = subst (λ c. GrewTelling orders w (Working c) events started after Over) m t in
    let whole = tell_then orders w NotYet (Working (none_created orders.plan)) Over [] events log started after (tell orders w NotYet (Working (none_created orders.plan)) [] (Started ∷ []) log started l first_start) rest in
    record { notes = whole.notes; log_is = whole.log_is; told = whole.tells }

pub tell_nothing : (orders : Orders) (w : ℕ) (events : List Event) (log : Option (List SlotNote)) (created : List Bool) → events ≡ [] → GrewTelling orders w (Working created) events log log (Working created)
tell_nothing orders w events log created none = record { notes = []; log_is = grown_nothing log; tells = subst (λ es. Tells orders w (Working created) es [] (Working created)) (sym none) nothing }

pub tell_more : (orders : Orders) (v w : ℕ) (from mid next : Phase) (events untold held now : List Event) (first log after : Option (List SlotNote)) → GrewTelling orders w from events first log mid → v ≡ w → held ≡ events ++ untold → Carried orders v mid untold held now log after next → GrewTelling orders w from now first after next
tell_more orders v w from mid next events untold held now first log after t same e carried =
    let c = subst (λ x. Carried orders x mid untold held now log after next) same carried in
    let all = c.events_are ∙ (ap (λ x. x ++ c.events) e ∙ append_assoc events untold c.events) in
    subst (λ es. GrewTelling orders w from es first after next) (sym all) (tell_then orders w from mid next events (untold ++ c.events) first log after t c.grew)

pub tell_same : (orders : Orders) (w : ℕ) (from next : Phase) (events now : List Event) (first log : Option (List SlotNote)) → now ≡ events ++ [] → GrewTelling orders w from events first log next → GrewTelling orders w from now first log next
tell_same orders w from next events now first log e t = subst (λ es. GrewTelling orders w from es first log next) (sym (e ∙ append-nil events)) t

pub tell_quit : (orders : Orders) (w : ℕ) (from : Phase) (created : List Bool) (events : List Event) (first log after : Option (List SlotNote)) → GrewTelling orders w from events first log (Working created) → Quits log after → GrewTelling orders w from events first after Over
tell_quit orders w from created events first log after t q =
    elim q [
      | inl stopped ↦ ends (Sent quit_frame ∷ Stopped ∷ []) stopped (quit created)
      | inr died ↦ ends (Died ∷ []) died (died_at_quit created)
    ]
  where
    ends : (notes : List SlotNote) → after ≡ grown log notes → Group orders w (Working created) [] notes Over → GrewTelling orders w from events first after Over
    ends notes e g = subst (λ es. GrewTelling orders w from es first after Over) (append-nil events) (tell_then orders w from (Working created) Over events [] first log after t (tell orders w (Working created) Over [] notes log after e g))
