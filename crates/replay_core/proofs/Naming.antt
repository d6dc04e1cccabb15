-- The events that name a slot say what it does.
use Rattle.std.proofs.Common.{ℕ, ◌≡◌, ◌≢◌, Bool, true, false, cond, eqb, List, [], ◌∷◌, ◌++◌, refl, ap, sym, ◌∙◌}
use Rattle.std.specs.Prelude.{All}
use Rattle.std.specs.List.{filter, fold}
use Rattle.std.proofs.lemmas.Bool.{eq-eqb, ne_eqb}
use Rattle.std.proofs.lemmas.List.Elements.{filter-append, All-head, All-tail}
use Rattle.std.proofs.lemmas.List.{append-nil}
use Rattle.replay_core.specs.declared.event.Event.{Event}
use Rattle.replay_core.specs.declared.event.Event.TheVariants.{Start, Reply, Death, Restart, Retire, Miss}
use Rattle.replay_core.specs.declared.event.SlotState.{SlotState}
use Rattle.replay_core.specs.declared.event.SlotState.TheVariants.{Idle}
use Rattle.replay_core.specs.declared.answer.Next.{Next}
use Rattle.replay_core.specs.declared.answer.Next.TheVariants as answers
use Rattle.replay_core.specs.Runs.{slot_at, names, next_state, state_after}
use Rattle.replay_core.specs.Histories.{History}
use Rattle.replay_core.specs.Turns.{started, IsMiss, IsAnswer, TakesTurn}
use Rattle.replay_core.specs.Laws.{SlotEvents}

fold_filter : (w : ℕ) (z : SlotState) (es : List Event) → fold (next_state w) z (filter (names w) es) ≡ fold (next_state w) z es
fold_filter w z [] = refl
fold_filter w z (e ∷ es) = cases (names w e) refl (λ s. fold_filter w s es)
  where
    cases : (b : Bool) → names w e ≡ b → ((s : SlotState) → fold (next_state w) s (filter (names w) es) ≡ fold (next_state w) s es) → fold (next_state w) z (filter (names w) (e ∷ es)) ≡ fold (next_state w) (next_state w z e) es
    cases true h ih = ap (λ b. fold (next_state w) z (cond b (e ∷ filter (names w) es) (filter (names w) es))) h ∙ ih (next_state w z e)
    cases false h ih = ap (λ b. fold (next_state w) z (cond b (e ∷ filter (names w) es) (filter (names w) es))) h ∙ (ih z ∙ ap (λ s. fold (next_state w) s es) (sym (ap (λ b. cond b (state_after e) z) h)))

slot_at-named : (es : List Event) (w : ℕ) → slot_at (filter (names w) es) w ≡ slot_at es w
unfolding slot_at
slot_at-named es w = fold_filter w Idle es

no_miss_named : (w : ℕ) (e : Event) → IsMiss e → names w e ≡ false
no_miss_named w (Start v i) h = absurd h
no_miss_named w (Reply v i c) h = absurd h
no_miss_named w (Death v) h = absurd h
no_miss_named w (Restart v) h = absurd h
no_miss_named w (Retire v) h = absurd h
no_miss_named w (Miss i p) h = refl

misses_named : (w : ℕ) (es : List Event) → All IsMiss es → filter (names w) es ≡ []
misses_named w [] h = refl
misses_named w (e ∷ es) h = ap (λ b. cond b (e ∷ filter (names w) es) (filter (names w) es)) (no_miss_named w e (All-head IsMiss e es h)) ∙ misses_named w es (All-tail IsMiss e es h)

one_named : (w : ℕ) (es : List Event) (e : Event) → names w e ≡ true → filter (names w) (es ++ e ∷ []) ≡ filter (names w) es ++ e ∷ []
one_named w es e h = filter-append (names w) es (e ∷ []) ∙ ap (λ x. filter (names w) es ++ x) (ap (λ b. cond b (e ∷ []) []) h)

own : (w : ℕ) → eqb w w ≡ true
own w = eq-eqb w w refl

-- what a turn adds to the events that name its slot
turn_named : (old new : History) (w : ℕ) (answer : Next) → TakesTurn old w answer new → filter (names w) new.events ≡ filter (names w) old.events ++ started w answer
turn_named old new w answer t = cases answer t.told
  where
    before : filter (names w) t.between.events ≡ filter (names w) old.events
    before = ap (λ h. filter (names w) h.events) t.misses.new_is ∙ (filter-append (names w) old.events t.misses.misses ∙ (ap (λ x. filter (names w) old.events ++ x) (misses_named w t.misses.misses t.misses.only_misses) ∙ append-nil (filter (names w) old.events)))

    cases : (n : Next) → IsAnswer t.between w n new → filter (names w) new.events ≡ filter (names w) old.events ++ started w n
    cases answers.Finished d = ap (λ h. filter (names w) h.events) d.1 ∙ (before ∙ sym (append-nil (filter (names w) old.events)))
    cases (answers.Work item) d = ap (λ h. filter (names w) h.events) d.1 ∙ (one_named w t.between.events (Start w item) (own w) ∙ ap (λ x. x ++ Start w item ∷ []) before)
    cases answers.Idle d = ap (λ h. filter (names w) h.events) d.3 ∙ (before ∙ sym (append-nil (filter (names w) old.events)))

turn_setup : (old new : History) (w : ℕ) (answer : Next) → TakesTurn old w answer new → new.setup ≡ old.setup
turn_setup old new w answer t = cases answer t.told
  where
    cases : (n : Next) → IsAnswer t.between w n new → new.setup ≡ old.setup
    cases answers.Finished d = ap (λ h. h.setup) d.1 ∙ ap (λ h. h.setup) t.misses.new_is
    cases (answers.Work item) d = ap (λ h. h.setup) d.1 ∙ ap (λ h. h.setup) t.misses.new_is
    cases answers.Idle d = ap (λ h. h.setup) d.3 ∙ ap (λ h. h.setup) t.misses.new_is

one_unnamed : (w : ℕ) (es : List Event) (e : Event) → names w e ≡ false → filter (names w) (es ++ e ∷ []) ≡ filter (names w) es
one_unnamed w es e h = filter-append (names w) es (e ∷ []) ∙ (ap (λ b. filter (names w) es ++ cond b (e ∷ []) []) h ∙ append-nil (filter (names w) es))

-- a turn of another slot adds nothing to the events that name a slot
other_turn : (old new : History) (v w : ℕ) (answer : Next) → v ≢ w → TakesTurn old v answer new → filter (names w) new.events ≡ filter (names w) old.events
other_turn old new v w answer apart t = cases answer t.told
  where
    before : filter (names w) t.between.events ≡ filter (names w) old.events
    before = ap (λ (h : History). filter (names w) h.events) t.misses.new_is ∙ (filter-append (names w) old.events t.misses.misses ∙ (ap (λ x. filter (names w) old.events ++ x) (misses_named w t.misses.misses t.misses.only_misses) ∙ append-nil (filter (names w) old.events)))

    cases : (n : Next) → IsAnswer t.between v n new → filter (names w) new.events ≡ filter (names w) old.events
    cases answers.Finished d = ap (λ (h : History). filter (names w) h.events) d.1 ∙ before
    cases (answers.Work item) d = ap (λ (h : History). filter (names w) h.events) d.1 ∙ (one_unnamed w t.between.events (Start v item) (ne_eqb v w apart) ∙ before)
    cases answers.Idle d = ap (λ (h : History). filter (names w) h.events) d.3 ∙ before

pub slot_events : SlotEvents
slot_events = record {
  state = slot_at-named;
  turn = turn_named;
  other_turn = other_turn;
  turn_setup = turn_setup;
  event = λ old new w e h is. ap (λ (x : History). filter (names w) x.events) is ∙ one_named w old.events e h;
  other_event = λ old new w e h is. ap (λ (x : History). filter (names w) x.events) is ∙ one_unnamed w old.events e h;
}
