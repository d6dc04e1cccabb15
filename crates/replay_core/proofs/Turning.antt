-- What a slot that asks for work is told.
use Rattle.std.proofs.Common.{ℕ, zero, suc, ◌≡◌, ◌≢◌, ◌<◌, Bool, cond, eqb, List, [], ◌∷◌, ◌++◌, length, Option, Some, None, refl, ap, sym, ◌∙◌, subst, inl, inr, ◌⊎◌, arith, append_assoc, get_or}
use Rattle.std.specs.Prelude.{All, slice_get, IsSomeAnd}
use Rattle.std.proofs.lemmas.List.{append-nil}
use Rattle.std.proofs.lemmas.Bool.{cases_Bool, eqb-true}
use Rattle.std.proofs.lemmas.List.Elements.{All-nil, All-head, All-tail, All-push, All-append}
use Rattle.replay_core.specs.declared.plan.Plan.{Plan}
use Rattle.replay_core.specs.declared.plan.Dep.{Dep}
use Rattle.replay_core.specs.declared.plan.Dep.TheVariants.{Item, Absent}
use Rattle.replay_core.specs.declared.event.Event.{Event}
use Rattle.replay_core.specs.declared.event.Event.TheVariants.{Start, Reply, Death, Restart, Retire, Miss}
use Rattle.replay_core.specs.declared.event.Verdict.{Verdict}
use Rattle.replay_core.specs.declared.event.Verdict.TheVariants.{Done}
use Rattle.replay_core.specs.declared.event.SlotState.{SlotState}
use Rattle.replay_core.specs.declared.event.SlotState.TheVariants.{Idle, Holds, Dead, Retired}
use Rattle.replay_core.specs.Plans.{deps_of}
use Rattle.replay_core.specs.Runs.{Setup, next_state, slot_at, verdict_of, IsMet, IsLost, Allowed, GoesOn, NoStart, NoMiss, SomeHeld, AllDecided, IsRun}
use Rattle.replay_core.specs.Histories.{History, with_events, room_of}
use Rattle.replay_core.specs.Notes.{Keeps, FitsTogether}
use Rattle.replay_core.specs.Turns.{IsMiss, AddsMisses, SomeUndecided}
use Rattle.replay_core.proofs.Steps.{GoesOn-push, GoesOn-append, slot_at-push, verdict_of-push, earlier}
use Rattle.replay_core.proofs.Sound.{run_is_sound}
use Rattle.replay_core.proofs.Keeping.{event_fits, inside_unless_idle}
use Rattle.replay_core.proofs.Viewing.{seen, not_idle_holds}
use Rattle.replay_core.proofs.Ends.{stuck_is_done}

pub misses_nil : (h : History) → AddsMisses h h
unfolding GoesOn
misses_nil h = record { misses = []; only_misses = All-nil IsMiss; allowed = tt; new_is = ap (λ es. record { setup = h.setup; events = es }) (sym (append-nil h.events)) }

pub misses_push : (old mid new : History) (i p : ℕ) → AddsMisses old mid → Allowed mid.setup mid.events (Miss i p) → new ≡ with_events mid (Miss i p ∷ []) → AddsMisses old new
misses_push old mid new i p a allowed is = record {
  misses = a.misses ++ Miss i p ∷ [];
  only_misses = All-push IsMiss a.misses (Miss i p) a.only_misses tt;
  allowed = GoesOn-push old.setup old.events a.misses (Miss i p) a.allowed (subst (λ (h : History). Allowed h.setup h.events (Miss i p)) a.new_is allowed);
  new_is = is ∙ (ap (λ (h : History). with_events h (Miss i p ∷ [])) a.new_is ∙ ap (λ es. record { setup = old.setup; events = es }) (append_assoc old.events a.misses (Miss i p ∷ [])));
}

unmoved : (w : ℕ) (state : SlotState) (e : Event) → IsMiss e → next_state w state e ≡ state
unmoved w state (Start v i) h = absurd h
unmoved w state (Reply v i c) h = absurd h
unmoved w state (Death v) h = absurd h
unmoved w state (Restart v) h = absurd h
unmoved w state (Retire v) h = absurd h
unmoved w state (Miss i p) h = refl

slot_at-misses : (es misses : List Event) (w : ℕ) → All IsMiss misses → slot_at (es ++ misses) w ≡ slot_at es w
slot_at-misses es [] w h = ap (λ xs. slot_at xs w) (append-nil es)
slot_at-misses es (e ∷ misses) w h =
    ap (λ xs. slot_at xs w) (sym (append_assoc es (e ∷ []) misses))
    ∙ (slot_at-misses (es ++ e ∷ []) misses w (All-tail IsMiss e misses h)
    ∙ (slot_at-push es e w ∙ unmoved w (slot_at es w) e (All-head IsMiss e misses h)))

-- misses leave slots as they are
pub slot_after_misses : (old new : History) (w : ℕ) (state : SlotState) → AddsMisses old new → slot_at old.events w ≡ state → slot_at new.events w ≡ state
slot_after_misses old new w state a h = ap (λ (x : History). slot_at x.events w) a.new_is ∙ (slot_at-misses old.events a.misses w a.only_misses ∙ h)

pub slots_after_misses : (old new : History) (w : ℕ) → AddsMisses old new → w < old.setup.slots → w < new.setup.slots
slots_after_misses old new w a l = subst (λ (x : History). w < x.setup.slots) (sym a.new_is) l

earlier_none : (o : Option Verdict) → earlier o None ≡ o
earlier_none None = refl
earlier_none (Some v) = refl

verdict_after_start : (s : Setup) (es : List Event) (w i j : ℕ) → verdict_of s (es ++ Start w i ∷ []) j ≡ verdict_of s es j
verdict_after_start s es w i j = verdict_of-push s es (Start w i) j ∙ earlier_none (verdict_of s es j)

met_before_start : (s : Setup) (es : List Event) (w i : ℕ) (d : Dep) → IsMet s (es ++ Start w i ∷ []) d → IsMet s es d
met_before_start s es w i (Item j) h = sym (verdict_after_start s es w i j) ∙ h
met_before_start s es w i (Absent key) h = h

lost_before_start : (s : Setup) (es : List Event) (w i : ℕ) (d : Dep) → IsLost s (es ++ Start w i ∷ []) d → IsLost s es d
lost_before_start s es w i (Item j) h = elim h [ inl f ↦ inl f | inr y ↦ inr (subst (λ o. IsSomeAnd o (λ v. v ≢ Done 0)) (verdict_after_start s es w i j) y) ]
lost_before_start s es w i (Absent key) h = h

lost_at_before_start : (s : Setup) (es : List Event) (w i : ℕ) (o : Option Dep) → IsSomeAnd o (IsLost s (es ++ Start w i ∷ [])) → IsSomeAnd o (IsLost s es)
lost_at_before_start s es w i None h = h
lost_at_before_start s es w i (Some d) h = lost_before_start s es w i d h

held_after_start : (es : List Event) (w i v j : ℕ) → slot_at es w ≡ Idle → slot_at es v ≡ Holds j → slot_at (es ++ Start w i ∷ []) v ≡ Holds j
held_after_start es w i v j idle h =
    slot_at-push es (Start w i) v ∙
    elim (cases_Bool (eqb w v)) [
      | inl same ↦ absurd (let e : w ≡ v = eqb-true w v same in let held : slot_at es w ≡ Holds j = ap (slot_at es) e ∙ h in let wrong : Idle ≡ Holds j = sym idle ∙ held in cc)
      | inr apart ↦ ap (λ b. cond b (Holds i) (slot_at es v)) apart ∙ h
    ]

-- a start allows no miss that was not allowed before
pub no_miss_after_start : (s : Setup) (es : List Event) (w i : ℕ) → NoMiss s es → Allowed s es (Start w i) → NoMiss s (es ++ Start w i ∷ [])
no_miss_after_start s es w i none a j p miss =
    none j p (record {
      waiting = record {
        in_plan = miss.waiting.in_plan;
        undecided = sym (verdict_after_start s es w i j) ∙ miss.waiting.undecided;
        in_no_hands = λ v h. miss.waiting.in_no_hands v (held_after_start es w i v j a.idle h);
      };
      met = λ k d l. met_before_start s es w i _ (miss.met k d l);
      lost = lost_at_before_start s es w i (slice_get (deps_of s.plan j) p) miss.lost;
    })

pub undecided_after_start : (s : Setup) (es : List Event) (w i : ℕ) → Allowed s es (Start w i) → AllDecided s (es ++ Start w i ∷ []) → ⊥
undecided_after_start s es w i a all = all i a.waiting.in_plan (verdict_after_start s es w i i ∙ a.waiting.undecided)

-- some slot of the list holds an item
abbrev pub HeldIn : List SlotState → Type 0
HeldIn states = (w : ℕ) × ((i : ℕ) × (w < length states) × (get_or states w Idle ≡ Holds i))

later : (state : SlotState) (states : List SlotState) → ((i : ℕ) → state ≡ Holds i → ⊥) → HeldIn states ⊎ (HeldIn states → ⊥) → HeldIn (state ∷ states) ⊎ (HeldIn (state ∷ states) → ⊥)
later state states not here =
    elim here [ inl h ↦ inl (suc h.0, (h.1.0, omega (arith, h.1.1), h.1.2)) | inr n ↦ inr (λ h. below h.0 h.1.0 h.1.1 h.1.2 n) ]
  where
    below : (w i : ℕ) → w < length (state ∷ states) → get_or (state ∷ states) w Idle ≡ Holds i → (HeldIn states → ⊥) → ⊥
    below zero i l e n = not i e
    below (suc w) i l e n = n (w, (i, omega arith, e))

pub held_or_not : (states : List SlotState) → HeldIn states ⊎ (HeldIn states → ⊥)
held_or_not [] = inr (λ h. absurd (omega (arith, h.1.1)))
held_or_not (Holds j ∷ states) = inl (0, (j, omega arith, refl))
held_or_not (Idle ∷ states) = later Idle states (λ i e. cc) (held_or_not states)
held_or_not (Dead ∷ states) = later Dead states (λ i e. cc) (held_or_not states)
held_or_not (Retired ∷ states) = later Retired states (λ i e. cc) (held_or_not states)

some_held : (s : Setup) (es : List Event) (states : List SlotState) (verdicts : List (Option Verdict)) → Keeps s es states verdicts → SomeHeld es ⊎ (SomeHeld es → ⊥)
some_held s es states verdicts k =
    elim (held_or_not states) [
      | inl h ↦ inl (h.0, (h.1.0, (let inside : h.0 < s.slots = omega (arith, k.slots, h.1.1) in sym (k.each_state h.0 inside) ∙ h.1.2)))
      | inr n ↦ inr (λ h. (let inside : h.0 < s.slots = inside_unless_idle s es states verdicts h.0 k (λ idle. not_idle_holds h.1.0 (sym h.1.1 ∙ idle)) in n (h.0, (h.1.0, omega (arith, k.slots, inside), k.each_state h.0 inside ∙ h.1.1))))
    ]

-- where nothing can start or be missing and not all is decided, a slot holds an undecided item
pub idle_for : (plan : Plan) (marks : List Bool) (states : List SlotState) (verdicts : List (Option Verdict)) (es : List Event) (capacity : ℕ) (h : History) (w : ℕ) →
    FitsTogether plan marks states verdicts es capacity → seen plan states es ≡ h → w < h.setup.slots → slot_at h.events w ≡ Idle → NoStart h.setup h.events w → NoMiss h.setup h.events → (AllDecided h.setup h.events → ⊥) →
    SomeUndecided h.setup h.events × SomeHeld h.events
idle_for plan marks states verdicts es capacity h w fits is inside idle no_start no_miss undecided =
    subst (λ (h : History). w < h.setup.slots → slot_at h.events w ≡ Idle → NoStart h.setup h.events w → NoMiss h.setup h.events → (AllDecided h.setup h.events → ⊥) → SomeUndecided h.setup h.events × SomeHeld h.events) is
    (λ inside idle no_start no_miss undecided.
    elim (some_held _ es states verdicts fits.keeps) [
      | inl held ↦ (let sound = run_is_sound _ es fits.keeps.run in ((held.1.0, sound.held_in_plan held.0 held.1.0 held.1.1, sound.held_undecided held.0 held.1.0 held.1.1), held))
      | inr none ↦ absurd (undecided (stuck_is_done _ es w inside idle no_start no_miss none))
    ])
    inside idle no_start no_miss undecided

pub miss_fits : (plan : Plan) (marks : List Bool) (states : List SlotState) (verdicts : List (Option Verdict)) (es : List Event) (capacity : ℕ) (h : History) (e : Event) →
    FitsTogether plan marks states verdicts es capacity → seen plan states es ≡ h → Allowed h.setup h.events e → length h.events < room_of h.setup
miss_fits plan marks states verdicts es capacity h e fits is a =
    subst (λ (h : History). Allowed h.setup h.events e → length h.events < room_of h.setup) is (event_fits _ es states verdicts e fits.keeps) a

pub hands_seen : (plan : Plan) (marks : List Bool) (states : List SlotState) (verdicts : List (Option Verdict)) (es : List Event) (capacity : ℕ) (h : History) →
    FitsTogether plan marks states verdicts es capacity → seen plan states es ≡ h → SomeHeld h.events ⊎ (SomeHeld h.events → ⊥)
hands_seen plan marks states verdicts es capacity h fits is = subst (λ (h : History). SomeHeld h.events ⊎ (SomeHeld h.events → ⊥)) is (some_held _ es states verdicts fits.keeps)

pub misses_join : (a b c : History) → AddsMisses a b → AddsMisses b c → AddsMisses a c
misses_join a b c x y = record {
  misses = x.misses ++ y.misses;
  only_misses = All-append IsMiss x.misses y.misses x.only_misses y.only_misses;
  allowed = GoesOn-append a.setup a.events x.misses y.misses x.allowed (subst (λ (h : History). GoesOn h.setup h.events y.misses) x.new_is y.allowed);
  new_is = y.new_is ∙ (ap (λ (h : History). with_events h y.misses) x.new_is ∙ ap (λ es. record { setup = a.setup; events = es }) (append_assoc a.events x.misses y.misses));
}

pub run_seen : (plan : Plan) (marks : List Bool) (states : List SlotState) (verdicts : List (Option Verdict)) (es : List Event) (capacity : ℕ) (h : History) →
    FitsTogether plan marks states verdicts es capacity → seen plan states es ≡ h → IsRun h.setup h.events
run_seen plan marks states verdicts es capacity h fits is = subst (λ (h : History). IsRun h.setup h.events) is fits.keeps.run
