-- How many starts a log has.
use Rattle.std.proofs.Common.{ℕ, suc, ◌≡◌, ◌+◌, Bool, true, false, cond, List, [], ◌∷◌, ◌++◌, map, length, length-append, refl, ap, sym, ◌∙◌, inl, inr, ◌⊎◌, subst, subst₂, arith}
use Rattle.std.specs.Prelude.{filter, count_by}
use Rattle.std.proofs.lemmas.List.{append-nil}
use Rattle.std.proofs.lemmas.List.Elements.{filter-append}
use Rattle.std.proofs.lemmas.List.Sums.{length-filter}
use Rattle.replay_core.specs.declared.event.Event.{Event}
use Rattle.replay_core.specs.declared.event.Event.TheVariants.{Start, Reply, Death, Restart, Retire}
use Rattle.replay_core.specs.Counting.{is_restart, is_retirement}
use Rattle.slot_log.specs.declared.note.SlotNote.{SlotNote}
use Rattle.slot_log.specs.declared.note.SlotNote.TheVariants.{Started, NotStarted, Sent, Got, Died, Stopped}
use Rattle.slot_log.specs.Works.{Orders, work_of, load_frame, do_frame}
use Rattle.slot_log.specs.Telling.{loads_sent, Asks, Phase, NotYet, Working, Fallen, Over, Group, first_start, no_start, answered, gone_early, gone, wrong, restarted, not_restarted, quit, died_at_quit, Tells, nothing, more, Told}
use Rattle.slot_log.specs.Laws.{is_start, is_failed_start, StartsAreTold}

-- the test passes no note of a worker that runs or ends
record IsQuiet (p : SlotNote → Bool) : Type 0 where
  sent : (frame : List ℕ) → p (Sent frame) ≡ false
  got : (bytes : List ℕ) → p (Got bytes) ≡ false
  died : p Died ≡ false
  stopped : p Stopped ≡ false

skips : {X : Type 0} → (p : X → Bool) (x : X) (xs : List X) → p x ≡ false → filter p (x ∷ xs) ≡ filter p xs
skips p x xs h = ap (λ b. cond b (x ∷ filter p xs) (filter p xs)) h

quiet_map : {X : Type 0} → (p : SlotNote → Bool) (f : X → SlotNote) (xs : List X) → ((x : X) → p (f x) ≡ false) → filter p (map f xs) ≡ []
quiet_map p f [] h = refl
quiet_map p f (x ∷ xs) h = skips p (f x) (map f xs) (h x) ∙ quiet_map p f xs h

quiet_both : (p : SlotNote → Bool) (xs ys : List SlotNote) → filter p xs ≡ [] → filter p ys ≡ [] → filter p (xs ++ ys) ≡ []
quiet_both p xs ys a b = filter-append p xs ys ∙ (ap (λ zs. zs ++ filter p ys) a ∙ b)

quiet_last : (p : SlotNote → Bool) (xs : List SlotNote) (n : SlotNote) → filter p xs ≡ [] → p n ≡ false → filter p (xs ++ n ∷ []) ≡ []
quiet_last p xs n a b = quiet_both p xs (n ∷ []) a (skips p n [] b)

quiet_loads : (p : SlotNote → Bool) → IsQuiet p → (orders : Orders) (loads : List ℕ) → filter p (loads_sent orders loads) ≡ []
unfolding loads_sent
quiet_loads p q orders loads = quiet_map p (λ j. Sent (load_frame (work_of orders j))) loads (λ j. q.sent (load_frame (work_of orders j)))

quiet_asks : (p : SlotNote → Bool) → IsQuiet p → (orders : Orders) (created : List Bool) (i : ℕ) (loads bytes : List ℕ) (notes : List SlotNote) → Asks orders created i loads bytes notes → filter p notes ≡ []
quiet_asks p q orders created i loads bytes notes a =
    ap (filter p) a.notes_are ∙ quiet_both p (loads_sent orders loads) (Sent (do_frame (work_of orders i)) ∷ map Got a.pieces) (quiet_loads p q orders loads)
    (skips p (Sent (do_frame (work_of orders i))) (map Got a.pieces) (q.sent (do_frame (work_of orders i))) ∙ quiet_map p Got a.pieces q.got)

number : {X : Type 0} → (X → Bool) → List X → ℕ
number p xs = length (filter p xs)

number_both : {X : Type 0} → (p : X → Bool) (xs ys : List X) → number p (xs ++ ys) ≡ number p xs + number p ys
unfolding number
number_both p xs ys = ap length (filter-append p xs ys) ∙ length-append (filter p xs) (filter p ys)

quiet_number : (p : SlotNote → Bool) (notes : List SlotNote) → filter p notes ≡ [] → number p notes ≡ 0
unfolding number
quiet_number p notes e = ap length e

failed_quiet : IsQuiet is_failed_start
failed_quiet = record { sent = λ f. refl; got = λ b. refl; died = refl; stopped = refl }

start_quiet : IsQuiet is_start
start_quiet = record { sent = λ f. refl; got = λ b. refl; died = refl; stopped = refl }

failed_group : (orders : Orders) (w : ℕ) (phase next : Phase) (these : List Event) (group : List SlotNote) → Group orders w phase these group next → number is_failed_start group ≡ number is_retirement these
unfolding number
failed_group orders w phase next these group first_start = refl
failed_group orders w phase next these group no_start = refl
failed_group orders w phase next these group (answered created i code loads notes a) = quiet_number is_failed_start notes (quiet_asks is_failed_start failed_quiet orders created i loads _ notes a)
failed_group orders w phase next these group (gone_early created i loads some) = quiet_number is_failed_start (loads_sent orders loads ++ Died ∷ []) (quiet_last is_failed_start (loads_sent orders loads) Died (quiet_loads is_failed_start failed_quiet orders loads) refl)
failed_group orders w phase next these group (gone created i loads bytes notes a u) = quiet_number is_failed_start (notes ++ Died ∷ []) (quiet_last is_failed_start notes Died (quiet_asks is_failed_start failed_quiet orders created i loads bytes notes a) refl)
failed_group orders w phase next these group (wrong created i loads bytes notes a u) = quiet_number is_failed_start (notes ++ Stopped ∷ []) (quiet_last is_failed_start notes Stopped (quiet_asks is_failed_start failed_quiet orders created i loads bytes notes a) refl)
failed_group orders w phase next these group restarted = refl
failed_group orders w phase next these group not_restarted = refl
failed_group orders w phase next these group (quit created) = refl
failed_group orders w phase next these group (died_at_quit created) = refl

failed_all : (orders : Orders) (w : ℕ) (from phase : Phase) (events : List Event) (notes : List SlotNote) → Tells orders w from events notes phase → number is_failed_start notes ≡ number is_retirement events
unfolding number
failed_all orders w from phase events notes nothing = refl
failed_all orders w from phase events notes (more es ns mid these group next t g) =
    let before = failed_all orders w from mid es ns t in
    let here = failed_group orders w mid next these group g in
    number_both is_failed_start ns group ∙ (ap (λ n. n + number is_failed_start group) before ∙ (ap (λ n. number is_retirement es + n) here ∙ sym (number_both is_retirement es these)))

abbrev NoWorkerEver : ℕ → List Event → List SlotNote → Type 0
NoWorkerEver w events notes = (events ≡ Retire w ∷ []) × (notes ≡ NotStarted ∷ [])

-- how many workers were started, by the phase
StartsSo : ℕ → Phase → List Event → List SlotNote → Type 0
StartsSo w NotYet events notes = (events ≡ []) × (notes ≡ [])
StartsSo w (Working created) events notes = number is_start notes ≡ suc (number is_restart events)
StartsSo w Fallen events notes = number is_start notes ≡ suc (number is_restart events)
StartsSo w Over events notes = (number is_start notes ≡ suc (number is_restart events)) ⊎ NoWorkerEver w events notes

more_starts : (es these : List Event) (ns group : List SlotNote) → number is_start ns ≡ suc (number is_restart es) → number is_start group ≡ number is_restart these → number is_start (ns ++ group) ≡ suc (number is_restart (es ++ these))
more_starts es these ns group a b =
    let x = number_both is_start ns group in
    let y = number_both is_restart es these in
    omega arith

starts_group : (orders : Orders) (w : ℕ) (phase next : Phase) (es these : List Event) (ns group : List SlotNote) → Group orders w phase these group next → StartsSo w phase es ns → StartsSo w next (es ++ these) (ns ++ group)
unfolding StartsSo number
starts_group orders w phase next es these ns group first_start s = subst₂ (λ xs ys. number is_start (ys ++ Started ∷ []) ≡ suc (number is_restart (xs ++ []))) (sym s.0) (sym s.1) one
  where
    one : number is_start (Started ∷ []) ≡ suc (number is_restart [])
    one = refl
starts_group orders w phase next es these ns group no_start s = inr (ap (λ xs. xs ++ Retire w ∷ []) s.0, ap (λ xs. xs ++ NotStarted ∷ []) s.1)
starts_group orders w phase next es these ns group (answered created i code loads notes a) s = more_starts es these ns group s (quiet_number is_start notes (quiet_asks is_start start_quiet orders created i loads _ notes a))
starts_group orders w phase next es these ns group (gone_early created i loads some) s = more_starts es these ns group s (quiet_number is_start (loads_sent orders loads ++ Died ∷ []) (quiet_last is_start (loads_sent orders loads) Died (quiet_loads is_start start_quiet orders loads) refl))
starts_group orders w phase next es these ns group (gone created i loads bytes notes a u) s = more_starts es these ns group s (quiet_number is_start (notes ++ Died ∷ []) (quiet_last is_start notes Died (quiet_asks is_start start_quiet orders created i loads bytes notes a) refl))
starts_group orders w phase next es these ns group (wrong created i loads bytes notes a u) s = more_starts es these ns group s (quiet_number is_start (notes ++ Stopped ∷ []) (quiet_last is_start notes Stopped (quiet_asks is_start start_quiet orders created i loads bytes notes a) refl))
starts_group orders w phase next es these ns group restarted s = more_starts es these ns group s same
  where
    same : number is_start (Started ∷ []) ≡ number is_restart (Restart w ∷ [])
    same = refl
starts_group orders w phase next es these ns group not_restarted s = inl (more_starts es these ns group s same)
  where
    same : number is_start (NotStarted ∷ []) ≡ number is_restart (Retire w ∷ [])
    same = refl
starts_group orders w phase next es these ns group (quit created) s = inl (more_starts es these ns group s same)
  where
    same : number is_start group ≡ number is_restart []
    same = refl
starts_group orders w phase next es these ns group (died_at_quit created) s = inl (more_starts es these ns group s same)
  where
    same : number is_start (Died ∷ []) ≡ number is_restart []
    same = refl

starts_all : (orders : Orders) (w : ℕ) (phase : Phase) (events : List Event) (notes : List SlotNote) → Tells orders w NotYet events notes phase → StartsSo w phase events notes
unfolding StartsSo
starts_all orders w phase events notes nothing = (refl, refl)
starts_all orders w phase events notes (more es ns mid these group next t g) = starts_group orders w mid next es these ns group g (starts_all orders w mid es ns t)

pub starts_are_told : StartsAreTold
unfolding StartsSo number
starts_are_told = record {
  started = λ orders w events notes told. elim (starts_all orders w Over events notes told) [
    | inl many ↦ inl (sym (length-filter is_start notes) ∙ (many ∙ ap suc (length-filter is_restart events)))
    | inr none ↦ inr none
  ];
  failed = λ orders w events notes told. sym (length-filter is_failed_start notes) ∙ (failed_all orders w NotYet Over events notes told ∙ length-filter is_retirement events);
}
