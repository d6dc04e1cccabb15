-- What came of asking a worker for an item.
use Rattle.std.proofs.Common.{ℕ, ◌≡◌, ◌≢◌, Bool, true, cond, List, [], ◌∷◌, ◌++◌, Option, Some, None, refl, ap, sym, ◌∙◌, subst, set, map, append_assoc}
use Rattle.std.proofs.lemmas.Bool.{eq-eqb, ne_eqb}
use Rattle.std.proofs.lemmas.List.{append-nil}
use Rattle.std.specs.List.{concat}
use Rattle.foz_words.specs.declared.key.Key.{Key}
use Rattle.worker_msg.specs.Frames.{spelling}
use Rattle.worker_msg.specs.declared.msg.Msg.TheVariants as msg
use Rattle.slot_log.specs.declared.note.SlotNote.{SlotNote}
use Rattle.slot_log.specs.declared.note.SlotNote.TheVariants.{Sent, Got, Died, Stopped}
use Rattle.slot_log.specs.Works.{Orders, work_of, do_frame, reply_frame}
use Rattle.slot_log.specs.Logs.{grown}
use Rattle.slot_log.specs.Loads.{creating, created_after}
use Rattle.slot_log.specs.Answers.{IsWrong}
use Rattle.slot_log.specs.Telling.{loads_sent, Asks, answered, gone_early, gone, wrong, Phase, Working, Group}
use Rattle.replay_core.specs.declared.event.Event.TheVariants.{Start, Reply}
use Rattle.replay_crew.specs.declared.asking.Outcome.TheVariants.{Answered, Gone, Wrong}
use Rattle.replay_crew.specs.Asking.{HasLoaded, HasAnswered, JustAsked, GrewBy}
use Rattle.replay_crew.proofs.Loading.{grown_on}

-- what was sent for item i, once the loads and the Do were
sent_for : Orders → List ℕ → ℕ → List SlotNote
sent_for orders loads i = loads_sent orders loads ++ Sent (do_frame (work_of orders i)) ∷ []

just_asked_at : (orders : Orders) (i : ℕ) (log : Option (List SlotNote)) → JustAsked (grown log (Sent (do_frame (work_of orders i)) ∷ []))
just_asked_at orders i None = tt
just_asked_at orders i (Some log) = record { before = log; work = work_of orders i; parts = refl }

pub just_asked : (orders : Orders) (i : ℕ) (log sent : Option (List SlotNote)) → sent ≡ grown log (Sent (do_frame (work_of orders i)) ∷ []) → JustAsked sent
just_asked orders i log sent e = subst JustAsked (sym e) (just_asked_at orders i log)

-- all notes of one request, the last of them being these
request : (orders : Orders) (loads : List ℕ) (i : ℕ) (pieces : List (List ℕ)) → List SlotNote
request orders loads i pieces = loads_sent orders loads ++ Sent (do_frame (work_of orders i)) ∷ map Got pieces

-- the log after the loads, the Do and what came then
whole_log : (orders : Orders) (created : List Bool) (i : ℕ) (before log sent now : Option (List SlotNote)) (marks : List Bool) (pieces : List (List ℕ)) (last : List SlotNote) (h : HasLoaded orders created i before log marks) → sent ≡ grown log (Sent (do_frame (work_of orders i)) ∷ []) → now ≡ grown sent (map Got pieces ++ last) →
    now ≡ grown before (request orders h.loads i pieces ++ last)
unfolding request
whole_log orders created i before log sent now marks pieces last h s e =
    let asked = grown_on before log sent (loads_sent orders h.loads) (Sent (do_frame (work_of orders i)) ∷ []) h.log_is s in
    grown_on before sent now (loads_sent orders h.loads ++ Sent (do_frame (work_of orders i)) ∷ []) (map Got pieces ++ last) asked e
    ∙ ap (grown before) (append_assoc (loads_sent orders h.loads) (Sent (do_frame (work_of orders i)) ∷ []) (map Got pieces ++ last) ∙ sym (append_assoc (loads_sent orders h.loads) (Sent (do_frame (work_of orders i)) ∷ map Got pieces) last))

asks : (orders : Orders) (created : List Bool) (i : ℕ) (before log : Option (List SlotNote)) (marks : List Bool) (pieces : List (List ℕ)) (h : HasLoaded orders created i before log marks) → Asks orders created i h.loads (concat pieces) (request orders h.loads i pieces)
unfolding request
asks orders created i before log marks pieces h = record { are_loads = h.are_loads; pieces = pieces; bytes_are = refl; notes_are = refl }

answered_with : (orders : Orders) (created : List Bool) (i code : ℕ) (key : Key) (before log sent now : Option (List SlotNote)) (marks after : List Bool) (h : HasLoaded orders created i before log marks) → sent ≡ grown log (Sent (do_frame (work_of orders i)) ∷ []) →
    key ≡ (work_of orders i).key → HasAnswered key (Answered code) sent now → after ≡ created_after created h.loads i code → GrewBy orders created i (Answered code) before now after
answered_with orders created i code key before log sent now marks after h s k a e = record {
  notes = request orders h.loads i a.pieces;
  log_is = whole_log orders created i before log sent now marks a.pieces [] h s a.log_is ∙ ap (grown before) (append-nil (request orders h.loads i a.pieces));
  tells = λ w. subst (λ c. Group orders w (Working created) (Start w i ∷ Reply w i code ∷ []) (request orders h.loads i a.pieces) (Working c)) (sym e)
      (answered created i code h.loads (request orders h.loads i a.pieces)
      (subst (λ bytes. Asks orders created i h.loads bytes (request orders h.loads i a.pieces)) (a.bytes_are ∙ ap (λ x. spelling (msg.Reply x code)) k) (asks orders created i before log marks a.pieces h)));
}

after_zero : (created : List Bool) (loads : List ℕ) (i code : ℕ) → code ≡ 0 → created_after created loads i code ≡ set (creating created loads) i true
after_zero created loads i code e = ap (λ b. cond b (set (creating created loads) i true) (creating created loads)) (eq-eqb code 0 e)

after_other : (created : List Bool) (loads : List ℕ) (i code : ℕ) → code ≢ 0 → created_after created loads i code ≡ creating created loads
after_other created loads i code e = ap (λ b. cond b (set (creating created loads) i true) (creating created loads)) (ne_eqb code 0 e)

pub answered_zero : (orders : Orders) (created : List Bool) (i code : ℕ) (key : Key) (before log sent now : Option (List SlotNote)) (marks after : List Bool) → HasLoaded orders created i before log marks → sent ≡ grown log (Sent (do_frame (work_of orders i)) ∷ []) →
    key ≡ (work_of orders i).key → HasAnswered key (Answered code) sent now → code ≡ 0 → after ≡ set marks i true → GrewBy orders created i (Answered code) before now after
answered_zero orders created i code key before log sent now marks after h s k a z e =
    answered_with orders created i code key before log sent now marks after h s k a (e ∙ (ap (λ ms. set ms i true) h.after_is ∙ sym (after_zero created h.loads i code z)))

pub answered_other : (orders : Orders) (created : List Bool) (i code : ℕ) (key : Key) (before log sent now : Option (List SlotNote)) (marks : List Bool) → HasLoaded orders created i before log marks → sent ≡ grown log (Sent (do_frame (work_of orders i)) ∷ []) →
    key ≡ (work_of orders i).key → HasAnswered key (Answered code) sent now → code ≢ 0 → GrewBy orders created i (Answered code) before now marks
answered_other orders created i code key before log sent now marks h s k a z =
    answered_with orders created i code key before log sent now marks marks h s k a (h.after_is ∙ sym (after_other created h.loads i code z))

pub gone_at_do : (orders : Orders) (created : List Bool) (i : ℕ) (before log now : Option (List SlotNote)) (marks after : List Bool) → HasLoaded orders created i before log marks → now ≡ grown log (Died ∷ []) → GrewBy orders created i Gone before now after
gone_at_do orders created i before log now marks after h e = record {
  notes = loads_sent orders h.loads ++ Died ∷ [];
  log_is = grown_on before log now (loads_sent orders h.loads) (Died ∷ []) h.log_is e;
  tells = λ w. gone_early created i h.loads h.are_loads.some_loads;
}

pub gone_at_reply : (orders : Orders) (created : List Bool) (i : ℕ) (key : Key) (before log sent now : Option (List SlotNote)) (marks after : List Bool) → HasLoaded orders created i before log marks → sent ≡ grown log (Sent (do_frame (work_of orders i)) ∷ []) → HasAnswered key Gone sent now → GrewBy orders created i Gone before now after
gone_at_reply orders created i key before log sent now marks after h s a = record {
  notes = request orders h.loads i a.pieces ++ Died ∷ [];
  log_is = whole_log orders created i before log sent now marks a.pieces (Died ∷ []) h s a.log_is;
  tells = λ w. gone created i h.loads (concat a.pieces) (request orders h.loads i a.pieces) (asks orders created i before log marks a.pieces h) a.bytes_are;
}

pub wrong_at_reply : (orders : Orders) (created : List Bool) (i : ℕ) (key : Key) (before log sent now : Option (List SlotNote)) (marks after : List Bool) → HasLoaded orders created i before log marks → sent ≡ grown log (Sent (do_frame (work_of orders i)) ∷ []) → key ≡ (work_of orders i).key → HasAnswered key Wrong sent now → GrewBy orders created i Wrong before now after
wrong_at_reply orders created i key before log sent now marks after h s k a = record {
  notes = request orders h.loads i a.pieces ++ Stopped ∷ [];
  log_is = whole_log orders created i before log sent now marks a.pieces (Stopped ∷ []) h s a.log_is;
  tells = λ w. wrong created i h.loads (concat a.pieces) (request orders h.loads i a.pieces) (asks orders created i before log marks a.pieces h) (subst (λ x. IsWrong x (concat a.pieces)) k a.bytes_are);
}
