-- The parts of asking a worker for an item.
use Rattle.std.specs.Prelude.{ℕ, ◌≡◌, ◌<◌, Bool, true, false, List, [], ◌∷◌, ◌++◌, length, map, Option, IfSome}
use Rattle.std.specs.List.{concat}
use Rattle.foz_words.specs.declared.key.Key.{Key}
use Rattle.replay_core.specs.declared.event.Event.{Event}
use Rattle.replay_core.specs.declared.event.Event.TheVariants.{Start, Reply, Death}
use Rattle.worker_msg.specs.Frames.{spelling}
use Rattle.worker_msg.specs.Feeds.{Feeding}
use Rattle.worker_msg.specs.declared.msg.Msg.TheVariants as msg
use Rattle.slot_log.specs.declared.note.SlotNote.{SlotNote}
use Rattle.slot_log.specs.declared.note.SlotNote.TheVariants.{Sent, Got, Died, Stopped}
use Rattle.slot_log.specs.Works.{Orders, Work, do_frame}
use Rattle.slot_log.specs.Loads.{AreLoads, creating}
use Rattle.slot_log.specs.Logs.{grown}
use Rattle.slot_log.specs.Answers.{IsUnfinished, IsWrong}
use Rattle.slot_log.specs.Telling.{loads_sent, Phase, Working, Fallen, Group}
use Rattle.replay_crew.specs.declared.asking.Outcome.{Outcome}
use Rattle.replay_crew.specs.declared.asking.Outcome.TheVariants.{Answered, Gone, Wrong}

-- the loads of item i were sent
pub record HasLoaded (orders : Orders) (created : List Bool) (i : ℕ) (before now : Option (List SlotNote)) (after : List Bool) : Type 0 where
  pub loads : List ℕ
  pub are_loads : AreLoads orders.plan created i loads
  pub log_is : now ≡ grown before (loads_sent orders loads)
  pub after_is : after ≡ creating created loads

-- a log ends with a Do
pub record EndsWithDo (log : List SlotNote) : Type 0 where
  pub before : List SlotNote
  pub work : Work
  pub parts : log ≡ before ++ Sent (do_frame work) ∷ []

abbrev pub JustAsked : Option (List SlotNote) → Type 0
JustAsked log = IfSome log EndsWithDo

-- some bytes came, and the feed keeps them after those that it kept
pub record HasReceived (before now : Option (List SlotNote)) (old new : Feeding) : Type 0 where
  pub piece : List ℕ
  pub some_bytes : 0 < length piece
  pub log_is : now ≡ grown before (Got piece ∷ [])
  pub feed_is : new ≡ record old { kept = old.kept ++ piece }

-- the bytes that came after a Do of the key
abbrev pub AreAnswerBytes : Key → Outcome → List ℕ → Type 0
AreAnswerBytes key (Answered code) bytes = bytes ≡ spelling (msg.Reply key code)
AreAnswerBytes key Gone bytes = IsUnfinished bytes
AreAnswerBytes key Wrong bytes = IsWrong key bytes

-- how the notes of an answer end
abbrev pub ending : Outcome → List SlotNote
ending (Answered code) = []
ending Gone = Died ∷ []
ending Wrong = Stopped ∷ []

-- the notes that came after a Do of the key
pub record HasAnswered (key : Key) (outcome : Outcome) (before now : Option (List SlotNote)) : Type 0 where
  pub pieces : List (List ℕ)
  pub log_is : now ≡ grown before (map Got pieces ++ ending outcome)
  pub bytes_are : AreAnswerBytes key outcome (concat pieces)

-- the event that ends the work on item i
abbrev pub ended : ℕ → ℕ → Outcome → Event
ended w i (Answered code) = Reply w i code
ended w i Gone = Death w
ended w i Wrong = Death w

abbrev pub phase_after : Outcome → List Bool → Phase
phase_after (Answered code) created = Working created
phase_after Gone created = Fallen
phase_after Wrong created = Fallen

abbrev pub runs_after : Outcome → Bool
runs_after (Answered code) = true
runs_after Gone = false
runs_after Wrong = false

-- the log grew by notes that tell the start of item i and what came of it, whichever slot this is
pub record GrewBy (orders : Orders) (created : List Bool) (i : ℕ) (outcome : Outcome) (before now : Option (List SlotNote)) (after : List Bool) : Type 0 where
  pub notes : List SlotNote
  pub log_is : now ≡ grown before notes
  pub tells : (w : ℕ) → Group orders w (Working created) (Start w i ∷ ended w i outcome ∷ []) notes (phase_after outcome after)
