-- Which events of a slot its log tells.
use Rattle.std.specs.Prelude.{ℕ, ◌≡◌, Bool, List, [], ◌∷◌, ◌++◌, map}
use Rattle.std.specs.List.{concat}
use Rattle.replay_core.specs.declared.event.Event.{Event}
use Rattle.replay_core.specs.declared.event.Event.TheVariants.{Start, Reply, Death, Restart, Retire}
use Rattle.slot_log.specs.declared.note.SlotNote.{SlotNote}
use Rattle.slot_log.specs.declared.note.SlotNote.TheVariants.{Started, NotStarted, Sent, Got, Died, Stopped}
use Rattle.slot_log.specs.Works.{Orders, work_of, load_frame, do_frame, quit_frame, reply_frame}
use Rattle.slot_log.specs.Loads.{AreSomeLoads, AreLoads, none_created, created_after}
use Rattle.slot_log.specs.Answers.{IsUnfinished, IsWrong}

unfoldable pub loads_sent : Orders → List ℕ → List SlotNote
loads_sent orders loads = map (λ j. Sent (load_frame (work_of orders j))) loads

-- a worker that had created these items was sent the loads of item i and then the Do, and these bytes came
pub record Asks (orders : Orders) (created : List Bool) (i : ℕ) (loads bytes : List ℕ) (notes : List SlotNote) : Type 0 where
  pub are_loads : AreLoads orders.plan created i loads
  pub pieces : List (List ℕ)
  pub bytes_are : concat pieces ≡ bytes
  pub notes_are : notes ≡ loads_sent orders loads ++ Sent (do_frame (work_of orders i)) ∷ map Got pieces

-- how far the log of a slot has come
pub data Phase : Type 0 where
  -- nothing was done
  NotYet : Phase
  -- a worker runs, which has created these items
  Working : List Bool → Phase
  -- the worker died, or was stopped over a wrong answer
  Fallen : Phase
  -- no worker is started any more
  Over : Phase

-- notes that belong together, and the events of slot w that they tell
pub data Group (orders : Orders) (w : ℕ) : Phase → List Event → List SlotNote → Phase → Type 0 where
  first_start : Group orders w NotYet [] (Started ∷ []) (Working (none_created orders.plan))
  no_start : Group orders w NotYet (Retire w ∷ []) (NotStarted ∷ []) Over
  answered : (created : List Bool) (i code : ℕ) (loads : List ℕ) (notes : List SlotNote) → Asks orders created i loads (reply_frame (work_of orders i) code) notes →
      Group orders w (Working created) (Start w i ∷ Reply w i code ∷ []) notes (Working (created_after created loads i code))
  gone_early : (created : List Bool) (i : ℕ) (loads : List ℕ) → AreSomeLoads orders.plan created i loads →
      Group orders w (Working created) (Start w i ∷ Death w ∷ []) (loads_sent orders loads ++ Died ∷ []) Fallen
  gone : (created : List Bool) (i : ℕ) (loads bytes : List ℕ) (notes : List SlotNote) → Asks orders created i loads bytes notes → IsUnfinished bytes →
      Group orders w (Working created) (Start w i ∷ Death w ∷ []) (notes ++ Died ∷ []) Fallen
  wrong : (created : List Bool) (i : ℕ) (loads bytes : List ℕ) (notes : List SlotNote) → Asks orders created i loads bytes notes → IsWrong (work_of orders i).key bytes →
      Group orders w (Working created) (Start w i ∷ Death w ∷ []) (notes ++ Stopped ∷ []) Fallen
  restarted : Group orders w Fallen (Restart w ∷ []) (Started ∷ []) (Working (none_created orders.plan))
  not_restarted : Group orders w Fallen (Retire w ∷ []) (NotStarted ∷ []) Over
  quit : (created : List Bool) → Group orders w (Working created) [] (Sent quit_frame ∷ Stopped ∷ []) Over
  died_at_quit : (created : List Bool) → Group orders w (Working created) [] (Died ∷ []) Over

-- from one phase on, these notes tell these events, group by group, up to another phase
pub data Tells (orders : Orders) (w : ℕ) (from : Phase) : List Event → List SlotNote → Phase → Type 0 where
  nothing : Tells orders w from [] [] from
  more : (events : List Event) (notes : List SlotNote) (phase : Phase) (these : List Event) (group : List SlotNote) (next : Phase) → Tells orders w from events notes phase → Group orders w phase these group next →
      Tells orders w from (events ++ these) (notes ++ group) next

-- from its first worker on, and until no worker is started any more, the notes tell the events of slot w
abbrev pub Told : Orders → ℕ → List Event → List SlotNote → Type 0
Told orders w events notes = Tells orders w NotYet events notes Over
