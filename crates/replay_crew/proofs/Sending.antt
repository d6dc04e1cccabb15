-- What a worker is sent for an item.
use Rattle.std.proofs.Common.{ℕ, ◌≡◌, ◌+◌, ◌-◌, ◌<◌, ◌≤◌, Bool, true, false, cond, List, [], ◌∷◌, ◌++◌, map, length, length-append, Some, refl, ap, sym, ◌∙◌, subst, get_or, take, drop, arith}
use Rattle.std.specs.Prelude.{All, slice_get}
use Rattle.std.proofs.lemmas.List.{get_or-map, take_at, length-drop}
use Rattle.std.proofs.lemmas.Option.{get_or_from_slice_get, slice_get_within}
use Rattle.foz_entry.specs.declared.cut.Entry.{Entry}
use Rattle.worker_msg.specs.Frames.{limit, work_spelling}
use Rattle.dep_graph.specs.Items.{item_entries}
use Rattle.slot_log.specs.Works.{Work, no_work, work_of, load_frame, do_frame}
use Rattle.slot_log.specs.Logs.{IsToWorker, load, work}
use Rattle.replay_crew.specs.declared.jobs.Jobs.{Jobs}
use Rattle.replay_crew.specs.Jobs.{AreJobs, orders_of, work_in}
use Rattle.replay_crew.specs.Loading.{work_frame}

pub work_is : (jobs : Jobs) (i : ℕ) (entry : Entry) → slice_get (item_entries jobs.entries.now jobs.graph.now.classes) i ≡ Some entry → work_in entry ≡ work_of (orders_of jobs) i
unfolding work_of
work_is jobs i entry e =
    let items = item_entries jobs.entries.now jobs.graph.now.classes in
    sym (get_or-map work_in items i entry no_work (slice_get_within items i entry e) ∙ ap work_in (get_or_from_slice_get items i entry entry e))

pub work_short : (jobs : Jobs) (i : ℕ) (entry : Entry) → AreJobs jobs → slice_get (item_entries jobs.entries.now jobs.graph.now.classes) i ≡ Some entry → length entry.payload ≤ limit
work_short jobs i entry are e =
    let items = item_entries jobs.entries.now jobs.graph.now.classes in
    subst (λ (x : Entry). length x.payload ≤ limit) (get_or_from_slice_get items i entry entry e) (are.short i entry (slice_get_within items i entry e))

-- the frame that was laid, and the rest of its room
front_of : (front old new : List ℕ) (n : ℕ) → new ≡ front ++ drop n old → length new ≡ length old → n ≤ length old → take n new ≡ front
front_of front old new n e same fits =
    let rest = length-drop n old in
    let whole = ap length e ∙ length-append front (drop n old) in
    let long : length front ≡ n = omega arith in
    ap (take n) e ∙ take_at front (drop n old) n long

frame_is : (loading : Bool) (entry : Entry) (w : Work) → work_in entry ≡ w → work_spelling loading entry.head.key entry.payload ≡ work_frame loading w
frame_is true entry w e = ap load_frame e
frame_is false entry w e = ap do_frame e

pub sent_is : (loading : Bool) (entry : Entry) (w : Work) (old new : List ℕ) (n : ℕ) → work_in entry ≡ w → new ≡ work_spelling loading entry.head.key entry.payload ++ drop n old → length new ≡ length old → n ≤ length old → take n new ≡ work_frame loading w
sent_is loading entry w old new n e laid same fits = front_of (work_spelling loading entry.head.key entry.payload) old new n laid same fits ∙ frame_is loading entry w e

to_worker_at : (loading : Bool) (w : Work) (frame : List ℕ) → length w.payload ≤ limit → frame ≡ work_frame loading w → IsToWorker frame
to_worker_at true w frame short e = load w short e
to_worker_at false w frame short e = work w short e

pub to_worker : (loading : Bool) (entry : Entry) (w : Work) (frame : List ℕ) → length entry.payload ≤ limit → work_in entry ≡ w → frame ≡ work_frame loading w → IsToWorker frame
to_worker loading entry w frame short e is = to_worker_at loading w frame (subst (λ (x : Work). length x.payload ≤ limit) e short) is
