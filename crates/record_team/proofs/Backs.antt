-- What a team has done, once its seats are back.
use Rattle.std.proofs.Common.{◌≡◌, ◌⊎◌, inl, inr, ℕ, zero, suc, ◌+◌, ◌<◌, ◌≤◌, ◌&&◌, Bool, true, false, is_some, List, [], ◌∷◌, ◌++◌, length, get_or, map, filter, take, Option, Some, Result, Ok, Err, IfOk, refl, sym, ap, ◌∙◌, subst, arith}
use Rattle.std.specs.Prelude.{IsSome}
use Rattle.std.specs.List.{list_all}
use Rattle.std.proofs.lemmas.Bool.{cases_lt}
use mathlib.Core.List.{IsPrefix}
use mathlib.Core.Option as place
use lib.ListN.{get_elem?}
use Rattle.turn_desk.specs.declared.view.Joined.{Joined}
use Rattle.turn_desk.specs.declared.view.View.{View}
use Rattle.turn_desk.specs.Story.{notes_of, root_of, HasKept}
use Rattle.record_words.specs.declared.answered.Answered.{Answered}
use Rattle.record_words.specs.declared.note.FullNote.{FullNote}
use Rattle.record_words.specs.declared.state.RecorderState.{RecorderState}
use Rattle.record_words.specs.Story.{At}
use Rattle.record_words.specs.Recorded.{Line}
use Rattle.record_dedup.specs.Kept.{Booked, recorder_of}
use Rattle.record_threads.specs.Calls.{seat_of}
use Rattle.record_threads.specs.Threads.{Call, given_of, HasCalls, reads_of}
use Rattle.record_team.specs.Told.{told_by, is_of}
use Rattle.record_team.specs.Merged.{Rise}
use Rattle.record_team.specs.Work.{HasAnswered}
use Rattle.record_team.specs.Team.{joined_of, HasWorked, AreBack, HaveAnswered}
use Rattle.record_team.proofs.Seats.{at_below, at_read, at_there, at_mapped, mapped_at, map_count}

module _ {X : Type 0} where
  at_elem : (xs : List X) (i : ℕ) (x : X) → At xs i x → get_elem? xs i ≡ place.some x
  at_elem [] i x e = absurd cc
  at_elem (y ∷ ys) zero x e = let h : y ≡ x = cc in ap (λ (z : X). place.some z) h
  at_elem (y ∷ ys) (suc i) x e = at_elem ys i x e

  elem_at : (xs : List X) (i : ℕ) (x : X) → get_elem? xs i ≡ place.some x → At xs i x
  elem_at [] i x e = absurd cc
  elem_at (y ∷ ys) zero x e = let h : y ≡ x = cc in ap (λ (z : X). Some z) h
  elem_at (y ∷ ys) (suc i) x e = elem_at ys i x e

  pub none_joined : (i : ℕ) (x : X) → get_elem? {A = X} [] i ≡ place.some x → ⊥
  none_joined i x e = cc

-- no thread was made
pub nobody_back : {D Cause : Type 0} → ((origin : RecorderState) (story : List FullNote) (number : ℕ) → notes_of seat_of number story ≡ [] → HasCalls origin story number [])
    → (origin : Booked D) (lines : List (Line Cause)) (threads : ℕ) → AreBack (recorder_of origin) lines threads (root_of {N = FullNote} origin)
nobody_back none origin lines threads = record {
  seats = λ number is. absurd (none_joined is.0 is.1 is.2);
  recorded = λ thread below. record { calls = []; has = none (recorder_of origin) [] (thread + 1) refl; done = []; rest = lines; prefix = refl; given = refl };
}

abbrev JoinedLaw : Type 0
JoinedLaw = (origin : RecorderState) (seen story : List FullNote) (number : ℕ) (calls : List Call) → IsPrefix seen story → notes_of seat_of number story ≡ notes_of seat_of number seen → HasCalls origin seen number calls → HasCalls origin story number calls

module _ {D Cause M : Type 0} (view : M → View FullNote (Booked D)) (told : M → List (Answered Cause)) (finished : M → Option ℕ) (mates : List M) (origin : Booked D) (lines : List (Line Cause)) (threads : ℕ) (count : length mates ≡ threads)
    (worked : (i : ℕ) (m : M) → At mates i m → HasWorked origin lines threads i (i + 1) (view m) (told m) (finished m))
    (root : View FullNote (Booked D)) (joined : root.joined ≡ map joined_of (map view mates)) (seen : (i : ℕ) (v : View FullNote (Booked D)) → At (map view mates) i v → IsPrefix v.seen root.seen)
    (kept : HasKept seat_of root.joined root.seen) (law : (origin : RecorderState) (seen story : List FullNote) (number : ℕ) (calls : List Call) → IsPrefix seen story → notes_of seat_of number story ≡ notes_of seat_of number seen → HasCalls origin seen number calls → HasCalls origin story number calls) where
  -- the calls of a thread's seat are those that it has in the root's story
  has_in_all : (i : ℕ) (m : M) → At mates i m → (calls : List Call) → HasCalls (recorder_of origin) (view m).seen (i + 1) calls → HasCalls (recorder_of origin) root.seen (i + 1) calls
  has_in_all i m at calls has =
      let w = worked i m at in
      let there : get_elem? root.joined i ≡ place.some (joined_of (view m)) = subst (λ (l : List (Joined FullNote)). get_elem? l i ≡ place.some (joined_of (view m))) (sym joined)
      (at_elem (map joined_of (map view mates)) i (joined_of (view m)) (mapped_at joined_of (map view mates) i (view m) (mapped_at view mates i m at))) in
      let same : notes_of seat_of (view m).number root.seen ≡ notes_of seat_of (view m).number (view m).seen = kept i (joined_of (view m)) there ∙ sym w.work.own in
      law (recorder_of origin) (view m).seen root.seen (i + 1) calls (seen i (view m) (mapped_at view mates i m at)) (subst (λ (k : ℕ). notes_of seat_of k root.seen ≡ notes_of seat_of k (view m).seen) w.number_is same) has

  pub are_back : AreBack (recorder_of origin) lines threads root
  are_back = record {
    seats = λ number is.
        let j = at_mapped joined_of (map view mates) is.0 is.1 (elem_at (map joined_of (map view mates)) is.0 is.1 (subst (λ (l : List (Joined FullNote)). get_elem? l is.0 ≡ place.some is.1) joined is.2)) in
        let m = at_mapped view mates is.0 j.0 j.1.0 in
        let below : is.0 < threads = (let b = at_below mates is.0 m.0 m.1.0 in omega arith) in
        (is.0, below, sym is.3 ∙ (ap (λ (x : Joined FullNote). x.number) (sym j.1.1) ∙ (ap (λ (v : View FullNote (Booked D)). v.number) (sym m.1.1) ∙ (worked is.0 m.0 m.1.0).number_is)));
    recorded = λ thread below.
        let m = at_there mates thread (omega arith) in
        let r = (worked thread m.0 m.1).recorded in
        record { calls = r.calls; has = has_in_all thread m.0 m.1 r.calls r.has; done = r.done; rest = r.rest; prefix = r.prefix; given = r.given };
  }

  module _ (all_finished : (i : ℕ) (m : M) → At mates i m → IsSome (finished m)) where
    answered_at : (thread : ℕ) (m : M) → At mates thread m → HasAnswered (recorder_of origin) lines threads thread (thread + 1) (view m).seen (told m)
    answered_at thread m at = (worked thread m at).answered (all_finished thread m at)

    calls_by : (thread : ℕ) → (thread < length mates) ⊎ (length mates ≤ thread) → List Call
    calls_by thread (inl below) = let m = at_there mates thread below in (answered_at thread m.0 m.1).calls
    calls_by thread (inr above) = []

    -- what is known of these calls
    record AreCalls (thread : ℕ) (calls : List Call) : Type 0 where
      pub has : HasCalls (recorder_of origin) root.seen (thread + 1) calls
      pub given : map given_of calls ≡ reads_of threads thread lines
      pub told_is : get_or (map told mates) thread [] ≡ told_by threads thread lines calls

    are_calls : (thread : ℕ) → thread < threads → (c : (thread < length mates) ⊎ (length mates ≤ thread)) → AreCalls thread (calls_by thread c)
    unfolding calls_by
    are_calls thread below (inl inside) =
        let m = at_there mates thread inside in
        let a = answered_at thread m.0 m.1 in record {
          has = has_in_all thread m.0 m.1 a.calls a.has;
          given = a.given;
          told_is = at_read (map told mates) thread (told m.0) [] (mapped_at told mates thread m.0 m.1) ∙ a.told_is;
        }
    are_calls thread below (inr above) = absurd (omega arith)

    pub have_answered : (queues : List (List (Answered Cause))) → queues ≡ map told mates → (number : ℕ) → number ≡ length lines → (all : List (Answered Cause))
        → ((whole : List (Answered Cause)) → Rise 1 (number + 1) whole → ((thread : ℕ) → thread < length queues → get_or queues thread [] ≡ filter (is_of (length queues) thread) whole) → all ≡ whole)
        → HaveAnswered (recorder_of origin) lines threads root.seen all
    have_answered queues queues_are number number_is all merge =
        let known = λ (thread : ℕ) (below : thread < threads). are_calls thread below (cases_lt thread (length mates)) in
        let many : length queues ≡ threads = ap length queues_are ∙ (map_count told mates ∙ count) in record {
          calls = λ thread. calls_by thread (cases_lt thread (length mates));
          has = λ thread below. (known thread below).has;
          given = λ thread below. (known thread below).given;
          merged = λ whole rise parts.
              merge whole (subst (λ (n : ℕ). Rise 1 (n + 1) whole) (sym number_is) rise)
              (λ thread below.
              let inside : thread < threads = omega arith in
              ap (λ (l : List (List (Answered Cause))). get_or l thread []) queues_are ∙ ((known thread inside).told_is ∙ (parts thread inside ∙ ap (λ (n : ℕ). filter (is_of n thread) whole) (sym many))));
        }

pub take_whole : {X : Type 0} (n : ℕ) (xs rest : List X) → n ≡ length xs → take n (xs ++ rest) ≡ xs
take_whole {X} n xs rest is = ap (λ (k : ℕ). take k (xs ++ rest)) is ∙ front xs
  where
    front : (ys : List X) → take (length ys) (ys ++ rest) ≡ ys
    front [] = refl
    front (y ∷ ys) = ap (λ (l : List X). y ∷ l) (front ys)

pub first_of : {X : Type 0} (xs : List X) → 0 < length xs → (x : X) × (rest : List X) × (xs ≡ x ∷ rest)
first_of [] h = absurd (omega arith)
first_of (x ∷ xs) h = (x, xs, refl)

both_left : (a b : Bool) → (a && b) ≡ true → a ≡ true
both_left true b e = refl
both_left false b e = e

both_right : (a b : Bool) → (a && b) ≡ true → b ≡ true
both_right true b e = e
both_right false b e = absurd cc

pub all_are : {X : Type 0} (p : X → Bool) (xs : List X) → list_all p xs ≡ true → (i : ℕ) (x : X) → At xs i x → p x ≡ true
all_are p [] e i x at = absurd cc
all_are {X} p (y ∷ ys) e zero x at = let h : y ≡ x = cc in subst (λ (z : X). p z ≡ true) h (both_left (p y) (list_all p ys) e)
all_are p (y ∷ ys) e (suc i) x at = all_are p ys (both_right (p y) (list_all p ys) e) i x at

pub some_is : {X : Type 0} (o : Option X) → is_some o ≡ true → IsSome o
some_is o e = e

pub each_ok : {T E : Type 0} (result : Result T E) (P : T → Type 0) → ((x : T) → result ≡ Ok x → P x) → IfOk result P
each_ok (Ok x) P f = f x refl
each_ok (Err e) P f = tt
