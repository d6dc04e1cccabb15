-- Where the root has recorded nothing, each call that records is a joined seat's.
use Rattle.std.proofs.Common.{◌≡◌, ℕ, ◌==◌, ◌&&◌, ◌⊎◌, true, All, List, [], length, get_or, sym, ap, ◌∙◌, subst, ⊎_elim, zero-add, arith}
use Rattle.std.proofs.lemmas.Bool.Decides.{nat_tests}
use Rattle.foz_words.specs.declared.key.Key.{Key}
use Rattle.record_words.specs.declared.note.FullNote.{FullNote}
use Rattle.record_words.specs.declared.note.RecordCall.{RecordCall}
use Rattle.record_words.specs.declared.note.RecordCall.TheVariants.{Record}
use Rattle.record_words.specs.declared.state.RecorderState.{RecorderState}
use Rattle.record_words.specs.Story.{At}
use Rattle.turn_desk.specs.declared.view.Joined.{Joined}
use Rattle.turn_desk.specs.Story.{IsJoined}
use Rattle.record_threads.specs.Calls.{seat_of}
use Rattle.record_threads.specs.Threads.{Call, IsCallAt, HasCalls, is_own, is_record, places_of}
use Rattle.record_threads.proofs.Places.{at_below, at_read, zip_back}
use Rattle.record_threads.proofs.Ranks.{places_there}

module _ (origin : RecorderState) (story : List FullNote) where
  -- a seat without calls has none in the story
  no_call : (number : ℕ) → HasCalls origin story number [] → (p : ℕ) (n : FullNote) (key : Key) → At story p n → n.note.call ≡ Record key → n.note.seat ≡ number → ⊥
  no_call number none p n key at call seat_is =
      let mine : (n.note.seat == number) ≡ true = grind (arith, nat_tests) in
      let own : is_own number n ≡ true = ap (λ (z : RecordCall). (n.note.seat == number) && is_record z) call ∙ (rw mine) in
      let there = places_there number 0 story p n at own in
      let at_p : At (places_of number story) there.0 p = subst (λ (z : ℕ). At (places_of number story) there.0 z) (zero-add p) there.1 in
      let found = zip_back (IsCallAt origin story number) [] (places_of number story) there.0 p none at_p in
      no_element found.0 there.0 found.1.0
    where
      no_element : (x : Call) (i : ℕ) → At [] i x → ⊥
      no_element x i e = cc

  pub nobody_else : (joined : List (Joined FullNote)) → All (λ n. (seat_of n ≡ 0) ⊎ IsJoined joined (seat_of n)) story → HasCalls origin story 0 [] → (p : ℕ) (n : FullNote) (key : Key) → At story p n → n.note.call ≡ Record key → IsJoined joined n.note.seat
  nobody_else joined all none p n key at call =
      let here : (n.note.seat ≡ 0) ⊎ IsJoined joined n.note.seat = subst (λ (z : FullNote). (seat_of z ≡ 0) ⊎ IsJoined joined (seat_of z)) (at_read story p n n at) (all p n (at_below story p n at)) in
      ⊎_elim (λ zero. absurd (no_call 0 none p n key at call zero)) (λ other. other) here
