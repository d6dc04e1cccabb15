-- A story in which the seats of the threads have the calls of the threads' lines has the call of each line.
use Rattle.std.proofs.Common.{◌≡◌, ◌≢◌, ℕ, zero, suc, ◌+◌, ◌%◌, ◌<◌, ◌≤◌, ◌==◌, ◌&&◌, Bool, true, false, List, [], ◌∷◌, ◌++◌, length, get_or, map, take, Some, refl, sym, ap, ◌∙◌, subst, zero-add, mod-lt, arith}
use Rattle.std.proofs.lemmas.Bool.Decides.{nat_tests}
use Rattle.foz_words.specs.declared.key.Key.{Key}
use Rattle.record_words.specs.declared.note.FullNote.{FullNote}
use Rattle.record_words.specs.declared.note.RecordCall.{RecordCall}
use Rattle.record_words.specs.declared.note.RecordCall.TheVariants.{Record}
use Rattle.record_words.specs.declared.note.RecordReply.{RecordReply}
use Rattle.record_words.specs.declared.state.RecorderState.{RecorderState}
use Rattle.record_words.specs.Story.{At, leads}
use Rattle.record_words.specs.Recorded.{Line, Answer, read, replied, AreAnswers}
use Rattle.record_words.specs.Placed.{RecordsAt, IsPlaced, TellsEachLine, answers_told}
use Rattle.record_threads.specs.Threads.{Call, Given, given_of, IsCallAt, is_own, is_record, places_of, reads_of, TellsThreads, AreAnsweredByCalls}
use Rattle.record_threads.proofs.Ties.{records_by_tie}
use Rattle.record_threads.proofs.Places.{at_one, at_read, at_split, at_map, map_at, zip_at, zip_back}
use Rattle.record_threads.proofs.Ranks.{read_at, rank_grows, line_at_rank, places_rise, places_there}

module _ {Cause : Type 0} (origin : RecorderState) (story : List FullNote) (lines : List (Line Cause)) (threads : ℕ) (seat : ℕ → ℕ) (calls : ℕ → List Call) (given : TellsThreads origin story lines threads seat calls) where
  abbrev rank_of : ℕ → ℕ → ℕ
  rank_of t k = length (reads_of threads t (take k lines))

  abbrev place_of : ℕ → ℕ → ℕ
  place_of t k = get_or (places_of (seat t) story) (rank_of t k) 0

  -- the place of a line's call
  abbrev place : ℕ → ℕ
  place k = place_of (k % threads) k

  record IsFound (k : ℕ) (key : Key) (payload : List ℕ) : Type 0 where
    pub call : Call
    pub at_call : At (calls (k % threads)) (rank_of (k % threads) k) call
    pub at_place : At (places_of (seat (k % threads)) story) (rank_of (k % threads) k) (place k)
    pub is : IsCallAt origin story (seat (k % threads)) call (place k)
    pub key_is : call.key ≡ key
    pub payload_is : call.payload ≡ payload

  found : (k : ℕ) (key : Key) (payload : List ℕ) → At lines k (read key payload) → IsFound k key payload
  found k key payload at =
      let t : ℕ = k % threads in
      let below : t < threads = mod-lt k given.some in
      let there : At (reads_of threads t lines) (rank_of t k) (key, payload) = read_at threads t 0 lines k key payload at (ap (λ (z : ℕ). z % threads) (zero-add k)) in
      let c = at_map given_of (calls t) (rank_of t k) (key, payload) (subst (λ (z : List Given). At z (rank_of t k) (key, payload)) (sym (given.lines_are t below)) there) in
      let p = zip_at (IsCallAt origin story (seat t)) (calls t) (places_of (seat t) story) (rank_of t k) c.0 (given.each t below) c.1.0 in
      let same : place k ≡ p.0 = at_read (places_of (seat t) story) (rank_of t k) p.0 0 p.1.0 in record {
        call = c.0;
        at_call = c.1.0;
        at_place = subst (λ (z : ℕ). At (places_of (seat t) story) (rank_of t k) z) (sym same) p.1.0;
        is = subst (IsCallAt origin story (seat t) c.0) (sym same) p.1.1;
        key_is = ap (λ (z : Given). z.0) c.1.1;
        payload_is = ap (λ (z : Given). z.1) c.1.1;
      }

  records_at : (number : ℕ) (call : Call) (p : ℕ) → IsCallAt origin story number call p → RecordsAt origin story number call.key call.payload p
  records_at number call p c =
      let around = at_split story p c.note c.at in record {
        note = c.note;
        at = c.at;
        seat = c.seat_is;
        records = records_by_tie (leads origin (take p story)) call.key call.payload c.note (given.legal (take p story) c.note around.0 around.1) c.call_is c.tied;
      }

  placed : IsPlaced origin story lines threads seat place
  placed = record {
    calls = λ k key payload at.
        let f = found k key payload at in
        subst (λ (z : Key). RecordsAt origin story (seat (k % threads)) z payload (place k)) f.key_is
        (subst (λ (z : List ℕ). RecordsAt origin story (seat (k % threads)) f.call.key z (place k)) f.payload_is (records_at (seat (k % threads)) f.call (place k) f.is));
    rising = λ j k a b p q before same at_j at_k.
        let t : ℕ = k % threads in
        let f = found j a p at_j in
        let g = found k b q at_k in
        let below : rank_of t j < rank_of t k = rank_grows threads t 0 lines j k a p before at_j (ap (λ (z : ℕ). z % threads) (zero-add j) ∙ same) in
        places_rise (seat t) 0 story (rank_of t j) (rank_of t k) (place j) (place k) below (subst (λ (z : ℕ). At (places_of (seat z) story) (rank_of z j) (place j)) same f.at_place) g.at_place;
    every = λ p n key at call.
        let t = given.nobody_else p n key at call in
        let number : ℕ = seat t.0 in
        let seat_is : n.note.seat ≡ number = t.2 in
        let mine : (n.note.seat == number) ≡ true = grind (arith, nat_tests) in
        let own : is_own number n ≡ true = ap (λ (z : RecordCall). (n.note.seat == number) && is_record z) call ∙ (rw mine) in
        let there = places_there number 0 story p n at own in
        let at_p : At (places_of number story) there.0 p = subst (λ (z : ℕ). At (places_of number story) there.0 z) (zero-add p) there.1 in
        let c = zip_back (IsCallAt origin story number) (calls t.0) (places_of number story) there.0 p (given.each t.0 t.1) at_p in
        let l = line_at_rank threads t.0 0 lines there.0 (given_of c.0) (subst (λ (z : List Given). At z there.0 (given_of c.0)) (given.lines_are t.0 t.1) (map_at given_of (calls t.0) there.0 c.0 c.1.0)) in
        let thread : l.0 % threads ≡ t.0 = ap (λ (z : ℕ). z % threads) (sym (zero-add l.0)) ∙ l.1.mine in
        let place_is : place l.0 ≡ p = ap (λ (z : ℕ). place_of z l.0) thread ∙ (ap (λ (z : ℕ). get_or (places_of number story) z 0) l.1.rank_is ∙ at_read (places_of number story) there.0 p 0 at_p) in
        (l.0, c.0.key, c.0.payload, (l.1.line, place_is));
  }

  pub tells : TellsEachLine origin story lines threads seat place
  tells = record { some = given.some; distinct = given.distinct; whole = given.whole; no_fault = given.no_fault; placed = placed }

  -- what the law of stories says
  pub answered : AreAnswers origin.entries lines threads (leads origin story).entries (answers_told origin story lines place)
      → ((k : ℕ) (key : Key) (payload : List ℕ) (at : At lines k (read key payload)) → At (answers_told origin story lines place) k (replied (tells.placed.calls k key payload at).note.note.reply (length (leads origin (take (place k) story)).entries)))
      → AreAnsweredByCalls origin.entries lines threads (leads origin story).entries calls
  answered are told = record {
    answers = answers_told origin story lines place;
    are = are;
    by_calls = λ k key payload call at at_call.
        let f = found k key payload at in
        let c : RecordsAt origin story (seat (k % threads)) key payload (place k) = tells.placed.calls k key payload at in
        let one : f.call ≡ call = at_one (calls (k % threads)) (rank_of (k % threads) k) f.call call f.at_call at_call in
        let note : c.note ≡ f.is.note = at_one story (place k) c.note f.is.note c.at f.is.at in
        let reply : c.note.note.reply ≡ call.reply = ap (λ (z : FullNote). z.note.reply) note ∙ (f.is.reply_is ∙ ap (λ (z : Call). z.reply) one) in
        let n : ℕ = length (leads origin (take (place k) story)).entries in
        (n, subst (λ (z : RecordReply). At (answers_told origin story lines place) k (replied z n)) reply (told k key payload at));
  }

-- by the law of stories in which each line has its call
pub by_law : {Cause : Type 0}
    → ((origin : RecorderState) (story : List FullNote) (lines : List (Line Cause)) (threads : ℕ) (seat place : ℕ → ℕ) → TellsEachLine origin story lines threads seat place
    → AreAnswers origin.entries lines threads (leads origin story).entries (answers_told origin story lines place))
    → ((origin : RecorderState) (story : List FullNote) (lines : List (Line Cause)) (threads : ℕ) (seat place : ℕ → ℕ) (given : TellsEachLine origin story lines threads seat place) (k : ℕ) (key : Key) (payload : List ℕ) (at : At lines k (read key payload))
    → At (answers_told origin story lines place) k (replied (given.placed.calls k key payload at).note.note.reply (length (leads origin (take (place k) story)).entries)))
    → (origin : RecorderState) (story : List FullNote) (lines : List (Line Cause)) (threads : ℕ) (seat : ℕ → ℕ) (calls : ℕ → List Call) → TellsThreads origin story lines threads seat calls
    → AreAnsweredByCalls origin.entries lines threads (leads origin story).entries calls
by_law recorded by_the_calls origin story lines threads seat calls given =
    answered origin story lines threads seat calls given
    (recorded origin story lines threads seat (place origin story lines threads seat calls given) (tells origin story lines threads seat calls given))
    (by_the_calls origin story lines threads seat (place origin story lines threads seat calls given) (tells origin story lines threads seat calls given))
