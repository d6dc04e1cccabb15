-- A thread goes over one more line.
use Rattle.std.proofs.Common.{◌≡◌, ◌≢◌, ℕ, suc, ◌+◌, ◌%◌, ◌==◌, Bool, true, false, if◌then◌else◌, List, [], ◌∷◌, ◌++◌, length, map, Result, Ok, Err, OnOk, OnErr, refl, sym, ap, ◌∙◌, subst, append-nil, append_assoc, zero-add, arith}
use Rattle.std.proofs.lemmas.Bool.Decides.{nat_tests}
use Rattle.foz_words.specs.declared.key.Key.{Key}
use Rattle.record_words.specs.declared.answered.Answered.{Answered}
use Rattle.record_words.specs.declared.note.FullNote.{FullNote}
use Rattle.record_words.specs.declared.note.RecordReply.{RecordReply}
use Rattle.record_words.specs.declared.state.RecorderState.{RecorderState}
use Rattle.record_words.specs.Recorded.{Line, skipped, refused, read}
use Rattle.record_threads.specs.Threads.{Call, Given, given_of, HasCalls, reads_from, reads_of}
use Rattle.record_team.specs.Told.{declined_at, replied_at, told_from}
use Rattle.record_team.specs.Work.{HasRecorded, HasAnswered}

-- what holds anyway
pub on_ok : {T E P : Type 0} (result : Result T E) → P → OnOk result P
on_ok (Ok x) holds = holds
on_ok (Err e) holds = tt

pub on_err : {T E P : Type 0} (result : Result T E) → P → OnErr result P
on_err (Ok x) holds = tt
on_err (Err e) holds = holds

-- a list that has an element, and one that has none
pub some_line : {X : Type 0} (xs : List X) (none : Bool) → none ≡ (length xs == 0) → none ≡ false → (x : X) × (rest : List X) × (xs ≡ x ∷ rest)
some_line [] none e f = absurd cc
some_line (x ∷ xs) none e f = (x, xs, refl)

pub no_line : {X : Type 0} (xs : List X) (none : Bool) → none ≡ (length xs == 0) → none ≡ true → xs ≡ []
no_line [] none e t = refl
no_line (x ∷ xs) none e t =
    let f : (length (x ∷ xs) == 0) ≡ true = sym e ∙ t in
    let n : length (x ∷ xs) ≡ 0 = grind (arith, nat_tests) in
    absurd (omega arith)

snoc_if : {X : Type 0} (b : Bool) (x : X) (xs ys zs : List X) → xs ≡ ys ++ zs → (if b then x ∷ xs else xs) ≡ (if b then x ∷ ys else ys) ++ zs
snoc_if {X} true x xs ys zs e = ap (λ (l : List X). x ∷ l) e
snoc_if false x xs ys zs e = e

map_snoc : (calls : List Call) (call : Call) → map given_of (calls ++ call ∷ []) ≡ map given_of calls ++ given_of call ∷ []
map_snoc [] call = refl
map_snoc (c ∷ cs) call = ap (λ (l : List Given). given_of c ∷ l) (map_snoc cs call)

map_length : (calls : List Call) → length (map given_of calls) ≡ length calls
map_length [] = refl
map_length (c ∷ cs) = ap (λ (n : ℕ). suc n) (map_length cs)

module _ {Cause : Type 0} (threads thread : ℕ) where
  abbrev told : ℕ → List (Line Cause) → List Call → List (Answered Cause)
  told k lines calls = told_from k threads thread lines calls

  abbrev reads_if : ℕ → Key → List ℕ → List (Line Cause) → Bool → List Given
  reads_if k key payload lines own = if own then (key, payload) ∷ reads_from (k + 1) threads thread lines else reads_from (k + 1) threads thread lines

  -- a line that is read by another thread
  pub of_another : (k : ℕ) (key : Key) (payload : List ℕ) (lines : List (Line Cause)) (calls : List Call) → (k % threads == thread) ≡ false → told k (read key payload ∷ lines) calls ≡ told (k + 1) lines calls
  of_another k key payload lines [] test = refl
  of_another k key payload lines (c ∷ cs) test = rw test

  -- one that is read by this thread
  pub of_this : (k : ℕ) (key : Key) (payload : List ℕ) (lines : List (Line Cause)) (call : Call) (calls : List Call) → (k % threads == thread) ≡ true → told k (read key payload ∷ lines) (call ∷ calls) ≡ replied_at k key call.reply ∷ told (k + 1) lines calls
  of_this k key payload lines call calls test = rw test

  module _ (line : Line Cause) (more : List Call) where
    abbrev after : ℕ → List (Answered Cause)
    after k = told k (line ∷ []) more

    told_more : (k : ℕ) (lines : List (Line Cause)) (calls : List Call) → length calls ≡ length (reads_from k threads thread lines) → told k (lines ++ line ∷ []) (calls ++ more) ≡ told k lines calls ++ after (k + length lines)
    told_more k [] [] e = let at : k ≡ k + length {A = Line Cause} [] = omega arith in ap after at
    told_more k [] (c ∷ cs) e = absurd (omega arith)
    told_more k (skipped ∷ lines) calls e =
        let at : k + 1 + length lines ≡ k + length {A = Line Cause} (skipped ∷ lines) = omega arith in
        told_more (k + 1) lines calls e ∙ ap (λ (z : ℕ). told (k + 1) lines calls ++ after z) at
    told_more k (refused cause ∷ lines) calls e =
        let at : k + 1 + length lines ≡ k + length {A = Line Cause} (refused cause ∷ lines) = omega arith in
        snoc_if (k % threads == thread) (declined_at k cause) (told (k + 1) (lines ++ line ∷ []) (calls ++ more)) (told (k + 1) lines calls) (after (k + length {A = Line Cause} (refused cause ∷ lines)))
        (told_more (k + 1) lines calls e ∙ ap (λ (z : ℕ). told (k + 1) lines calls ++ after z) at)
    told_more k (read key payload ∷ lines) calls e = by_test (λ cs same. told_more (k + 1) lines cs same) (k % threads == thread) refl calls e
      where
        at : k + 1 + length lines ≡ k + length {A = Line Cause} (read key payload ∷ lines)
        at = omega arith

        by_test : ((cs : List Call) → length cs ≡ length (reads_from (k + 1) threads thread lines) → told (k + 1) (lines ++ line ∷ []) (cs ++ more) ≡ told (k + 1) lines cs ++ after (k + 1 + length lines))
            → (b : Bool) → (k % threads == thread) ≡ b → (cs : List Call) → length cs ≡ length (reads_if k key payload lines (k % threads == thread)) → told k (read key payload ∷ (lines ++ line ∷ [])) (cs ++ more) ≡ told k (read key payload ∷ lines) cs ++ after (k + length {A = Line Cause} (read key payload ∷ lines))
        by_test further false test cs e =
            let same : length cs ≡ length (reads_from (k + 1) threads thread lines) = e ∙ ap (λ (b : Bool). length (reads_if k key payload lines b)) test in
            of_another k key payload (lines ++ line ∷ []) (cs ++ more) test
            ∙ ((further cs same ∙ ap (λ (z : ℕ). told (k + 1) lines cs ++ after z) at) ∙ ap (λ (l : List (Answered Cause)). l ++ after (k + length {A = Line Cause} (read key payload ∷ lines))) (sym (of_another k key payload lines cs test)))
        by_test further true test [] e = let l : 0 ≡ suc (length (reads_from (k + 1) threads thread lines)) = e ∙ ap (λ (b : Bool). length (reads_if k key payload lines b)) test in absurd (omega arith)
        by_test further true test (c ∷ cs) e =
            let l : suc (length cs) ≡ suc (length (reads_from (k + 1) threads thread lines)) = e ∙ ap (λ (b : Bool). length (reads_if k key payload lines b)) test in
            of_this k key payload (lines ++ line ∷ []) c (cs ++ more) test
            ∙ (ap (λ (r : List (Answered Cause)). replied_at k key c.reply ∷ r) (further cs (omega arith) ∙ ap (λ (z : ℕ). told (k + 1) lines cs ++ after z) at)
            ∙ ap (λ (r : List (Answered Cause)). r ++ after (k + length {A = Line Cause} (read key payload ∷ lines))) (sym (of_this k key payload lines c cs test)))

  -- ---- what a thread has done

  module _ (origin : RecorderState) (done : List (Line Cause)) (number : ℕ) (seen : List FullNote) (answers : List (Answered Cause)) (before : HasAnswered origin done threads thread number seen answers) where
    abbrev further_seen : List FullNote → Type 0
    further_seen later = HasCalls origin later number before.calls

    -- nothing more was recorded
    pub stays_recorded : (line : Line Cause) (later : List FullNote) → further_seen later → HasRecorded origin (done ++ line ∷ []) threads thread number later
    stays_recorded line later has = record { calls = before.calls; has = has; done = done; rest = line ∷ []; prefix = refl; given = before.given }

    counted : length before.calls ≡ length (reads_of threads thread done)
    counted = sym (map_length before.calls) ∙ ap length before.given

    grows : (line : Line Cause) (more : List Call) (added : List (Answered Cause)) (later : List FullNote) → reads_of threads thread (done ++ line ∷ []) ≡ map given_of (before.calls ++ more)
        → told (length done) (line ∷ []) more ≡ added → HasCalls origin later number (before.calls ++ more) → HasAnswered origin (done ++ line ∷ []) threads thread number later (answers ++ added)
    grows line more added later reads tells has = record {
      calls = before.calls ++ more;
      has = has;
      given = sym reads;
      told_is =
          ap (λ (l : List (Answered Cause)). l ++ added) before.told_is
          ∙ (ap (λ (l : List (Answered Cause)). told 0 done before.calls ++ l) (sym tells)
          ∙ (ap (λ (z : ℕ). told 0 done before.calls ++ told z (line ∷ []) more) (sym (zero-add (length done)))
          ∙ sym (told_more line more 0 done before.calls counted)));
    }

    -- a line that gives nothing to record
    passes : (line : Line Cause) (added : List (Answered Cause)) → reads_of threads thread (done ++ line ∷ []) ≡ reads_of threads thread done → told (length done) (line ∷ []) [] ≡ added → HasAnswered origin (done ++ line ∷ []) threads thread number seen (answers ++ added)
    passes line added reads tells =
        grows line [] added seen (reads ∙ (sym before.given ∙ ap (map given_of) (sym (append-nil before.calls)))) tells
        (subst (HasCalls origin seen number) (sym (append-nil before.calls)) before.has)

    abbrev SkipsOthers : Line Cause → Type 0
    SkipsOthers line = ((key : Key) (payload : List ℕ) → line ≢ read key payload) → reads_of threads thread (done ++ line ∷ []) ≡ reads_of threads thread done

    pub skips : SkipsOthers skipped → HasAnswered origin (done ++ skipped ∷ []) threads thread number seen answers
    skips passed =
        subst (HasAnswered origin (done ++ skipped ∷ []) threads thread number seen) (append-nil answers)
        (passes skipped [] (passed (λ key payload e. cc)) refl)

    pub declines : (cause : Cause) → SkipsOthers (refused cause) → length done % threads ≡ thread → HasAnswered origin (done ++ refused cause ∷ []) threads thread number seen (answers ++ declined_at (length done) cause ∷ [])
    declines cause passed own =
        let test : (length done % threads == thread) ≡ true = grind (arith, nat_tests) in
        passes (refused cause) (declined_at (length done) cause ∷ []) (passed (λ key payload e. cc)) (rw test)

    abbrev ReadsOne : Key → List ℕ → Type 0
    ReadsOne key payload = reads_of threads thread (done ++ read key payload ∷ []) ≡ (if length done % threads == thread then reads_of threads thread done ++ (key, payload) ∷ [] else reads_of threads thread done)

    pub replies : (key : Key) (payload : List ℕ) (reply : RecordReply) (later : List FullNote) → ReadsOne key payload → length done % threads ≡ thread
        → HasCalls origin later number (before.calls ++ record { key = key; payload = payload; reply = reply } ∷ []) → HasAnswered origin (done ++ read key payload ∷ []) threads thread number later (answers ++ replied_at (length done) key reply ∷ [])
    replies key payload reply later one own has =
        let call : Call = record { key = key; payload = payload; reply = reply } in
        let test : (length done % threads == thread) ≡ true = grind (arith, nat_tests) in
        let reads : reads_of threads thread (done ++ read key payload ∷ []) ≡ reads_of threads thread done ++ (key, payload) ∷ [] = one ∙ (rw test) in
        grows (read key payload) (call ∷ []) (replied_at (length done) key reply ∷ []) later (reads ∙ (ap (λ (l : List Given). l ++ (key, payload) ∷ []) (sym before.given) ∙ sym (map_snoc before.calls call))) (of_this (length done) key payload [] call [] test) has

    -- the call was made, whatever came of its answer
    pub recorded_too : (key : Key) (payload : List ℕ) (reply : RecordReply) (later : List FullNote) → ReadsOne key payload → length done % threads ≡ thread
        → HasCalls origin later number (before.calls ++ record { key = key; payload = payload; reply = reply } ∷ []) → HasRecorded origin (done ++ read key payload ∷ []) threads thread number later
    recorded_too key payload reply later one own has =
        let all = replies key payload reply later one own has in
        record { calls = all.calls; has = all.has; done = done ++ read key payload ∷ []; rest = []; prefix = sym (append-nil (done ++ read key payload ∷ [])); given = all.given }

    -- another thread's line
    pub leaves : (line : Line Cause) → SkipsOthers line → ((key : Key) (payload : List ℕ) → ReadsOne key payload) → length done % threads ≢ thread → HasAnswered origin (done ++ line ∷ []) threads thread number seen answers
    leaves line passed one other = subst (HasAnswered origin (done ++ line ∷ []) threads thread number seen) (append-nil answers) (passes line [] (reads line passed) (tells line))
      where
        test : (length done % threads == thread) ≡ false
        test = grind (arith, nat_tests)

        reads : (l : Line Cause) → SkipsOthers l → reads_of threads thread (done ++ l ∷ []) ≡ reads_of threads thread done
        reads skipped p = p (λ key payload e. cc)
        reads (refused cause) p = p (λ key payload e. cc)
        reads (read key payload) p = one key payload ∙ (rw test)

        tells : (l : Line Cause) → told (length done) (l ∷ []) [] ≡ []
        tells skipped = refl
        tells (refused cause) = rw test
        tells (read key payload) = refl

    -- and where a thread ends it has recorded what it has answered
    pub answered_recorded : HasRecorded origin done threads thread number seen
    answered_recorded = record { calls = before.calls; has = before.has; done = done; rest = []; prefix = sym (append-nil done); given = before.given }

-- what is known of the seat's calls after it has seen more
pub answered_still : {Cause : Type 0} (origin : RecorderState) (done : List (Line Cause)) (threads thread number : ℕ) (seen later : List FullNote) (answers : List (Answered Cause))
    → ((calls : List Call) → HasCalls origin seen number calls → HasCalls origin later number calls) → HasAnswered origin done threads thread number seen answers → HasAnswered origin done threads thread number later answers
answered_still origin done threads thread number seen later answers more has = record { calls = has.calls; has = more has.calls has.has; given = has.given; told_is = has.told_is }

pub recorded_still : {Cause : Type 0} (origin : RecorderState) (done : List (Line Cause)) (threads thread number : ℕ) (seen later : List FullNote)
    → ((calls : List Call) → HasCalls origin seen number calls → HasCalls origin later number calls) → HasRecorded origin done threads thread number seen → HasRecorded origin done threads thread number later
recorded_still origin done threads thread number seen later more has = record { calls = has.calls; has = more has.calls has.has; done = has.done; rest = has.rest; prefix = has.prefix; given = has.given }

-- lines that were recorded so far are so of all lines
pub recorded_of_all : {Cause : Type 0} (origin : RecorderState) (lines begun rest : List (Line Cause)) (threads thread number : ℕ) (seen : List FullNote) → lines ≡ begun ++ rest → HasRecorded origin begun threads thread number seen → HasRecorded origin lines threads thread number seen
recorded_of_all origin lines begun rest threads thread number seen cut has = record {
  calls = has.calls;
  has = has.has;
  done = has.done;
  rest = has.rest ++ rest;
  prefix = cut ∙ (ap (λ (l : List (Line _)). l ++ rest) has.prefix ∙ append_assoc has.done has.rest rest);
  given = has.given;
}
