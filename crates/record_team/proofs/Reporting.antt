-- What a team's calls tell of a capture: its report.
use Rattle.std.proofs.Common.{◌≡◌, ℕ, zero, suc, ◌+◌, ◌-◌, ◌%◌, ◌<◌, ◌≤◌, ◌==◌, Bool, true, false, if◌then◌else◌, nat_lt, bytes_eq, List, [], ◌∷◌, length, get_or, filter, map, take, Option, Some, None, refl, sym, ap, ◌∙◌, subst, zero-add, arith}
use Rattle.std.specs.List.{AllZip}
use Rattle.std.proofs.lemmas.Bool.Decides.{nat_tests}
use Rattle.foz_words.specs.declared.key.Key.{Key}
use Rattle.foz_entry.specs.declared.cut.Entry.{Entry}
use Rattle.foz_entry.specs.Entries.{end_of}
use Rattle.foz_entry.specs.Limits.{head_len, payload_limit, end_limit, count_limit}
use Rattle.record_words.specs.declared.answered.Answered.{Answered}
use Rattle.record_words.specs.declared.answered.LineAnswer.TheVariants.{Refused, Replied}
use Rattle.record_words.specs.declared.note.FullNote.{FullNote}
use Rattle.record_words.specs.declared.note.RecordCall.{RecordCall}
use Rattle.record_words.specs.declared.note.RecordCall.TheVariants.{Record, Flush}
use Rattle.record_words.specs.declared.note.RecordReply.{RecordReply}
use Rattle.record_words.specs.declared.note.RecordReply.TheVariants.{New, Known, Collision, TooLarge, Full, TooMany, Flushed, DiskFault, Broken}
use Rattle.record_words.specs.declared.state.RecorderState.{RecorderState}
use Rattle.record_words.specs.Answered.{answered_from}
use Rattle.record_words.specs.Entries.{holder, payload_at}
use Rattle.record_words.specs.Recorder.{after, reply_of, reply_by, reply_unheld, record_reply}
use Rattle.record_words.specs.Recorded.{Line, Answer, skipped, refused, read, passed, declined, replied, IsAnswered}
use Rattle.record_words.specs.Story.{At, AnswersCall, after_note, leads, Legal, HasNoFault}
use Rattle.record_threads.specs.Threads.{Call, Given, given_of, reads_from, TellsThreads, AreAnsweredByCalls}
use Rattle.record_lines.specs.Recording.{AreRecorded}
use Rattle.record_team.specs.Told.{told_from, is_of, declined_at, replied_at}
use Rattle.record_team.specs.Merged.{Rise}
use Rattle.record_team.specs.Team.{HaveAnswered}
use Rattle.record_team.proofs.Answering.{of_another, of_this}
use Rattle.record_team.proofs.Merging.{rise_from, filter_kept, filter_left}
use Rattle.record_team.proofs.Seats.{at_get}

-- ---- a book that is whole at the end never met a fault

abbrev IsNoFault : RecordReply → Type 0
IsNoFault DiskFault = ⊥
IsNoFault reply = Unit {0}

no_fault_if : (b : Bool) (x y : RecordReply) → IsNoFault x → IsNoFault y → IsNoFault (if b then x else y)
no_fault_if true x y p q = p
no_fault_if false x y p q = q

no_fault_unheld : (entries : List Entry) (payload : List ℕ) → IsNoFault (reply_unheld entries payload)
no_fault_unheld entries payload =
    no_fault_if (nat_lt end_limit (end_of entries + (head_len + length payload))) (Full (end_of entries) (head_len + length payload)) _ tt
    (no_fault_if (length entries == count_limit) (TooMany (length entries)) (New (length entries)) tt tt)

no_fault_by : (entries : List Entry) (payload : List ℕ) (h : Option ℕ) → IsNoFault (reply_by h entries payload)
no_fault_by entries payload None = no_fault_unheld entries payload
no_fault_by entries payload (Some i) = no_fault_if (bytes_eq (payload_at entries i) payload) (Known i) (Collision i) tt tt

no_fault_of : (entries : List Entry) (key : Key) (payload : List ℕ) → IsNoFault (reply_of entries key payload)
unfolding reply_of
no_fault_of entries key payload = no_fault_if (nat_lt payload_limit (length payload)) (TooLarge (length payload)) _ tt (no_fault_by entries payload (holder key entries))

no_fault_recorded : (s : RecorderState) (key : Key) (payload : List ℕ) → IsNoFault (record_reply s key payload)
no_fault_recorded s key payload = no_fault_if s.broken Broken (reply_of s.entries key payload) tt (no_fault_of s.entries key payload)

stays_broken_after : (s : RecorderState) (call : RecordCall) (reply : RecordReply) (payload : List ℕ) → s.broken ≡ true → (after s call reply payload).broken ≡ true
stays_broken_after s (Record key) (New i) payload e = e
stays_broken_after s (Record key) reply payload e = e
stays_broken_after s Flush (Flushed count) payload e = e
stays_broken_after s Flush DiskFault payload e = refl
stays_broken_after s Flush reply payload e = e

stays_broken : (s : RecorderState) (story : List FullNote) → s.broken ≡ true → (leads s story).broken ≡ true
stays_broken s [] e = e
stays_broken s (n ∷ ns) e = stays_broken (after_note s n) ns (stays_broken_after s n.note.call n.note.reply n.payload e)

breaks_after : (s : RecorderState) (n : FullNote) (call : RecordCall) → AnswersCall s n call → n.note.reply ≡ DiskFault → (after s call n.note.reply n.payload).broken ≡ true
breaks_after s n (Record key) answers fault =
    absurd (subst IsNoFault (sym answers.1.reply ∙ fault) (no_fault_recorded s key answers.0))
breaks_after s n Flush answers fault = rw fault refl

breaks : (s : RecorderState) (story : List FullNote) (k : ℕ) (n : FullNote) → Legal s story → At story k n → n.note.reply ≡ DiskFault → (leads s story).broken ≡ true
breaks s [] k n legal at fault = absurd cc
breaks s (m ∷ ms) zero n legal at fault =
    let same : m ≡ n = cc in
    stays_broken (after_note s m) ms (breaks_after s m m.note.call (legal [] m ms refl) (ap (λ (z : FullNote). z.note.reply) same ∙ fault))
breaks s (m ∷ ms) (suc k) n legal at fault = breaks (after_note s m) ms k n (λ before x rest e. legal (m ∷ before) x rest (ap (λ (l : List FullNote). m ∷ l) e)) at fault

pub never_failed : (s : RecorderState) (story : List FullNote) → Legal s story → (leads s story).broken ≡ false → HasNoFault story
never_failed s story legal whole = λ k d below fault.
    let broken = breaks s story k (get_or story k d) legal (at_get story k d below) fault in
    let both : true ≡ false = sym broken ∙ whole in
    cc

-- ---- the answers in the order of lines

later_line : (threads thread k j : ℕ) → (k + 1 + j) % threads ≡ thread → (k + suc j) % threads ≡ thread
later_line threads thread k j e = let l : k + suc j ≡ k + 1 + j = omega arith in ap (λ (z : ℕ). z % threads) l ∙ e

module _ {Cause : Type 0} (before later : List Entry) where
  abbrev AreAnswered : List (Line Cause) → List (Answer Cause) → Type 0
  AreAnswered lines answers = AllZip (IsAnswered before later) lines answers

  rises : (n high : ℕ) (lines : List (Line Cause)) (answers : List (Answer Cause)) → n + length lines ≤ high → AreAnswered lines answers → Rise n high (answered_from n lines answers)
  rises n high [] answers le all = tt
  rises n high (line ∷ lines) [] le all = absurd all
  rises n high (skipped ∷ lines) (passed ∷ answers) le all = rise_from (suc n) n high (answered_from (suc n) lines answers) (omega arith) (rises (suc n) high lines answers (omega arith) all.1)
  rises n high (skipped ∷ lines) (declined told ∷ answers) le all = absurd all.0
  rises n high (skipped ∷ lines) (replied reply on ∷ answers) le all = absurd all.0
  rises n high (refused cause ∷ lines) (passed ∷ answers) le all = absurd all.0
  rises n high (refused cause ∷ lines) (declined told ∷ answers) le all = (omega arith, omega arith, rise_from (suc n) (n + 1) high (answered_from (suc n) lines answers) (omega arith) (rises (suc n) high lines answers (omega arith) all.1))
  rises n high (refused cause ∷ lines) (replied reply on ∷ answers) le all = absurd all.0
  rises n high (read key payload ∷ lines) (passed ∷ answers) le all = absurd all.0
  rises n high (read key payload ∷ lines) (declined told ∷ answers) le all = absurd all.0
  rises n high (read key payload ∷ lines) (replied reply on ∷ answers) le all = (omega arith, omega arith, rise_from (suc n) (n + 1) high (answered_from (suc n) lines answers) (omega arith) (rises (suc n) high lines answers (omega arith) all.1))

  module _ (threads thread : ℕ) where
    abbrev told : ℕ → List (Line Cause) → List Call → List (Answered Cause)
    told k lines calls = told_from k threads thread lines calls

    abbrev own : List (Answered Cause) → List (Answered Cause)
    own answered = filter (is_of threads thread) answered

    abbrev reads_if : ℕ → Key → List ℕ → List (Line Cause) → Bool → List Given
    reads_if k key payload lines is_own = if is_own then (key, payload) ∷ reads_from (k + 1) threads thread lines else reads_from (k + 1) threads thread lines

    -- each line that the thread reads is answered as its call was
    abbrev AreByCalls : ℕ → List (Line Cause) → List (Answer Cause) → List Call → Type 0
    AreByCalls k lines answers calls = (j : ℕ) (key : Key) (payload : List ℕ) (call : Call) → At lines j (read key payload) → (k + j) % threads ≡ thread
        → At calls (length (reads_from k threads thread (take j lines))) call → (n : ℕ) × At answers j (replied call.reply n)

    test_of : (k : ℕ) (answered : Answered Cause) → answered.line ≡ suc k → is_of threads thread answered ≡ (k % threads == thread)
    test_of k answered e = let l : answered.line - 1 ≡ k = omega arith in ap (λ (z : ℕ). z % threads == thread) l

    number_is : (k : ℕ) (lines : List (Line Cause)) (answers : List (Answer Cause)) → answered_from (suc (k + 1)) lines answers ≡ answered_from (suc (suc k)) lines answers
    number_is k lines answers = let e : k + 1 ≡ suc k = omega arith in ap (λ (z : ℕ). answered_from (suc z) lines answers) e

    -- the answers from the line after line k on
    abbrev after_line : ℕ → List (Line Cause) → List (Answer Cause) → List (Answered Cause)
    after_line k lines answers = answered_from (suc (suc k)) lines answers

    abbrev refused_at : ℕ → Cause → Answered Cause
    refused_at k cause = record { line = suc k; answer = Refused cause }

    abbrev reply_at : ℕ → Key → RecordReply → Answered Cause
    reply_at k key reply = record { line = suc k; answer = Replied key reply }

    told_refused : (k : ℕ) (cause other : Cause) (lines : List (Line Cause)) (answers : List (Answer Cause)) (calls : List Call) → other ≡ cause → told (k + 1) lines calls ≡ own (after_line k lines answers)
        → (b : Bool) → (k % threads == thread) ≡ b → told k (refused cause ∷ lines) calls ≡ own (refused_at k other ∷ after_line k lines answers)
    told_refused k cause other lines answers calls is further true test =
        let line_is : k + 1 ≡ suc k = omega arith in
        let same : declined_at k cause ≡ refused_at k other = ap (λ (z : ℕ). record { line = z; answer = Refused cause }) line_is ∙ ap (λ (c : Cause). refused_at k c) (sym is) in
        let kept = filter_kept (is_of threads thread) (refused_at k other) (after_line k lines answers) (test_of k (refused_at k other) refl ∙ test) in
        rw test (ap (λ (l : List (Answered Cause)). declined_at k cause ∷ l) further ∙ (ap (λ (a : Answered Cause). a ∷ own (after_line k lines answers)) same ∙ sym kept))
    told_refused k cause other lines answers calls is further false test =
        let dropped = filter_left (is_of threads thread) (refused_at k other) (after_line k lines answers) (test_of k (refused_at k other) refl ∙ test) in
        rw test (further ∙ sym dropped)

    told_read : (k : ℕ) (key : Key) (payload : List ℕ) (lines : List (Line Cause)) (reply : RecordReply) (on : ℕ) (answers : List (Answer Cause))
        → ((cs : List Call) → map given_of cs ≡ reads_from (k + 1) threads thread lines → AreByCalls (k + 1) lines answers cs → told (k + 1) lines cs ≡ own (after_line k lines answers))
        → (b : Bool) → (k % threads == thread) ≡ b → (cs : List Call) → map given_of cs ≡ reads_if k key payload lines (k % threads == thread) → AreByCalls k (read key payload ∷ lines) (replied reply on ∷ answers) cs
        → told k (read key payload ∷ lines) cs ≡ own (reply_at k key reply ∷ after_line k lines answers)
    told_read k key payload lines reply on answers further false test cs given by =
        let at_calls = λ (j : ℕ) (other : Key) (bytes : List ℕ) (call : Call) (at : At lines j (read other bytes)) (mine : (k + 1 + j) % threads ≡ thread) (at_call : At cs (length (reads_from (k + 1) threads thread (take j lines))) call).
        by (suc j) other bytes call at (later_line threads thread k j mine) (subst (λ (l : List Given). At cs (length l) call) (sym (ap (reads_if k key payload (take j lines)) test)) at_call) in
        let dropped = filter_left (is_of threads thread) (reply_at k key reply) (after_line k lines answers) (test_of k (reply_at k key reply) refl ∙ test) in
        of_another threads thread k key payload lines cs test ∙ (further cs (given ∙ ap (reads_if k key payload lines) test) at_calls ∙ sym dropped)
    told_read k key payload lines reply on answers further true test [] given by =
        let e : [] ≡ (key, payload) ∷ reads_from (k + 1) threads thread lines = given ∙ ap (reads_if k key payload lines) test in
        absurd cc
    told_read k key payload lines reply on answers further true test (c ∷ cs) given by =
        let e : given_of c ∷ map given_of cs ≡ (key, payload) ∷ reads_from (k + 1) threads thread lines = given ∙ ap (reads_if k key payload lines) test in
        let more : map given_of cs ≡ reads_from (k + 1) threads thread lines = cc in
        let here : k % threads ≡ thread = grind (arith, nat_tests) in
        let mine : (k + 0) % threads ≡ thread = (let z : k + 0 ≡ k = omega arith in ap (λ (x : ℕ). x % threads) z ∙ here) in
        let answer = by 0 key payload c refl mine refl in
        let replies : Some (replied reply on) ≡ Some (replied c.reply answer.0) = answer.1 in
        let reply_is : c.reply ≡ reply = cc in
        let line_is : k + 1 ≡ suc k = omega arith in
        let same : replied_at k key c.reply ≡ reply_at k key reply = ap (λ (z : ℕ). record { line = z; answer = Replied key c.reply }) line_is ∙ ap (λ (r : RecordReply). reply_at k key r) reply_is in
        let at_calls = λ (j : ℕ) (other : Key) (bytes : List ℕ) (call : Call) (at : At lines j (read other bytes)) (mine : (k + 1 + j) % threads ≡ thread) (at_call : At cs (length (reads_from (k + 1) threads thread (take j lines))) call).
        by (suc j) other bytes call at (later_line threads thread k j mine) (subst (λ (l : List Given). At (c ∷ cs) (length l) call) (sym (ap (reads_if k key payload (take j lines)) test)) at_call) in
        let kept = filter_kept (is_of threads thread) (reply_at k key reply) (after_line k lines answers) (test_of k (reply_at k key reply) refl ∙ test) in
        of_this threads thread k key payload lines c cs test
        ∙ (ap (λ (l : List (Answered Cause)). replied_at k key c.reply ∷ l) (further cs more at_calls) ∙ (ap (λ (a : Answered Cause). a ∷ own (after_line k lines answers)) same ∙ sym kept))

    pub told_is_own : (k : ℕ) (lines : List (Line Cause)) (answers : List (Answer Cause)) (calls : List Call) → AreAnswered lines answers → map given_of calls ≡ reads_from k threads thread lines → AreByCalls k lines answers calls
        → told k lines calls ≡ own (answered_from (suc k) lines answers)
    told_is_own k [] answers calls all given by = refl
    told_is_own k (line ∷ lines) [] calls all given by = absurd all
    told_is_own k (skipped ∷ lines) (passed ∷ answers) calls all given by =
        told_is_own (k + 1) lines answers calls all.1 given (λ j key payload call at mine at_call. by (suc j) key payload call at (later_line threads thread k j mine) at_call)
        ∙ ap own (number_is k lines answers)
    told_is_own k (skipped ∷ lines) (declined other ∷ answers) calls all given by = absurd all.0
    told_is_own k (skipped ∷ lines) (replied reply on ∷ answers) calls all given by = absurd all.0
    told_is_own k (refused cause ∷ lines) (passed ∷ answers) calls all given by = absurd all.0
    told_is_own k (refused cause ∷ lines) (declined other ∷ answers) calls all given by =
        told_refused k cause other lines answers calls all.0
        (told_is_own (k + 1) lines answers calls all.1 given (λ j key payload call at mine at_call. by (suc j) key payload call at (later_line threads thread k j mine) at_call) ∙ ap own (number_is k lines answers))
        (k % threads == thread) refl
    told_is_own k (refused cause ∷ lines) (replied reply on ∷ answers) calls all given by = absurd all.0
    told_is_own k (read key payload ∷ lines) (passed ∷ answers) calls all given by = absurd all.0
    told_is_own k (read key payload ∷ lines) (declined other ∷ answers) calls all given by = absurd all.0
    told_is_own k (read key payload ∷ lines) (replied reply on ∷ answers) calls all given by =
        told_read k key payload lines reply on answers (λ cs more by_more. told_is_own (k + 1) lines answers cs all.1 more by_more ∙ ap own (number_is k lines answers))
        (k % threads == thread) refl calls given by

-- ---- the report

abbrev pub ThreadsLaw : Type 0 → Type 0
ThreadsLaw Cause = (origin : RecorderState) (story : List FullNote) (lines : List (Line Cause)) (threads : ℕ) (seat : ℕ → ℕ) (calls : ℕ → List Call)
    → TellsThreads origin story lines threads seat calls → AreAnsweredByCalls origin.entries lines threads (leads origin story).entries calls

module _ {Cause : Type 0} (law : ThreadsLaw Cause) (origin : RecorderState) (story : List FullNote) (lines : List (Line Cause)) (threads : ℕ) (some : 0 < threads) (whole : origin.broken ≡ false) (legal : Legal origin story) (still_whole : (leads origin story).broken ≡ false)
    (nobody_else : (p : ℕ) (n : FullNote) (key : Key) → At story p n → n.note.call ≡ Record key → (thread : ℕ) × (thread < threads) × (n.note.seat ≡ thread + 1)) (all : List (Answered Cause)) (answered : HaveAnswered origin lines threads story all) where
  tells : TellsThreads origin story lines threads (λ thread. thread + 1) answered.calls
  tells = record {
    some = some;
    distinct = λ t u t_below u_below e. omega arith;
    whole = whole;
    legal = legal;
    no_fault = never_failed origin story legal still_whole;
    nobody_else = nobody_else;
    each = answered.has;
    lines_are = answered.given;
  }

  -- so many threads recorded the lines, and these are the answers
  pub are_recorded : AreRecorded origin.entries lines threads (leads origin story).entries all
  are_recorded =
      let by = law origin story lines threads (λ thread. thread + 1) answered.calls tells in
      record {
        answers = by.answers;
        are = by.are;
        told = answered.merged (answered_from 1 lines by.answers) (rises origin.entries (leads origin story).entries 1 (length lines + 1) lines by.answers (omega arith) by.are.each)
            (λ thread below. told_is_own origin.entries (leads origin story).entries threads thread 0 lines by.answers (answered.calls thread) by.are.each (answered.given thread below)
            (λ j key payload call at mine at_call.
            let own : j % threads ≡ thread = ap (λ (z : ℕ). z % threads) (sym (zero-add j)) ∙ mine in
            by.by_calls j key payload call at
            (subst (λ (t : ℕ). At (answered.calls t) (length (reads_from 0 threads t (take j lines))) call) (sym own) at_call)));
      }
