-- The causes of how a replay ends.
use Rattle.std.proofs.Common.{◌≡◌, ◌≢◌, ◌⊎◌, inl, inr, ℕ, List, Result, Ok, Err, map, refl, sym, ap, ◌∙◌, arith}
use Rattle.std.specs.Prelude.{drop, IfErr}
use Rattle.std.proofs.lemmas.List.{drop-map}
use Rattle.foz_entry.specs.declared.cut.Entry.{Entry}
use Rattle.replay_core.specs.Runs.{verdict_list}
use Rattle.slot_log.specs.Views.{SlotView}
use Rattle.replay_run.specs.Replays.{EachFailedToStart, UnansweredByFailedStarts}
use Rattle.replay_text.specs.declared.overall.Overall.{Overall}
use Rattle.replay_text.specs.declared.overall.Overall.TheVariants.{Flawless, Flawed, Unanswered}
use Rattle.replay_text.specs.Overall.{overall, DecidedIsAnswered}
use Rattle.foz_base.specs.declared.ending.Printout.{Printout}
use Rattle.foz_base.specs.declared.stop.Stop.{Stop}
use Rattle.foz_base.specs.declared.stop.Stop.TheVariants.{Usage, ReadFault, WriteFault, DiskFault, Absent, Archive, Memory, Full, TooMany, InputTooLong}
use Rattle.foz_base.specs.Ending.{EndsWith, Causes}
use Rattle.foz_base.specs.Status.{status_of_stop}
use Rattle.foz_tool.specs.Outcome.{status_of_overall}
use Rattle.foz_tool.specs.ReplayRun.{AreReplayed, ReplayCauses, HasReplayCauses}

-- a replay that leaves an item unanswered could start no worker
pub replay_causes : DecidedIsAnswered → UnansweredByFailedStarts → (unread : Type 0) (entries : List Entry) (before after : List SlotView) (made : Printout) → AreReplayed entries before after made.text made.status
    → ReplayCauses unread (EachFailedToStart before after) (Ok made)
replay_causes answered failed unread entries before after made told = by_overall (overall told.graph.classes (verdict_list told.core.setup told.core.events)) refl told.status_is
  where
    by_overall : (went : Overall) → overall told.graph.classes (verdict_list told.core.setup told.core.events) ≡ went → made.status ≡ status_of_overall went → ReplayCauses unread (EachFailedToStart before after) (Ok made)
    by_overall Flawless e is = inl is
    by_overall Flawed e is = inr (inl is)
    by_overall Unanswered e is = inr (inr (is, failed entries before after told.graph told.core told.replayed (λ decided. answered told.core.setup told.core.events told.graph.classes decided e)))

module _ (unread unwritten unstarted : Type 0) where
  ends_at : (status n : ℕ) → status ≡ n → n ≢ 2 → (n ≡ 3 → unread) → (n ≡ 4 → unwritten) → n ≢ 5 → (n ≡ 9 → unstarted) → HasReplayCauses unread unwritten unstarted status
  ends_at status n is two three four five nine = record {
    no_usage = λ e. two (sym is ∙ e);
    read = λ e. three (sym is ∙ e);
    write = λ e. four (sym is ∙ e);
    no_disk = λ e. five (sym is ∙ e);
    unanswered = λ e. nine (sym is ∙ e);
  }

  other : (status n : ℕ) → status ≡ n → n ≢ 2 → n ≢ 3 → n ≢ 4 → n ≢ 5 → n ≢ 9 → HasReplayCauses unread unwritten unstarted status
  other status n is two three four five nine = ends_at status n is two (λ e. absurd (three e)) (λ e. absurd (four e)) five (λ e. absurd (nine e))

  done : (status n : ℕ) → status ≡ n → (n ≡ 0) ⊎ (n ≡ 1) ⊎ ((n ≡ 9) × unstarted) → HasReplayCauses unread unwritten unstarted status
  done status n is (inl zero) = other status 0 (is ∙ zero) (λ e. omega (arith, e)) (λ e. omega (arith, e)) (λ e. omega (arith, e)) (λ e. omega (arith, e)) (λ e. omega (arith, e))
  done status n is (inr (inl one)) = other status 1 (is ∙ one) (λ e. omega (arith, e)) (λ e. omega (arith, e)) (λ e. omega (arith, e)) (λ e. omega (arith, e)) (λ e. omega (arith, e))
  done status n is (inr (inr nine)) =
      ends_at status 9 (is ∙ nine.0) (λ e. omega (arith, e)) (λ e. absurd (omega (arith, e))) (λ e. absurd (omega (arith, e))) (λ e. omega (arith, e)) (λ e. nine.1)

  pub has_replay_causes : (made : Result Printout Stop) (status : ℕ) → EndsWith made unwritten status → ReplayCauses unread unstarted made → HasReplayCauses unread unwritten unstarted status
  has_replay_causes (Ok made) status (inl is) whole = done status made.status is whole
  has_replay_causes (Ok made) status (inr cut) whole =
      ends_at status 4 cut.0 (λ e. omega (arith, e)) (λ e. absurd (omega (arith, e))) (λ e. cut.1) (λ e. omega (arith, e)) (λ e. absurd (omega (arith, e)))
  has_replay_causes (Err Usage) status is why = absurd why
  has_replay_causes (Err ReadFault) status is why =
      ends_at status 3 is (λ e. omega (arith, e)) (λ e. why) (λ e. absurd (omega (arith, e))) (λ e. omega (arith, e)) (λ e. absurd (omega (arith, e)))
  has_replay_causes (Err WriteFault) status is why = absurd why
  has_replay_causes (Err DiskFault) status is why = absurd why
  has_replay_causes (Err Absent) status is why = other status 6 is (λ e. omega (arith, e)) (λ e. omega (arith, e)) (λ e. omega (arith, e)) (λ e. omega (arith, e)) (λ e. omega (arith, e))
  has_replay_causes (Err (Archive error)) status is why = other status 6 is (λ e. omega (arith, e)) (λ e. omega (arith, e)) (λ e. omega (arith, e)) (λ e. omega (arith, e)) (λ e. omega (arith, e))
  has_replay_causes (Err Memory) status is why = other status 7 is (λ e. omega (arith, e)) (λ e. omega (arith, e)) (λ e. omega (arith, e)) (λ e. omega (arith, e)) (λ e. omega (arith, e))
  has_replay_causes (Err (Full end need)) status is why = other status 8 is (λ e. omega (arith, e)) (λ e. omega (arith, e)) (λ e. omega (arith, e)) (λ e. omega (arith, e)) (λ e. omega (arith, e))
  has_replay_causes (Err (TooMany count)) status is why = other status 8 is (λ e. omega (arith, e)) (λ e. omega (arith, e)) (λ e. omega (arith, e)) (λ e. omega (arith, e)) (λ e. omega (arith, e))
  has_replay_causes (Err InputTooLong) status is why = other status 10 is (λ e. omega (arith, e)) (λ e. omega (arith, e)) (λ e. omega (arith, e)) (λ e. omega (arith, e)) (λ e. omega (arith, e))

  -- what a replay doesn't touch unless its file was read
  not_done : (status n : ℕ) → status ≡ n → (n ≡ 0) ⊎ (n ≡ 1) ⊎ ((n ≡ 9) × unstarted) → (status ≡ 3) ⊎ (status ≡ 6) → ⊥
  not_done status n is (inl zero) (inl e) = omega (arith, is, zero, e)
  not_done status n is (inl zero) (inr e) = omega (arith, is, zero, e)
  not_done status n is (inr (inl one)) (inl e) = omega (arith, is, one, e)
  not_done status n is (inr (inl one)) (inr e) = omega (arith, is, one, e)
  not_done status n is (inr (inr nine)) (inl e) = let ninth : n ≡ 9 = nine.0 in omega (arith, is, ninth, e)
  not_done status n is (inr (inr nine)) (inr e) = let ninth : n ≡ 9 = nine.0 in omega (arith, is, ninth, e)

  not_read : (status n : ℕ) → status ≡ n → n ≢ 3 → n ≢ 6 → (status ≡ 3) ⊎ (status ≡ 6) → ⊥
  not_read status n is three six (inl e) = three (sym is ∙ e)
  not_read status n is three six (inr e) = six (sym is ∙ e)

  pub unless_read : (P : Type 0) (made : Result Printout Stop) (status : ℕ) → EndsWith made unwritten status → ReplayCauses unread unstarted made → IfErr made (λ stop. stop ≢ Memory → P) → (status ≡ 3) ⊎ (status ≡ 6) → P
  unless_read P (Ok made) status (inl is) whole rests e = absurd (not_done status made.status is whole e)
  unless_read P (Ok made) status (inr cut) whole rests e = absurd (not_read status 4 cut.0 (λ h. omega (arith, h)) (λ h. omega (arith, h)) e)
  unless_read P (Err Memory) status is why rests e = absurd (not_read status 7 is (λ h. omega (arith, h)) (λ h. omega (arith, h)) e)
  unless_read P (Err Usage) status is why rests e = rests (λ h. cc)
  unless_read P (Err ReadFault) status is why rests e = rests (λ h. cc)
  unless_read P (Err WriteFault) status is why rests e = rests (λ h. cc)
  unless_read P (Err DiskFault) status is why rests e = rests (λ h. cc)
  unless_read P (Err Absent) status is why rests e = rests (λ h. cc)
  unless_read P (Err (Archive error)) status is why rests e = rests (λ h. cc)
  unless_read P (Err (Full end need)) status is why rests e = rests (λ h. cc)
  unless_read P (Err (TooMany count)) status is why rests e = rests (λ h. cc)
  unless_read P (Err InputTooLong) status is why rests e = rests (λ h. cc)

-- slots that stay are seen as before
pub same_slots : {S : Type 0} (view : S → SlotView) (n : ℕ) (before after : List S) → drop n after ≡ drop n before → drop n (map view after) ≡ drop n (map view before)
same_slots view n before after is = drop-map view n after ∙ ap (map view) is ∙ sym (drop-map view n before)
