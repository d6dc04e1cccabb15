-- What is counted of events and verdicts.
use Rattle.std.specs.Prelude.{ℕ, ◌≡◌, ◌==◌, ◌+◌, ◌<◌, ◌^◌, not, if◌then◌else◌, Bool, true, false, List, length, Option, Some, None, count_by}
use Rattle.replay_core.specs.declared.counts.Counts.{Counts}
use Rattle.replay_core.specs.declared.event.Event.{Event}
use Rattle.replay_core.specs.declared.event.Event.TheVariants.{Start, Reply, Death, Restart, Retire, Miss}
use Rattle.replay_core.specs.declared.event.Verdict.{Verdict}
use Rattle.replay_core.specs.declared.event.Verdict.TheVariants.{Done, Blamed, Missing}
use Rattle.replay_core.specs.Runs.{Setup, verdict_list}

abbrev pub is_death : Event → Bool
is_death (Start slot item) = false
is_death (Reply slot item code) = false
is_death (Death slot) = true
is_death (Restart slot) = false
is_death (Retire slot) = false
is_death (Miss item place) = false

abbrev pub is_restart : Event → Bool
is_restart (Start slot item) = false
is_restart (Reply slot item code) = false
is_restart (Death slot) = false
is_restart (Restart slot) = true
is_restart (Retire slot) = false
is_restart (Miss item place) = false

abbrev pub is_retirement : Event → Bool
is_retirement (Start slot item) = false
is_retirement (Reply slot item code) = false
is_retirement (Death slot) = false
is_retirement (Restart slot) = false
is_retirement (Retire slot) = true
is_retirement (Miss item place) = false

abbrev pub is_success : Option Verdict → Bool
is_success None = false
is_success (Some (Done code)) = code == 0
is_success (Some Blamed) = false
is_success (Some (Missing place)) = false

abbrev pub is_refused : Option Verdict → Bool
is_refused None = false
is_refused (Some (Done code)) = not (code == 0)
is_refused (Some Blamed) = false
is_refused (Some (Missing place)) = false

abbrev pub is_blamed : Option Verdict → Bool
is_blamed None = false
is_blamed (Some (Done code)) = false
is_blamed (Some Blamed) = true
is_blamed (Some (Missing place)) = false

abbrev pub is_missing : Option Verdict → Bool
is_missing None = false
is_missing (Some (Done code)) = false
is_missing (Some Blamed) = false
is_missing (Some (Missing place)) = true

-- the counts are those of these events and verdicts
pub record IsTally (es : List Event) (verdicts : List (Option Verdict)) (c : Counts) : Type 0 where
  pub events : c.events ≡ length es
  pub done : c.done ≡ count_by is_success verdicts
  pub refused : c.refused ≡ count_by is_refused verdicts
  pub blamed : c.blamed ≡ count_by is_blamed verdicts
  pub missing : c.missing ≡ count_by is_missing verdicts
  pub deaths : c.deaths ≡ count_by is_death es
  pub restarts : c.restarts ≡ count_by is_restart es
  pub retired : c.retired ≡ count_by is_retirement es

-- the counts are those of a replay after these events
abbrev pub IsCountOf : Setup → List Event → Counts → Type 0
IsCountOf s es c = IsTally es (verdict_list s es) c

abbrev pub one_if : Bool → ℕ
one_if b = if b then 1 else 0

-- the counts after one more event
abbrev pub with_event : Counts → Event → Counts
with_event c e = record c {
  events = c.events + 1;
  deaths = c.deaths + one_if (is_death e);
  restarts = c.restarts + one_if (is_restart e);
  retired = c.retired + one_if (is_retirement e);
}

-- the counts after one more item was decided
abbrev pub with_verdict : Counts → Verdict → Counts
with_verdict c v = record c {
  done = c.done + one_if (is_success (Some v));
  refused = c.refused + one_if (is_refused (Some v));
  blamed = c.blamed + one_if (is_blamed (Some v));
  missing = c.missing + one_if (is_missing (Some v));
}

abbrev pub with_decided : Counts → Option (ℕ × Verdict) → Counts
with_decided c None = c
with_decided c (Some v) = with_verdict c v.1

-- each count can be raised
pub record AreSmall (c : Counts) : Type 0 where
  pub events : c.events < 2 ^ 32
  pub done : c.done < 2 ^ 32
  pub refused : c.refused < 2 ^ 32
  pub blamed : c.blamed < 2 ^ 32
  pub missing : c.missing < 2 ^ 32
  pub deaths : c.deaths < 2 ^ 32
  pub restarts : c.restarts < 2 ^ 32
  pub retired : c.retired < 2 ^ 32
