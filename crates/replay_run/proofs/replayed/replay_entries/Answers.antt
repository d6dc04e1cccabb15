use Rattle.std.proofs.Common.{◌≡◌, ℕ, List, ap, sym, ◌∙◌, length}
use Rattle.std.proofs.lemmas.List.{length-map}
use Rattle.replay_core.specs.Runs.{setup_of}
use Rattle.replay_run.proofs.Seen.{all_stopped, seen_played}
use Rattle.replay_run.proofs.replayed.replay_entries.Goals as goal

pub returns-clause-replayed : goal.returns-clause-replayed
returns-clause-replayed g c = record {
  graph_is = c.in_ok-graph.ensures.graph;
  setup = c.in_ok-core.ensures.setup ∙ ap (setup_of c.in_ok-graph.graph.plan) (sym (length-map _ _));
  run = c.in_ok-core.ensures.run;
  long = length-map _ _ ∙ c.play.auto.slots ∙ sym (length-map _ _);
  played = seen_played (λ slot. record { log = g.S.Slot.log slot; start_faults = g.S.Slot.start_faults slot; running = g.S.Slot.running slot }) _ _ _ _ c.in_ok-core.ensures.played;
}

pub returns-clause-at_rest : goal.returns-clause-at_rest
returns-clause-at_rest g c = all_stopped (λ slot. record { log = g.S.Slot.log slot; start_faults = g.S.Slot.start_faults slot; running = g.S.Slot.running slot }) _ _ _ _ c.play.auto.slots c.in_ok-core.ensures.played
