-- What workers are asked with, of an archive's entries.
use Rattle.std.specs.Prelude.{ℕ, ◌≤◌, All, length, map}
use Rattle.foz_entry.specs.declared.cut.Entry.{Entry}
use Rattle.replay_core.specs.Histories.{IsPlan}
use Rattle.worker_msg.specs.Frames.{limit}
use Rattle.dep_graph.specs.Items.{item_entries}
use Rattle.dep_graph.specs.Graphs.{IsPlanOf}
use Rattle.slot_log.specs.Works.{Work, Orders}
use Rattle.replay_crew.specs.declared.jobs.Jobs.{Jobs}

abbrev pub work_in : Entry → Work
work_in entry = record { key = entry.head.key; payload = entry.payload }

abbrev pub orders_of : Jobs → Orders
orders_of jobs = record { plan = jobs.graph.now.plan; works = map work_in (item_entries jobs.entries.now jobs.graph.now.classes) }

-- the graph is that of the entries, a scheduler takes its plan, and each item's payload fits a frame
pub record AreJobs (jobs : Jobs) : Type 0 where
  pub graph : IsPlanOf jobs.entries.now jobs.graph.now
  pub plan : IsPlan jobs.graph.now.plan
  pub short : All (λ entry. length entry.payload ≤ limit) (item_entries jobs.entries.now jobs.graph.now.classes)
