-- What the scheduler keeps so that no call searches through all items.
use Rattle.std.specs.Prelude.{ℕ, ◌≡◌, ◌≢◌, ◌+◌, ◌<◌, ◌≤◌, All, Contains, Bool, true, false, not, List, length, drop, slice_get, slice_index_or, Some, None, count_by, vec_capacity}
use Rattle.replay_core.specs.declared.queues.Queues.{Queues}
use Rattle.replay_core.specs.Histories.{History}
use Rattle.replay_core.specs.declared.plan.Dep.TheVariants.{Item}
use Rattle.replay_core.specs.declared.event.Event.{Event}
use Rattle.replay_core.specs.declared.event.Verdict.{Verdict}
use Rattle.replay_core.specs.Plans.{items_of, deps_of, Founded}
use Rattle.replay_core.specs.Runs.{Setup, verdict_by, verdict_of, IsMet, IsWaiting, IsRun}
use Rattle.replay_core.specs.Worklists.{IsList}

-- item i has come as far as the dependency at `place`, which is founded and still undecided
abbrev pub HangsAt : Setup → List Event → ℕ → ℕ → Type 0
HangsAt s es place i = (j : ℕ) × (slice_get (deps_of s.plan i) place ≡ Some (Item j)) × Founded s.plan j × (verdict_of s es j ≡ None)

-- the item waits, and was not found ready
abbrev pub IsUnready : Setup → List Event → List Bool → ℕ → Type 0
IsUnready s es queued i = IsWaiting s es i × (slice_index_or queued i false ≡ false)

-- queued: the items that were found ready, all of them in `ready`, of which the first `taken` were tried
pub record ReadyFits (s : Setup) (es : List Event) (queued : List Bool) (ready : List ℕ) (taken : ℕ) : Type 0 where
  pub queued_len : length queued ≡ items_of s.plan
  pub taken_inside : taken ≤ length ready
  pub ready_items : All (λ i. (i < items_of s.plan) × (slice_index_or queued i false ≡ true)) ready
  pub queued_met : (i : ℕ) → i < items_of s.plan → slice_index_or queued i false ≡ true → All (IsMet s es) (deps_of s.plan i)
  pub queued_ready : (i : ℕ) → IsWaiting s es i → slice_index_or queued i false ≡ true → Contains (drop taken ready) i

-- The queues fit the history, which is a run, and have room for all that may still come into them. Only decided items were passed on.
pub record QueuesKept (h : History) (q : Queues) : Type 0 where
  pub one_death : h.setup.deaths ≡ 1
  pub run : IsRun h.setup h.events
  pub kept : IsList h.setup.plan (IsMet h.setup h.events) (IsUnready h.setup h.events q.queued.items) (HangsAt h.setup h.events) q.list
  pub unpassed : (j : ℕ) → verdict_of h.setup h.events j ≡ None → slice_index_or q.list.passed.items j false ≡ false
  pub ready : ReadyFits h.setup h.events q.queued.items q.ready.items q.taken
  pub ready_room : length q.ready.items + count_by not q.queued.items ≤ vec_capacity q.ready

-- the event gives item k, which has none, a verdict, and no other item
pub record DecidesOnly (s : Setup) (es : List Event) (e : Event) (k : ℕ) : Type 0 where
  pub undecided : verdict_of s es k ≡ None
  pub verdict : Verdict
  pub decides : verdict_by s es e k ≡ Some verdict
  pub no_other : (j : ℕ) → j ≢ k → verdict_by s es e j ≡ None

-- the item doesn't wait, or is ready, or hangs
abbrev pub LookedAt : History → Queues → ℕ → Type 0
LookedAt h q i = IsWaiting h.setup h.events i → slice_index_or q.queued.items i false ≡ false → HangsAt h.setup h.events (slice_index_or q.list.progress.items i 0) i
