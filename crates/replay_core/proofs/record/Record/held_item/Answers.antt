use Rattle.std.proofs.Common.{◌≡◌, ◌<◌, length, ◌∙◌, arith}
use Rattle.std.specs.Vec.{vec_len}
use Rattle.replay_core.specs.declared.event.SlotState.TheVariants.{Idle, Holds, Dead, Retired}
use Rattle.replay_core.proofs.Viewing.{inside_unless, read_is, within_seen, not_idle_holds}
use Rattle.replay_core.proofs.record.Record.held_item.Goals as goal
use Rattle.replay_core.proofs.record.Record.held_item.Goals.{After-self, After-index}

inside : (c : After-self) → c.args.slot < length c.self.inside.states.items
inside c = inside_unless _ _ _ _ _ _ _ c.args.slot c.self.invariant.0 c.self.view_is _ c.requires.held.1 (not_idle_holds _)

read : (c : After-index) → Holds c.requires.held.0 ≡ c.index.result.now
read c =
    let within = inside_unless _ _ _ _ _ _ _ c.args.slot c.self.invariant.0 c.self.view_is _ c.requires.held.1 (not_idle_holds _) in
    read_is _ _ _ _ _ _ _ c.args.slot c.self.invariant.0 c.self.view_is _ c.index.result.now c.requires.held.1 within c.index.ensures

pub index-requires : goal.index-requires
index-requires c = let within = inside (goal.at.index-requires c).After-self in let len : vec_len c.self.inside.states ≡ length c.self.inside.states.items = c.self.inside.states.ok.0 in omega (arith, within, len)

pub unreachable-requires : goal.unreachable-requires
unreachable-requires c = let e : Holds c.requires.held.0 ≡ Idle = read (goal.at.unreachable-requires c).After-index ∙ c.in-Idle.is in cc

pub unreachable-requires-in-Dead : goal.unreachable-requires-in-Dead
unreachable-requires-in-Dead c = let e : Holds c.requires.held.0 ≡ Dead = read (goal.at.unreachable-requires-in-Dead c).After-index ∙ c.in-Dead.is in cc

pub unreachable-requires-in-Retired : goal.unreachable-requires-in-Retired
unreachable-requires-in-Retired c = let e : Holds c.requires.held.0 ≡ Retired = read (goal.at.unreachable-requires-in-Retired c).After-index ∙ c.in-Retired.is in cc

pub returns : goal.returns
returns c =
    let at = goal.at.returns c in
    record { held = c.requires.held.1 ∙ (read at.After-index ∙ c.in-Holds.is); inside = within_seen _ _ _ _ _ _ _ c.args.slot c.self.invariant.0 c.self.view_is (inside at.After-self) }
