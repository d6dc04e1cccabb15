use Rattle.std.proofs.Common.{◌≡◌, ◌∙◌, List, ap}
use Rattle.foz_words.specs.declared.key.Key.{Key}
use Rattle.state_words.specs.declared.state.State.{State}
use Rattle.driver_check.specs.Kept.{KeptStates, kept_in, with_state}
use Rattle.driver_check.proofs.check_driver.CheckDriver.keep.Goals as goal

pub returns-clause-ok : goal.returns-clause-ok
returns-clause-ok c =
    let inside : kept_in c.insert.new.self.entries ≡ with_state (kept_in c.self.inside.created.entries) c.args.key c.args.created = λ i q. c.in_ok-insert.ensures.updates.0 q i in
    inside ∙ ap (λ (created : List (Key × State)). with_state (kept_in created) c.args.key c.args.created) c.self.view_is
