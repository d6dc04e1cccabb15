use Rattle.std.proofs.Common.{◌≡◌, ◌∙◌, sym, subst, OnOk}
use Rattle.state_words.specs.declared.state.State.{State}
use Rattle.driver_check.specs.Kept.{kept_in, with_state}
use Rattle.driver_check.proofs.Coded.{kept_then, refused}
use Rattle.driver_check.proofs.check_driver.CheckDriverDriver.create.Goals as goal

pub returns-then-judged-eq0-clause-created : goal.returns-then-judged-eq0-clause-created
returns-then-judged-eq0-clause-created c =
    kept_then (kept_in c.args.self.now) c.args.key c.args.state c.keep.result _ (sym c.if-judged-eq0.true ∙ c.in-Ok.ensures.code) c.keep.ensures.code (subst (λ (s : State). OnOk c.keep.result (kept_in c.keep.new.self ≡ with_state (kept_in c.args.self.now) c.args.key s)) c.new.ensures c.keep.ensures.ok)

pub returns-else-judged-eq0-clause-created : goal.returns-else-judged-eq0-clause-created
returns-else-judged-eq0-clause-created c = refused (kept_in c.args.self.now) c.args.key c.args.state c.in-Ok.judged.code c.if-judged-eq0.false c.in-Ok.ensures.code
