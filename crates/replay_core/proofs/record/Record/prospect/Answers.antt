use Rattle.replay_core.proofs.Viewing.{prospect_read}
use Rattle.replay_core.proofs.record.Record.prospect.Goals as goal

pub returns : goal.returns
returns c =
    prospect_read _ _ _ _ _ _ _ _ _ c.args.item _ c.index-rows-item.result _ c.prospect_of.result c.self.invariant.0 c.self.view_is c.requires.inside
    c.as_slice-rows.ensures c.index-rows-item.is c.as_slice-deps.ensures c.as_slice.ensures.value c.as_slice-2.ensures.value c.prospect_of.ensures
