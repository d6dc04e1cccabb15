use Rattle.foz_payload.proofs.Tags.{means_tag}
use Rattle.worker_node.proofs.creating.create.Goals as goal

pub create-requires : goal.create-requires
create-requires g c = means_tag c.args.key c.args.payload.now c.in-Ok.state c.in-Ok.ensures.meant
