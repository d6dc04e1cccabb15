use Rattle.worker_msg.proofs.Taking.{frame_of}
use Rattle.worker_msg.proofs.feed.Feed.take_front.Goals as goal

pub message_of-requires : goal.message_of-requires
message_of-requires c = frame_of _ c.kept-kept.result.now c.in-Whole.len c.in-Whole.ensures
