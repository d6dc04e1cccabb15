use Rattle.disk_model.proofs.Places.{place_there}
use Rattle.disk_model.proofs.tests.write_over.Goals as goal

pub put_back-requires : goal.put_back-requires
put_back-requires g c = record { was_out = place_there _ _ _ _ c.in-Ok.ensures.now_out }
