use Rattle.progress_block.specs.Rows.{EndsWith}
use Rattle.progress_block.specs.Ends.{rows_of, IsWriterOf}
use Rattle.progress_block.proofs.tests.publish_all.Given as goal

abbrev pub invariant-loop-place : goal.invariant-loop-place
invariant-loop-place g l = record { of_progress : IsWriterOf l.progress l.writer; ends : EndsWith (rows_of l.writer) l.last }
