use Rattle.vk_pipe.specs.Tables as table
use Rattle.vk_pipe.specs.Plain as plain
use Rattle.json_fold.proofs.Puts.{all_put, done, then_field}
use Rattle.json_pipe.proofs.raster.RasterizationJsonPipe.put_members.Goals as goal

pub returns-clause-written : goal.returns-clause-written
unfolding table.rasterization plain.rasterization
returns-clause-written c =
    all_put table.rasterization (plain.rasterization c.args.self.now) _ _ (
    then_field c.in_ok-number.ensures.written (then_field c.in_ok-number-2.ensures.written (then_field c.in_ok-number-3.ensures.written (
    then_field c.in_ok-number-4.ensures.written (then_field c.in_ok-number-5.ensures.written (then_field c.in_ok-number-6.ensures.written (
    then_field c.in_ok-number-7.ensures.written (then_field c.in_ok-unit.ensures (then_field c.in_ok-unit-2.ensures (
    then_field c.in_ok-unit-3.ensures (then_field c.in_ok-unit-4.ensures done)))))))))))
