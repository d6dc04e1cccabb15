use Rattle.vk_basic.specs.Tables as table
use Rattle.vk_basic.specs.Plain as plain
use Rattle.json_fold.proofs.Puts.{all_put, done, then_field}
use Rattle.json_basic.proofs.sampler.SamplerJsonBasic.put_members.Goals as goal

pub returns-clause-written : goal.returns-clause-written
unfolding table.sampler plain.sampler
returns-clause-written c =
    all_put table.sampler (plain.sampler c.args.self.now) _ _ (
    then_field c.in_ok-number.ensures.written (then_field c.in_ok-number-2.ensures.written (then_field c.in_ok-number-3.ensures.written (
    then_field c.in_ok-number-4.ensures.written (then_field c.in_ok-number-5.ensures.written (then_field c.in_ok-number-6.ensures.written (
    then_field c.in_ok-number-7.ensures.written (then_field c.in_ok-unit.ensures (then_field c.in_ok-number-8.ensures.written (
    then_field c.in_ok-unit-2.ensures (then_field c.in_ok-number-9.ensures.written (then_field c.in_ok-number-10.ensures.written (
    then_field c.in_ok-unit-3.ensures (then_field c.in_ok-unit-4.ensures (then_field c.in_ok-number-11.ensures.written (
    then_field c.in_ok-number-12.ensures.written done))))))))))))))))
