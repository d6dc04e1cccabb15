use Rattle.std.proofs.Common.{Bool, get_or, subst, sym}
use Rattle.foz_words.specs.Bytes.{le32}
use Rattle.spirv_check.specs.Names.{AddsName}
use Rattle.spirv_check.proofs.Naming.{reads_none, reads_more, reads_end, reads_all}
use Rattle.spirv_check.proofs.names.name_of.Goals as goal

pub loop-word-init : goal.loop-word-init
loop-word-init c = rw c.new-name.ensures (reads_none c.args.words.now)

pub returns-then-branch : goal.returns-then-branch
returns-then-branch c =
    let word = get_or c.args.words.now c.loop-word.word-index 0 in
    let adds = subst (λ (ends : Bool). AddsName c.loop-word.name (le32 word) ends c.ends_in.new.name) c.if-branch.true c.in_ok-ends_in.ensures in
    sym (reads_end c.args.words.now c.loop-word.name c.ends_in.new.name c.loop-word.word-index c.loop-word-test.true c.loop-word.invariant adds)

pub loop-word-preserved : goal.loop-word-preserved
loop-word-preserved c =
    let word = get_or c.args.words.now c.loop-word.word-index 0 in
    let adds = subst (λ (ends : Bool). AddsName c.loop-word.name (le32 word) ends c.ends_in.new.name) c.if-branch.false c.in_ok-ends_in.ensures in
    reads_more c.args.words.now c.loop-word.name c.ends_in.new.name c.loop-word.word-index c.loop-word-test.true c.loop-word.invariant adds

pub returns : goal.returns
returns c = sym (reads_all c.args.words.now c.loop-word.name c.loop-word.word-index c.loop-word-test.false c.loop-word.invariant)
