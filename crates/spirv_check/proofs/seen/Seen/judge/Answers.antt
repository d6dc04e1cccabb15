use Rattle.std.proofs.lemmas.Bool.{iff_false}
use Rattle.spirv_check.proofs.Findings.{judged_models, judged_turn, judged_opened, judged_name, judged_empty, judged_shape}
use Rattle.spirv_check.proofs.seen.Seen.judge.Goals as goal

pub returns-in-Some : goal.returns-in-Some
returns-in-Some c = judged_turn c.args.self c.in-Some.fault c.if-self-ne1.false c.in-Some.is

pub returns-in-Some-opened : goal.returns-in-Some-opened
returns-in-Some-opened c = judged_opened c.args.self c.in-Some-opened.at c.if-self-ne1.false c.in_default.is c.in-Some-opened.is

pub returns-in-Some-bad_name : goal.returns-in-Some-bad_name
returns-in-Some-bad_name c = judged_name c.args.self c.in-Some-bad_name.at c.if-self-ne1.false c.in_default.is c.in_default-opened.is c.in-Some-bad_name.is

pub returns-then-is_empty : goal.returns-then-is_empty
returns-then-is_empty c = judged_empty c.args.self c.if-self-ne1.false c.in_default.is c.in_default-opened.is c.in_default-bad_name.is (c.is_empty.ensures.0 c.if-is_empty.true)

pub returns : goal.returns
returns c = judged_shape c.args.self c.if-self-ne1.false c.in_default.is c.in_default-opened.is c.in_default-bad_name.is (iff_false c.is_empty.ensures c.if-is_empty.false)

pub returns-then-self-ne1 : goal.returns-then-self-ne1
returns-then-self-ne1 c = judged_models c.args.self c.if-self-ne1.true
