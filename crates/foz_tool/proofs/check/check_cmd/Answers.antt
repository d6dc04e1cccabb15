use Rattle.std.proofs.Common.{sym}
use Rattle.foz_tool.proofs.check.check_cmd.Goals as goal

pub returns-clause-checks : goal.returns-clause-checks
returns-clause-checks g c = record {
  ended = λ content output. record {
    outcome = c.check-made.result;
    made = rw (sym c.as_str.ensures) (c.check-made.ensures.makes content.0 content.1);
    printed = c.finish.ensures.printed output;
  };
  only_read = λ content.
      rw (sym c.as_str.ensures) (record {
        content = (c.check-made.ensures.only_read content.0 content.1).content;
        history = λ images. (c.check-made.ensures.only_read content.0 content.1).history images.1;
      });
}
