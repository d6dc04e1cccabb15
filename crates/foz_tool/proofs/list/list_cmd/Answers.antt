use Rattle.std.proofs.Common.{sym}
use Rattle.foz_tool.proofs.list.list_cmd.Goals as goal

pub returns-clause-lists : goal.returns-clause-lists
returns-clause-lists g c = record {
  ended = λ content output. record {
    outcome = c.list-made.result;
    made = rw (sym c.as_str.ensures) (c.list-made.ensures.makes content.0 content.1);
    printed = c.finish.ensures.printed output;
  };
  only_read = λ content.
      rw (sym c.as_str.ensures) (record {
        content = (c.list-made.ensures.only_read content.0 content.1).content;
        history = λ images. (c.list-made.ensures.only_read content.0 content.1).history images.1;
      });
}
