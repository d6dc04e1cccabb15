use Rattle.std.proofs.Common.{string_bytes, sym, ◌∙◌, ap}
use Rattle.disk_model.proofs.Filed.{nothing_out}
use Rattle.disk_model.proofs.memory_shelf.MemShelf.new.Goals as goal

pub returns-clause-here : goal.returns-clause-here
returns-clause-here c name = λ is_out. nothing_out string_bytes c.args.files.items name (sym (ap (λ places. places name) c.new.ensures) ∙ is_out)
