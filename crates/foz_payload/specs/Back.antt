-- What is made from a structure's plain value is the structure.
use Rattle.std.specs.Prelude.{◌≡◌, refl}
use Rattle.foz_payload.specs.Tables as table
use Rattle.foz_payload.specs.Plain as plain
use Rattle.foz_payload.specs.Made as made
use Rattle.foz_payload.specs.declared.module_head.ModuleHead.{ModuleHead}

pub module_head : (s : ModuleHead) → made.module_head (plain.module_head s) ≡ s
unfolding made.module_head plain.module_head table.module_head
module_head s = refl
