-- Values whose lists, texts and bytes are short enough to be counted by a word.
use Rattle.std.specs.Prelude.{◌^◌, ◌<◌, length, All, IfSome, ⊤}
use Rattle.vk_form.specs.Shape.{Shape, number, unit, hash, text, bytes, four_units, list, struct, Fields, end, field, optional, Plain, Plains}

abbrev mutual
  pub IsOrdinary : (s : Shape) → Plain s → Type 0
  IsOrdinary number n = ⊤
  IsOrdinary unit u = ⊤
  IsOrdinary hash h = ⊤
  IsOrdinary text t = length t < 2 ^ 30
  IsOrdinary bytes b = length b < 2 ^ 30
  IsOrdinary four_units u = ⊤
  IsOrdinary (list s) xs = (length xs < 2 ^ 30) × All (IsOrdinary s) xs
  IsOrdinary (struct fs) xs = AreOrdinary fs xs

  pub AreOrdinary : (fs : Fields) → Plains fs → Type 0
  AreOrdinary end xs = ⊤
  AreOrdinary (field name s fs) xs = IsOrdinary s xs.0 × AreOrdinary fs xs.1
  AreOrdinary (optional name o fs) xs = IfSome xs.0 (AreOrdinary o) × AreOrdinary fs xs.1
