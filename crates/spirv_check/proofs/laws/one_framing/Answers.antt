use Rattle.std.proofs.Common.{refl, inl, []}
use Rattle.spirv_check.proofs.Framing.{one_split}
use Rattle.spirv_check.proofs.laws.one_framing.Goals as goal

pub returns : goal.returns
returns c = λ at words instructions others s t. (one_split at words words instructions others [] [] refl s t (inl refl) (inl refl)).0
