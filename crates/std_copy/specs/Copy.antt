-- Why a copy isn't whole.
use Rattle.std_copy.specs.declared.copy.CopyError.{CopyError}
use Rattle.std_copy.specs.declared.copy.CopyError.TheVariants.{Read, Write}

-- the side that is named has failed; each is given whether its count of faults rose
abbrev pub HasFailed : Type 0 → Type 0 → CopyError → Type 0
HasFailed source sink Read = source
HasFailed source sink Write = sink
