use Rattle.spirv_varint.proofs.Shortest.{varint_shortest, varint_alone, varint_fewest}
use Rattle.spirv_varint.proofs.writing.one_shortest.Goals as goal

pub returns-clause-spelled : goal.returns-clause-spelled
returns-clause-spelled c = varint_shortest

pub returns-clause-alone : goal.returns-clause-alone
returns-clause-alone c = λ word bytes _ s. varint_alone word bytes s

pub returns-clause-fewest : goal.returns-clause-fewest
returns-clause-fewest c = λ word bytes _ v. varint_fewest word bytes v
