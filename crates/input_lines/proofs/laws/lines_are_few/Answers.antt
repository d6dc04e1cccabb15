use Rattle.input_lines.proofs.Lines as lines
use Rattle.input_lines.proofs.laws.lines_are_few.Goals as goal

pub returns : goal.returns
returns c = lines.lines_are_few
