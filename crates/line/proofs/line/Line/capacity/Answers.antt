use Rattle.std.proofs.Common.{refl}
use Rattle.line.proofs.Histories.{laws}
use Rattle.line.proofs.line.Line.capacity.Goals as goal

pub returns : goal.returns
returns c = record { value = refl; law = laws }
