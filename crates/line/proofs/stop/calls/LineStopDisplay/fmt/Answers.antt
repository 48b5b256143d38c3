-- Each `write!` says what it wrote, which is the words of that stop.
use Rattle.std.proofs.Output.{has_written_of_eq}
use Rattle.line.proofs.Words.{full_words, empty_words}
use Rattle.line.proofs.stop.calls.LineStopDisplay.fmt.Goals as goal

pub returns-in-Full-clause-writes : goal.returns-in-Full-clause-writes
returns-in-Full-clause-writes g c plain ok = has_written_of_eq _ _ _ _ _ (full_words _ _ _ c.in-Full.is c.number-number.ensures c.figure-figure.ensures) (c.write.ensures.writes plain ok)

pub returns-in-Empty-clause-writes : goal.returns-in-Empty-clause-writes
returns-in-Empty-clause-writes g c plain ok = has_written_of_eq _ _ _ _ _ (empty_words _ _ c.in-Empty.is c.number-number.ensures) (c.write-in-Empty.ensures.writes plain ok)
