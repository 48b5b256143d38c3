use Rattle.std.proofs.Common.{◌≡◌, length, vec_items}
use Rattle.console.specs.Hex.{bytes_of}
use Rattle.console.proofs.Spelling.{behind}
use Rattle.console.proofs.hex.bytes_of.Given as goal

-- what is read, in front of what the rest spells, is what the whole spells
abbrev pub invariant-loop-rest : goal.invariant-loop-rest
invariant-loop-rest l = behind (vec_items l.bytes) (bytes_of l.rest) ≡ bytes_of l.text

abbrev pub decreases-loop-rest : goal.decreases-loop-rest
decreases-loop-rest l = length l.rest
