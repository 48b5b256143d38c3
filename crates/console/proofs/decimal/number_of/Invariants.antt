use Rattle.std.proofs.Common.{◌≡◌, drop}
use Rattle.console.specs.Decimal.{read, number_of}
use Rattle.console.specs.Steps.{most}
use Rattle.console.proofs.decimal.number_of.Given as goal

-- what is read and what is left spell what the whole spells
abbrev pub invariant-loop-c : goal.invariant-loop-c
invariant-loop-c l = read most l.value (drop l.c-index l.text) ≡ number_of most l.text
