-- What a held grammar stands for. Assumes nothing.
--   model g   the held grammar g as lists
use Rattle.grammar.specs.declared.held.Grammar.{Grammar}
use Rattle.grammar.specs.Grammars.{GrammarModel}
use Rattle.grammar.specs.Held.{held_model}

abbrev pub model : Grammar → GrammarModel
model g = held_model g.kind g.dimensions g.start g.productions
