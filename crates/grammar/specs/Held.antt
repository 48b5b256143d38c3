-- What the parts of a held grammar stand for. Assumes nothing.
--   production_model p   a held production as lists
--   held_model           a grammar as lists, from the fields of a held one
use Rattle.std.specs.Prelude.{ℕ, map}
use Rattle.arrayvec.specs.ArrayVec.{ArrayVec}
use Rattle.grammar.specs.declared.production.Production.{Production}
use Rattle.grammar.specs.Grammars.{ProductionModel, GrammarModel}
use Rattle.grammar.specs.Entries.{entries}

abbrev pub production_model : Production → ProductionModel
production_model p = record {
  category = p.category;
  weight = p.weight;
  arguments = entries p.arguments;
  constituents = map entries (entries p.constituents);
}

abbrev pub held_model : ℕ → ArrayVec ℕ → ℕ → ArrayVec Production → GrammarModel
held_model kind dimensions start productions = record {
  kind = kind;
  dimensions = dimensions.items;
  start = start;
  productions = map production_model productions.items;
}
