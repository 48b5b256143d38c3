use Rattle.grammar.specs.Trees.{commands}
use Rattle.grammar.proofs.Decode.{decode, one_tree, earlier_total, sooner_irreflexive, sooner_transitive, exchange, exchange_in, bytes_decode, tree_numbers, tree_bytes}
use Rattle.grammar.proofs.Yields.{yield_many, yield_filled}
use Rattle.grammar.proofs.Growing.{yield_grows}
use Rattle.grammar.proofs.trees.trees_stand.Goals as goal

pub returns : goal.returns
returns c = record {
  decodes = decode;
  one_tree = one_tree;
  bytes_decode = bytes_decode;
  tree_numbers = λ g k t well w. tree_numbers g well k t w;
  tree_bytes = tree_bytes;
  irreflexive = λ t. sooner_irreflexive (commands t);
  transitive = λ t u v. sooner_transitive (commands t) (commands u) (commands v);
  total = earlier_total;
  exchange = exchange;
  exchange_in = λ g a b t u kept h. exchange_in g a b kept h;
  many = λ g k t well w. yield_many g well k t w;
  filled = λ g k t well w. yield_filled g well k t w;
  grows = yield_grows;
}
