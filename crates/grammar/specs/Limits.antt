-- The limits of a pack, each number said once.
--   most_categories    categories of a grammar
--   most_productions   productions of a grammar
--   most_symbols       symbols of a constituent
--   most_dimension     constituents of a category
--   most_arity         arguments of a production
--   unused             the byte of an argument that is not used
--   weights            a weight number is below it: two bytes
--   tokens             a token is below it: two bytes
use Rattle.std.specs.Prelude.{ℕ}

abbrev pub most_categories : ℕ
most_categories = 32

abbrev pub most_productions : ℕ
most_productions = 128

abbrev pub most_symbols : ℕ
most_symbols = 8

abbrev pub most_dimension : ℕ
most_dimension = 2

abbrev pub most_arity : ℕ
most_arity = 3

abbrev pub unused : ℕ
unused = 255

abbrev pub weights : ℕ
weights = 65536

abbrev pub tokens : ℕ
tokens = 65536
