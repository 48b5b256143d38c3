-- What the code of a load holds, and what one command of it does. Assumes nothing.
--   draft_of l                    what the loader l has read
--   Stepped at l c r m            taking the command c at the offset at led from the loader l to the answer r and the loader m, as step says
--   Closed l r m                  closing the open production led from l to r and m: a command that closes one goes on from there, or is stopped
use Rattle.std.specs.Prelude.{◌≡◌, ℕ, true, List, [], ◌∷◌, map, take, Ok, Err, Result}
use Rattle.grammar.specs.declared.loader.Loader.{Loader}
use Rattle.grammar.specs.Stops.{PackStop, told}
use Rattle.grammar.specs.Commands.{Command, Operands, closes}
use Rattle.grammar.specs.Grammars.{Symbol, ProductionModel, no_production}
use Rattle.grammar.specs.Drafts.{Stage, Fresh, Categories, Between, Head, Body, Opened, Draft}
use Rattle.grammar.specs.Held.{production_model}
use Rattle.grammar.specs.Lists.{all_but_last, last_or}
use Rattle.grammar.specs.Loads.{step}

-- the production r as an open one: its last constituent is the one that is open
abbrev pub opened_of : ℕ → ProductionModel → Opened
opened_of at r = record {
  offset = at;
  category = r.category;
  weight = r.weight;
  arguments = r.arguments;
  closed = all_but_last r.constituents;
  current = last_or [] r.constituents;
}

-- the production with these operands, and no constituent
abbrev pub bare : Operands → ProductionModel
bare o = record { category = o.category; weight = o.weight; arguments = take o.arity (o.first ∷ o.second ∷ o.third ∷ []); constituents = [] }

-- the production r with these constituents
abbrev pub with_constituents : ProductionModel → List (List Symbol) → ProductionModel
with_constituents r cs = record { category = r.category; weight = r.weight; arguments = r.arguments; constituents = cs }

-- the last production is open at two stages
abbrev pub closed_ones : Stage → List ProductionModel → List ProductionModel
closed_ones Fresh ps = ps
closed_ones Categories ps = ps
closed_ones Between ps = ps
closed_ones Head ps = all_but_last ps
closed_ones Body ps = all_but_last ps

abbrev pub draft_of : Loader → Draft
draft_of l = record {
  kind = l.kind;
  dimensions = l.dimensions.items;
  start = l.start;
  productions = closed_ones l.stage (map production_model l.productions.items);
  opened = opened_of l.offset (last_or no_production (map production_model l.productions.items));
}

abbrev pub Stepped : ℕ → Loader → Command → Result (Unit {0}) PackStop → Loader → Type 0
Stepped at l c (Ok _) m = step at l.stage (draft_of l) c ≡ Ok (m.stage, draft_of m)
Stepped at l c (Err e) m = step at l.stage (draft_of l) c ≡ Err (told e)

abbrev pub Closed : Loader → Result (Unit {0}) PackStop → Loader → Type 0
Closed l (Ok _) m =
    (m.stage ≡ Between) × ((at : ℕ) (c : Command) → closes c ≡ true → step at l.stage (draft_of l) c ≡ step at m.stage (draft_of m) c)
Closed l (Err e) m = (at : ℕ) (c : Command) → closes c ≡ true → step at l.stage (draft_of l) c ≡ Err (told e)
