-- What has been read so far, and what a command adds to it. Assumes nothing.
--   Stage      how far the pack has come (the code's own type)
--   Opened     the production that is open
--   Draft      what has been read
--   apply      what a command that is let through makes of them
--   model_of   the grammar that has been read
use Rattle.std.specs.Prelude.{ℕ, List, [], ◌∷◌, ◌++◌, take}
use Rattle.grammar.specs.declared.symbol.Symbol.TheVariants as symbol
use Rattle.grammar.specs.Grammars.{Symbol, ProductionModel, GrammarModel}
use Rattle.grammar.specs.Commands.{Command, Operands, Kind, Category, Start, Production, Constituent, Token, Part, End}
pub use Rattle.grammar.specs.declared.stage.Stage.{Stage}
pub use Rattle.grammar.specs.declared.stage.Stage.TheVariants.{Fresh, Categories, Between, Head, Body}

pub record Opened : Type 0 where
  -- where its command stands
  pub offset : ℕ
  pub category : ℕ
  pub weight : ℕ
  pub arguments : List ℕ
  -- its constituents but the one that is open, and that one
  pub closed : List (List Symbol)
  pub current : List Symbol

pub record Draft : Type 0 where
  pub kind : ℕ
  pub dimensions : List ℕ
  pub start : ℕ
  -- the closed productions
  pub productions : List ProductionModel
  pub opened : Opened

abbrev pub none_opened : Opened
none_opened = record { offset = 0; category = 0; weight = 0; arguments = []; closed = []; current = [] }

abbrev pub blank : Draft
blank = record { kind = 0; dimensions = []; start = 0; productions = []; opened = none_opened }

-- the constituents of the open production
abbrev pub constituents_so_far : Stage → Opened → List (List Symbol)
constituents_so_far Fresh o = []
constituents_so_far Categories o = []
constituents_so_far Between o = []
constituents_so_far Head o = []
constituents_so_far Body o = o.closed ++ o.current ∷ []

abbrev pub open_production : Stage → Opened → ProductionModel
open_production s o = record { category = o.category; weight = o.weight; arguments = o.arguments; constituents = constituents_so_far s o }

-- the productions, with the open one; there is none before START
abbrev pub productions_so_far : Stage → Draft → List ProductionModel
productions_so_far Fresh d = []
productions_so_far Categories d = []
productions_so_far Between d = d.productions
productions_so_far Head d = d.productions ++ open_production Head d.opened ∷ []
productions_so_far Body d = d.productions ++ open_production Body d.opened ∷ []

-- the open production after its command at the offset at
abbrev pub opening : ℕ → Operands → Opened
opening at o = record {
  offset = at;
  category = o.category;
  weight = o.weight;
  arguments = take o.arity (o.first ∷ o.second ∷ o.third ∷ []);
  closed = [];
  current = [];
}

-- the open production with these constituents closed, and an empty one open
abbrev pub beginning : Opened → List (List Symbol) → Opened
beginning o closed = record {
  offset = o.offset;
  category = o.category;
  weight = o.weight;
  arguments = o.arguments;
  closed = closed;
  current = [];
}

-- the open production with one symbol more
abbrev pub one_more : Opened → Symbol → Opened
one_more o s = record {
  offset = o.offset;
  category = o.category;
  weight = o.weight;
  arguments = o.arguments;
  closed = o.closed;
  current = o.current ++ s ∷ [];
}

abbrev pub with_productions : Draft → List ProductionModel → Opened → Draft
with_productions d ps o = record { kind = d.kind; dimensions = d.dimensions; start = d.start; productions = ps; opened = o }

abbrev pub with_symbol : Draft → Symbol → Draft
with_symbol d s = with_productions d d.productions (one_more d.opened s)

-- the draft whose open production, if there is one, is closed
abbrev pub shut_draft : Stage → Draft → Draft
shut_draft s d = with_productions d (productions_so_far s d) d.opened

-- what a command that is let through makes of the stage and the draft; the command stands at the offset at
abbrev pub apply : ℕ → Stage → Draft → Command → Stage × Draft
apply at s d (Kind k) = (Categories, record { kind = k; dimensions = d.dimensions; start = d.start; productions = d.productions; opened = d.opened })
apply at s d (Category x) = (Categories, record { kind = d.kind; dimensions = d.dimensions ++ x ∷ []; start = d.start; productions = d.productions; opened = d.opened })
apply at s d (Start x) = (Between, record { kind = d.kind; dimensions = d.dimensions; start = x; productions = d.productions; opened = d.opened })
apply at s d (Production o) = (
  Head,
  with_productions d (productions_so_far s d) (opening at o),
)
apply at s d Constituent = (Body, with_productions d d.productions (beginning d.opened (constituents_so_far s d.opened)))
apply at s d (Token t) = (Body, with_symbol d (symbol.Token t))
apply at s d (Part k l) = (Body, with_symbol d (symbol.Part k l))
apply at s d End = (Between, shut_draft s d)

abbrev pub model_of : Draft → GrammarModel
model_of d = record { kind = d.kind; dimensions = d.dimensions; start = d.start; productions = d.productions }
