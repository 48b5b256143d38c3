-- The conditions that a command must meet, one for each number of the table of stops. Assumes nothing.
--   filled         6  the open production has as many constituents as its category's dimension, each with a symbol
--   all_named      7  each constituent of each of its arguments is named
--   in_limits      4  the command exceeds no limit
--   allowed        3  it may stand at this stage
--   start_fits     8  the start category is known and of dimension 1
--   operands_fit   5  its operands are as they must be
--   Passes            it meets them all
use Rattle.std.specs.Prelude.{◌≡◌, ℕ, zero, suc, ◌-◌, Bool, true, false, cond, ◌&&◌, List, [], ◌∷◌, length, ◌==◌, nat_le, nat_lt, slice_index}
use Rattle.std.specs.List.{list_all, list_any}
use Rattle.grammar.specs.declared.symbol.Symbol.TheVariants as symbol
use Rattle.grammar.specs.Limits.{most_categories, most_productions, most_symbols, most_dimension, most_arity, unused}
use Rattle.grammar.specs.Grammars.{Symbol, ProductionModel, dimension}
use Rattle.grammar.specs.Commands.{Command, Operands, Kind, Category, Start, Production, Constituent, Token, Part, End, closes}
use Rattle.grammar.specs.Drafts.{Stage, Fresh, Categories, Between, Head, Body, Opened, Draft, constituents_so_far, open_production, productions_so_far}

abbrev pub has_some : {X : Type 0} → List X → Bool
has_some [] = false
has_some (x ∷ xs) = true

-- the test f holds of each entry
abbrev pub all : {X : Type 0} → (X → Bool) → List X → Bool
all f xs = list_all f xs

-- the test f holds of some entry
abbrev pub any : {X : Type 0} → (X → Bool) → List X → Bool
any f xs = list_any f xs

-- the test f holds of each number below n
abbrev pub all_below : ℕ → (ℕ → Bool) → Bool
all_below zero f = true
all_below (suc n) f = all_below n f && f n

-- 6
abbrev pub fills_all : List ℕ → ProductionModel → Bool
fills_all dimensions r = nat_le (dimension dimensions r.category) (length r.constituents) && all has_some r.constituents

-- a production without a constituent lacks one
abbrev pub complete : List ℕ → Stage → Opened → Bool
complete dimensions Fresh o = true
complete dimensions Categories o = true
complete dimensions Between o = true
complete dimensions Head o = false
complete dimensions Body o = fills_all dimensions (open_production Body o)

abbrev pub filled : Stage → Draft → Command → Bool
filled s d c = cond (closes c) (complete d.dimensions s d.opened) true

-- 7: the symbol names constituent l of argument k
abbrev pub is_part : ℕ → ℕ → Symbol → Bool
is_part k l (symbol.Token t) = false
is_part k l (symbol.Part i j) = i == k && j == l

abbrev pub named : ℕ → ℕ → List (List Symbol) → Bool
named k l constituents = any (any (is_part k l)) constituents

-- arguments and their constituents are named from 1 on
abbrev pub names_all : List ℕ → List ℕ → List (List Symbol) → Bool
names_all dimensions arguments constituents =
    all_below (length arguments) (λ i. all_below (dimension dimensions (slice_index arguments i)) (λ j. named (suc i) (suc j) constituents))

abbrev pub is_open : Stage → Bool
is_open Fresh = false
is_open Categories = false
is_open Between = false
is_open Head = true
is_open Body = true

abbrev pub all_named : Stage → Draft → Command → Bool
all_named s d c =
    cond (is_open s && closes c) (names_all d.dimensions d.opened.arguments (constituents_so_far s d.opened)) true

-- 4: counted as they stand, at whatever stage
abbrev pub in_constituent : Stage → Bool
in_constituent Fresh = false
in_constituent Categories = false
in_constituent Between = false
in_constituent Head = false
in_constituent Body = true

abbrev pub room_for_symbol : Stage → Draft → Bool
room_for_symbol s d = cond (in_constituent s) (nat_lt (length d.opened.current) most_symbols) true

abbrev pub in_limits : Stage → Draft → Command → Bool
in_limits s d (Kind k) = true
in_limits s d (Category x) = nat_lt (length d.dimensions) most_categories
in_limits s d (Start x) = true
in_limits s d (Production o) = nat_lt (length (productions_so_far s d)) most_productions
in_limits s d Constituent = cond (is_open s) (nat_lt (length (constituents_so_far s d.opened)) (dimension d.dimensions d.opened.category)) true
in_limits s d (Token t) = room_for_symbol s d
in_limits s d (Part k l) = room_for_symbol s d
in_limits s d End = true

-- 3: the stages at which a command may stand
abbrev pub is_fresh : Stage → Bool
is_fresh Fresh = true
is_fresh Categories = false
is_fresh Between = false
is_fresh Head = false
is_fresh Body = false

abbrev pub in_categories : Stage → Bool
in_categories Fresh = false
in_categories Categories = true
in_categories Between = false
in_categories Head = false
in_categories Body = false

abbrev pub past_start : Stage → Bool
past_start Fresh = false
past_start Categories = false
past_start Between = true
past_start Head = true
past_start Body = true

-- a constituent opens in an open production, and not directly after another
abbrev pub may_open : Stage → Opened → Bool
may_open Fresh o = false
may_open Categories o = false
may_open Between o = false
may_open Head o = true
may_open Body o = has_some o.current

abbrev pub allowed : Stage → Draft → Command → Bool
allowed s d (Kind k) = is_fresh s
allowed s d (Category x) = in_categories s
allowed s d (Start x) = in_categories s && has_some d.dimensions
allowed s d (Production o) = past_start s
allowed s d Constituent = may_open s d.opened
allowed s d (Token t) = in_constituent s
allowed s d (Part k l) = in_constituent s
allowed s d End = past_start s

-- 8
abbrev pub start_fits : Draft → Command → Bool
start_fits d (Kind k) = true
start_fits d (Category x) = true
start_fits d (Start x) = nat_lt x (length d.dimensions) && dimension d.dimensions x == 1
start_fits d (Production o) = true
start_fits d Constituent = true
start_fits d (Token t) = true
start_fits d (Part k l) = true
start_fits d End = true

-- 5: argument i, counted from 0, of arity n is a known category, or 255 if it is not used
abbrev pub argument_fits : ℕ → ℕ → ℕ → ℕ → Bool
argument_fits known n i x = cond (nat_lt i n) (nat_lt x known) (x == unused)

abbrev pub production_fits : ℕ → Operands → Bool
production_fits known o =
    nat_lt o.category known
    && (nat_lt 0 o.weight && (nat_le o.arity most_arity
    && (argument_fits known o.arity 0 o.first && (argument_fits known o.arity 1 o.second && argument_fits known o.arity 2 o.third))))

abbrev pub part_fits : List ℕ → List ℕ → ℕ → ℕ → Bool
part_fits dimensions arguments k l =
    nat_le 1 k && (nat_le k (length arguments) && (nat_le 1 l && nat_le l (dimension dimensions (slice_index arguments (k - 1)))))

abbrev pub operands_fit : Draft → Command → Bool
operands_fit d (Kind k) = true
operands_fit d (Category x) = nat_le 1 x && nat_le x most_dimension
operands_fit d (Start x) = true
operands_fit d (Production o) = production_fits (length d.dimensions) o
operands_fit d Constituent = true
operands_fit d (Token t) = true
operands_fit d (Part k l) = part_fits d.dimensions d.opened.arguments k l
operands_fit d End = true

pub record Passes (s : Stage) (d : Draft) (c : Command) : Type 0 where
  pub p6 : filled s d c ≡ true
  pub p7 : all_named s d c ≡ true
  pub p4 : in_limits s d c ≡ true
  pub p3 : allowed s d c ≡ true
  pub p8 : start_fits d c ≡ true
  pub p5 : operands_fit d c ≡ true
