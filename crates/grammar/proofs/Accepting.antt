-- The pack of a well-formed grammar loads to that grammar.
use Rattle.std.proofs.Common.{◌≡◌, ℕ, zero, suc, ◌+◌, ◌<◌, ◌≤◌, Bool, true, false, cond, ◌&&◌, eqb, ltb, leb, List, [], ◌∷◌, ◌++◌, length, Ok, Err, Result, sym, refl, ap, ◌∙◌, subst, ap₂, append_assoc, append-nil, arith, length-append}
use Rattle.std.proofs.lemmas.Bool.{cond-true, and_from, lt-ltb, le-leb, eq-eqb}
use Rattle.grammar.specs.declared.symbol.Symbol.TheVariants as symbol
use Rattle.grammar.specs.Grammars.{Symbol, ProductionModel, GrammarModel, dimension}
use Rattle.grammar.specs.Formed.{Each, OneOrTwo, SymbolFormed, ConstituentFormed, ProductionFormed, WellFormed}
use Rattle.grammar.specs.Encoding.{categories_bytes, symbols_bytes, constituents_bytes, production_bytes, productions_bytes, encode}
use Rattle.grammar.specs.Commands.{Command, Kind, Category, Start, Production, Constituent, Token, Part, End, operands, size, is_end}
use Rattle.grammar.specs.Drafts.{Stage, Fresh, Categories, Between, Head, Body, Opened, Draft, none_opened, blank, productions_so_far, apply, model_of}
use Rattle.grammar.specs.Checks.{has_some, all, filled, names_all, all_named, in_limits, past_start, allowed, start_fits, operands_fit, production_fits}
pub use Rattle.grammar.specs.Checks.{Passes}
use Rattle.grammar.specs.Stops.{Stop, stop_at, Grammar}
use Rattle.grammar.specs.Loads.{Outcome, need, step, finish, after_step, after_next, run, load_of}
use Rattle.grammar.proofs.Each.{each_at, each_map, length_push}
use Rattle.grammar.proofs.Tests.{is_some, is_all}
use Rattle.grammar.proofs.Naming.{are_names}
use Rattle.grammar.proofs.Formed.{is_part}
use Rattle.grammar.proofs.Reading.{bytes, shorter, read_back}

abbrev Accepts : Stage → Draft → List ℕ → GrammarModel → Type 0
Accepts s d p g = (n at : ℕ) → length p ≤ n → run n at s d p ≡ Ok g

need_met : {X : Type 0} (b : Bool) (k f : ℕ) (r : Result X Stop) → b ≡ true → need b k f r ≡ r
need_met b k f r e = cond-true b r (Err (stop_at k f Grammar)) e

pub step_passed : (at : ℕ) (s : Stage) (d : Draft) (c : Command) → Passes s d c → step at s d c ≡ Ok (apply at s d c)
step_passed at s d c h =
    need_met (filled s d c) 6 _ _ h.p6
    ∙ need_met (all_named s d c) 7 _ _ h.p7
    ∙ need_met (in_limits s d c) 4 _ _ h.p4
    ∙ need_met (allowed s d c) 3 _ _ h.p3
    ∙ need_met (start_fits d c) 8 _ _ h.p8
    ∙ need_met (operands_fit d c) 5 _ _ h.p5

advance : (s : Stage) (d : Draft) (c : Command) (rest : List ℕ) (g : GrammarModel) → Passes s d c → is_end c ≡ false
    → ((at : ℕ) → Accepts (apply at s d c).0 (apply at s d c).1 rest g) → Accepts s d (bytes c ++ rest) g
advance s d c rest g h e k zero at l = absurd (omega (arith, shorter c rest))
advance s d c rest g h e k (suc n) at l =
    ap (after_next (run n) at s d) (read_back c rest)
    ∙ ap (after_step (run n) at c rest) (step_passed at s d c h)
    ∙ ap (λ t. cond t (finish (at + size c) (apply at s d c).1 rest) (run n (at + size c) (apply at s d c).0 (apply at s d c).1 rest)) e
    ∙ k at n (at + size c) (omega (arith, shorter c rest))

ending : (s : Stage) (d : Draft) (g : GrammarModel) → Passes s d End → model_of (apply 0 s d End).1 ≡ g → Accepts s d (8 ∷ []) g
ending s d g h e zero at l = absurd (omega arith)
ending s d g h e (suc n) at l = ap (after_step (run n) at End []) (step_passed at s d End h) ∙ ap {B = Outcome} (λ m. Ok m) e

-- categories
abbrev cat_draft : ℕ → List ℕ → Draft
cat_draft k ds = record { kind = k; dimensions = ds; start = 0; productions = []; opened = none_opened }

categories_in : (k : ℕ) (ds xs rest : List ℕ) (g : GrammarModel) → length ds + length xs ≤ 32 → Each OneOrTwo xs
    → Accepts Categories (cat_draft k (ds ++ xs)) rest g → Accepts Categories (cat_draft k ds) (categories_bytes xs ++ rest) g
categories_in k ds [] rest g l e a = subst (λ x. Accepts Categories (cat_draft k x) rest g) (append-nil ds) a
categories_in k ds (x ∷ xs) rest g l e a =
    advance Categories (cat_draft k ds) (Category x) (categories_bytes xs ++ rest) g
    (record {
      p6 = refl;
      p7 = refl;
      p4 = lt-ltb (length ds) 32 (omega arith);
      p3 = refl;
      p8 = refl;
      p5 = and_from (leb 1 x) (leb x 2) (le-leb 1 x e.0.least) (le-leb x 2 e.0.most);
    })
    refl
    (λ at. categories_in k (ds ++ x ∷ []) xs rest g (omega (arith, length_push ds x)) e.1
    (subst (λ y. Accepts Categories (cat_draft k y) rest g) (sym (append_assoc ds (x ∷ []) xs)) a))

-- the constituents of one production
module _ (k : ℕ) (dimensions : List ℕ) (st : ℕ) (rs : List ProductionModel) (off res w : ℕ) (arguments : List ℕ) (g : GrammarModel) where
  abbrev body : List (List Symbol) → List Symbol → Draft
  body closed current = record {
    kind = k;
    dimensions = dimensions;
    start = st;
    productions = rs;
    opened = record { offset = off; category = res; weight = w; arguments = arguments; closed = closed; current = current };
  }

  symbols_in : (closed : List (List Symbol)) (current ss : List Symbol) (rest : List ℕ) → length current + length ss ≤ 8 → Each (SymbolFormed dimensions arguments) ss
      → Accepts Body (body closed (current ++ ss)) rest g → Accepts Body (body closed current) (symbols_bytes ss ++ rest) g
  symbols_in closed current [] rest l e a = subst (λ x. Accepts Body (body closed x) rest g) (append-nil current) a
  symbols_in closed current (symbol.Token t ∷ ss) rest l e a =
      advance Body (body closed current) (Token t) (symbols_bytes ss ++ rest) g
      (record { p6 = refl; p7 = refl; p4 = lt-ltb (length current) 8 (omega arith); p3 = refl; p8 = refl; p5 = refl })
      refl
      (λ at. symbols_in closed (current ++ symbol.Token t ∷ []) ss rest (omega (arith, length_push current (symbol.Token t))) e.1
      (subst (λ y. Accepts Body (body closed y) rest g) (sym (append_assoc current (symbol.Token t ∷ []) ss)) a))
  symbols_in closed current (symbol.Part i j ∷ ss) rest l e a =
      advance Body (body closed current) (Part i j) (symbols_bytes ss ++ rest) g
      (record { p6 = refl; p7 = refl; p4 = lt-ltb (length current) 8 (omega arith); p3 = refl; p8 = refl; p5 = is_part dimensions arguments i j e.0 })
      refl
      (λ at. symbols_in closed (current ++ symbol.Part i j ∷ []) ss rest (omega (arith, length_push current (symbol.Part i j))) e.1
      (subst (λ y. Accepts Body (body closed y) rest g) (sym (append_assoc current (symbol.Part i j ∷ []) ss)) a))

  abbrev Done : List (List Symbol) → List ℕ → Type 0
  Done all rest = (closed : List (List Symbol)) (current : List Symbol) → closed ++ current ∷ [] ≡ all → Accepts Body (body closed current) rest g

  constituents_in : (all closed : List (List Symbol)) (current : List Symbol) (cs : List (List Symbol)) (rest : List ℕ) → closed ++ current ∷ cs ≡ all
      → length all ≤ dimension dimensions res → 1 ≤ length current → Each (ConstituentFormed dimensions arguments) cs → Done all rest
      → Accepts Body (body closed current) (constituents_bytes cs ++ rest) g
  constituents_in all closed current [] rest e l h f done = done closed current e
  constituents_in all closed current (c ∷ cs) rest e l h f done =
      let size_is : length (closed ++ current ∷ c ∷ cs) ≡ length all = ap length e in
      advance Body (body closed current) Constituent (symbols_bytes c ++ constituents_bytes cs ++ rest) g
      (record {
        p6 = refl;
        p7 = refl;
        p4 = lt-ltb (length (closed ++ current ∷ [])) (dimension dimensions res) (omega (arith, size_is, length-append closed (current ∷ c ∷ cs), length_push closed current));
        p3 = is_some current h;
        p8 = refl;
        p5 = refl;
      })
      refl
      (λ at. subst (λ q. Accepts Body (body (closed ++ current ∷ []) []) q g) (sym (append_assoc (symbols_bytes c) (constituents_bytes cs) rest))
      (symbols_in (closed ++ current ∷ []) [] c (constituents_bytes cs ++ rest) (omega (arith, f.0.symbols_most)) f.0.symbols_formed
      (constituents_in all (closed ++ current ∷ []) c cs rest (append_assoc closed (current ∷ []) (c ∷ cs) ∙ e) l f.0.symbols_least f.1 done)))

  all_in : (cs : List (List Symbol)) (rest : List ℕ) → 1 ≤ length cs → length cs ≤ dimension dimensions res → Each (ConstituentFormed dimensions arguments) cs → Done cs rest
      → Accepts Head (body [] []) (constituents_bytes cs ++ rest) g
  all_in [] rest o l f done = absurd (omega arith)
  all_in (c ∷ cs) rest o l f done =
      advance Head (body [] []) Constituent (symbols_bytes c ++ constituents_bytes cs ++ rest) g
      (record { p6 = refl; p7 = refl; p4 = lt-ltb 0 (dimension dimensions res) (omega arith); p3 = refl; p8 = refl; p5 = refl })
      refl
      (λ at. subst (λ q. Accepts Body (body [] []) q g) (sym (append_assoc (symbols_bytes c) (constituents_bytes cs) rest))
      (symbols_in [] [] c (constituents_bytes cs ++ rest) (omega (arith, f.0.symbols_most)) f.0.symbols_formed
      (constituents_in (c ∷ cs) [] c cs rest refl l f.0.symbols_least f.1 done)))

-- the productions
record Ready (s : Stage) (d : Draft) : Type 0 where
  past : past_start s ≡ true
  full : filled s d End ≡ true
  naming : all_named s d End ≡ true

module _ (k : ℕ) (dimensions : List ℕ) (st : ℕ) where
  abbrev made : List ProductionModel → Opened → Draft
  made rs o = record { kind = k; dimensions = dimensions; start = st; productions = rs; opened = o }

  abbrev head : ℕ → ℕ → ℕ → List ℕ → Opened
  head off res w arguments = record { offset = off; category = res; weight = w; arguments = arguments; closed = []; current = [] }

  module _ (g : GrammarModel) (s : Stage) (rs : List ProductionModel) (o : Opened) (ready : Ready s (made rs o))
      (room : length (productions_so_far s (made rs o)) < 128) (res w : ℕ) (known : res < length dimensions) (heavy : 1 ≤ w) (tail : List ℕ) where
    send : (n x y z : ℕ) → production_fits (length dimensions) (operands res w n x y z) ≡ true
        → ((at : ℕ) → Accepts Head (apply at s (made rs o) (Production (operands res w n x y z))).1 tail g)
        → Accepts s (made rs o) (bytes (Production (operands res w n x y z)) ++ tail) g
    send n x y z f a =
        advance s (made rs o) (Production (operands res w n x y z)) tail g
        (record {
          p6 = ready.full;
          p7 = ready.naming;
          p4 = lt-ltb (length (productions_so_far s (made rs o))) 128 room;
          p3 = ready.past;
          p8 = refl;
          p5 = f;
        })
        refl a

    fits : (t : Bool) → t ≡ true → (ltb res (length dimensions) && (ltb 0 w && t)) ≡ true
    fits t e = and_from (ltb res (length dimensions)) (ltb 0 w && t) (lt-ltb res (length dimensions) known) (and_from (ltb 0 w) t (lt-ltb 0 w heavy) e)

  head_in : (g : GrammarModel) (s : Stage) (rs : List ProductionModel) (o : Opened) → Ready s (made rs o) → length (productions_so_far s (made rs o)) < 128
      → (res w : ℕ) (arguments : List ℕ) (cs : List (List Symbol)) (tail : List ℕ) → res < length dimensions → 1 ≤ w → length arguments ≤ 3 → Each (λ a. a < length dimensions) arguments
      → ((at : ℕ) → Accepts Head (made (productions_so_far s (made rs o)) (head at res w arguments)) (constituents_bytes cs ++ tail) g)
      → Accepts s (made rs o) (production_bytes (record { category = res; weight = w; arguments = arguments; constituents = cs }) ++ tail) g
  head_in g s rs o r m res w [] cs tail hr hw l e a =
      send g s rs o r m res w hr hw (constituents_bytes cs ++ tail) 0 255 255 255 (fits g s rs o r m res w hr hw tail true refl) a
  head_in g s rs o r m res w (x ∷ []) cs tail hr hw l e a =
      send g s rs o r m res w hr hw (constituents_bytes cs ++ tail) 1 x 255 255
      (fits g s rs o r m res w hr hw tail (ltb x (length dimensions) && true) (and_from (ltb x (length dimensions)) true (lt-ltb x (length dimensions) e.0) refl)) a
  head_in g s rs o r m res w (x ∷ y ∷ []) cs tail hr hw l e a =
      send g s rs o r m res w hr hw (constituents_bytes cs ++ tail) 2 x y 255
      (fits g s rs o r m res w hr hw tail (ltb x (length dimensions) && (ltb y (length dimensions) && true))
      (and_from (ltb x (length dimensions)) (ltb y (length dimensions) && true) (lt-ltb x (length dimensions) e.0)
      (and_from (ltb y (length dimensions)) true (lt-ltb y (length dimensions) e.1.0) refl))) a
  head_in g s rs o r m res w (x ∷ y ∷ z ∷ []) cs tail hr hw l e a =
      send g s rs o r m res w hr hw (constituents_bytes cs ++ tail) 3 x y z
      (fits g s rs o r m res w hr hw tail (ltb x (length dimensions) && (ltb y (length dimensions) && ltb z (length dimensions)))
      (and_from (ltb x (length dimensions)) (ltb y (length dimensions) && ltb z (length dimensions)) (lt-ltb x (length dimensions) e.0)
      (and_from (ltb y (length dimensions)) (ltb z (length dimensions)) (lt-ltb y (length dimensions) e.1.0) (lt-ltb z (length dimensions) e.1.1.0)))) a
  head_in g s rs o r m res w (x ∷ y ∷ z ∷ u ∷ us) cs tail hr hw l e a = absurd (omega arith)

  -- a production all of whose constituents are read can be closed
  closes_well : (rs : List ProductionModel) (off : ℕ) (r : ProductionModel) (closed : List (List Symbol)) (current : List Symbol) → ProductionFormed dimensions r
      → closed ++ current ∷ [] ≡ r.constituents
      → Ready Body (body k dimensions st rs off r.category r.weight r.arguments record { kind = 0; dimensions = []; start = 0; productions = [] } closed current)
  closes_well rs off r closed current f e =
      record {
        past = refl;
        full = ap (λ cs. leb (dimension dimensions r.category) (length cs) && all has_some cs) e
            ∙ and_from (leb (dimension dimensions r.category) (length r.constituents)) (all has_some r.constituents)
            (le-leb (dimension dimensions r.category) (length r.constituents) (omega (arith, f.constituents_many)))
            (is_all has_some (λ c. 1 ≤ length c) is_some r.constituents
            (each_map (ConstituentFormed dimensions r.arguments) (λ c. 1 ≤ length c) r.constituents (λ c h. h.symbols_least) f.constituents_formed));
        naming = ap (names_all dimensions r.arguments) e ∙ are_names dimensions r.arguments r.constituents f.all_named;
      }

  productions_in : (formed : Each OneOrTwo dimensions) (s : Stage) (rs : List ProductionModel) (o : Opened) (so_far ys all : List ProductionModel) → Ready s (made rs o)
      → productions_so_far s (made rs o) ≡ so_far → so_far ++ ys ≡ all → length all ≤ 128 → Each (ProductionFormed dimensions) ys
      → Accepts s (made rs o) (productions_bytes ys ++ 8 ∷ []) (record { kind = k; dimensions = dimensions; start = st; productions = all })
  productions_in formed s rs o so_far [] all r e q l f =
      ending s (made rs o) (record { kind = k; dimensions = dimensions; start = st; productions = all })
      (record { p6 = r.full; p7 = r.naming; p4 = refl; p3 = r.past; p8 = refl; p5 = refl })
      (ap (λ x. record { kind = k; dimensions = dimensions; start = st; productions = x }) (e ∙ sym (append-nil so_far) ∙ q))
  productions_in formed s rs o so_far (y ∷ ys) all r e q l f =
      let g : GrammarModel = record { kind = k; dimensions = dimensions; start = st; productions = all } in
      let before : List ProductionModel = productions_so_far s (made rs o) in
      let size_is : length (so_far ++ y ∷ ys) ≡ length all = ap length q in
      let count : length before ≡ length so_far = ap length e in
      let fy : ProductionFormed dimensions y = f.0 in
      let one-two = each_at OneOrTwo dimensions y.category 0 formed fy.category_known in
      subst (λ p. Accepts s (made rs o) p g) (sym (append_assoc (production_bytes y) (productions_bytes ys) (8 ∷ [])))
      (head_in g s rs o r (omega (arith, size_is, count, length-append so_far (y ∷ ys))) y.category y.weight y.arguments y.constituents
      (productions_bytes ys ++ 8 ∷ []) fy.category_known fy.weight_least fy.arguments_most fy.arguments_known
      (λ at. all_in k dimensions st before at y.category y.weight y.arguments g y.constituents (productions_bytes ys ++ 8 ∷ [])
      (omega (arith, fy.constituents_many, one-two.least)) (omega (arith, fy.constituents_many)) fy.constituents_formed
      (λ closed current c. productions_in formed Body before
      (record { offset = at; category = y.category; weight = y.weight; arguments = y.arguments; closed = closed; current = current })
      (so_far ++ y ∷ []) ys all (closes_well before at y closed current fy c)
      (ap₂ (λ x cs. x ++ record { category = y.category; weight = y.weight; arguments = y.arguments; constituents = cs } ∷ []) e c)
      (append_assoc so_far (y ∷ []) ys ∙ q) l f.1)))

pub packs_load : (g : GrammarModel) → WellFormed g → load_of (encode g) ≡ Ok g
packs_load g f =
    let tail : List ℕ = productions_bytes g.productions ++ 8 ∷ [] in
    advance Fresh blank (Kind g.kind) (categories_bytes g.dimensions ++ 3 ∷ g.start ∷ tail) g
    (record { p6 = refl; p7 = refl; p4 = refl; p3 = refl; p8 = refl; p5 = refl }) refl
    (λ at. categories_in g.kind [] g.dimensions (3 ∷ g.start ∷ tail) g (omega (arith, f.categories_most)) f.dimensions_formed
    (advance Categories (cat_draft g.kind g.dimensions) (Start g.start) tail g
    (record {
      p6 = refl;
      p7 = refl;
      p4 = refl;
      p3 = is_some g.dimensions f.categories_least;
      p8 = and_from (ltb g.start (length g.dimensions)) (eqb (dimension g.dimensions g.start) 1)
          (lt-ltb g.start (length g.dimensions) f.start_known) (eq-eqb (dimension g.dimensions g.start) 1 f.start_single);
      p5 = refl;
    }) refl
    (λ at'. productions_in g.kind g.dimensions g.start f.dimensions_formed Between [] none_opened [] g.productions g.productions
    (record { past = refl; full = refl; naming = refl }) refl refl f.productions_most f.productions_formed)))
    (length (encode g)) 0 (omega arith)
