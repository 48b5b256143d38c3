-- What a load has read so far is sound, and it is written in the bytes that were read.
use Rattle.std.proofs.Common.{◌≡◌, ℕ, zero, suc, ◌/◌, ◌%◌, ◌<◌, ◌≤◌, true, false, ◌&&◌, eqb, ltb, leb, List, [], ◌∷◌, ◌++◌, length, take, sym, refl, ap, ◌∙◌, subst, ap₂, append_assoc, append-nil, arith}
use mathlib.Core.Bool.{false≢true}
use Rattle.std.proofs.lemmas.Bool.{ltb-true, leb-true, eqb-true}
use Rattle.grammar.specs.declared.symbol.Symbol.TheVariants as symbol
use Rattle.grammar.specs.Grammars.{Symbol, ProductionModel, dimension}
use Rattle.grammar.specs.Formed.{Each, OneOrTwo, SymbolFormed, ConstituentFormed, ProductionFormed, WellFormed}
use Rattle.grammar.specs.Encoding.{categories_bytes, symbol_bytes, symbols_bytes, constituents_bytes, arguments_bytes, production_bytes, productions_bytes, encode}
use Rattle.grammar.specs.Commands.{Command, Kind, Category, Start, Production, Constituent, Token, Part, End, operands, is_end}
use Rattle.grammar.specs.Drafts.{Stage, Fresh, Categories, Between, Head, Body, Opened, Draft, constituents_so_far, open_production, productions_so_far, apply, model_of}
use Rattle.grammar.specs.Checks.{has_some, all, complete, filled, names_all, all_named, past_start, argument_fits}
use Rattle.grammar.proofs.Each.{each_push, each_last, length_push}
use Rattle.grammar.proofs.Tests.{and_both, some_is, all_is}
use Rattle.grammar.proofs.Naming.{names_are}
use Rattle.grammar.proofs.Formed.{part_is}
use Rattle.grammar.proofs.Reading.{bytes, Fits}
use Rattle.grammar.proofs.Writing.{categories_append, symbols_append, constituents_append, productions_append}
use Rattle.grammar.proofs.Accepting.{Passes}

pub record Begun (d : Draft) : Type 0 where
  pub kind_byte : d.kind < 256
  pub categories_most : length d.dimensions ≤ 32
  pub dimensions_formed : Each OneOrTwo d.dimensions

pub record Started (d : Draft) : Type 0 where
  pub begun : Begun d
  pub start_known : d.start < length d.dimensions
  pub start_single : dimension d.dimensions d.start ≡ 1
  pub productions_formed : Each (ProductionFormed d.dimensions) d.productions

pub record HeadFormed (dimensions : List ℕ) (o : Opened) : Type 0 where
  pub category_known : o.category < length dimensions
  pub weight_least : 1 ≤ o.weight
  pub weight_most : o.weight < 65536
  pub arguments_most : length o.arguments ≤ 3
  pub arguments_known : Each (λ a. a < length dimensions) o.arguments

pub record BodyFormed (dimensions : List ℕ) (o : Opened) : Type 0 where
  pub room : length o.closed < dimension dimensions o.category
  pub closed_formed : Each (ConstituentFormed dimensions o.arguments) o.closed
  pub current_most : length o.current ≤ 8
  pub current_formed : Each (SymbolFormed dimensions o.arguments) o.current

abbrev pub Sound : Stage → Draft → Type 0
Sound Fresh d = (d.dimensions ≡ []) × (d.productions ≡ [])
Sound Categories d = Begun d × (d.productions ≡ [])
Sound Between d = Started d × (length d.productions ≤ 128)
Sound Head d = Started d × (length d.productions < 128) × HeadFormed d.dimensions d.opened
Sound Body d = Started d × (length d.productions < 128) × HeadFormed d.dimensions d.opened × BodyFormed d.dimensions d.opened

abbrev header : Draft → List ℕ
header d = 1 ∷ d.kind ∷ (categories_bytes d.dimensions ++ 3 ∷ d.start ∷ [])

abbrev pub Written : Stage → Draft → List ℕ
Written Fresh d = []
Written Categories d = 1 ∷ d.kind ∷ categories_bytes d.dimensions
Written Between d = header d ++ productions_bytes (productions_so_far Between d)
Written Head d = header d ++ productions_bytes (productions_so_far Head d)
Written Body d = header d ++ productions_bytes (productions_so_far Body d)

-- what is closed is sound
record Shut (s : Stage) (d : Draft) : Type 0 where
  begun : Begun d
  start_known : d.start < length d.dimensions
  start_single : dimension d.dimensions d.start ≡ 1
  productions_formed : Each (ProductionFormed d.dimensions) (productions_so_far s d)
  productions_most : length (productions_so_far s d) ≤ 128
  written : Written s d ≡ header d ++ productions_bytes (productions_so_far s d)

body_formed : (dimensions : List ℕ) (o : Opened) → HeadFormed dimensions o → BodyFormed dimensions o → complete dimensions Body o ≡ true
    → names_all dimensions o.arguments (constituents_so_far Body o) ≡ true → ProductionFormed dimensions (open_production Body o)
body_formed dimensions o h b e n =
    let parts = and_both (leb (dimension dimensions o.category) (length (o.closed ++ o.current ∷ []))) (all has_some (o.closed ++ o.current ∷ [])) e in
    let enough = leb-true (dimension dimensions o.category) (length (o.closed ++ o.current ∷ [])) parts.0 in
    let full = each_last (λ c. 1 ≤ length c) o.closed o.current (all_is has_some (λ c. 1 ≤ length c) some_is (o.closed ++ o.current ∷ []) parts.1) in
    record {
      category_known = h.category_known;
      weight_least = h.weight_least;
      weight_most = h.weight_most;
      arguments_most = h.arguments_most;
      arguments_known = h.arguments_known;
      constituents_many = omega (arith, enough, b.room, length_push o.closed o.current);
      constituents_formed = each_push (ConstituentFormed dimensions o.arguments) o.closed o.current b.closed_formed
          (record { symbols_least = full; symbols_most = b.current_most; symbols_formed = b.current_formed });
      all_named = names_are dimensions o.arguments (o.closed ++ o.current ∷ []) n;
    }

shut : (s : Stage) (d : Draft) → past_start s ≡ true → filled s d End ≡ true → all_named s d End ≡ true → Sound s d → Shut s d
shut Fresh d p e n h = absurd (false≢true p)
shut Categories d p e n h = absurd (false≢true p)
shut Between d p e n h = record {
  begun = h.0.begun;
  start_known = h.0.start_known;
  start_single = h.0.start_single;
  productions_formed = h.0.productions_formed;
  productions_most = h.1;
  written = refl;
}
shut Head d p e n h = absurd (false≢true e)
shut Body d p e n h = record {
  begun = h.0.begun;
  start_known = h.0.start_known;
  start_single = h.0.start_single;
  productions_formed = each_push (ProductionFormed d.dimensions) d.productions (open_production Body d.opened) h.0.productions_formed (body_formed d.dimensions d.opened h.2 h.3 e n);
  productions_most = omega (arith, h.1, length_push d.productions (open_production Body d.opened));
  written = refl;
}

-- the bytes of a production that grows
module _ (H : List ℕ) (rs : List ProductionModel) (res w : ℕ) (arguments : List ℕ) where
  abbrev with_all : List (List Symbol) → ProductionModel
  with_all cs = record { category = res; weight = w; arguments = arguments; constituents = cs }

  abbrev front : List ℕ
  front = 4 ∷ res ∷ w / 256 ∷ w % 256 ∷ length arguments ∷ arguments_bytes arguments

  shape : (cs : List (List Symbol)) → H ++ productions_bytes (rs ++ with_all cs ∷ []) ≡ (H ++ (productions_bytes rs ++ front)) ++ constituents_bytes cs
  shape cs =
      ap (λ u. H ++ u) (productions_append rs (with_all cs ∷ []) ∙ ap (λ u. productions_bytes rs ++ u) (append-nil (production_bytes (with_all cs)))
      ∙ sym (append_assoc (productions_bytes rs) front (constituents_bytes cs)))
      ∙ sym (append_assoc H (productions_bytes rs ++ front) (constituents_bytes cs))

  grow : (cs cs' : List (List Symbol)) (t : List ℕ) → constituents_bytes cs' ≡ constituents_bytes cs ++ t
      → H ++ productions_bytes (rs ++ with_all cs' ∷ []) ≡ (H ++ productions_bytes (rs ++ with_all cs ∷ [])) ++ t
  grow cs cs' t e =
      shape cs' ∙ ap (λ u. (H ++ (productions_bytes rs ++ front)) ++ u) e
      ∙ sym (append_assoc (H ++ (productions_bytes rs ++ front)) (constituents_bytes cs) t)
      ∙ ap (λ u. u ++ t) (sym (shape cs))

symbol_written : (closed : List (List Symbol)) (current : List Symbol) (s : Symbol)
    → constituents_bytes (closed ++ (current ++ s ∷ []) ∷ []) ≡ constituents_bytes (closed ++ current ∷ []) ++ symbol_bytes s
symbol_written closed current s =
    let one : symbols_bytes (current ++ s ∷ []) ++ [] ≡ symbols_bytes current ++ [] ++ symbol_bytes s =
    append-nil (symbols_bytes (current ++ s ∷ [])) ∙ symbols_append current (s ∷ []) ∙ ap₂ ◌++◌ (sym (append-nil (symbols_bytes current))) (append-nil (symbol_bytes s)) in
    constituents_append closed ((current ++ s ∷ []) ∷ [])
    ∙ ap (λ u. constituents_bytes closed ++ 5 ∷ u) one
    ∙ sym (append_assoc (constituents_bytes closed) (constituents_bytes (current ∷ [])) (symbol_bytes s))
    ∙ ap (λ u. u ++ symbol_bytes s) (sym (constituents_append closed (current ∷ [])))

-- the arguments of a production
record ArgumentsRead (known n x y z : ℕ) : Type 0 where
  same : ◌≡◌ {A = List ℕ} (length (take n (x ∷ y ∷ z ∷ [])) ∷ arguments_bytes (take n (x ∷ y ∷ z ∷ []))) (n ∷ x ∷ y ∷ z ∷ [])
  most : length (take n (x ∷ y ∷ z ∷ [])) ≤ 3
  all_known : Each (λ a. a < known) (take n (x ∷ y ∷ z ∷ []))

arguments_read : (known n x y z : ℕ) → (leb n 3 && (argument_fits known n 0 x && (argument_fits known n 1 y && argument_fits known n 2 z))) ≡ true → ArgumentsRead known n x y z
arguments_read known zero x y z e =
    let a = and_both (eqb x 255) (eqb y 255 && eqb z 255) e in
    let b = and_both (eqb y 255) (eqb z 255) a.1 in
    record {
      same = ap (λ u. 0 ∷ u ∷ 255 ∷ 255 ∷ []) (sym (eqb-true x 255 a.0)) ∙ ap₂ (λ u v. 0 ∷ x ∷ u ∷ v ∷ []) (sym (eqb-true y 255 b.0)) (sym (eqb-true z 255 b.1));
      most = omega arith;
      all_known = tt;
    }
arguments_read known (suc zero) x y z e =
    let a = and_both (ltb x known) (eqb y 255 && eqb z 255) e in
    let b = and_both (eqb y 255) (eqb z 255) a.1 in
    record {
      same = ap₂ (λ u v. 1 ∷ x ∷ u ∷ v ∷ []) (sym (eqb-true y 255 b.0)) (sym (eqb-true z 255 b.1));
      most = omega arith;
      all_known = (ltb-true x known a.0, tt);
    }
arguments_read known (suc (suc zero)) x y z e =
    let a = and_both (ltb x known) (ltb y known && eqb z 255) e in
    let b = and_both (ltb y known) (eqb z 255) a.1 in
    record {
      same = ap (λ v. 2 ∷ x ∷ y ∷ v ∷ []) (sym (eqb-true z 255 b.1));
      most = omega arith;
      all_known = (ltb-true x known a.0, (ltb-true y known b.0, tt));
    }
arguments_read known (suc (suc (suc zero))) x y z e =
    let a = and_both (ltb x known) (ltb y known && ltb z known) e in
    let b = and_both (ltb y known) (ltb z known) a.1 in
    record {
      same = refl;
      most = omega arith;
      all_known = (ltb-true x known a.0, (ltb-true y known b.0, (ltb-true z known b.1, tt)));
    }
arguments_read known (suc (suc (suc (suc n)))) x y z e =
    let a = and_both (leb (suc (suc (suc (suc n)))) 3) _ e in
    absurd (omega (arith, leb-true (suc (suc (suc (suc n)))) 3 a.0))

-- one command
pub record Moved (at : ℕ) (s : Stage) (d : Draft) (c : Command) : Type 0 where
  pub sound : Sound (apply at s d c).0 (apply at s d c).1
  pub written : Written (apply at s d c).0 (apply at s d c).1 ≡ Written s d ++ bytes c

move_kind : (at : ℕ) (s : Stage) (d : Draft) (k : ℕ) → Passes s d (Kind k) → k < 256 → Sound s d → Moved at s d (Kind k)
move_kind at Fresh d k p f h = record {
  sound = (
    record {
      kind_byte = f;
      categories_most = let q : length d.dimensions ≡ 0 = ap length h.0 in omega arith;
      dimensions_formed = subst (λ x. Each OneOrTwo x) (sym h.0) tt;
    },
    h.1,
  );
  written = ap (λ x. 1 ∷ k ∷ categories_bytes x) h.0;
}
move_kind at Categories d k p f h = absurd (false≢true p.p3)
move_kind at Between d k p f h = absurd (false≢true p.p3)
move_kind at Head d k p f h = absurd (false≢true p.p3)
move_kind at Body d k p f h = absurd (false≢true p.p3)

move_category : (at : ℕ) (s : Stage) (d : Draft) (x : ℕ) → Passes s d (Category x) → Sound s d → Moved at s d (Category x)
move_category at Fresh d x p h = absurd (false≢true p.p3)
move_category at Categories d x p h =
    let a = and_both (leb 1 x) (leb x 2) p.p5 in
    let room = ltb-true (length d.dimensions) 32 p.p4 in
    record {
      sound = (
        record {
          kind_byte = h.0.kind_byte;
          categories_most = omega (arith, room, length_push d.dimensions x);
          dimensions_formed = each_push OneOrTwo d.dimensions x h.0.dimensions_formed (record { least = leb-true 1 x a.0; most = leb-true x 2 a.1 });
        },
        h.1,
      );
      written = ap (λ u. 1 ∷ d.kind ∷ u) (categories_append d.dimensions (x ∷ []));
    }
move_category at Between d x p h = absurd (false≢true p.p3)
move_category at Head d x p h = absurd (false≢true p.p3)
move_category at Body d x p h = absurd (false≢true p.p3)

move_start : (at : ℕ) (s : Stage) (d : Draft) (x : ℕ) → Passes s d (Start x) → Sound s d → Moved at s d (Start x)
move_start at Fresh d x p h = absurd (false≢true p.p3)
move_start at Categories d x p h =
    let a = and_both (ltb x (length d.dimensions)) (eqb (dimension d.dimensions x) 1) p.p8 in
    let none : length d.productions ≡ 0 = ap length h.1 in
    record {
      sound = (
        record {
          begun = record { kind_byte = h.0.kind_byte; categories_most = h.0.categories_most; dimensions_formed = h.0.dimensions_formed };
          start_known = ltb-true x (length d.dimensions) a.0;
          start_single = eqb-true (dimension d.dimensions x) 1 a.1;
          productions_formed = subst (λ r. Each (ProductionFormed d.dimensions) r) (sym h.1) tt;
        },
        omega arith,
      );
      written = ap (λ r. 1 ∷ d.kind ∷ (categories_bytes d.dimensions ++ 3 ∷ x ∷ [] ++ productions_bytes r)) h.1
          ∙ ap (λ u. 1 ∷ d.kind ∷ u) (append-nil (categories_bytes d.dimensions ++ 3 ∷ x ∷ []));
    }
move_start at Between d x p h = absurd (false≢true p.p3)
move_start at Head d x p h = absurd (false≢true p.p3)
move_start at Body d x p h = absurd (false≢true p.p3)

move_production : (at : ℕ) (s : Stage) (d : Draft) (c w n x y z : ℕ) → Passes s d (Production (operands c w n x y z)) → w < 65536 → Sound s d
    → Moved at s d (Production (operands c w n x y z))
move_production at s d c w n x y z p f h =
    let t = shut s d p.p3 p.p6 p.p7 h in
    let a = and_both (ltb c (length d.dimensions)) _ p.p5 in
    let b = and_both (ltb 0 w) _ a.1 in
    let r = arguments_read (length d.dimensions) n x y z b.1 in
    let before : List ProductionModel = productions_so_far s d in
    let arguments : List ℕ = take n (x ∷ y ∷ z ∷ []) in
    record {
      sound = (
        record {
          begun = record { kind_byte = t.begun.kind_byte; categories_most = t.begun.categories_most; dimensions_formed = t.begun.dimensions_formed };
          start_known = t.start_known;
          start_single = t.start_single;
          productions_formed = t.productions_formed;
        },
        ltb-true (length before) 128 p.p4,
        record {
          category_known = ltb-true c (length d.dimensions) a.0;
          weight_least = ltb-true 0 w b.0;
          weight_most = f;
          arguments_most = r.most;
          arguments_known = r.all_known;
        },
      );
      written = shape (header d) before c w arguments []
          ∙ append-nil (header d ++ (productions_bytes before ++ front (header d) before c w arguments))
          ∙ sym (append_assoc (header d) (productions_bytes before) (front (header d) before c w arguments))
          ∙ ap₂ (λ u v. u ++ 4 ∷ c ∷ w / 256 ∷ w % 256 ∷ v) (sym t.written) r.same;
    }

move_constituent : (at : ℕ) (s : Stage) (d : Draft) → Passes s d Constituent → Sound s d → Moved at s d Constituent
move_constituent at Fresh d p h = absurd (false≢true p.p3)
move_constituent at Categories d p h = absurd (false≢true p.p3)
move_constituent at Between d p h = absurd (false≢true p.p3)
move_constituent at Head d p h = record {
  sound = (
    keep_started d h.0,
    h.1,
    keep_head d h.2,
    record { room = ltb-true 0 (dimension d.dimensions d.opened.category) p.p4; closed_formed = tt; current_most = omega arith; current_formed = tt },
  );
  written = grow (header d) d.productions d.opened.category d.opened.weight d.opened.arguments [] ([] ∷ []) (5 ∷ []) refl;
}
  where
    keep_started : (d : Draft) → Started d → Started (apply at Head d Constituent).1
    keep_started d h = record {
      begun = record { kind_byte = h.begun.kind_byte; categories_most = h.begun.categories_most; dimensions_formed = h.begun.dimensions_formed };
      start_known = h.start_known;
      start_single = h.start_single;
      productions_formed = h.productions_formed;
    }

    keep_head : (d : Draft) → HeadFormed d.dimensions d.opened → HeadFormed d.dimensions (apply at Head d Constituent).1.opened
    keep_head d h = record { category_known = h.category_known; weight_least = h.weight_least; weight_most = h.weight_most; arguments_most = h.arguments_most; arguments_known = h.arguments_known }
move_constituent at Body d p h =
    let o : Opened = d.opened in
    let full = some_is o.current p.p3 in
    record {
      sound = (
        record {
          begun = record { kind_byte = h.0.begun.kind_byte; categories_most = h.0.begun.categories_most; dimensions_formed = h.0.begun.dimensions_formed };
          start_known = h.0.start_known;
          start_single = h.0.start_single;
          productions_formed = h.0.productions_formed;
        },
        h.1,
        record { category_known = h.2.category_known; weight_least = h.2.weight_least; weight_most = h.2.weight_most; arguments_most = h.2.arguments_most; arguments_known = h.2.arguments_known },
        record {
          room = ltb-true (length (o.closed ++ o.current ∷ [])) (dimension d.dimensions o.category) p.p4;
          closed_formed = each_push (ConstituentFormed d.dimensions o.arguments) o.closed o.current h.3.closed_formed
              (record { symbols_least = full; symbols_most = h.3.current_most; symbols_formed = h.3.current_formed });
          current_most = omega arith;
          current_formed = tt;
        },
      );
      written = grow (header d) d.productions o.category o.weight o.arguments (o.closed ++ o.current ∷ []) (o.closed ++ o.current ∷ [] ++ [] ∷ []) (5 ∷ [])
          (constituents_append (o.closed ++ o.current ∷ []) ([] ∷ []));
    }

-- one more sign
module _ (d : Draft) (g : Symbol) (h : Sound Body d) (room : ltb (length d.opened.current) 8 ≡ true) (f : SymbolFormed d.dimensions d.opened.arguments g) where
  symbol_sound : Sound Body (Rattle.grammar.specs.Drafts.with_symbol d g)
  symbol_sound = (
    record {
      begun = record { kind_byte = h.0.begun.kind_byte; categories_most = h.0.begun.categories_most; dimensions_formed = h.0.begun.dimensions_formed };
      start_known = h.0.start_known;
      start_single = h.0.start_single;
      productions_formed = h.0.productions_formed;
    },
    h.1,
    record { category_known = h.2.category_known; weight_least = h.2.weight_least; weight_most = h.2.weight_most; arguments_most = h.2.arguments_most; arguments_known = h.2.arguments_known },
    record {
      room = h.3.room;
      closed_formed = h.3.closed_formed;
      current_most = omega (arith, ltb-true (length d.opened.current) 8 room, length_push d.opened.current g);
      current_formed = each_push (SymbolFormed d.dimensions d.opened.arguments) d.opened.current g h.3.current_formed f;
    },
  )

  symbol_adds : Written Body (Rattle.grammar.specs.Drafts.with_symbol d g) ≡ Written Body d ++ symbol_bytes g
  symbol_adds =
      grow (header d) d.productions d.opened.category d.opened.weight d.opened.arguments (d.opened.closed ++ d.opened.current ∷ [])
      (d.opened.closed ++ (d.opened.current ++ g ∷ []) ∷ []) (symbol_bytes g) (symbol_written d.opened.closed d.opened.current g)

move_token : (at : ℕ) (s : Stage) (d : Draft) (t : ℕ) → Passes s d (Token t) → t < 65536 → Sound s d → Moved at s d (Token t)
move_token at Fresh d t p f h = absurd (false≢true p.p3)
move_token at Categories d t p f h = absurd (false≢true p.p3)
move_token at Between d t p f h = absurd (false≢true p.p3)
move_token at Head d t p f h = absurd (false≢true p.p3)
move_token at Body d t p f h = record { sound = symbol_sound d (symbol.Token t) h p.p4 f; written = symbol_adds d (symbol.Token t) h p.p4 f }

move_part : (at : ℕ) (s : Stage) (d : Draft) (k l : ℕ) → Passes s d (Part k l) → Sound s d → Moved at s d (Part k l)
move_part at Fresh d k l p h = absurd (false≢true p.p3)
move_part at Categories d k l p h = absurd (false≢true p.p3)
move_part at Between d k l p h = absurd (false≢true p.p3)
move_part at Head d k l p h = absurd (false≢true p.p3)
move_part at Body d k l p h =
    let f = part_is d.dimensions d.opened.arguments k l p.p5 in
    record { sound = symbol_sound d (symbol.Part k l) h p.p4 f; written = symbol_adds d (symbol.Part k l) h p.p4 f }

pub moved : (at : ℕ) (s : Stage) (d : Draft) (c : Command) → is_end c ≡ false → Passes s d c → Fits c → Sound s d → Moved at s d c
moved at s d (Kind k) e p f h = move_kind at s d k p f h
moved at s d (Category x) e p f h = move_category at s d x p h
moved at s d (Start x) e p f h = move_start at s d x p h
moved at s d (Production o) e p f h = move_production at s d o.category o.weight o.arity o.first o.second o.third p f h
moved at s d Constituent e p f h = move_constituent at s d p h
moved at s d (Token t) e p f h = move_token at s d t p f h
moved at s d (Part k l) e p f h = move_part at s d k l p h
moved at s d End e p f h = absurd (false≢true (sym e))

-- END
pub ended : (at : ℕ) (s : Stage) (d : Draft) → Passes s d End → Sound s d
    → WellFormed (model_of (apply at s d End).1) × (encode (model_of (apply at s d End).1) ≡ Written s d ++ 8 ∷ [])
ended at s d p h =
    let t = shut s d p.p3 p.p6 p.p7 h in
    let body : List ℕ = productions_bytes (productions_so_far s d) in (
      record {
        kind_byte = t.begun.kind_byte;
        categories_least = omega (arith, t.start_known);
        categories_most = t.begun.categories_most;
        dimensions_formed = t.begun.dimensions_formed;
        start_known = t.start_known;
        start_single = t.start_single;
        productions_most = t.productions_most;
        productions_formed = t.productions_formed;
      },
      ap (λ u. 1 ∷ d.kind ∷ u) (sym (append_assoc (categories_bytes d.dimensions) (3 ∷ d.start ∷ []) (body ++ 8 ∷ [])))
          ∙ sym (append_assoc (header d) body (8 ∷ []))
          ∙ ap (λ u. u ++ 8 ∷ []) (sym t.written),
    )
