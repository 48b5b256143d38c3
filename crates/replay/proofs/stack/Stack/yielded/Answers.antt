use Rattle.std.proofs.Common.{map, length, sym, ap, ◌∙◌, arith, lit<}
use Rattle.std.proofs.lemmas.List.{length-map}
use Rattle.grammar.specs.Entries.{entries}
use Rattle.grammar.specs.Held.{production_model}
use Rattle.replay.specs.Piles.{items}
use Rattle.replay.proofs.Performing as performing
use Rattle.replay.proofs.stack.Stack.yielded.Goals as goal

pub returns-then-shapes-arguments : goal.returns-then-shapes-arguments
returns-then-shapes-arguments c =
    let s = c.args.self.now in
    performing.too_few (production_model c.args.production.now) c.args.at (items s.shapes) (items s.tokens) s.laid
    c.arguments-arguments.result.now c.items-shapes.result.now c.arguments-arguments.ensures c.items-shapes.ensures c.if-shapes-arguments.true

pub returns-then-not-fits : goal.returns-then-not-fits
returns-then-not-fits c =
    let s = c.args.self.now in
    performing.wrong_category (production_model c.args.production.now) c.args.at (items s.shapes) (items s.tokens) s.laid
    c.arguments-arguments.result.now c.items-shapes.result.now c.arguments-arguments.ensures c.items-shapes.ensures c.if-shapes-arguments.false c.if-not-fits.ensures

pub total-requires : goal.total-requires
total-requires c =
    let s = c.args.self.now in
    omega (
      arith,
      performing.taken_most (production_model c.args.production.now) c.args.at (items s.shapes) (items s.tokens) s.laid
          c.arguments-arguments.result.now c.items-shapes.result.now c.arguments-arguments.ensures c.items-shapes.ensures,
      performing.pile_most s.tokens,
    )

pub take_off-requires : goal.take_off-requires
take_off-requires c =
    let s = c.args.self.now in (
      lit< tt,
      omega (
        arith,
        performing.taken_most (production_model c.args.production.now) c.args.at (items s.shapes) (items s.tokens) s.laid
            c.arguments-arguments.result.now c.items-shapes.result.now c.arguments-arguments.ensures c.items-shapes.ensures,
        c.total.ensures,
      ),
    )

pub push_strings-requires : goal.push_strings-requires
push_strings-requires c =
    let s = c.args.self.now in
    let many = sym (length-map c.constituents.result.now entries) ∙ ap length c.constituents.ensures in
    record {
      dimension = record { least = omega (arith, many, c.requires.dimension.least); most = omega (arith, many, c.requires.dimension.most) };
      laid = omega (
        arith,
        performing.taken_most (production_model c.args.production.now) c.args.at (items s.shapes) (items s.tokens) s.laid
            c.arguments-arguments.result.now c.items-shapes.result.now c.arguments-arguments.ensures c.items-shapes.ensures,
        ap length c.items.ensures,
      );
      most = omega (arith, ap length c.items.ensures, performing.pile_most s.tokens);
    }

pub returns-in-Some : goal.returns-in-Some
returns-in-Some c =
    let s = c.args.self.now in
    let r = production_model c.args.production.now in
    record {
      enough = performing.enough_of r c.args.at (items s.shapes) (items s.tokens) s.laid
          c.arguments-arguments.result.now c.items-shapes.result.now c.arguments-arguments.ensures c.items-shapes.ensures c.if-shapes-arguments.false;
      fits = performing.fits_of r c.args.at (items s.shapes) (items s.tokens) s.laid
          c.arguments-arguments.result.now c.items-shapes.result.now c.arguments-arguments.ensures c.items-shapes.ensures c.if-not-fits.ensures;
      laid = performing.made_laid r c.args.at (items s.shapes) (items s.tokens) s.laid
          c.arguments-arguments.result.now c.items-shapes.result.now c.arguments-arguments.ensures c.items-shapes.ensures
          c.items.result.now (items c.take_off.new.self) (map entries c.constituents.result.now) c.total.result
          c.items.ensures c.constituents.ensures c.total.ensures c.take_off.ensures
          (items c.push_strings.new.tokens) c.in-Some.lengths c.in-Some.ensures;
      few = performing.pile_most c.push_strings.new.tokens;
    }

pub returns-in-None : goal.returns-in-None
returns-in-None c =
    let s = c.args.self.now in
    performing.too_long (production_model c.args.production.now) c.args.at (items s.shapes) (items s.tokens) s.laid
    c.arguments-arguments.result.now c.items-shapes.result.now c.arguments-arguments.ensures c.items-shapes.ensures
    c.items.result.now (items c.take_off.new.self) (map entries c.constituents.result.now) c.total.result
    c.items.ensures c.constituents.ensures c.total.ensures c.take_off.ensures
    (items c.push_strings.new.tokens) c.if-shapes-arguments.false c.if-not-fits.ensures c.in-None.ensures
