use Rattle.std.proofs.Common.{ℕ, ◌+◌, List, ◌∷◌, length, drop, ap, ◌∙◌, ap₂, arith, lit<}
use Rattle.grammar.specs.Held.{production_model}
use Rattle.replay.specs.Piles.{items}
use Rattle.replay.specs.Shapes.{Shape, total, size}
use Rattle.replay.proofs.Laid.{length_laid}
use Rattle.replay.proofs.Performing as performing
use Rattle.replay.proofs.stack.Stack.perform.Goals as goal

pub take_off-requires : goal.take_off-requires
take_off-requires c =
    let s = c.args.self.now in (
      lit< tt,
      omega (arith, c.in_ok-tokens.ensures.enough, ap length c.arguments.ensures, length_laid (items s.shapes) (items s.tokens)),
    )

pub push-requires : goal.push-requires
push-requires c =
    let s = c.args.self.now in
    let made = c.in_ok-tokens.ensures in
    let e = c.take_off.ensures ∙ ap (λ a. drop (length a) (items s.shapes)) c.arguments.ensures in (
      lit< tt,
      omega (
        arith,
        ap length e,
        performing.after_few (production_model c.args.production.now) c.args.at (items s.shapes) (items s.tokens) s.laid
            (items c.in_ok-tokens.tokens) c.in_ok-tokens.lengths made.laid (performing.pile_most c.in_ok-tokens.tokens) (c.requires.filled made.fits),
      ),
    )

pub invariant_of-self : goal.invariant_of-self
invariant_of-self c =
    let s = c.args.self.now in
    let e = c.take_off.ensures ∙ ap (λ a. drop (length a) (items s.shapes)) c.arguments.ensures in
    let made = c.in_ok-tokens.ensures in
    record {
      laid = ap total c.push.ensures
          ∙ ap (λ ss. size c.in_ok-tokens.lengths + total ss) e
          ∙ performing.after_whole (production_model c.args.production.now) c.args.at (items s.shapes) (items s.tokens) s.laid
          (items c.in_ok-tokens.tokens) c.in_ok-tokens.lengths made.laid;
    }

pub returns : goal.returns
returns c =
    let s = c.args.self.now in
    let e = c.take_off.ensures ∙ ap (λ a. drop (length a) (items s.shapes)) c.arguments.ensures in
    let made = c.in_ok-tokens.ensures in
    performing.performed (production_model c.args.production.now) c.args.at (items s.shapes) (items s.tokens) s.laid
    (items c.in_ok-tokens.tokens) c.in_ok-tokens.lengths made.laid (items c.push.new.self) (performing.pile_most c.in_ok-tokens.tokens)
    made.enough made.fits
    (c.push.ensures ∙ ap₂ (λ (k : ℕ) (ss : List Shape). record { category = k; lengths = c.in_ok-tokens.lengths } ∷ ss) c.category.ensures e)
