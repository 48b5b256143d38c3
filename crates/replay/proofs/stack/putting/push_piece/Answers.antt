use Rattle.std.proofs.Common.{◌≡◌, ℕ, ◌+◌, ◌-◌, leb, List, ◌++◌, [], length, get_or, take, drop, sym, ap, ap₂, ◌∙◌, arith}
use Rattle.grammar.specs.Trees.{piece}
use Rattle.replay.specs.Piles.{items}
use Rattle.replay.specs.Replays.{most_tokens, strings_on}
use Rattle.replay.specs.Shapes.{laid_out}
use Rattle.replay.proofs.stack.putting.push_piece.Goals as goal
use Rattle.replay.proofs.stack.putting.push_piece.Goals.{After-push_all-in-Part}

-- the string of an argument
module _ (c : After-push_all-in-Part) where
  k-is : c.saturating_sub-k.result ≡ c.in-Part.argument - 1
  k-is = c.saturating_sub-k.ensures ∙ ap (λ (n : ℕ). n - 1) c.from.ensures

  l-is : c.saturating_sub-l.result ≡ c.in-Part.constituent - 1
  l-is = c.saturating_sub-l.ensures ∙ ap (λ (n : ℕ). n - 1) c.from-in-Part.ensures

  string : take (c.place-start.result.0 + c.place-start.result.1 - c.place-start.result.0) (drop c.place-start.result.0 c.args.lent.now)
      ≡ piece (strings_on (laid_out c.args.shapes.now c.args.lent.now)) c.args.symbol
  string =
      let long : c.place-start.result.0 + c.place-start.result.1 - c.place-start.result.0 ≡ c.place-start.result.1 = omega arith in
      ap (λ (n : ℕ). take n (drop c.place-start.result.0 c.args.lent.now)) long
      ∙ c.place-start.ensures.value c.args.lent.now
      ∙ ap₂ (λ (k l : ℕ). get_or (get_or (strings_on (laid_out c.args.shapes.now c.args.lent.now)) k []) l []) k-is l-is
      ∙ ap (piece (strings_on (laid_out c.args.shapes.now c.args.lent.now))) (sym c.in-Part.is)

pub returns-in-Part : goal.returns-in-Part
returns-in-Part c = record {
  test = c.push_all-in-Part.ensures.test ∙ ap (λ (xs : List ℕ). leb (length xs + length (items c.args.tokens.now)) most_tokens) (string c);
  after = λ e. c.push_all-in-Part.ensures.after e ∙ ap (λ (xs : List ℕ). xs ++ items c.args.tokens.now) (string c);
}
