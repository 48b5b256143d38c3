use Rattle.std.proofs.Common.{◌++◌, string_bytes, rules, ap, ◌∙◌, append_assoc}
use Rattle.grammar.specs.Held.{production_model}
use Rattle.console.specs.Texts.{category_text, production_text}
use Rattle.console.proofs.Listing.{listed_map}
use Rattle.console.proofs.text.grammar_lines.Goals as goal

pub returns : goal.returns
returns c =
    let categories = c.in_ok-push_each.ensures category_text (λ out i x r after post. search rules) in
    let productions = c.in_ok-push_each-2.ensures (λ i p. production_text i (production_model p)) (λ out i x r after post. search rules) in
    productions ∙ ap (λ t. string_bytes c.writeln.new.self ++ t) (listed_map production_text production_model 0 c.productions.result.now)
    ∙ search (rules, append_assoc, categories)
