use Rattle.std.proofs.Common.{◌≡◌, ℕ, List, ◌++◌, string_bytes, codes, rules, ap, ◌∙◌, ap₂, append_assoc}
use Rattle.std.proofs.lemmas.Result.{on_ok_weaker}
use Rattle.grammar.specs.Entries.{entries}
use Rattle.grammar.specs.Held.{production_model}
use Rattle.console.specs.Texts.{listed, argument_text, constituent_text, head_text}
use Rattle.console.proofs.Listing.{listed_map, appended}
use Rattle.console.proofs.text.push_production.Goals as goal

regroup : (a b c d e : List ℕ) → (((a ++ b) ++ c) ++ d) ++ e ≡ a ++ (b ++ (c ++ (d ++ e)))
regroup a b c d e = simp append_assoc

pub returns : goal.returns
returns c =
    let out = string_bytes c.args.out.now in
    let p = production_model c.args.production.now in
    let head = head_text c.args.i p.category p.weight in
    let arguments = listed argument_text 0 p.arguments in
    let constituents = listed constituent_text 0 p.constituents in
    let e1 = c.in_ok-write.ensures.bytes ∙ ap (λ t. out ++ t) (ap₂ (head_text c.args.i) c.category-category.ensures c.weight-weight.ensures) in
    let e2 = appended out _ _ head arguments e1
    (c.in_ok-push_each.ensures argument_text (λ out i x r after post. search rules)
    ∙ ap (λ xs. string_bytes c.write.new.self ++ listed argument_text 0 xs) c.arguments.ensures) in
    let e3 = appended out _ _ (head ++ arguments) (codes "]") e2 c.in_ok-push_str.ensures.bytes in
    let e4 = appended out _ _ ((head ++ arguments) ++ codes "]") constituents e3
    (c.in_ok-push_each-2.ensures (λ i x. constituent_text i (entries x)) (λ out i x r after post. search rules)
    ∙ ap (λ t. string_bytes c.push_str.new.self ++ t)
    (listed_map constituent_text entries 0 c.constituents.result.now ∙ ap (listed constituent_text 0) c.constituents.ensures)) in
    on_ok_weaker c.writeln.result
    (λ e. appended out _ _ (((head ++ arguments) ++ codes "]") ++ constituents) (codes "\n") e4 e
    ∙ ap (λ t. out ++ t) (regroup head arguments (codes "]") constituents (codes "\n")))
    c.writeln.ensures.bytes
