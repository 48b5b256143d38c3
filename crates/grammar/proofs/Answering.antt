-- What the answer of a load means, once it is the one that is defined.
use Rattle.std.proofs.Common.{◌≡◌, ℕ, List, Ok, Err, Result, sym, ap, ◌∙◌, arith, MatchResult}
use Rattle.grammar.specs.declared.held.Grammar.{Grammar}
use Rattle.grammar.specs.Grammars.{GrammarModel}
use Rattle.grammar.specs.Formed.{WellFormed}
use Rattle.grammar.specs.Encoding.{encode}
use Rattle.grammar.specs.Commands.{Bytes}
use Rattle.grammar.specs.Stops.{PackStop, Stop, told}
use Rattle.grammar.specs.Loads.{Outcome, load_of}
use Rattle.grammar.specs.Model.{model}
use Rattle.grammar.specs.Theorems.{Loaded, Packing}
use Rattle.grammar.proofs.Accepting.{packs_load}
use Rattle.grammar.proofs.Loading.{loads_are_packs}
use Rattle.grammar.proofs.Ranges.{packs_are_bytes}
use Rattle.grammar.proofs.Stopping.{stops_are_met}
use Rattle.grammar.proofs.Meeting.{stopped_is}

not_both : (p : List ℕ) (m : GrammarModel) (o : Stop) → load_of p ≡ Ok m → load_of p ≡ Err o → ⊥
not_both p m o e f = let z : ◌≡◌ {A = ℕ} 0 1 = cc in omega arith

same_grammar : (p : List ℕ) (m n : GrammarModel) → load_of p ≡ Ok m → load_of p ≡ Ok n → m ≡ n
same_grammar p m n e f = cc

same_stop : (p : List ℕ) (o q : Stop) → load_of p ≡ Err o → load_of p ≡ Err q → o ≡ q
same_stop p o q e f = cc

packed_loads : (p : List ℕ) (m : GrammarModel) → WellFormed m × (encode m ≡ p) → load_of p ≡ Ok m
packed_loads p m h = ap load_of (sym h.1) ∙ packs_load m h.0

pub loaded : (p : List ℕ) → Bytes p → (r : Result Grammar PackStop) → MatchResult r (λ g. load_of p ≡ Ok (model g)) (λ e. load_of p ≡ Err (told e)) → Loaded p r
loaded p b (Ok g) e = record {
  taken = λ m. (λ h. loads_are_packs p m b (e ∙ ap {B = Outcome} (λ x. Ok x) h), λ h. same_grammar p (model g) m e (packed_loads p m h));
  stopped = λ o. (λ h. absurd h, λ h. not_both p (model g) o e (stopped_is p o h));
  otherwise = λ n. let h = loads_are_packs p (model g) b e in absurd (n (model g) h.0 h.1);
}
loaded p b (Err x) e = record {
  taken = λ m. (λ h. absurd h, λ h. not_both p m (told x) (packed_loads p m h) e);
  stopped = λ o. (λ h. stops_are_met p o b (e ∙ ap {B = Outcome} (λ s. Err s) h), λ h. same_stop p (told x) o e (stopped_is p o h));
  otherwise = λ n. (told x, stops_are_met p (told x) b e, λ q h. same_stop p q (told x) (stopped_is p q h) e);
}

pub packing : Packing
packing = record {
  has_pack = λ m w. (packs_are_bytes m w, packs_load m w);
  one_pack = λ p q m bp bq e f. sym (loads_are_packs p m bp e).1 ∙ (loads_are_packs q m bq f).1;
}
