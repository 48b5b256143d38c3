-- Tests that are met, and tests that are not.
use Rattle.std.proofs.Common.{◌≡◌, ℕ, ◌<◌, ◌≤◌, Bool, true, false, ◌⊎◌, length, Ok, Err, Result, sym, refl, ap, ◌∙◌, inl, inr, arith}
use mathlib.Core.Bool.{false≢true}
use Rattle.std.proofs.lemmas.Bool.{le-leb, lt-leb}
use Rattle.grammar.specs.Grammars.{ProductionModel}
use Rattle.replay.specs.Stops.{Stop, stop_at}
use Rattle.replay.specs.Replays.{Yields, most_tokens, need, and_then, fit, put, categories_on, tokens_on, perform}

pub need_met : {X : Type 0} (b : Bool) (number figure : ℕ) (go : Result X Stop) → b ≡ true → need b number figure go ≡ go
need_met true number figure go e = refl
need_met false number figure go e = absurd (false≢true e)

pub need_not : {X : Type 0} (b : Bool) (number figure : ℕ) (go : Result X Stop) → b ≡ false → need b number figure go ≡ Err (stop_at number figure)
need_not true number figure go e = absurd (false≢true (sym e))
need_not false number figure go e = refl

pub err_no_ok : {X E : Type 0} (r : Result X E) (e : E) (x : X) → r ≡ Err e → r ≡ Ok x → ⊥
err_no_ok r e x h k = let z : ◌≡◌ {A = ℕ} 0 1 = cc in omega arith

pub ok_same : {X E : Type 0} (r : Result X E) (x y : X) → r ≡ Ok x → r ≡ Ok y → x ≡ y
ok_same r x y h k = cc

pub err_same : {X E : Type 0} (r : Result X E) (x y : E) → r ≡ Err x → r ≡ Err y → x ≡ y
err_same r x y h k = cc

-- what went on was met
pub need_ok : {X : Type 0} (b : Bool) (number figure : ℕ) (go : Result X Stop) (x : X) → need b number figure go ≡ Ok x → (b ≡ true) × (go ≡ Ok x)
need_ok true number figure go x e = (refl, e)
need_ok false number figure go x e = absurd (err_no_ok _ (stop_at number figure) x refl e)

pub then_ok : {X Y : Type 0} (r : Result X Stop) (f : X → Result Y Stop) (y : Y) → and_then r f ≡ Ok y → (x : X) × (r ≡ Ok x) × (f x ≡ Ok y)
then_ok (Ok x) f y e = (x, refl, e)
then_ok (Err o) f y e = absurd (err_no_ok _ o y refl e)

-- a stop is that of a test, or comes later
pub need_err : {X : Type 0} (b : Bool) (number figure : ℕ) (go : Result X Stop) (o : Stop) → need b number figure go ≡ Err o
    → ((b ≡ false) × (stop_at number figure ≡ o)) ⊎ ((b ≡ true) × (go ≡ Err o))
need_err true number figure go o e = inr (refl, e)
need_err false number figure go o e = inl (refl, err_same _ (stop_at number figure) o refl e)

pub then_err : {X Y : Type 0} (r : Result X Stop) (f : X → Result Y Stop) (o : Stop) → and_then r f ≡ Err o → (r ≡ Err o) ⊎ ((x : X) × (r ≡ Ok x) × (f x ≡ Err o))
then_err (Ok x) f o e = inr (x, refl, e)
then_err {X} (Err q) f o e = inl (ap {B = Result X Stop} (λ (s : Stop). Err s) (err_same _ q o refl e))

module _ (r : ProductionModel) (at : ℕ) (stack : Yields) where
  pub perform_few : length stack < length r.arguments → perform r at stack ≡ Err (stop_at 14 at)
  perform_few h = need_not _ 14 at _ (lt-leb _ _ h)

  module _ (enough : length r.arguments ≤ length stack) where
    pub perform_other : fit r.arguments (categories_on stack) ≡ false → perform r at stack ≡ Err (stop_at 15 at)
    perform_other h = need_met _ 14 at _ (le-leb _ _ enough) ∙ need_not _ 15 at _ h

    module _ (fits : fit r.arguments (categories_on stack) ≡ true) where
      pub perform_long : most_tokens < tokens_on (put r stack) → perform r at stack ≡ Err (stop_at 16 at)
      perform_long h = need_met _ 14 at _ (le-leb _ _ enough) ∙ need_met _ 15 at _ fits ∙ need_not _ 16 at _ (lt-leb _ _ h)

      pub perform_put : tokens_on (put r stack) ≤ most_tokens → perform r at stack ≡ Ok (put r stack)
      perform_put h = need_met _ 14 at _ (le-leb _ _ enough) ∙ need_met _ 15 at _ fits ∙ need_met _ 16 at _ (le-leb _ _ h)
