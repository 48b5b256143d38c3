-- One command of a whole load, and that a longer allowance changes nothing: what a loop over the commands cites.
use Rattle.std.proofs.Common.{◌≡◌, ℕ, zero, suc, ◌+◌, ◌-◌, ◌<◌, ◌≤◌, true, false, cond, eqb, List, [], ◌∷◌, length, Ok, Err, Result, refl, ap, ◌∙◌, subst, arith}
use Rattle.std.proofs.lemmas.Bool.{cond_both}
use Rattle.grammar.specs.Commands.{Command, Kind, Category, Start, Production, Constituent, Token, Part, End, Unread, Next, one, two, seven, production_of, token_of, next_of, size, is_end}
use Rattle.grammar.specs.Drafts.{Stage, Draft}
use Rattle.grammar.specs.Stops.{Stop}
use Rattle.grammar.specs.Loads.{Outcome, step, finish, after_step, unread, after_next, run, load_of}

-- a command that is read has as many bytes as its size
abbrev Took : List ℕ → Next → Type 0
Took p (Err e) = Unit {0}
Took p (Ok x) = length p ≡ size x.0 + length x.1

one_took : (f : ℕ → Command) → ((a : ℕ) → size (f a) ≡ 2) → (op : ℕ) (rest : List ℕ) → Took (op ∷ rest) (one f rest)
one_took f h op [] = tt
one_took f h op (a ∷ r) = omega (arith, h a)

two_took : (f : ℕ → ℕ → Command) → ((a b : ℕ) → size (f a b) ≡ 3) → (op : ℕ) (rest : List ℕ) → Took (op ∷ rest) (two f rest)
two_took f h op [] = tt
two_took f h op (a ∷ []) = tt
two_took f h op (a ∷ b ∷ r) = omega (arith, h a b)

seven_took : (op : ℕ) (rest : List ℕ) → Took (op ∷ rest) (seven production_of rest)
seven_took op [] = tt
seven_took op (a ∷ []) = tt
seven_took op (a ∷ b ∷ []) = tt
seven_took op (a ∷ b ∷ c ∷ []) = tt
seven_took op (a ∷ b ∷ c ∷ d ∷ []) = tt
seven_took op (a ∷ b ∷ c ∷ d ∷ e ∷ []) = tt
seven_took op (a ∷ b ∷ c ∷ d ∷ e ∷ x ∷ []) = tt
seven_took op (a ∷ b ∷ c ∷ d ∷ e ∷ x ∷ y ∷ r) = omega arith

next_took : (p : List ℕ) → Took p (next_of p)
next_took [] = tt
next_took (op ∷ rest) =
    cond_both (eqb op 1) _ _ S (λ _. one_took Kind (λ a. refl) op rest)
    (λ _. cond_both (eqb op 2) _ _ S (λ _. one_took Category (λ a. refl) op rest)
    (λ _. cond_both (eqb op 3) _ _ S (λ _. one_took Start (λ a. refl) op rest)
    (λ _. cond_both (eqb op 4) _ _ S (λ _. seven_took op rest)
    (λ _. cond_both (eqb op 5) _ _ S (λ _. omega arith)
    (λ _. cond_both (eqb op 6) _ _ S (λ _. two_took token_of (λ a b. refl) op rest)
    (λ _. cond_both (eqb op 7) _ _ S (λ _. two_took Part (λ a b. refl) op rest)
    (λ _. cond_both (eqb op 8) _ _ S (λ _. omega arith)
    (λ _. tt))))))))
  where
    S : Next → Type 0
    S x = Took (op ∷ rest) x

some_size : (c : Command) → 1 ≤ size c
some_size (Kind k) = omega arith
some_size (Category x) = omega arith
some_size (Start x) = omega arith
some_size (Production o) = omega arith
some_size Constituent = omega arith
some_size (Token t) = omega arith
some_size (Part k l) = omega arith
some_size End = omega arith

abbrev Shorter : ℕ → Next → Type 0
Shorter n (Err e) = Unit {0}
Shorter n (Ok x) = length x.1 < n

took_short : (p : List ℕ) (x : Next) → Took p x → Shorter (length p) x
took_short p (Err e) h = tt
took_short p (Ok x) h = omega (arith, some_size x.0, h)

next_short : (p : List ℕ) → Shorter (length p) (next_of p)
next_short p = took_short p (next_of p) (next_took p)

pub next_size : (p r : List ℕ) (c : Command) → next_of p ≡ Ok (c, r) → length p ≡ size c + length r
next_size p r c e = subst (Took p) e (next_took p)

pub next_less : (p r : List ℕ) (c : Command) → next_of p ≡ Ok (c, r) → length r < length p
next_less p r c e = subst (Shorter (length p)) e (next_short p)

abbrev Go : Type 0
Go = ℕ → Stage → Draft → List ℕ → Outcome

step_same : (f g : Go) (at : ℕ) (c : Command) (rest : List ℕ) (o : Result (Stage × Draft) Stop)
    → ((a : ℕ) (s : Stage) (d : Draft) → f a s d rest ≡ g a s d rest) → after_step f at c rest o ≡ after_step g at c rest o
step_same f g at c rest (Err e) h = refl
step_same f g at c rest (Ok x) h = ap (λ o. cond (is_end c) (finish (at + size c) x.1 rest) o) (h (at + size c) x.0 x.1)

next_same : (f g : Go) (at : ℕ) (s : Stage) (d : Draft) (x : Next) (n : ℕ) → Shorter n x
    → ((a : ℕ) (s : Stage) (d : Draft) (q : List ℕ) → length q < n → f a s d q ≡ g a s d q) → after_next f at s d x ≡ after_next g at s d x
next_same f g at s d (Err u) n k h = refl
next_same f g at s d (Ok x) n k h = step_same f g at x.0 x.1 (step at s d x.0) (λ a t e. h a t e x.1 k)

run_same : (n m at : ℕ) (s : Stage) (d : Draft) (p : List ℕ) → length p ≤ n → length p ≤ m → run n at s d p ≡ run m at s d p
run_same zero zero at s d p l k = refl
run_same zero (suc m) at s d [] l k = refl
run_same zero (suc m) at s d (b ∷ bs) l k = absurd (omega arith)
run_same (suc n) zero at s d [] l k = refl
run_same (suc n) zero at s d (b ∷ bs) l k = absurd (omega arith)
run_same (suc n) (suc m) at s d p l k =
    next_same (run n) (run m) at s d (next_of p) (length p) (next_short p) (λ a t e q h. run_same n m a t e q (omega arith) (omega arith))

-- a whole load is its first command and the load of the rest
pub run_on : (at : ℕ) (s : Stage) (d : Draft) (p : List ℕ) → run (length p) at s d p ≡ after_next (λ a t e q. run (length q) a t e q) at s d (next_of p)
run_on at s d [] = refl
run_on at s d (b ∷ bs) =
    next_same (run (length bs)) (λ a t e q. run (length q) a t e q) at s d (next_of (b ∷ bs)) (length (b ∷ bs)) (next_short (b ∷ bs))
    (λ a t e q h. run_same (length bs) (length q) a t e q (omega arith) (omega arith))

pub load_more : (at : ℕ) (s : Stage) (d : Draft) (p r : List ℕ) (c : Command) (x : Stage × Draft) → next_of p ≡ Ok (c, r) → step at s d c ≡ Ok x → is_end c ≡ false
    → run (length p) at s d p ≡ run (length r) (at + size c) x.0 x.1 r
load_more at s d p r c x e t n =
    run_on at s d p ∙ ap (after_next (λ a t e q. run (length q) a t e q) at s d) e ∙ ap (after_step (λ a t e q. run (length q) a t e q) at c r) t
    ∙ ap (λ b. cond b (finish (at + size c) x.1 r) (run (length r) (at + size c) x.0 x.1 r)) n

pub load_finish : (at : ℕ) (s : Stage) (d : Draft) (p r : List ℕ) (c : Command) (x : Stage × Draft) → next_of p ≡ Ok (c, r) → step at s d c ≡ Ok x → is_end c ≡ true
    → run (length p) at s d p ≡ finish (at + size c) x.1 r
load_finish at s d p r c x e t n =
    run_on at s d p ∙ ap (after_next (λ a t e q. run (length q) a t e q) at s d) e ∙ ap (after_step (λ a t e q. run (length q) a t e q) at c r) t
    ∙ ap (λ b. cond b (finish (at + size c) x.1 r) (run (length r) (at + size c) x.0 x.1 r)) n

pub load_stop : (at : ℕ) (s : Stage) (d : Draft) (p r : List ℕ) (c : Command) (o : Stop) → next_of p ≡ Ok (c, r) → step at s d c ≡ Err o
    → run (length p) at s d p ≡ Err o
load_stop at s d p r c o e t =
    run_on at s d p ∙ ap (after_next (λ a t e q. run (length q) a t e q) at s d) e ∙ ap (after_step (λ a t e q. run (length q) a t e q) at c r) t

pub load_unread : (at : ℕ) (s : Stage) (d : Draft) (p : List ℕ) (u : Unread) → next_of p ≡ Err u → run (length p) at s d p ≡ Err (unread at u)
load_unread at s d p u e = run_on at s d p ∙ ap (after_next (λ a t e q. run (length q) a t e q) at s d) e

-- what is left after a command that is not the last gives what the whole gives
module _ (pack rest more : List ℕ) (c : Command) (short : length rest ≤ length pack) (next : next_of rest ≡ Ok (c, more)) where
  pub shorter_left : length more ≤ length pack
  shorter_left = omega (arith, next_size rest more c next)

  pub run_left : (s : Stage) (d : Draft) (x : Stage × Draft) → load_of pack ≡ run (length rest) (length pack - length rest) s d rest
      → step (length pack - length rest) s d c ≡ Ok x → is_end c ≡ false
      → load_of pack ≡ run (length more) (length pack - length more) x.0 x.1 more
  run_left s d x whole met e =
      let at : length pack - length rest + size c ≡ length pack - length more = omega (arith, next_size rest more c next) in
      whole ∙ load_more (length pack - length rest) s d rest more c x next met e ∙ ap (λ n. run (length more) n x.0 x.1 more) at
