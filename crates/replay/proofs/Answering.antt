-- The law of a replay, from its definition.
use Rattle.std.proofs.Common.{◌≡◌, ℕ, ◌+◌, ◌%◌, ◌<◌, ◌≤◌, eqb, ltb, leb, List, [], ◌∷◌, length, get_or, take, drop, Ok, Err, Result, sym, refl, ap, ◌∙◌, subst, inl, inr, append-nil, Fits, w8, arith}
use Rattle.std.proofs.lemmas.List.{take_at, length-map}
use Rattle.std.proofs.lemmas.Bool.{eqb-true, eqb-false, eq-eqb, ne_eqb, leb-true, leb-false, le-leb, lt-leb}
use Rattle.grammar.specs.declared.held.Grammar.{Grammar}
use Rattle.grammar.specs.Model.{model}
use Rattle.grammar.proofs.Formed.{formed_is}
use Rattle.grammar.proofs.Typed.{typed_bytes}
use Rattle.grammar.specs.Grammars.{GrammarModel, production}
use Rattle.grammar.specs.Formed.{WellFormed}
use Rattle.grammar.specs.Commands.{Bytes, wide}
use Rattle.grammar.specs.Trees.{Forest, empty, more, TreeIn, TreesIn, yield, yields, tokens_in, tokens_in_all, commands, all_commands, command_byte, command_bytes}
use Rattle.grammar.proofs.Yields.{yield_many}
use Rattle.replay.specs.Stops.{ReplayStop, Stop, stop_at, told}
use Rattle.replay.specs.Replays.{Yield, Yields, most_tokens, need, and_then, fit, put, categories_on, tokens_on, perform, command, run, phrase_of, finish, replay_of}
use Rattle.replay.specs.Laws.{Says, Lists, Written, Gives, Replayed}
use Rattle.replay.proofs.Tested.{need_met, need_not, need_ok, need_err, then_ok, then_err, ok_same, err_same, err_no_ok}
use Rattle.replay.proofs.Sound.{Stands, Ran, run_ran}
use Rattle.replay.proofs.Complete.{stacked, stacked_length, tree_runs, forest_runs}

-- the stop 19 comes from nothing that runs a command
abbrev Early : Stop → Type 0
Early o = o.number ≤ 16

stop_early : (number figure : ℕ) (o : Stop) → number ≤ 16 → stop_at number figure ≡ o → Early o
stop_early number figure o h e = subst Early e h

perform_early : (g : GrammarModel) (p at : ℕ) (stack : Yields) (o : Stop) → perform (production g p) at stack ≡ Err o → Early o
perform_early g p at stack o e =
    let r = production g p in
    elim (need_err (leb (length r.arguments) (length stack)) 14 at _ o e) [
      | inl h ↦ stop_early 14 at o (omega arith) h.1
      | inr h ↦ elim (need_err (fit r.arguments (categories_on stack)) 15 at _ o h.1) [
        | inl k ↦ stop_early 15 at o (omega arith) k.1
        | inr k ↦ elim (need_err (leb (tokens_on (put r stack)) most_tokens) 16 at _ o k.1) [
          | inl m ↦ stop_early 16 at o (omega arith) m.1
          | inr m ↦ absurd (err_no_ok _ o _ m.1 refl)
        ]
      ]
    ]

run_early : (g : GrammarModel) (at : ℕ) (bytes : List ℕ) (o : Stop) → run g at bytes ≡ Err o → Early o
run_early g at [] o e = absurd (err_no_ok _ o _ e refl)
run_early g at (a ∷ []) o e = absurd (err_no_ok _ o _ e refl)
run_early g at (a ∷ b ∷ []) o e = absurd (err_no_ok _ o _ e refl)
run_early g at (a ∷ b ∷ c ∷ rest) o e =
    elim (then_err (run g (at + 3) rest) (command g at a b c) o e) [
      | inl h ↦ run_early g (at + 3) rest o h
      | inr h ↦ elim (need_err (eqb a command_byte) 12 at _ o h.2) [
        | inl k ↦ stop_early 12 at o (omega arith) k.1
        | inr k ↦ elim (need_err (ltb (wide b c) (length g.productions)) 13 at _ o k.1) [
          | inl m ↦ stop_early 13 at o (omega arith) m.1
          | inr m ↦ perform_early g (wide b c) at h.0 o m.1
        ]
      ]
    ]

whole : (ps : List ℕ) → length (command_bytes ps) % 3 ≡ 0
whole [] = refl
whole (p ∷ ps) = omega (arith, whole ps)

only : (y : List (List ℕ)) → length y ≡ 1 → y ≡ get_or y 0 [] ∷ []
only [] h = absurd (omega arith)
only (s ∷ []) h = refl
only (s ∷ t ∷ y) h = absurd (omega arith)

-- what was run is the commands of the trees whose yields are on the stack
ran_lists : (g : GrammarModel) (list : List ℕ) (stack : Yields) → Ran g list stack → Lists g list (categories_on stack)
ran_lists g list stack ran = record {
  trees = ran.forest;
  in_order = in_order ran.forest stack ran.stands;
  listed = ran.listed;
  short = omega (arith, tokens ran.forest stack ran.stands, ran.few);
}
  where
    in_order : (ts : Forest) (s : Yields) → Stands g ts s → TreesIn g (categories_on s) ts
    in_order empty [] h = tt
    in_order empty (y ∷ ys) h = absurd h
    in_order (more t ts) [] h = absurd h
    in_order (more t ts) (y ∷ ys) h = (h.0, in_order ts ys h.2)

    tokens : (ts : Forest) (s : Yields) → Stands g ts s → tokens_in_all (yields g ts) ≡ tokens_on s
    tokens empty [] h = refl
    tokens empty (y ∷ ys) h = absurd h
    tokens (more t ts) [] h = absurd h
    tokens (more t ts) (y ∷ ys) h = omega (arith, ap tokens_in h.1, tokens ts ys h.2)

module _ (g : GrammarModel) (well : WellFormed g) (list : List ℕ) (room : ℕ) where
  -- one yield of the start category is said
  one_says : (y : Yield) → Ran g list (y ∷ []) → y.category ≡ g.start → Says g list (phrase_of y)
  one_says y ran e = go ran.forest ran.stands ran.listed
    where
      go : (ts : Forest) → Stands g ts (y ∷ []) → command_bytes (all_commands ts) ≡ list → Says g list (phrase_of y)
      go empty s l = absurd s
      go (more t empty) s l =
          let in_start : TreeIn g g.start t = subst (λ (c : ℕ). TreeIn g c t) e s.0 in
          let one : length (yield g t) ≡ 1 = yield_many g well g.start t in_start ∙ well.start_single in
          let is : yield g t ≡ phrase_of y ∷ [] = only (yield g t) one ∙ ap (λ (z : List (List ℕ)). get_or z 0 [] ∷ []) (sym s.1) in
          record {
            tree = t;
            of_start = in_start;
            listed = ap command_bytes (sym (append-nil (commands t))) ∙ l;
            yields = is;
            short = omega (arith, ran.few, ap tokens_in (s.1 ∙ is));
          }
      go (more t (more u us)) s l = absurd s.2

  said_runs : (phrase : List ℕ) (says : Says g list phrase) → run g 0 list ≡ Ok (record { category = g.start; strings = yield g says.tree } ∷ [])
  said_runs phrase says =
      ap (run g 0) (sym (append-nil (command_bytes (commands says.tree)) ∙ says.listed))
      ∙ tree_runs g well g.start says.tree says.of_start [] [] (λ at. refl) (omega (arith, ap tokens_in says.yields, says.short)) 0

  said_replays : (phrase : List ℕ) → Says g list phrase
      → replay_of g list room ≡ need (leb (length phrase) room) 19 (length phrase) (Ok phrase)
  said_replays phrase says =
      need_met (eqb (length list % 3) 0) 11 (length list) _ (eq-eqb _ 0 (ap (λ (w : List ℕ). length w % 3) (sym says.listed) ∙ whole (commands says.tree)))
      ∙ ap (λ (r : Result Yields Stop). and_then r (finish g room)) (said_runs phrase says)
      ∙ need_met (eqb g.start g.start) 18 g.start _ (eq-eqb g.start g.start refl)
      ∙ ap (λ (y : List (List ℕ)). need (leb (length (get_or y 0 [])) room) 19 (length (get_or y 0 [])) (Ok (get_or y 0 []))) says.yields

  pub says_replays : (phrase : List ℕ) → Says g list phrase → length phrase ≤ room → replay_of g list room ≡ Ok phrase
  says_replays phrase says h = said_replays phrase says ∙ need_met (leb (length phrase) room) 19 (length phrase) _ (le-leb _ _ h)

  pub says_no_room : (phrase : List ℕ) → Says g list phrase → room < length phrase → replay_of g list room ≡ Err (stop_at 19 (length phrase))
  says_no_room phrase says h = said_replays phrase says ∙ need_not (leb (length phrase) room) 19 (length phrase) _ (lt-leb _ _ h)

  lists_run : (cs : List ℕ) (lists : Lists g list cs) → replay_of g list room ≡ finish g room (stacked g cs lists.trees)
  lists_run cs lists =
      need_met (eqb (length list % 3) 0) 11 (length list) _ (eq-eqb _ 0 (ap (λ (w : List ℕ). length w % 3) (sym lists.listed) ∙ whole (all_commands lists.trees)))
      ∙ ap (λ (r : Result Yields Stop). and_then r (finish g room))
      (ap (run g 0) (sym (append-nil (command_bytes (all_commands lists.trees)) ∙ lists.listed))
      ∙ forest_runs g well cs lists.trees lists.in_order [] [] (λ at. refl) (omega (arith, lists.short)) 0
      ∙ ap {B = Result Yields Stop} (λ (s : Yields). Ok s) (append-nil (stacked g cs lists.trees)))

  lists_not_start : (c : ℕ) → Lists g list (c ∷ []) → (c ≡ g.start → ⊥) → replay_of g list room ≡ Err (stop_at 18 c)
  lists_not_start c lists h = lists_run (c ∷ []) lists ∙ go lists.trees lists.in_order
    where
      go : (ts : Forest) → TreesIn g (c ∷ []) ts → finish g room (stacked g (c ∷ []) ts) ≡ Err (stop_at 18 c)
      go empty w = absurd w
      go (more t empty) w = need_not (eqb c g.start) 18 c _ (ne_eqb c g.start h)
      go (more t (more u us)) w = absurd w.1

  lists_not_one : (cs : List ℕ) → Lists g list cs → (length cs ≡ 1 → ⊥) → replay_of g list room ≡ Err (stop_at 17 (length cs))
  lists_not_one cs lists h =
      let many = stacked_length g cs lists.trees lists.in_order in
      lists_run cs lists ∙ go (stacked g cs lists.trees) (λ q. h (sym many ∙ q)) ∙ ap {B = Result (List ℕ) Stop} (λ (n : ℕ). Err (stop_at 17 n)) many
    where
      go : (stack : Yields) → (length stack ≡ 1 → ⊥) → finish g room stack ≡ Err (stop_at 17 (length stack))
      go [] k = refl
      go (y ∷ []) k = absurd (k refl)
      go (y ∷ z ∷ ys) k = refl

  module _ (bytes : Bytes list) where
    -- the list was run, and one yield of the start category is left
    replays_says : (phrase : List ℕ) → replay_of g list room ≡ Ok phrase → Says g list phrase × (length phrase ≤ room)
    replays_says phrase e =
        let h = need_ok (eqb (length list % 3) 0) 11 (length list) _ phrase e in
        let k = then_ok (run g 0 list) (finish g room) phrase h.1 in
        go k.0 (run_ran g 0 list k.0 bytes (eqb-true _ 0 h.0) k.1) k.2
      where
        go : (stack : Yields) → Ran g list stack → finish g room stack ≡ Ok phrase → Says g list phrase × (length phrase ≤ room)
        go [] ran f = absurd (err_no_ok _ (stop_at 17 0) phrase refl f)
        go (y ∷ []) ran f =
            let h18 = need_ok (eqb y.category g.start) 18 y.category _ phrase f in
            let h19 = need_ok (leb (length (phrase_of y)) room) 19 (length (phrase_of y)) _ phrase h18.1 in
            let same : phrase_of y ≡ phrase = ok_same _ (phrase_of y) phrase refl h19.1 in (
              subst (Says g list) same (one_says y ran (eqb-true _ _ h18.0)),
              omega (arith, leb-true _ _ h19.0, ap length same),
            )
        go (y ∷ z ∷ ys) ran f = absurd (err_no_ok _ (stop_at 17 (length (y ∷ z ∷ ys))) phrase refl f)

    late : (number figure other n : ℕ) → number < other → stop_at number figure ≡ stop_at other n → ⊥
    late number figure other n h e = omega (arith, ap (λ (o : Stop). o.number) e)

    -- a stop past the last command is one of what is left on the stack
    finished : (other n : ℕ) → 16 < other → replay_of g list room ≡ Err (stop_at other n) → (stack : Yields) × Ran g list stack × (finish g room stack ≡ Err (stop_at other n))
    finished other n past e =
        elim (need_err (eqb (length list % 3) 0) 11 (length list) _ (stop_at other n) e) [
          | inl h ↦ absurd (late 11 (length list) other n (omega arith) h.1)
          | inr h ↦ elim (then_err (run g 0 list) (finish g room) (stop_at other n) h.1) [
            | inl k ↦ absurd (early (run_early g 0 list (stop_at other n) k))
            | inr k ↦ (k.0, run_ran g 0 list k.0 bytes (eqb-true _ 0 h.0) k.1, k.2)
          ]
        ]
      where
        early : other ≤ 16 → ⊥
        early h = omega arith

    no_room_says : (n : ℕ) → replay_of g list room ≡ Err (stop_at 19 n) → (phrase : List ℕ) × Says g list phrase × (length phrase ≡ n) × (room < n)
    no_room_says n e = let f = finished 19 n (omega arith) e in go f.0 f.1 f.2
      where
        go : (stack : Yields) → Ran g list stack → finish g room stack ≡ Err (stop_at 19 n) → (phrase : List ℕ) × Says g list phrase × (length phrase ≡ n) × (room < n)
        go [] ran f = absurd (late 17 0 19 n (omega arith) (err_same _ _ _ refl f))
        go (y ∷ []) ran f =
            elim (need_err (eqb y.category g.start) 18 y.category _ (stop_at 19 n) f) [
              | inl h ↦ absurd (late 18 y.category 19 n (omega arith) h.1)
              | inr h ↦ elim (need_err (leb (length (phrase_of y)) room) 19 (length (phrase_of y)) _ (stop_at 19 n) h.1) [
                | inl k ↦
                    let same : length (phrase_of y) ≡ n = ap (λ (o : Stop). o.figure) k.1 in
                    (phrase_of y, one_says y ran (eqb-true _ _ h.0), same, omega (arith, leb-false _ _ k.0))
                | inr k ↦ absurd (err_no_ok _ (stop_at 19 n) (phrase_of y) k.1 refl)
              ]
            ]
        go (y ∷ z ∷ ys) ran f = absurd (late 17 (length (y ∷ z ∷ ys)) 19 n (omega arith) (err_same _ _ _ refl f))

    not_start_lists : (c : ℕ) → replay_of g list room ≡ Err (stop_at 18 c) → Lists g list (c ∷ []) × (c ≡ g.start → ⊥)
    not_start_lists c e = let f = finished 18 c (omega arith) e in go f.0 f.1 f.2
      where
        go : (stack : Yields) → Ran g list stack → finish g room stack ≡ Err (stop_at 18 c) → Lists g list (c ∷ []) × (c ≡ g.start → ⊥)
        go [] ran f = absurd (late 17 0 18 c (omega arith) (err_same _ _ _ refl f))
        go (y ∷ []) ran f =
            elim (need_err (eqb y.category g.start) 18 y.category _ (stop_at 18 c) f) [
              | inl h ↦
                  let same : y.category ≡ c = ap (λ (o : Stop). o.figure) h.1 in (
                    subst (λ (d : ℕ). Lists g list (d ∷ [])) same (ran_lists g list (y ∷ []) ran),
                    λ q. eqb-false y.category g.start h.0 (same ∙ q),
                  )
              | inr h ↦ elim (need_err (leb (length (phrase_of y)) room) 19 (length (phrase_of y)) _ (stop_at 18 c) h.1) [
                | inl k ↦ absurd (late 18 c 19 (length (phrase_of y)) (omega arith) (sym k.1))
                | inr k ↦ absurd (err_no_ok _ (stop_at 18 c) (phrase_of y) k.1 refl)
              ]
            ]
        go (y ∷ z ∷ ys) ran f = absurd (late 17 (length (y ∷ z ∷ ys)) 18 c (omega arith) (err_same _ _ _ refl f))

    not_one_lists : (n : ℕ) → replay_of g list room ≡ Err (stop_at 17 n) → (cs : List ℕ) × Lists g list cs × (length cs ≡ n) × (n ≡ 1 → ⊥)
    not_one_lists n e =
        let f = finished 17 n (omega arith) e in
        let h = go f.0 f.2 in
        (categories_on f.0, ran_lists g list f.0 f.1, h.0, h.1)
      where
        counted : (stack : Yields) → length stack ≡ n → length (categories_on stack) ≡ n
        counted stack h = length-map stack (λ y. y.category) ∙ h

        go : (stack : Yields) → finish g room stack ≡ Err (stop_at 17 n) → (length (categories_on stack) ≡ n) × (n ≡ 1 → ⊥)
        go [] f = let same : 0 ≡ n = ap (λ (o : Stop). o.figure) (err_same _ (stop_at 17 0) (stop_at 17 n) refl f) in (counted [] same, λ q. omega arith)
        go (y ∷ []) f =
            elim (need_err (eqb y.category g.start) 18 y.category _ (stop_at 17 n) f) [
              | inl h ↦ absurd (late 17 n 18 y.category (omega arith) (sym h.1))
              | inr h ↦ elim (need_err (leb (length (phrase_of y)) room) 19 (length (phrase_of y)) _ (stop_at 17 n) h.1) [
                | inl k ↦ absurd (late 17 n 19 (length (phrase_of y)) (omega arith) (sym k.1))
                | inr k ↦ absurd (err_no_ok _ (stop_at 17 n) (phrase_of y) k.1 refl)
              ]
            ]
        go (y ∷ z ∷ ys) f =
            let same : length (y ∷ z ∷ ys) ≡ n = ap (λ (o : Stop). o.figure) (err_same _ (stop_at 17 (length (y ∷ z ∷ ys))) (stop_at 17 n) refl f) in
            (counted (y ∷ z ∷ ys) same, λ q. omega arith)

-- at most one phrase stands at the front of what was written
one_phrase : (phrase other : List ℕ) (n : ℕ) (before after : List ℕ) → Written phrase n before after → Written other n before after → phrase ≡ other
one_phrase phrase other n before after w v =
    sym (take_at phrase (drop n before) n (sym w.many)) ∙ ap (take n) (sym w.output ∙ v.output) ∙ take_at other (drop n before) n (sym v.many)

pub replayed : (g : GrammarModel) → WellFormed g → (list before after : List ℕ) → Bytes list → (r : Result ℕ ReplayStop)
    → Gives (replay_of g list (length before)) r before after → Replayed g list before after r
replayed g well list before after bytes (Ok n) gives = record {
  answers = λ phrase. (
    λ w. replays_says g well list (length before) bytes phrase (subst (λ (p : List ℕ). replay_of g list (length before) ≡ Ok p) (one_phrase gives.0 phrase n before after gives.2 w) gives.1),
    λ s. subst (λ (p : List ℕ). Written p n before after) (ok_same _ gives.0 phrase gives.1 (says_replays g well list (length before) phrase s.0 s.1)) gives.2,
  );
  not_one = λ m. (
    λ s. absurd s,
    λ s. err_no_ok _ (stop_at 17 (length s.0)) gives.0 (lists_not_one g well list (length before) s.0 s.1 (λ q. s.3 (sym s.2 ∙ q))) gives.1,
  );
  not_start = λ m. (
    λ s. absurd s,
    λ s. err_no_ok _ (stop_at 18 m) gives.0 (lists_not_start g well list (length before) m s.0 s.1) gives.1,
  );
  no_room = λ m. (
    λ s. absurd s,
    λ s. err_no_ok _ (stop_at 19 (length s.0)) gives.0 (says_no_room g well list (length before) s.0 s.1 (omega (arith, s.2, s.3))) gives.1,
  );
}
replayed g well list before after bytes (Err e) gives = record {
  answers = λ phrase. (λ w. absurd w, λ s. err_no_ok _ (told e) phrase gives.0 (says_replays g well list (length before) phrase s.0 s.1));
  not_one = λ m. (
    λ s. not_one_lists g well list (length before) bytes m (gives.0 ∙ ap {B = Result (List ℕ) Stop} (λ (o : Stop). Err o) s),
    λ s. err_same _ (told e) (stop_at 17 m) gives.0
        (lists_not_one g well list (length before) s.0 s.1 (λ q. s.3 (sym s.2 ∙ q)) ∙ ap {B = Result (List ℕ) Stop} (λ (k : ℕ). Err (stop_at 17 k)) s.2),
  );
  not_start = λ m. (
    λ s. not_start_lists g well list (length before) bytes m (gives.0 ∙ ap {B = Result (List ℕ) Stop} (λ (o : Stop). Err o) s),
    λ s. err_same _ (told e) (stop_at 18 m) gives.0 (lists_not_start g well list (length before) m s.0 s.1),
  );
  no_room = λ m. (
    λ s. no_room_says g well list (length before) bytes m (gives.0 ∙ ap {B = Result (List ℕ) Stop} (λ (o : Stop). Err o) s),
    λ s. err_same _ (told e) (stop_at 19 m) gives.0
        (says_no_room g well list (length before) s.0 s.1 (omega (arith, s.2, s.3)) ∙ ap {B = Result (List ℕ) Stop} (λ (k : ℕ). Err (stop_at 19 k)) s.2),
  );
}

-- the law over a held grammar
pub law_of : (g : Grammar) (list before after : List ℕ) → ((i : ℕ) → Fits w8 (get_or list i 0)) → (r : Result ℕ ReplayStop) → Gives (replay_of (model g) list (length before)) r before after
    → Replayed (model g) list before after r
law_of g list before after bytes r v = replayed (model g) (formed_is (model g) g.well_formed) list before after (typed_bytes list bytes) r v
