use Rattle.std.proofs.Common.{◌++◌, length, drop, sym, ap, arith, lit<, length-append, length-drop}
use mathlib.Core.Bool.{false≢true}
use Rattle.std.proofs.lemmas.List.{drop_all}
use Rattle.std.proofs.lemmas.Bool.{le-leb, lt-leb}
use Rattle.replay.specs.Piles.{items}
use Rattle.replay.proofs.Laid.{more_before, all_before}
use Rattle.replay.proofs.stack.putting.push_all.Goals as goal

pub returns-then-room-xs : goal.returns-then-room-xs
returns-then-room-xs c = record { test = sym (lt-leb _ _ (omega (arith, c.room.ensures, c.if-room-xs.true))); after = λ e. absurd (false≢true e) }

pub loop-i-init : goal.loop-i-init
loop-i-init c = ap (λ xs. xs ++ items c.args.tokens.now) (sym (drop_all (length c.args.xs.now) c.args.xs.now (omega arith)))

pub push-requires : goal.push-requires
push-requires c = (
  lit< tt,
  omega (
    arith,
    ap length c.loop-i.invariant,
    length-append (drop c.loop-i.i c.args.xs.now) (items c.args.tokens.now),
    length-drop c.loop-i.i c.args.xs.now,
    c.room.ensures,
  ),
)

pub loop-i-preserved : goal.loop-i-preserved
loop-i-preserved c =
    more_before c.args.xs.now (items c.args.tokens.now) (items c.loop-i.tokens) (items c.push.new.self) 0 c.loop-i.i
    c.loop-i-test.true c.loop-i.auto.i c.push.ensures c.loop-i.invariant

pub returns : goal.returns
returns c = record {
  test = sym (le-leb _ _ (omega (arith, c.room.ensures)));
  after = λ _. all_before c.args.xs.now (items c.args.tokens.now) (items c.loop-i.tokens) c.loop-i.i c.loop-i-test.false c.loop-i.invariant;
}
