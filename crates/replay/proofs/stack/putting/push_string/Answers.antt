use Rattle.std.proofs.Common.{◌≡◌, ℕ, ◌+◌, List, ◌++◌, length, refl, ap, ◌∙◌, arith, length-append}
use Rattle.grammar.specs.Trees.{spell}
use Rattle.replay.specs.Piles.{items}
use Rattle.replay.specs.Replays.{strings_on}
use Rattle.replay.specs.Shapes.{laid_out}
use Rattle.replay.proofs.Spelling.{spell_none, spell_on, spell_over, spell_all}
use Rattle.replay.proofs.stack.putting.push_string.Goals as goal

pub loop-i-init : goal.loop-i-init
loop-i-init c = spell_none (strings_on (laid_out c.args.shapes.now c.args.lent.now)) c.args.symbols.now (items c.args.tokens.now)

pub returns-then-not-push_piece : goal.returns-then-not-push_piece
returns-then-not-push_piece c =
    spell_over (strings_on (laid_out c.args.shapes.now c.args.lent.now)) c.args.symbols.now (items c.args.tokens.now) (items c.loop-i.tokens) c.loop-i.i
    c.loop-i-test.true c.loop-i.auto.i c.loop-i.invariant c.if-not-push_piece.ensures.test

pub loop-i-preserved : goal.loop-i-preserved
loop-i-preserved c =
    spell_on (strings_on (laid_out c.args.shapes.now c.args.lent.now)) c.args.symbols.now (items c.args.tokens.now) (items c.loop-i.tokens) c.loop-i.i
    c.loop-i-test.true c.loop-i.auto.i c.loop-i.invariant (items c.push_piece.new.tokens) (c.if-not-push_piece.ensures.after refl)

abbrev spelled : goal.After-room → List ℕ
spelled c = spell (strings_on (laid_out c.args.shapes.now c.args.lent.now)) c.args.symbols.now

all : (c : goal.After-room) → items c.loop-i.tokens ≡ spelled c ++ items c.args.tokens.now
all c =
    spell_all (strings_on (laid_out c.args.shapes.now c.args.lent.now)) c.args.symbols.now (items c.args.tokens.now) (items c.loop-i.tokens) c.loop-i.i
    c.loop-i-test.false c.loop-i.invariant

longer : (a b d : List ℕ) → a ≡ b ++ d → length a ≡ length b + length d
longer a b d e = ap length e ∙ length-append b d

pub overflow_sub-result : goal.overflow_sub-result
overflow_sub-result c = omega (arith, c.room-room.ensures, c.room.ensures, longer (items c.loop-i.tokens) (spelled c) (items c.args.tokens.now) (all c))

pub returns : goal.returns
returns c = (omega (arith, c.room-room.ensures, c.room.ensures, longer (items c.loop-i.tokens) (spelled c) (items c.args.tokens.now) (all c)), all c)
