use Rattle.std.proofs.Common.{◌≡◌, length, get_or, refl, arith}
use Rattle.std.proofs.lemmas.List.{get_or_default}
use Rattle.grammar.specs.Entries.{entries}
use Rattle.replay.specs.Piles.{items}
use Rattle.replay.specs.Replays.{strings_on}
use Rattle.replay.specs.Shapes.{laid_out}
use Rattle.replay.proofs.Spelling.{put_one, over_one, put_two, over_second, over_first}
use Rattle.replay.proofs.stack.putting.push_strings.Goals as goal

pub returns-in_err-length : goal.returns-in_err-length
returns-in_err-length c =
    rw c.from_residual.ensures
    (over_one (strings_on (laid_out c.args.shapes.now c.args.lent.now)) c.args.constituents.now (items c.args.tokens.now)
    c.index-constituents-0.result c.items.result.now c.if-constituents-eq1.true c.index-constituents-0.is c.items.ensures
    (items c.push_string.new.tokens) (items c.push_string.new.tokens) c.in_err-length.ensures)

pub returns-then-constituents-eq1 : goal.returns-then-constituents-eq1
returns-then-constituents-eq1 c =
    put_one (strings_on (laid_out c.args.shapes.now c.args.lent.now)) c.args.constituents.now (items c.args.tokens.now)
    c.index-constituents-0.result c.items.result.now c.if-constituents-eq1.true c.index-constituents-0.is c.items.ensures
    (items c.push_string.new.tokens) c.in_ok-length.length c.in_ok-length.ensures

pub returns-in_err-behind : goal.returns-in_err-behind
returns-in_err-behind c =
    let cs = c.args.constituents.now in
    let two : length cs ≡ 2 = omega (arith, c.requires.dimension.least, c.requires.dimension.most) in
    let first = get_or cs 0 c.index-constituents-1.result in
    rw c.from_residual-in_err-behind.ensures
    (over_second (strings_on (laid_out c.args.shapes.now c.args.lent.now)) cs (items c.args.tokens.now) first c.index-constituents-1.result
    (entries first) c.items-2.result.now two (get_or_default cs 0 c.index-constituents-1.result first (omega arith)) c.index-constituents-1.is refl c.items-2.ensures
    (items c.push_string-2.new.tokens) (items c.push_string-2.new.tokens) c.in_err-behind.ensures)

pub returns-in_err-before : goal.returns-in_err-before
returns-in_err-before c =
    let cs = c.args.constituents.now in
    let two : length cs ≡ 2 = omega (arith, c.requires.dimension.least, c.requires.dimension.most) in
    rw c.from_residual-in_err-before.ensures
    (over_first (strings_on (laid_out c.args.shapes.now c.args.lent.now)) cs (items c.args.tokens.now) c.index-constituents-0-2.result c.index-constituents-1.result
    c.items-3.result.now c.items-2.result.now two c.index-constituents-0-2.is c.index-constituents-1.is c.items-3.ensures c.items-2.ensures
    (items c.push_string-2.new.tokens) (items c.push_string-3.new.tokens) (items c.push_string-3.new.tokens) c.in_ok-behind.behind
    c.in_ok-behind.ensures c.in_err-before.ensures)

pub returns : goal.returns
returns c =
    let cs = c.args.constituents.now in
    let two : length cs ≡ 2 = omega (arith, c.requires.dimension.least, c.requires.dimension.most) in
    put_two (strings_on (laid_out c.args.shapes.now c.args.lent.now)) cs (items c.args.tokens.now) c.index-constituents-0-2.result c.index-constituents-1.result
    c.items-3.result.now c.items-2.result.now two c.index-constituents-0-2.is c.index-constituents-1.is c.items-3.ensures c.items-2.ensures
    (items c.push_string-2.new.tokens) (items c.push_string-3.new.tokens) c.in_ok-before.before c.in_ok-behind.behind
    c.in_ok-behind.ensures c.in_ok-before.ensures
