use Rattle.std.proofs.Common.{rules}
use Rattle.replay.proofs.Answering.{law_of}
use Rattle.replay.proofs.replaying.replay.Goals as goal

pub returns-then-output-tokens-clause-law : goal.returns-then-output-tokens-clause-law
returns-then-output-tokens-clause-law c = law_of c.args.grammar.now c.args.commands.now c.args.output.now c.args.output.now c.type_inv.commands _ (search rules)

pub returns-clause-law : goal.returns-clause-law
returns-clause-law c = law_of c.args.grammar.now c.args.commands.now c.args.output.now _ c.type_inv.commands _ (search rules)
